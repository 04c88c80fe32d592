use Rattle.std.proofs.Common.{get_or, sym, ap, ◌∙◌, arith, slice_get}
use Rattle.bounded.specs.Held.{held}
use Rattle.grammar.specs.Walk.{told}
use Rattle.scope.specs.Sees.{sees}
use Rattle.values.proofs.Placed.{behind_few, onto}
use Rattle.values.proofs.solver.Solver.value_all.Goals as goal

pub loop-p-preserved : goal.loop-p-preserved
loop-p-preserved c =
    let all = c.args.unit.now.tokens.now in
    let o = sees c.args.unit.now in
    let ks = held c.loop-p.known in
    let says = ap (λ r. told r (held c.value_next.new.known)) (sym c.in_ok-value_next.was) ∙ c.value_next.ensures in (
      onto all o (held c.args.self.now.constants) ks c.args.places.now c.loop-p.p-index _ c.loop-p.invariant.0 c.loop-p-test.true _ says,
      omega (arith, behind_few all o ks (held c.value_next.new.known) (slice_get (held c.args.self.now.constants) (get_or c.args.places.now c.loop-p.p-index 0)) says, c.loop-p.invariant.1),
    )
