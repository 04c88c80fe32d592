use Rattle.std.proofs.Common.{◌+◌, Ok, Err, sym, ap, ◌∙◌, subst, arith}
use Rattle.std.proofs.lemmas.Result.{err_from_is_err_and}
use Rattle.bounded.specs.Held.{held}
use Rattle.image.specs.Picture.{units}
use Rattle.project.specs.Members.{member, members}
use Rattle.ledger.specs.Fresh.{in_order}
use Rattle.building.specs.Finish.{done_list}
use Rattle.linker.specs.declared.assembler.Assembler.{Assembler}
use Rattle.linker.specs.Assembled.{linked_as}
use Rattle.linker.proofs.Assembling.{SoFar, never_none, turned, ends}
use Rattle.linker.proofs.assembler.Assembler.assemble.Goals as goal
use Rattle.linker.proofs.assembler.Assembler.assemble.Goals.{in-Some+in_ok-add_unit, in_default}

pub returns-in_err-add_unit : goal.returns-in_err-add_unit
returns-in_err-add_unit c = λ a b few.
    let p = err_from_is_err_and c.from_residual.result c.from_residual.ensures.1 in
    ap (λ r. linked_as r (units c.add_unit.new.image)) (p.1 ∙ ap Err p.2)
    ∙ turned (members c.args.project.now) c.args.places.now (done_list c.args.done.now) c.loop-i.i (units c.loop-i.image) (held c.loop-i.self.names) a b few (c.loop-i.invariant.1 a b few) (c.loop-i.invariant.0 few) c.loop-i-test.true
    (units c.add_unit.new.image) (Err c.in_err-add_unit.field-0.0) (member c.in-Some.unit.now) (sym c.in-Some.ensures) c.in_err-add_unit.ensures.added

pub loop-i-preserved : goal.loop-i-preserved
loop-i-preserved c =
    let vs = members c.args.project.now in
    let ps = c.args.places.now in
    let ds = done_list c.args.done.now in
    let i = c.loop-i.i in
    let inv = c.loop-i.invariant in
    elim c.match-unit.branch [
      | in-Some+in_ok-add_unit w ↦ (
        (λ few. ap (λ (a : Assembler). held a.names) w.self-is ∙ w.in_ok-add_unit.ensures.names ∙ inv.0 few),
        (λ a b few.
            subst (SoFar (in_order vs ps) ds (i + 1)) (sym (ap units w.image-is))
            (turned vs ps ds i (units c.loop-i.image) (held c.loop-i.self.names) a b few (inv.1 a b few) (inv.0 few) c.loop-i-test.true
            (units w.add_unit.new.image) (Ok w.in_ok-add_unit.field-0) (member w.in-Some.unit.now) (sym w.in-Some.ensures) w.in_ok-add_unit.ensures.added)),
      )
      | in_default w ↦ (
        (λ few. ap (λ (a : Assembler). held a.names) w.self-is ∙ inv.0 few),
        (λ a b few. absurd (never_none vs ps ds i (units c.loop-i.image) (held c.loop-i.self.names) a b few (inv.1 a b few) (inv.0 few) c.loop-i-test.true (sym w.in_default.ensures))),
      )
    ]

pub returns : goal.returns
returns c = λ a b few.
    ends (in_order (members c.args.project.now) c.args.places.now) (done_list c.args.done.now) c.loop-i.i (units c.loop-i.image) (let h = c.loop-i-test.false in omega arith) (let h = c.loop-i-test.false in omega arith) (c.loop-i.invariant.1 a b few)
