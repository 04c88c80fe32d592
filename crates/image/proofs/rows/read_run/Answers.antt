use Rattle.std.proofs.Common.{◌≡◌, ◌+◌, ◌-◌, ◌<◌, length, sym, ap, ◌∙◌, arith}
use Rattle.std.proofs.lemmas.Bool.{ltb-true}
use Rattle.bounded.specs.Held.{held}
use Rattle.codec.specs.Format.{left}
use Rattle.image.specs.Dealt.{run}
use Rattle.image.proofs.Runs.{onto_run, run_goes, run_stops}
use Rattle.image.proofs.rows.read_run.Goals as goal

pub loop-taken-preserved : goal.loop-taken-preserved
loop-taken-preserved g c =
    let get = g.T.Field.format.get in
    let taken = c.loop-taken.taken in
    let some : 0 < c.args.rows - taken = omega (arith, c.loop-taken-test.true) in
    let one_less : c.args.rows - (taken + 1) ≡ c.args.rows - taken - 1 = omega arith in
    let now = held c.push.new.self in
    ap (λ n. onto_run now (run get c.args.unit (g.row.N - length now) n (left c.read.new.input))) one_less
    ∙ run_goes get c.args.unit g.row.N (c.args.rows - taken) (left c.loop-taken.input) (left c.skip.new.self) (held c.loop-taken.into) _ some (sym c.in-Ok.ensures.found) c.in-Ok.ensures.after c.loop-taken.invariant
    c.in_ok-x.x (left c.read.new.input) now c.in_ok-push.ensures.after (ltb-true (length (held c.loop-taken.into)) g.row.N (sym c.in_ok-push.ensures.fits)) c.in_ok-x.ensures

pub returns-in_default : goal.returns-in_default
returns-in_default g c =
    run_stops g.T.Field.format.get c.args.unit g.row.N (c.args.rows - c.loop-taken.taken) (left c.loop-taken.input) (left c.skip.new.self) (held c.loop-taken.into) _ (sym c.in_default.ensures.found) c.in_default.ensures.after c.loop-taken.invariant
