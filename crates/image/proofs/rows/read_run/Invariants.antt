use Rattle.std.proofs.Common.{◌≡◌, ◌-◌, length}
use Rattle.bounded.specs.Held.{held}
use Rattle.codec.specs.Format.{left}
use Rattle.image.specs.Dealt.{run}
use Rattle.image.proofs.Runs.{onto_run}
use Rattle.image.proofs.rows.read_run.Given as goal

abbrev pub invariant-loop-taken : goal.invariant-loop-taken
invariant-loop-taken g l =
    onto_run (held l.into) (run g.T.Field.format.get l.unit (g.row.N - length (held l.into)) (l.rows - l.taken) (left l.input)) ≡ run g.T.Field.format.get l.unit g.row.N l.rows (left l.initial.input)
