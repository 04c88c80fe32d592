use Rattle.std.proofs.Common.{◌≡◌, ◌≤◌, ◌++◌, length, drop}
use Rattle.bounded.specs.Held.{held}
use Rattle.values.specs.Needed.{lines}
use Rattle.values.proofs.needed.keep_lines.Given as goal

abbrev pub invariant-loop-d : goal.invariant-loop-d
invariant-loop-d l = (held l.out ++ lines (drop l.d-index (held l.constants)) ≡ lines (held l.constants)) × (length (held l.out) ≤ l.d-index)
