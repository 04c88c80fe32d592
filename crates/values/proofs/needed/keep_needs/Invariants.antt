use Rattle.std.proofs.Common.{◌≡◌, ◌*◌, ◌≤◌, ◌++◌, length, drop}
use Rattle.bounded.specs.Held.{held}
use Rattle.values.specs.Needed.{needs}
use Rattle.values.proofs.needed.keep_needs.Given as goal

abbrev pub invariant-loop-i : goal.invariant-loop-i
invariant-loop-i l = (held l.out ++ needs l.tokens (held l.constants) l.i (drop l.i (held l.constants)) ≡ needs l.tokens (held l.constants) 0 (held l.constants)) × (length (held l.out) ≤ 12 * l.i)
