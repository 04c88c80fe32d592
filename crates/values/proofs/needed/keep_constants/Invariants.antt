use Rattle.std.proofs.Common.{◌≡◌, ◌≤◌, ◌++◌, length, drop}
use Rattle.bounded.specs.Held.{held}
use Rattle.values.specs.Needed.{constants}
use Rattle.values.proofs.needed.keep_constants.Given as goal

abbrev pub invariant-loop-d : goal.invariant-loop-d
invariant-loop-d l = (held l.out ++ constants (drop l.d-index l.declarations) ≡ constants l.declarations) × (length (held l.out) ≤ l.d-index)
