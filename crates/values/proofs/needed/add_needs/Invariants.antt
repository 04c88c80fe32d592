use Rattle.std.proofs.Common.{◌≡◌, ◌+◌, ◌≤◌, ◌++◌, length, drop}
use Rattle.bounded.specs.Held.{held}
use Rattle.values.specs.Needed.{needs_of}
use Rattle.values.proofs.needed.add_needs.Given as goal

abbrev pub invariant-loop-d : goal.invariant-loop-d
invariant-loop-d l =
    (held l.out ++ needs_of l.item l.tokens (drop l.d-index l.constants) ≡ held l.initial.out ++ needs_of l.item l.tokens l.constants)
    × (length (held l.out) ≤ length (held l.initial.out) + l.d-index)
