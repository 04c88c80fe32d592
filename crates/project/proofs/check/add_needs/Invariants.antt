use Rattle.std.proofs.Common.{◌≡◌, ◌++◌, take}
use Rattle.bounded.specs.Held.{held}
use Rattle.project.specs.Checked.{needs_for}
use Rattle.project.proofs.check.add_needs.Given as goal

abbrev pub invariant-loop-n : goal.invariant-loop-n
invariant-loop-n l = held l.needs ≡ held l.initial.needs ++ needs_for l.item (take l.n-index l.imports)
