use Rattle.std.proofs.Common.{◌≡◌, ℕ, ◌≤◌, not, ◌&&◌, ltb, length}
use Rattle.bounded.specs.Held.{held}
use Rattle.order.specs.Dependency.{placed}
use Rattle.project.specs.Members.{members}
use Rattle.project.specs.Checked.{lacks}
use Rattle.project.proofs.check.list_whole.Given as goal

abbrev pub invariant-loop-i : goal.invariant-loop-i
invariant-loop-i l =
    (length (held l.whole) ≤ l.i)
    × ((k : ℕ) → placed (held l.whole) k ≡ (ltb k l.i && not (lacks (members l.project) (members l.project) k)))
