use Rattle.std.proofs.Common.{◌≡◌, ◌*◌, ◌≤◌, map, length, take}
use Rattle.bounded.specs.Held.{held}
use Rattle.project.specs.Members.{member}
use Rattle.project.specs.Checked.{needs}
use Rattle.project.proofs.check.list_needs.Given as goal

abbrev pub invariant-loop-i : goal.invariant-loop-i
invariant-loop-i l = (held l.needs ≡ needs 0 (map member (take l.i l.unit-items))) × (length (held l.needs) ≤ 4 * l.i)
