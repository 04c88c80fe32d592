use Rattle.std.proofs.Common.{◌≡◌, ◌*◌, ◌≤◌, map, length, take}
use Rattle.bounded.specs.Held.{held}
use Rattle.image.specs.Dealt.{flat}
use Rattle.image.proofs.column.Column.total.Given as goal

abbrev pub invariant-loop-list : goal.invariant-loop-list
invariant-loop-list g l = (l.sum ≡ length (flat (map held (take l.list-index l.list-items)))) × (l.sum ≤ l.list-index * 384)
