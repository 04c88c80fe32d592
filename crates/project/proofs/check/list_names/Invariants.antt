use Rattle.std.proofs.Common.{◌≡◌, map, take}
use Rattle.bounded.specs.Held.{held}
use Rattle.project.specs.Members.{member}
use Rattle.project.specs.Checked.{names}
use Rattle.project.proofs.check.list_names.Given as goal

abbrev pub invariant-loop-unit : goal.invariant-loop-unit
invariant-loop-unit l = held l.names ≡ names (map member (take l.unit-index l.unit-items))
