use Rattle.std.proofs.Common.{◌≡◌, ◌<◌, ◌≤◌, length, take}
use Rattle.bounded.specs.Held.{held}
use Rattle.project.specs.Members.{members}
use Rattle.project.specs.Checked.{names}
use Rattle.ledger.specs.Fresh.{in_order}
use Rattle.linker.proofs.assembler.Assembler.list_names.Given as goal

abbrev pub invariant-loop-p : goal.invariant-loop-p
invariant-loop-p l = (length l.places < 25 → held l.self.names ≡ names (in_order (members l.project) (take l.p-index l.places))) × (length (held l.self.names) ≤ l.p-index)
