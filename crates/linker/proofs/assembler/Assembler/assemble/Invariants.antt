use Rattle.std.proofs.Common.{◌≡◌, ◌<◌, length}
use Rattle.bounded.specs.Held.{held}
use Rattle.image.specs.Picture.{units}
use Rattle.project.specs.Members.{members}
use Rattle.project.specs.Checked.{names}
use Rattle.ledger.specs.Fresh.{in_order}
use Rattle.building.specs.Finish.{done_list}
use Rattle.linker.proofs.Assembling.{SoFar}
use Rattle.linker.proofs.assembler.Assembler.assemble.Given as goal

abbrev pub invariant-loop-i : goal.invariant-loop-i
invariant-loop-i l =
    (length l.places < 25 → held l.self.names ≡ names (in_order (members l.project) l.places))
    × (length (in_order (members l.project) l.places) ≡ length l.places → length (done_list l.done) ≡ length l.places → length l.places < 25 → SoFar (in_order (members l.project) l.places) (done_list l.done) l.i (units l.image))
