use Rattle.std.proofs.Common.{◌≡◌}
use Rattle.artifact.specs.Art.{art}
use Rattle.project.specs.Members.{member}
use Rattle.ledger.specs.Fresh.{interface_of}
use Rattle.building.specs.Finish.{done_list}
use Rattle.building.proofs.Prepared.{prepared}
use Rattle.building.proofs.desk.Desk.prepare.Given as goal

abbrev pub invariant-loop-name : goal.invariant-loop-name
invariant-loop-name l = art l.fresh ≡ prepared (member l.unit).source (interface_of (done_list l.done)) (member l.unit).imports l.name-index
