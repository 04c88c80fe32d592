-- A build on its way through the units in link order.
use Rattle.std.specs.Prelude.{ℕ, List, ◌++◌, map, Ok, Err, Result}
use Rattle.names.specs.declared.name.Name.{Name}
use Rattle.names.specs.Refusals.{number}
use Rattle.ledger.specs.Fresh.{Made}
use Rattle.ledger.specs.Shelf.{Ended, accepted, faulty, unstored, Built}
use Rattle.building.specs.declared.workshop.Halt.{Halt}
use Rattle.building.specs.declared.mark.Mark.{Mark}
use Rattle.building.specs.declared.stop.Stop.{Stop}
use Rattle.building.specs.declared.stop.Stop.TheVariants.{Faulty, Unstored}
use Rattle.building.specs.Step.{mark_number}

abbrev pub stopped_at : Name → Stop → Ended
stopped_at n (Faulty f) = faulty n f
stopped_at n (Unstored e) = unstored n (number e)

-- how a build ended
abbrev pub ended_of : {T : Type 0} → Result T Halt → Ended
ended_of (Ok x) = accepted
ended_of (Err h) = stopped_at h.unit h.stop

abbrev pub numbers : List Mark → List ℕ
numbers marks = map mark_number marks

-- these marks before the others
abbrev pub ahead : {S : Type 0} → List ℕ → Built S → Built S
ahead ks b = record { ended = b.ended; marks = ks ++ b.marks; done = b.done; state = b.state }

-- what is marked, done and stored so far before what becomes of the others; or the end
abbrev pub gone : {S T : Type 0} → Result T Halt → List ℕ → List Made → S → Built S → Built S
gone (Ok x) ks ds s rest = ahead ks rest
gone (Err h) ks ds s rest = record { ended = stopped_at h.unit h.stop; marks = ks; done = ds; state = s }
