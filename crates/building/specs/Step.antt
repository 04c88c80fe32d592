-- What becomes of one unit.
use Rattle.std.specs.Prelude.{◌≡◌, ℕ, Bool, cond, List, ◌∷◌, Some, None, Ok, Err, Option, Result}
use Rattle.product.specs.declared.row.Row.{Row}
use Rattle.product.specs.Parts.{Parts, Outcome, made, faulted}
use Rattle.artifact.specs.Art.{Art}
use Rattle.ledger.specs.Stored.{View, stored}
use Rattle.building.specs.declared.stop.Stop.{Stop}
use Rattle.building.specs.declared.stop.Stop.TheVariants.{Faulty, Unstored}
use Rattle.names.specs.declared.name.Name.{Name}
use Rattle.names.specs.Refusals.{number}
use Rattle.project.specs.Members.{Member}
use Rattle.ledger.specs.Meaning.{Meaning}
use Rattle.ledger.specs.Fresh.{Made, interfaces}
use Rattle.ledger.specs.Shelf.{Shelf, current, faulty, unstored, Built, marked, stopped, build_units}
use Rattle.building.specs.declared.mark.Mark.{Mark}
use Rattle.building.specs.declared.mark.Mark.TheVariants.{Kept, Translated, Failed, NotReached}
use Rattle.building.specs.Finish.{same_art}

-- the number of a mark
abbrev pub mark_number : Mark → ℕ
mark_number Kept = 0
mark_number Translated = 1
mark_number Failed = 2
mark_number NotReached = 3

-- the mark of a unit that a build came to
abbrev pub mark_of : Result Mark Stop → ℕ
mark_of (Ok k) = mark_number k
mark_of (Err e) = 2

-- a build that came to this at a unit: its mark before what becomes of the others; or the end
abbrev pub onward : {S : Type 0} → Name → Result Mark Stop → List Made → S → Built S → Built S
onward n (Ok k) ds s rest = marked (mark_number k) rest
onward n (Err (Faulty f)) ds s rest = stopped (faulty n f) ds s
onward n (Err (Unstored e)) ds s rest = stopped (unstored n (number e)) ds s

-- the artifact kept, where it is current to what the unit would be stored as
abbrev pub current_to : (List Row → List Row → Bool) → Art → Option Art → Option Art
current_to same fresh None = None
current_to same fresh (Some a) = cond (same_art same a fresh) (Some a) None

-- an artifact with this product
abbrev pub with_product : Art → Parts → Art
with_product a p = record { source = a.source; imports = a.imports; product = p }

-- translated and put; or the fault that the function gives; or the refusal of the store
abbrev pub MadeSays : (List ℕ → List (List Row) → Outcome) → ℕ → ℕ → List ℕ → Art → Art → View → View → Result (Unit {0}) Stop → Type 0
MadeSays means limit rows q before after v w (Ok u) =
    (p : Parts) × (means before.source before.imports ≡ made p) × (after ≡ with_product before p) × ((stored limit rows).room v q (with_product before p) ≡ 0) × (w ≡ (stored limit rows).kept v q (with_product before p))
MadeSays means limit rows q before after v w (Err (Faulty f)) = (means before.source before.imports ≡ faulted f) × (w ≡ v)
MadeSays means limit rows q before after v w (Err (Unstored e)) =
    (p : Parts) × (means before.source before.imports ≡ made p) × ((stored limit rows).room v q (with_product before p) ≡ number e) × (w ≡ v)

-- a build of the unit and of any others behind it comes to this, and goes on from what is then done and stored
abbrev pub UnitBuilt : Meaning → Shelf View → Member → List Made → List Made → View → View → Result Mark Stop → Type 0
UnitBuilt m sh u ds es v w r = (us : List Member) → build_units m sh (u ∷ us) ds v ≡ onward u.name r es w (build_units m sh us es w)

-- the artifact kept for the unit, where it is current
abbrev pub current_in : Meaning → Shelf View → Member → List Made → View → Option Art
current_in m sh u ds v = current m u (interfaces ds u) (sh.seen v u.name.bytes)
