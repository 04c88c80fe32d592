-- How a build agrees with fresh translation.
use Rattle.std.specs.Prelude.{◌≡◌, ℕ, true, List, length, take}
use Rattle.std.specs.List.{AllZip}
use Rattle.product.specs.Parts.{Parts}
use Rattle.project.specs.Members.{Member}
use Rattle.ledger.specs.Meaning.{Meaning}
use Rattle.ledger.specs.Fresh.{Made, failed, translated, fresh_units}
use Rattle.ledger.specs.Shelf.{Ended, accepted, faulty, unstored, Built}

-- products with the same interface and equal code, entries and references
abbrev pub LikeParts : Meaning → Parts → Parts → Type 0
LikeParts m p q = (m.same p.interface q.interface ≡ true) × ((p.code ≡ q.code) × ((p.entries ≡ q.entries) × (p.references ≡ q.references)))

-- of the same unit
abbrev pub Like : Meaning → Made → Made → Type 0
Like m d e = (d.unit ≡ e.unit) × LikeParts m d.parts e.parts

-- accepted where fresh translation gives every unit a like product; ended by a fault where fresh translation fails, at the same unit with the same fault; ended by the store at a unit up to which fresh translation does not fail
abbrev pub AgreesBy : Meaning → List Member → List Made → List Made → ℕ → Ended → Type 0
AgreesBy m us fresh-done done reached accepted = (es : List Made) × (fresh_units m us fresh-done ≡ translated es) × AllZip (Like m) done es
AgreesBy m us fresh-done done reached (faulty n f) = fresh_units m us fresh-done ≡ failed n f
AgreesBy m us fresh-done done reached (unstored n k) = (es : List Made) × (fresh_units m (take reached us) fresh-done ≡ translated es)

-- a build of these units agrees with their fresh translation
abbrev pub Agrees : {S : Type 0} → Meaning → List Member → List Made → Built S → Type 0
Agrees m us fresh-done b = AgreesBy m us fresh-done b.done (length b.marks) b.ended
