-- What putting units together answers and leaves.
use Rattle.std.specs.Prelude.{◌≡◌, ℕ, List, map, Some, None, Ok, Err, Result}
use Rattle.names.specs.declared.name.Name.{Name}
use Rattle.image.specs.declared.target.Target.{Target}
use Rattle.image.specs.Picture.{Units, with_unit}
use Rattle.project.specs.Members.{Member}
use Rattle.ledger.specs.Fresh.{Made}
use Rattle.ledger.specs.Linking.{Plain, plain, Linking, broken, whole, lacking}
use Rattle.linker.specs.declared.assembler.Missing.{Missing}
use Rattle.linker.specs.Place.{resolved_by}

-- what was answered, with the units put together
abbrev pub linked_as : {T : Type 0} → Result T Missing → Units → Linking
linked_as (Ok x) u = whole u
linked_as (Err e) u = broken e.unit e.reference

-- the entries of all units
abbrev pub entries_of : List Made → List (List ℕ)
entries_of ds = map (λ (p : Plain). p.entries) (map plain ds)

-- the targets of the unit at place i
abbrev pub targets_of : List Name → ℕ → Member → Made → List Target
targets_of names i u d = map (resolved_by names i u.imports) d.parts.references

-- one unit more, where all its entries are there; or the first that is missing
abbrev pub Added : {T : Type 0} → List (List ℕ) → List Target → Member → Made → Units → Units → Result T Missing → Type 0
Added ess ts u d before after (Ok x) = (lacking ess ts ≡ None) × (after ≡ with_unit before u.name d.parts.code d.parts.entries ts)
Added ess ts u d before after (Err e) = (lacking ess ts ≡ Some e.reference) × (e.unit ≡ u.name)
