-- Fresh translation: the units in link order, each with the fresh interfaces of its imports, until the first fault.
use Rattle.std.specs.Prelude.{ℕ, cond, List, [], ◌∷◌, ◌++◌, map}
use Rattle.std.specs.List.{slice_get}
use Rattle.std.specs.Option.{option_to_list}
use Rattle.names.specs.declared.name.Name.{Name}
use Rattle.names.specs.declared.refusal.Fault.{Fault}
use Rattle.product.specs.declared.row.Row.{Row}
use Rattle.product.specs.Parts.{Parts, made, faulted}
use Rattle.project.specs.Members.{Member, same}
use Rattle.project.specs.Checked.{Verdict, missing, circle, linked, nothing, checked}
use Rattle.ledger.specs.Meaning.{Meaning}

-- a unit that has a product
pub record Made : Type 0 where
  pub unit : Name
  pub parts : Parts

-- the interface of the unit of a name
abbrev pub interface_of : List Made → Name → List Row
interface_of [] n = []
interface_of (d ∷ ds) n = cond (same d.unit n) d.parts.interface (interface_of ds n)

-- the interfaces of a unit's imports
abbrev pub interfaces : List Made → Member → List (List Row)
interfaces done u = map (interface_of done) u.imports

-- a unit more that has a product
abbrev pub and_unit : List Made → Member → Parts → List Made
and_unit done u p = done ++ record { unit = u.name; parts = p } ∷ []

-- the units at these places
abbrev pub in_order : List Member → List ℕ → List Member
in_order vs [] = []
in_order vs (p ∷ ps) = option_to_list (slice_get vs p) ++ in_order vs ps

-- what comes of it: no link order, a fault at a unit, or a product for each unit
pub data Fresh : Type 0 where
  unlinked : Verdict → Fresh
  failed : Name → Fault → Fresh
  translated : List Made → Fresh

-- these units behind those that have a product
abbrev pub fresh_units : Meaning → List Member → List Made → Fresh
fresh_units m [] done = translated done
fresh_units m (u ∷ us) done = elim (m.means u.source (interfaces done u)) [ made p ↦ fresh_units m us (and_unit done u p) | faulted f ↦ failed u.name f ]

-- by the verdict of the check
abbrev pub fresh_by : Meaning → List Member → Verdict → Fresh
fresh_by m vs (missing n k) = unlinked (missing n k)
fresh_by m vs (circle n) = unlinked (circle n)
fresh_by m vs (linked places) = fresh_units m (in_order vs places) []
fresh_by m vs nothing = unlinked nothing

-- a project translated afresh
abbrev pub fresh : Meaning → List Member → Fresh
fresh m vs = fresh_by m vs (checked vs)
