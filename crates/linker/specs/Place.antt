-- The units in link order by their names.
use Rattle.std.specs.Prelude.{ℕ, zero, suc, List, Some, Option, position, option_and_then}
use Rattle.std.specs.Option.{unwrap_or}
use Rattle.std.specs.List.{slice_get}
use Rattle.names.specs.declared.name.Name.{Name}
use Rattle.product.specs.declared.row.Reference.{Reference}
use Rattle.project.specs.Members.{same}
use Rattle.image.specs.declared.target.Target.{Target}

-- the place of a name
abbrev pub named : Name → List Name → Option ℕ
named n ms = position (λ m. same m n) ms

-- where a position of the unit at place i goes: 0 is the unit itself, else the import at that position
abbrev pub goal : List Name → ℕ → List Name → ℕ → Option ℕ
goal ms i imports zero = Some i
goal ms i imports (suc k) = option_and_then (λ n. named n ms) (slice_get imports k)

-- a reference of the unit at place i, resolved among units of these names
abbrev pub resolved_by : List Name → ℕ → List Name → Reference → Target
resolved_by ms i imports r = record { unit = unwrap_or (goal ms i imports r.position) 0; entry = r.entry }
