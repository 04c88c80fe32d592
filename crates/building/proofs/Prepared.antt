-- The present interfaces of a unit's imports, one after the other.
use Rattle.std.proofs.Common.{ℕ, List, map, take}
use Rattle.names.specs.declared.name.Name.{Name}
use Rattle.product.specs.declared.row.Row.{Row}
use Rattle.product.specs.Parts.{no_parts}
use Rattle.artifact.specs.Art.{Art}

-- so far
abbrev pub prepared : List ℕ → (Name → List Row) → List Name → ℕ → Art
prepared source f names i = record { source = source; imports = map f (take i names); product = no_parts }
