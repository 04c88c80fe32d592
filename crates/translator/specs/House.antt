-- The house sameness of interfaces.
use Rattle.std.specs.Prelude.{ℕ, Bool, true, false, ◌&&◌, List, [], ◌∷◌, ◌==◌}
use Rattle.std.specs.Int.{w32}
use Rattle.std.proofs.Common.{of_z}
use Rattle.std.specs.Str.{bytes_eq}
use Rattle.product.specs.declared.row.Row.{Row}

-- what the house compares of a row: name, kind and the 32 bits of the value
abbrev pub shape : Row → List ℕ × (ℕ × ℕ)
shape r = (r.name.bytes, (r.kind, of_z w32 r.value))

-- name, kind and value are equal; lines are not compared
abbrev pub like : Row → Row → Bool
like a b = bytes_eq a.name.bytes b.name.bytes && (a.kind == b.kind && of_z w32 a.value == of_z w32 b.value)

-- equally many rows, like one another row by row
abbrev pub house : List Row → List Row → Bool
house [] [] = true
house [] (b ∷ bs) = false
house (a ∷ more) [] = false
house (a ∷ more) (b ∷ bs) = like a b && house more bs
