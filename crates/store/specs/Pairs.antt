-- What a store holds: pairs of name and record.
use Rattle.std.specs.Prelude.{◌≡◌, ℕ, Bool, true, cond, not, ◌&&◌, List, [], ◌∷◌, length, is_some, Some, None, Option}
use Rattle.std.specs.Str.{bytes_eq}

-- a name, its eight bytes, and the record under it
pub record Pair : Type 0 where
  pub key : List ℕ
  pub bytes : List ℕ

-- the pair of a name and a record
abbrev pub pair : List ℕ → List ℕ → Pair
pair q bs = record { key = q; bytes = bs }

-- the record under a name
abbrev pub lookup : List Pair → List ℕ → Option (List ℕ)
lookup [] q = None
lookup (p ∷ ps) q = cond (bytes_eq p.key q) (Some p.bytes) (lookup ps q)

-- whether a name has a record
abbrev pub has : List Pair → List ℕ → Bool
has ps q = is_some (lookup ps q)

-- the pairs but that of a name
abbrev pub without : List ℕ → List Pair → List Pair
without q [] = []
without q (p ∷ ps) = cond (bytes_eq p.key q) ps (p ∷ without q ps)

-- no name stands twice
abbrev pub once : List Pair → Bool
once [] = true
once (p ∷ ps) = not (has ps p.key) && once ps

-- the same pairs, in whatever order
pub record SamePairs (xs ys : List Pair) : Type 0 where
  pub records : (q : List ℕ) → lookup xs q ≡ lookup ys q
  pub number : length xs ≡ length ys
