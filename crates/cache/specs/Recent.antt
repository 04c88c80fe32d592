-- Which records a cache holds: the last four put or got, the latest first.
use Rattle.std.specs.Prelude.{◌≡◌, ℕ, ◌+◌, ◌<◌, true, false, cond, List, ◌∷◌, ◌++◌, length, take, drop, Some, None, Option, ◌==◌, nat_le}
use Rattle.store.specs.Pairs.{Pair, pair, lookup, has, without, once}
use Rattle.area.specs.Layout.{longest}

-- how many records are held
abbrev pub places : ℕ
places = 4

-- after a record was put or got: it comes first, and the last goes where there were four; a record that is too long takes no place
abbrev pub admitted : List ℕ → List ℕ → List Pair → List Pair
admitted q bs xs = cond (nat_le (length bs) longest) (take places (pair q bs ∷ without q xs)) (without q xs)

-- the pair at a place comes first
abbrev pub to_front : ℕ → List Pair → List Pair
to_front i xs = take 1 (drop i xs) ++ (take i xs ++ drop (i + 1) xs)

-- after a put with this answer
abbrev pub after_put : ℕ → List ℕ → List ℕ → List Pair → List Pair
after_put n q bs xs = cond (n == 0) (admitted q bs xs) xs

-- after a get of a record into a buffer of this length; a refused get and one of an absent name do not count
abbrev pub after_get : Option (List ℕ) → ℕ → List ℕ → List Pair → List Pair
after_get None room q xs = xs
after_get (Some bs) room q xs = cond (nat_le (length bs) room) (admitted q bs xs) xs

-- every record held is the one below
abbrev pub Agrees : List Pair → List Pair → Type 0
Agrees xs ps = (q v : List ℕ) → lookup xs q ≡ Some v → lookup ps q ≡ Some v

-- what holds of the copies: no name stands twice, and every record held is the one below
abbrev pub TrueCopies : List Pair → List Pair → Type 0
TrueCopies xs ps = (once xs ≡ true) × Agrees xs ps

-- the place of a name among the records held
abbrev pub PlaceOf : List Pair → List ℕ → ℕ → Type 0
PlaceOf xs q i = (i < length xs) × ((v : List ℕ) × (xs ≡ take i xs ++ pair q v ∷ drop (i + 1) xs)) × (has (take i xs) q ≡ false)
