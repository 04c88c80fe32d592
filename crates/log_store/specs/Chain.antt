-- A log as records that lie one behind the other from the front of the area, each with its header, live or dead.
use Rattle.std.specs.Prelude.{◌≡◌, ℕ, zero, suc, ◌+◌, ◌*◌, Bool, true, false, cond, ◌&&◌, List, [], ◌∷◌, ◌++◌, length, take, drop, ◌==◌, nat_le, slice_index, slice_set}
use Rattle.std.specs.List.{flat_map}
use Rattle.store.specs.Pairs.{Pair, has}
use Rattle.area.specs.Layout.{header_size, slot_size, laid, live, size, holds, held}

-- at most n records of these bytes
abbrev pub chain : ℕ → List ℕ → List (List ℕ)
chain zero bs = []
chain (suc n) [] = []
chain (suc n) (b ∷ bs) = take (header_size + size (b ∷ bs)) (b ∷ bs) ∷ chain n (drop (header_size + size (b ∷ bs)) (b ∷ bs))

-- the records of these bytes
abbrev pub records : List ℕ → List (List ℕ)
records bs = chain (length bs) bs

-- each record with the place where it begins, the first at this one
abbrev pub placed : ℕ → List (List ℕ) → List (ℕ × List ℕ)
placed at [] = []
placed at (p ∷ ps) = (at, p) ∷ placed (at + length p) ps

-- the bytes of records, one behind the other
abbrev pub bytes_of : List (List ℕ) → List ℕ
bytes_of ps = flat_map (λ p. p) ps

-- a record as long as its header says, and no longer than a slot
abbrev pub exact : List ℕ → Bool
exact p = length p == header_size + (slice_index p 9 * 256 + slice_index p 10) && nat_le (length p) slot_size

-- every record is
abbrev pub all_exact : List (List ℕ) → Bool
all_exact [] = true
all_exact (p ∷ ps) = exact p && all_exact ps

-- the pairs of the live records
abbrev pub log_pairs : List (List ℕ) → List Pair
log_pairs ps = flat_map held ps

-- the live record of a name marked dead
abbrev pub marked : List ℕ → List (List ℕ) → List (List ℕ)
marked q [] = []
marked q (p ∷ ps) = cond (holds p q) (slice_set p 0 0 ∷ ps) (p ∷ marked q ps)

-- the live records only, in order: a slide to the front leaves these
abbrev pub lives : List (List ℕ) → List (List ℕ)
lives [] = []
lives (p ∷ ps) = cond (live p) (p ∷ lives ps) (lives ps)

-- a slide where n bytes more do not fit in the area behind the last record
abbrev pub with_room : ℕ → ℕ → List (List ℕ) → List (List ℕ)
with_room whole n ps = cond (nat_le (length (bytes_of ps) + n) whole) ps (lives ps)

-- after a put: the old record dead, a slide if need be, the new record behind the last
abbrev pub log_put : ℕ → List (List ℕ) → List ℕ → List ℕ → List (List ℕ)
log_put whole ps q bs = with_room whole (header_size + length bs) (marked q ps) ++ laid q bs ∷ []

-- the place of the live record of a name
pub record PlaceOf (ps : List (List ℕ)) (q : List ℕ) (at : ℕ) : Type 0 where
  pub ahead : List (List ℕ)
  pub piece : List ℕ
  pub behind : List (List ℕ)
  pub whole : ps ≡ ahead ++ piece ∷ behind
  pub place : at ≡ length (bytes_of ahead)
  pub this : holds piece q ≡ true
  pub first : has (log_pairs ahead) q ≡ false
