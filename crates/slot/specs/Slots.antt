-- An area as slots, each of which holds at most one record.
use Rattle.std.specs.Prelude.{◌≡◌, ℕ, zero, suc, ◌+◌, ◌*◌, ◌<◌, true, false, ◌⊎◌, List, [], ◌++◌, slice_set}
use Rattle.std.specs.List.{between}
use Rattle.store.specs.Pairs.{Pair, has}
use Rattle.area.specs.Layout.{slot_size, live, holds, held}

-- the bytes of a slot
abbrev pub slot : List ℕ → ℕ → List ℕ
slot xs i = between (i * slot_size) (i * slot_size + slot_size) xs

-- what n places from a on give, one behind the other
abbrev pub gather : (ℕ → List Pair) → ℕ → ℕ → List Pair
gather f a zero = []
gather f a (suc n) = f a ++ gather f (suc a) n

-- the pairs of the first n slots
abbrev pub slot_pairs : ℕ → List ℕ → List Pair
slot_pairs n xs = gather (λ i. held (slot xs i)) 0 n

-- the slot of a name: it holds a live record of that name, and no slot ahead does
abbrev pub SlotOf : ℕ → List ℕ → List ℕ → ℕ → Type 0
SlotOf n xs q i = (i < n) × (holds (slot xs i) q ≡ true) × (has (slot_pairs i xs) q ≡ false)

-- a slot for a record: the slot of its name, or a free one if no slot has the name
abbrev pub SlotFor : ℕ → List ℕ → List ℕ → ℕ → Type 0
SlotFor n xs q i = SlotOf n xs q i ⊎ ((i < n) × (live (slot xs i) ≡ false) × (has (slot_pairs n xs) q ≡ false))

-- the area with the marks of the first n slots dead
abbrev pub cleared : ℕ → List ℕ → List ℕ
cleared zero xs = xs
cleared (suc n) xs = slice_set (cleared n xs) (n * slot_size) 0
