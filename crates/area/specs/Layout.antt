-- How a record lies in an area: eleven bytes, which are the mark, the name and the length, and then the record.
use Rattle.std.specs.Prelude.{ℕ, ◌+◌, ◌-◌, ◌*◌, ◌/◌, ◌%◌, min, Bool, cond, ◌&&◌, List, [], ◌∷◌, ◌++◌, length, take, drop, ◌==◌, nat_le, nat_lt, slice_index}
use Rattle.std.proofs.Math.Seq.{paste}
use Rattle.std.specs.Str.{bytes_eq}
use Rattle.store.specs.Pairs.{Pair, pair}

-- the bytes ahead of a record
abbrev pub header_size : ℕ
header_size = 11

-- the longest record
abbrev pub longest : ℕ
longest = 1896

-- the longest record with its header
abbrev pub slot_size : ℕ
slot_size = 1907

-- the most rows of a store
abbrev pub most_rows : ℕ
most_rows = 24

-- the rows of an area of this length
abbrev pub rows_of : ℕ → ℕ
rows_of n = min most_rows (n / slot_size)

-- a record with its header: mark, name, length with the high byte first
abbrev pub laid : List ℕ → List ℕ → List ℕ
laid q bs = (1 ∷ (q ++ (length bs / 256) ∷ (length bs % 256) ∷ [])) ++ bs

-- whether the record that begins a piece of the area is live
abbrev pub live : List ℕ → Bool
live p = slice_index p 0 == 1

-- its name
abbrev pub key : List ℕ → List ℕ
key p = take 8 (drop 1 p)

-- its length, which does not pass the piece
abbrev pub size : List ℕ → ℕ
size p = min (slice_index p 9 * 256 + slice_index p 10) (length p - header_size)

-- its bytes
abbrev pub content : List ℕ → List ℕ
content p = take (size p) (drop header_size p)

-- whether a live record of this name begins the piece
abbrev pub holds : List ℕ → List ℕ → Bool
holds p q = live p && bytes_eq (key p) q

-- the pair that the piece holds, if any
abbrev pub held : List ℕ → List Pair
held p = cond (live p) (pair (key p) (content p) ∷ []) []

-- the area with a record laid at a place
abbrev pub written : List ℕ → ℕ → List ℕ → List ℕ → List ℕ
written xs at q bs = paste xs at (laid q bs) (header_size + length bs)

-- the answer to laying a record of this length at a place of an area: 42 over the limit, 41 where the area is too short, else 0
abbrev pub lay_number : ℕ → ℕ → ℕ → ℕ
lay_number whole at n = cond (nat_lt longest n) 42 (cond (nat_le (at + (header_size + n)) whole) 0 41)
