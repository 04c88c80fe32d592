-- What put, get and drop answer and leave.
use Rattle.std.specs.Prelude.{◌≡◌, ℕ, ◌≤◌, Bool, cond, ◌||◌, List, ◌∷◌, ◌++◌, length, drop, IfSome, IfOk, Some, None, Option, Result, ◌==◌, nat_le, nat_lt}
use Rattle.std.specs.Option.{option_map}
use Rattle.names.specs.declared.refusal.Refusal.{Refusal}
use Rattle.names.specs.Refusals.{answer}
use Rattle.store.specs.Pairs.{Pair, pair, lookup, has, without, SamePairs}

-- a put's answer: 42 for a record over the limit, else 41 for a new name where as many pairs stand as there are rows, else 0
abbrev pub put_number : ℕ → ℕ → Bool → ℕ → ℕ → ℕ
put_number limit rows held number size = cond (nat_lt limit size) 42 (cond (held || nat_lt number rows) 0 41)

-- the pairs after a put that gave this answer
abbrev pub put_pairs : ℕ → List Pair → List ℕ → List ℕ → List Pair
put_pairs n ps q bs = cond (n == 0) (pair q bs ∷ without q ps) ps

-- a put of a record under a name, with its answer's number
pub record PutSays (limit rows : ℕ) (before after : List Pair) (q bs : List ℕ) (n : ℕ) : Type 0 where
  pub outcome : n ≡ put_number limit rows (has before q) (length before) (length bs)
  pub pairs : SamePairs after (put_pairs n before q bs)

-- a get's answer: 43 where the buffer is shorter than the record
abbrev pub get_number : Option (List ℕ) → ℕ → ℕ
get_number None room = 0
get_number (Some bs) room = cond (nat_le (length bs) room) 0 43

-- the buffer after a get: the record at its start if it fits, the bytes behind as they were
abbrev pub get_buffer : Option (List ℕ) → List ℕ → List ℕ
get_buffer None buffer = buffer
get_buffer (Some bs) buffer = cond (nat_le (length bs) (length buffer)) (bs ++ drop (length bs) buffer) buffer

-- a get of a name into a buffer: the record's length, or none
pub record GetSays (before after : List Pair) (q buffer buffer' : List ℕ) (r : Result (Option ℕ) Refusal) : Type 0 where
  pub outcome : answer r ≡ get_number (lookup before q) (length buffer)
  pub told : IfOk r (λ n. n ≡ option_map length (lookup before q))
  pub filled : buffer' ≡ get_buffer (lookup before q) buffer
  pub pairs : after ≡ before

-- a length that a get answers lies within the buffer
abbrev pub Within : Result (Option ℕ) Refusal → ℕ → Type 0
Within r room = IfOk r (λ o. IfSome o (λ n. n ≤ room))

-- a drop of a name: whether it had a record, which is gone
pub record DropSays (before after : List Pair) (q : List ℕ) (r : Bool) : Type 0 where
  pub found : r ≡ has before q
  pub pairs : SamePairs after (without q before)
