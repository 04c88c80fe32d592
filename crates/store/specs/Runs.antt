-- What a list of calls from opening leads to, told by the calls alone.
use Rattle.std.specs.Prelude.{◌≡◌, ℕ, ◌+◌, ◌-◌, cond, List, [], ◌∷◌, length, is_some, Some, None, Ok, Err, vec_items, Option, Result, ◌==◌, nat_le}
use Rattle.std.specs.Result.{result_map_both}
use Rattle.std.specs.Str.{bytes_eq}
use Rattle.names.specs.declared.refusal.Refusal.{Refusal}
use Rattle.names.specs.Refusals.{number}
use Rattle.store.specs.declared.call.Call.{Call}
use Rattle.store.specs.declared.call.Call.TheVariants.{Put, Get, Drop}
use Rattle.store.specs.declared.call.Answer.{Answer}
use Rattle.store.specs.declared.call.Answer.TheVariants.{Done, Nothing, Found}
use Rattle.store.specs.Pairs.{Pair, lookup}
use Rattle.store.specs.Says.{put_number, get_buffer}

-- the record last put under a name and not dropped since; the calls that took effect, latest first
abbrev pub standing : List Call → List ℕ → Option (List ℕ)
standing [] q = None
standing (Put n v ∷ past) q = cond (bytes_eq n.bytes q) (Some (vec_items v)) (standing past q)
standing (Get n ∷ past) q = standing past q
standing (Drop n ∷ past) q = cond (bytes_eq n.bytes q) None (standing past q)

-- how many names have a record
abbrev pub names_standing : List Call → ℕ
names_standing [] = 0
names_standing (Put n v ∷ past) = names_standing past + cond (is_some (standing past n.bytes)) 0 1
names_standing (Get n ∷ past) = names_standing past
names_standing (Drop n ∷ past) = names_standing past - cond (is_some (standing past n.bytes)) 1 0

-- a put's number after these calls
abbrev pub put_due : ℕ → ℕ → List Call → List ℕ → ℕ → ℕ
put_due limit rows past q size = put_number limit rows (is_some (standing past q)) (names_standing past) size

-- a refused put has no effect
abbrev pub told : ℕ → ℕ → List Call → Call → List Call
told limit rows past (Put n v) = cond (put_due limit rows past n.bytes (length (vec_items v)) == 0) (Put n v ∷ past) past
told limit rows past (Get n) = Get n ∷ past
told limit rows past (Drop n) = Drop n ∷ past

-- the calls of a list that took effect, latest first
abbrev pub told_all : ℕ → ℕ → List Call → List Call → List Call
told_all limit rows past [] = past
told_all limit rows past (c ∷ cs) = told_all limit rows (told limit rows past c) cs

-- done, or refused with a number
abbrev pub done : ℕ → Result Answer ℕ
done n = cond (n == 0) (Ok Done) (Err n)

-- the answer to a get of a record
abbrev pub found : Option (List ℕ) → ℕ → Result Answer ℕ
found None room = Ok Nothing
found (Some bs) room = cond (nat_le (length bs) room) (Ok (Found (length bs))) (Err 43)

-- the answer due to a call after these calls, with a refusal's number in the refusal's place
abbrev pub due : ℕ → ℕ → List Call → Call → ℕ → Result Answer ℕ
due limit rows past (Put n v) room = done (put_due limit rows past n.bytes (length (vec_items v)))
due limit rows past (Get n) room = found (standing past n.bytes) room
due limit rows past (Drop n) room = Ok (cond (is_some (standing past n.bytes)) Done Nothing)

-- the record that a call asks for
abbrev pub asked : List Call → Call → Option (List ℕ)
asked past (Put n v) = None
asked past (Get n) = standing past n.bytes
asked past (Drop n) = None

-- a call answers what is due after these calls, and a get writes the record last put and not dropped since
pub record Answers (limit rows : ℕ) (past : List Call) (call : Call) (buffer buffer' : List ℕ) (r : Result Answer Refusal) : Type 0 where
  pub answer : result_map_both (λ a. a) number r ≡ due limit rows past call (length buffer)
  pub filled : buffer' ≡ get_buffer (asked past call) buffer

-- the pairs are those that these calls left
pub record Stands (past : List Call) (ps : List Pair) : Type 0 where
  pub records : (q : List ℕ) → lookup ps q ≡ standing past q
  pub number : length ps ≡ names_standing past
