-- What a name is: a letter, then letters or digits, eight bytes in all with zero bytes behind.
use Rattle.std.specs.Prelude.{ℕ, ◌-◌, Bool, false, ◌&&◌, ◌||◌, List, [], ◌∷◌, ◌++◌, length, drop, replicate, ◌==◌, nat_le}
use Rattle.std.specs.List.{list_all, prefix_len}

-- a letter from a to z
abbrev pub letter : ℕ → Bool
letter b = nat_le 97 b && nat_le b 122

-- a digit from 0 to 9
abbrev pub digit : ℕ → Bool
digit b = nat_le 48 b && nat_le b 57

-- what may follow the first letter
abbrev pub continues : ℕ → Bool
continues b = letter b || digit b

-- zero bytes only
abbrev pub blank : List ℕ → Bool
blank = list_all (λ b. b == 0)

-- letters or digits, then zero bytes
abbrev pub tail : List ℕ → Bool
tail bs = blank (drop (prefix_len continues bs) bs)

-- the padded form: eight bytes, a letter first, zero bytes only at the end
abbrev pub padded_name : List ℕ → Bool
padded_name [] = false
padded_name (b ∷ bs) = length bs == 7 && (letter b && tail bs)

-- letters or digits only
abbrev pub plain : List ℕ → Bool
plain = list_all continues

-- the written form: one to eight bytes, a letter first
abbrev pub written_name : List ℕ → Bool
written_name [] = false
written_name (b ∷ bs) = nat_le (length bs) 7 && (letter b && plain bs)

-- the eight bytes of a written name
abbrev pub padded : List ℕ → List ℕ
padded text = text ++ replicate (8 - length text) 0
