-- What is written behind a product, if there is room.
use Rattle.std.specs.Prelude.{ℕ, ◌+◌, ◌/◌, ◌%◌, Bool, cond, List, [], ◌∷◌, ◌++◌, length, ℤ, Some, None, Option, nat_le, nat_lt}
use Rattle.std.specs.Int.{w32}
use Rattle.std.proofs.Common.{of_z}
use Rattle.tokens.specs.declared.token.Operator.{Operator}
use Rattle.tokens.specs.declared.token.Operator.TheVariants.{Add, Subtract, Multiply, Divide, Less, Equal}
use Rattle.product.specs.declared.row.Row.{Row}
use Rattle.product.specs.declared.row.Reference.{Reference}
use Rattle.product.specs.Parts.{Parts}

-- a call that answers whether it was done
abbrev pub done : {S : Type 0} → Bool → S → Option S
done b s = cond b (Some s) None

-- on from what was done
abbrev pub then : {S T : Type 0} → Option S → (S → Option T) → Option T
then None k = None
then (Some s) k = k s

-- at most 384 code bytes
abbrev pub adding : List ℕ → Parts → Option Parts
adding bs p = done (nat_le (length p.code + length bs) 384) (record { interface = p.interface; code = p.code ++ bs; entries = p.entries; references = p.references })

-- at most 32 references
abbrev pub referring : Reference → Parts → Option Parts
referring r p = done (nat_lt (length p.references) 32) (record { interface = p.interface; code = p.code; entries = p.entries; references = p.references ++ r ∷ [] })

-- at most twelve entries; an entry is where the next code byte stands
abbrev pub entering : Parts → Option Parts
entering p = done (nat_lt (length p.entries) 12) (record { interface = p.interface; code = p.code; entries = p.entries ++ length p.code ∷ []; references = p.references })

-- at most twelve rows
abbrev pub showing_row : Row → Parts → Option Parts
showing_row r p = done (nat_lt (length p.interface) 12) (record { interface = p.interface ++ r ∷ []; code = p.code; entries = p.entries; references = p.references })

-- the four bytes of a value, the highest first
abbrev pub four : ℤ → List ℕ
four v = (of_z w32 v / 16777216 % 256) ∷ (of_z w32 v / 65536 % 256) ∷ (of_z w32 v / 256 % 256) ∷ (of_z w32 v % 256) ∷ []

-- 10 to 15 hexadecimal, in the order + - * / < =
abbrev pub opcode : Operator → ℕ
opcode Add = 16
opcode Subtract = 17
opcode Multiply = 18
opcode Divide = 19
opcode Less = 20
opcode Equal = 21

-- 01 and four bytes
abbrev pub pushing : ℤ → Parts → Option Parts
pushing v = adding (1 ∷ four v)

-- 30 and the reference's number
abbrev pub calling : Reference → Parts → Option Parts
calling r p = then (adding (48 ∷ length p.references ∷ []) p) (referring r)
