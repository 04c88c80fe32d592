-- What echo gives.
use Rattle.std.specs.Prelude.{ℕ, Bool, true, cond, List, [], ◌∷◌, ◌++◌, take, pos, refl}
use Rattle.names.specs.declared.name.Name.{Name}
use Rattle.product.specs.declared.row.Row.{Row}
use Rattle.product.specs.Parts.{Parts, Outcome, made, faulted}
use Rattle.translator.specs.Owed.{admitted}

-- the name d
abbrev pub d_name : Name
d_name = record { bytes = 100 ∷ 0 ∷ 0 ∷ 0 ∷ 0 ∷ 0 ∷ 0 ∷ 0 ∷ []; valid = refl }

-- the row d
abbrev pub d_row : Row
d_row = record { name = d_name; kind = 2; value = pos 0; line = 1 }

-- the row d, one entry, and the first eight bytes of the source before the byte 3F
abbrev pub echoed : List ℕ → Parts
echoed source = record { interface = d_row ∷ []; code = take 8 source ++ 63 ∷ []; entries = 0 ∷ []; references = [] }

-- the only fault is 9 at line 0, for a source over 512 bytes or more than four imports
abbrev pub echo : List ℕ → List (List Row) → Outcome
echo source imports = cond (admitted source imports) (made (echoed source)) (faulted (record { code = 9; line = 0 }))

-- to echo all interfaces are the same
abbrev pub any : List Row → List Row → Bool
any a b = true
