-- What a translator owes.
use Rattle.std.specs.Prelude.{◌≡◌, ℕ, ◌<◌, Bool, true, ◌&&◌, List, [], ◌∷◌, length, Ok, Err, Result, nat_le}
use Rattle.std.specs.List.{AllByRecursion}
use Rattle.names.specs.declared.refusal.Fault.{Fault}
use Rattle.product.specs.declared.row.Row.{Row}
use Rattle.product.specs.Parts.{Parts, Outcome, made, faulted, Within, WithinRows}

-- what a call answered and left in the product lent to it
abbrev pub shown : {T : Type 0} → Result T Fault → Parts → Outcome
shown (Ok x) p = made p
shown (Err f) p = faulted f

-- a source of at most 512 bytes with at most four imports; of any other the fault is 9 at line 0
abbrev pub admitted : {X : Type 0} → List ℕ → List X → Bool
admitted source imports = nat_le (length source) 512 && nat_le (length imports) 4

-- the fault of a whole source
abbrev pub too_much : Fault
too_much = record { code = 9; line = 0 }

-- two lists of interfaces of equal length, the same place by place
abbrev pub Alike : (List Row → List Row → Bool) → List (List Row) → List (List Row) → Type 0
Alike same [] [] = Unit {0}
Alike same [] (b ∷ bs) = ⊥
Alike same (a ∷ more) [] = ⊥
Alike same (a ∷ more) (b ∷ bs) = (same a b ≡ true) × Alike same more bs

-- equal faults, or products with the same interface and equal code, entries and references
abbrev pub Agree : (List Row → List Row → Bool) → Outcome → Outcome → Type 0
Agree same (made p) (made q) = (same p.interface q.interface ≡ true) × ((p.code ≡ q.code) × ((p.entries ≡ q.entries) × (p.references ≡ q.references)))
Agree same (made p) (faulted g) = ⊥
Agree same (faulted f) (made q) = ⊥
Agree same (faulted f) (faulted g) = f ≡ g

-- what is given keeps the limits, for a unit with so many imports
abbrev pub Kept : ℕ → Outcome → Type 0
Kept imports (made p) = Within imports p
Kept imports (faulted f) = Unit {0}

-- bytes and interfaces as a caller can hold them
abbrev pub Held : List ℕ → List (List Row) → Type 0
Held source imports = AllByRecursion (λ b. b < 256) source × AllByRecursion WithinRows imports
