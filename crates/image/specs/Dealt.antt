-- Rows of several units in one section, each behind the position of its unit.
use Rattle.std.specs.Prelude.{ℕ, zero, suc, cond, List, [], ◌∷◌, ◌++◌, map, length, Some, None, Ok, Err, Option, Result, ◌==◌}
use Rattle.std.specs.List.{flat_map}
use Rattle.bounded.specs.Held.{held, used}
use Rattle.codec.specs.Format.{Format, next, each, pair}
use Rattle.image.specs.declared.column.Column.{Column}

-- the lists of all units
abbrev pub lists : {X : Type 0} {n : ℕ} → Column X n → List (List X)
lists c = map held (used c.lists)

-- all rows, unit after unit
abbrev pub flat : {X : Type 0} → List (List X) → List X
flat = flat_map (λ xs. xs)

-- the bytes of all rows, from the unit at a position on
abbrev pub deal : {X : Type 0} → (X → List ℕ) → ℕ → List (List X) → List ℕ
deal put unit [] = []
deal put unit (xs ∷ xss) = each (λ x. unit ∷ put x) xs ++ deal put (suc unit) xss

-- the rows at the front that begin with a position, at most so many of at most so many, and how many rows are left for others
abbrev pub run : {X : Type 0} → (List ℕ → Option (X × List ℕ)) → ℕ → ℕ → ℕ → List ℕ → Option ((List X × ℕ) × List ℕ)
run get unit room zero bs = Some (([], zero), bs)
run get unit room (suc rows) [] = Some (([], suc rows), [])
run get unit zero (suc rows) (b ∷ bs) = cond (b == unit) None (Some (([], suc rows), b ∷ bs))
run get unit (suc room) (suc rows) (b ∷ bs) =
    cond (b == unit) (next (get bs) (λ x cs. next (run get unit room rows cs) (λ p ds. Some ((x ∷ p.0, p.1), ds)))) (Some (([], suc rows), b ∷ bs))

-- the rows of so many units, from the unit at a position on, with none left
abbrev pub undeal : {X : Type 0} → (List ℕ → Option (X × List ℕ)) → ℕ → ℕ → ℕ → ℕ → List ℕ → Option (List (List X) × List ℕ)
undeal get room unit zero rows bs = cond (rows == 0) (Some ([], bs)) None
undeal get room unit (suc units) rows bs = next (run get unit room rows bs) (λ p cs. next (undeal get room (suc unit) units p.1 cs) (λ xss ds. Some (p.0 ∷ xss, ds)))

-- a section of the rows of so many units, at most so many a unit, behind a count of two bytes
abbrev pub dealt : {X : Type 0} → ℕ → ℕ → Format X → Format (List (List X))
dealt room units f = record { put = λ xss. pair.put (length (flat xss)) ++ deal f.put zero xss; get = λ bs. next (pair.get bs) (λ rows cs. undeal f.get room zero units rows cs) }

-- what a reader of one unit's rows answered
abbrev pub run_read : {X Y : Type 0} → Result ℕ Y → List X → List ℕ → Option ((List X × ℕ) × List ℕ)
run_read (Ok rows) xs bs = Some ((xs, rows), bs)
run_read (Err e) xs bs = None
