-- How many bytes elements and sections have.
use Rattle.std.proofs.Common.{◌≡◌, ℕ, suc, ◌+◌, ◌*◌, ◌≤◌, List, [], ◌∷◌, length, sym, refl, ap, ◌∙◌, suc-mul, zero-mul, arith, length-append}
use Rattle.std.specs.List.{AllByRecursion}
use Rattle.product.specs.declared.row.Row.{Row}
use Rattle.codec.specs.Format.{each, byte, row, interface, code}
use Rattle.codec.proofs.Laws.{name-length}

pub each-length : {X : Type 0} (put : X → List ℕ) (w : ℕ) → ((x : X) → length (put x) ≡ w) → (xs : List X) → length (each put xs) ≡ length xs * w
each-length put w h [] = sym (zero-mul w)
each-length put w h (x ∷ xs) =
    length-append (put x) (each put xs) ∙ (λ i. h x i + each-length put w h xs i) ∙ sym (suc-mul (length xs) w ∙ omega arith)

pub each_at_most : {X : Type 0} (put : X → List ℕ) (w : ℕ) (P : X → Type 0) → ((x : X) → P x → length (put x) ≤ w) → (xs : List X) → AllByRecursion P xs → length (each put xs) ≤ length xs * w
each_at_most put w P h [] all = omega (arith, zero-mul w)
each_at_most put w P h (x ∷ xs) all =
    omega (arith, length-append (put x) (each put xs), h x all.0, each_at_most put w P h xs all.1, suc-mul (length xs) w)

pub row-length : (r : Row) → length (row.put r) ≡ 15
row-length r = length-append r.name.bytes _ ∙ ap (λ n. n + 7) (name-length r.name)

pub bytes_length : (bs : List ℕ) → length (each byte.put bs) ≡ length bs
bytes_length bs = each-length byte.put 1 (λ b. refl) bs ∙ omega arith

pub rows-length : (rs : List Row) → length (interface.put rs) ≡ 1 + length rs * 15
rows-length rs = ap suc (each-length row.put 15 row-length rs) ∙ omega arith

pub code-length : (bs : List ℕ) → length (code.put bs) ≡ 2 + length bs
code-length bs = ap (λ n. suc (suc n)) (bytes_length bs) ∙ omega arith
