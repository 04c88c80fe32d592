-- Written names are padded names with zero bytes behind.
use Rattle.std.proofs.Common.{◌≡◌, ℕ, zero, suc, ◌-◌, ◌+◌, ◌≤◌, true, false, cond, ◌&&◌, eqb, leb, List, [], ◌∷◌, ◌++◌, length, drop, replicate, sym, refl, ap, ◌∙◌, arith, length-append}
use lib.ListN.{length-replicate}
use Rattle.std.specs.List.{prefix_len}
use Rattle.std.proofs.lemmas.Bool.{true≢false, and_parts, eqb-true, leb-true, eq-eqb, ne_eqb}
use Rattle.names.specs.Spelling.{letter, continues, blank, tail, padded_name, plain, written_name, padded}

blank_zeros : (n : ℕ) → blank (replicate n 0) ≡ true
blank_zeros zero = refl
blank_zeros (suc n) = blank_zeros n

one_more : (n : ℕ) → 1 + n ≡ suc n
one_more n = omega arith

tail_after : (xs : List ℕ) (n : ℕ) → plain xs ≡ true → tail (xs ++ replicate n 0) ≡ true
tail_after [] zero h = refl
tail_after [] (suc n) h = blank_zeros n
tail_after (x ∷ xs) n h =
    let parts = and_parts (continues x) (plain xs) h in
    let ys = xs ++ replicate n 0 in
    let first : prefix_len continues (x ∷ ys) ≡ 1 + prefix_len continues ys = ap (λ t. cond t (1 + prefix_len continues ys) 0) parts.0 in
    ap (λ k. blank (drop k (x ∷ ys))) (first ∙ one_more (prefix_len continues ys)) ∙ tail_after xs n parts.1

pub padded_is_name : (text : List ℕ) → written_name text ≡ true → padded_name (padded text) ≡ true
padded_is_name [] h = h
padded_is_name (b ∷ bs) h =
    let p = and_parts (leb (length bs) 7) (letter b && plain bs) h in
    let q = and_parts (letter b) (plain bs) p.1 in
    let short : length bs ≤ 7 = leb-true (length bs) 7 p.0 in
    let e : length (bs ++ replicate (8 - suc (length bs)) 0) ≡ 7 = simp (length-append, length-replicate) (omega arith) in
    simp (q.0, tail_after bs (8 - suc (length bs)) q.1, eq-eqb (length (bs ++ replicate (8 - suc (length bs)) 0)) 7 e)

pub padded_long : (bs : List ℕ) → (length bs ≡ 8 → ⊥) → padded_name bs ≡ false
padded_long [] h = refl
padded_long (b ∷ bs) h = ap (λ x. x && (letter b && tail bs)) (ne_eqb (length bs) 7 (λ e. h (ap suc e)))

-- a name has eight bytes
pub padded_eight : (bs : List ℕ) → padded_name bs ≡ true → length bs ≡ 8
padded_eight [] h = absurd (true≢false (sym h))
padded_eight (b ∷ bs) h = ap suc (eqb-true (length bs) 7 (and_parts (eqb (length bs) 7) (letter b && tail bs) h).0)
