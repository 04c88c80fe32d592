-- Spaces in front part no words.
use Rattle.std.proofs.Common.{◌≡◌, ℕ, suc, ◌+◌, Bool, true, false, cond, not, eqb, ltb, List, [], ◌∷◌, length, drop, Some, None, is_some, unwrap_or, sym, refl, ap, ◌∙◌, arith, true≢false}
use Rattle.std.specs.List.{filter, slice_split, onto_first, position, position_or_len}
use Rattle.std.proofs.lemmas.Bool.{ltb-false}
use Rattle.std.proofs.lemmas.List.{at_drop_all}

-- what spaces part, where it has a byte
abbrev pub parted : List ℕ → List (List ℕ)
parted bs = filter (λ w. not (eqb (length w) 0)) (slice_split (λ b. eqb b 32) bs)

-- how many spaces stand in front
abbrev spaces : List ℕ → ℕ
spaces bs = position_or_len (λ b. not (eqb b 32)) bs

behind_spaces : (bs : List ℕ) → parted (drop (spaces bs) bs) ≡ parted bs
behind_spaces [] = refl
behind_spaces (b ∷ bs) = by (eqb b 32) refl (behind_spaces bs)
  where
    by : (t : Bool) → eqb b 32 ≡ t → parted (drop (spaces bs) bs) ≡ parted bs → parted (drop (cond (not (not t)) (1 + spaces bs) 0) (b ∷ bs)) ≡ filter (λ w. not (eqb (length w) 0)) (cond t ([] ∷ slice_split (λ x. eqb x 32) bs) (onto_first b (slice_split (λ x. eqb x 32) bs)))
    by true e h = (let next : 1 + spaces bs ≡ suc (spaces bs) = omega arith in ap (λ n. parted (drop n (b ∷ bs))) next ∙ h)
    by false e h = ap (λ t. filter (λ w. not (eqb (length w) 0)) (cond t ([] ∷ slice_split (λ x. eqb x 32) bs) (onto_first b (slice_split (λ x. eqb x 32) bs)))) e

-- from the first byte that is no space the words are the same
pub from_first : (bs : List ℕ) (k : ℕ) → Some k ≡ position (λ b. not (eqb b 32)) bs → parted (drop k bs) ≡ parted bs
from_first bs k e = by (ltb (spaces bs) (length bs)) e
  where
    by : (t : Bool) → Some k ≡ cond t (Some (spaces bs)) None → parted (drop k bs) ≡ parted bs
    by true e = ap (λ o. parted (drop (unwrap_or o 0) bs)) e ∙ behind_spaces bs
    by false e = absurd (true≢false (ap is_some e))

-- where there is none, there is no word
pub without_first : (bs : List ℕ) → None ≡ position (λ b. not (eqb b 32)) bs → parted bs ≡ []
without_first bs e = by (ltb (spaces bs) (length bs)) refl e
  where
    by : (t : Bool) → ltb (spaces bs) (length bs) ≡ t → None ≡ cond t (Some (spaces bs)) None → parted bs ≡ []
    by true l e = absurd (true≢false (sym (ap is_some e)))
    by false l e = sym (behind_spaces bs) ∙ at_drop_all parted bs (spaces bs) (ltb-false (spaces bs) (length bs) l)
