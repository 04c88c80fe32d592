-- A record read where it was laid.
use Rattle.std.proofs.Common.{◌≡◌, ℕ, ◌+◌, ◌/◌, ◌%◌, ◌≤◌, true, false, List, [], ◌∷◌, ◌++◌, length, get_or, take, drop, sym, refl, ap, ◌∙◌, subst, arith, length-append}
use lib.Seq.{paste}
use borrow.Rule.Slice.PartMut.{put_mid}
use Rattle.std.proofs.lemmas.Slice.{put_mid-paste}
use Rattle.std.proofs.lemmas.List.Edits.{paste-paste}
use Rattle.std.proofs.lemmas.List.{take_at}
use Rattle.std.specs.Str.{bytes_eq}
use Rattle.std.proofs.lemmas.Bool.{and_parts}
use Rattle.store.specs.Pairs.{pair, has}
use Rattle.store.proofs.Pairs.{by_test, same_is}
use Rattle.area.specs.Layout.{header_size, laid, live, key, size, content, holds, held, written}

-- the eight bytes of a name one by one
pub eight : (q : List ℕ) → length q ≡ 8 → get_or q 0 0 ∷ get_or q 1 0 ∷ get_or q 2 0 ∷ get_or q 3 0 ∷ get_or q 4 0 ∷ get_or q 5 0 ∷ get_or q 6 0 ∷ get_or q 7 0 ∷ [] ≡ q
eight [] l = absurd (omega arith)
eight (a ∷ []) l = absurd (omega arith)
eight (a ∷ (b ∷ [])) l = absurd (omega arith)
eight (a ∷ (b ∷ (c ∷ []))) l = absurd (omega arith)
eight (a ∷ (b ∷ (c ∷ (d ∷ [])))) l = absurd (omega arith)
eight (a ∷ (b ∷ (c ∷ (d ∷ (e ∷ []))))) l = absurd (omega arith)
eight (a ∷ (b ∷ (c ∷ (d ∷ (e ∷ (f ∷ [])))))) l = absurd (omega arith)
eight (a ∷ (b ∷ (c ∷ (d ∷ (e ∷ (f ∷ (g ∷ []))))))) l = absurd (omega arith)
eight (a ∷ (b ∷ (c ∷ (d ∷ (e ∷ (f ∷ (g ∷ (h ∷ [])))))))) l = refl
eight (a ∷ (b ∷ (c ∷ (d ∷ (e ∷ (f ∷ (g ∷ (h ∷ (i ∷ j))))))))) l = absurd (omega arith)

-- the header and then the record, each copied to its part
pub laid_twice : (xs q bs hs cs : List ℕ) (at k l : ℕ) → hs ≡ 1 ∷ (q ++ (length bs / 256) ∷ (length bs % 256) ∷ []) → cs ≡ bs → k ≡ 11 → l ≡ length bs → length q ≡ 8 → at ≤ length xs → put_mid (at + 11) l (put_mid at k xs hs) cs ≡ written xs at q bs
laid_twice xs q bs hs cs at k l eh ec ek el eq h =
    let hd : List ℕ = 1 ∷ (q ++ (length bs / 256) ∷ (length bs % 256) ∷ []) in
    let n : 11 ≡ length hd = simp length-append (omega arith) in
    put_mid-paste (at + 11) l (put_mid at k xs hs) cs bs (length bs) ec (sym el) refl
    ∙ ap (λ (x : List ℕ). paste x (at + 11) bs (length bs)) (put_mid-paste at k xs hs hd 11 eh (sym ek) n)
    ∙ paste-paste xs at hd bs 11 (length bs) n refl h

-- what is read where a record was laid
pub size-laid : (q bs rest : List ℕ) → length q ≡ 8 → size (laid q bs ++ rest) ≡ length bs
size-laid q bs rest e =
    let P : List ℕ → Type 0 = λ (x : List ℕ). size (laid x bs ++ rest) ≡ length bs in
    subst P (eight q e) (let n : length (bs ++ rest) ≡ length bs + length rest = length-append bs rest in omega arith)

pub key-laid : (q bs rest : List ℕ) → length q ≡ 8 → key (laid q bs ++ rest) ≡ q
key-laid q bs rest e = let P : List ℕ → Type 0 = λ (x : List ℕ). key (laid x bs ++ rest) ≡ x in subst P (eight q e) refl

pub behind-laid : (q bs rest : List ℕ) → length q ≡ 8 → drop 11 (laid q bs ++ rest) ≡ bs ++ rest
behind-laid q bs rest e = let P : List ℕ → Type 0 = λ (x : List ℕ). drop 11 (laid x bs ++ rest) ≡ bs ++ rest in subst P (eight q e) refl

pub content-laid : (q bs rest : List ℕ) → length q ≡ 8 → content (laid q bs ++ rest) ≡ bs
content-laid q bs rest e = (λ i. take (size-laid q bs rest e i) (behind-laid q bs rest e i)) ∙ take_at bs rest (length bs) refl

pub held-laid : (q bs rest : List ℕ) → length q ≡ 8 → held (laid q bs ++ rest) ≡ pair q bs ∷ []
held-laid q bs rest e = λ i. pair (key-laid q bs rest e i) (content-laid q bs rest e i) ∷ []

pub length-laid : (q bs : List ℕ) → length q ≡ 8 → length (laid q bs) ≡ header_size + length bs
length-laid q bs e = simp length-append (omega arith)

-- no pair of the name in a record that does not hold it
pub has-held : (p q : List ℕ) → holds p q ≡ false → has (held p) q ≡ false
has-held p q h = by_test (live p) (λ e. let apart : bytes_eq (key p) q ≡ false = simp e at h in simp (e, apart)) (λ e. simp e)

-- the pair of a record that holds the name
pub held_of : (p q : List ℕ) → holds p q ≡ true → held p ≡ pair q (content p) ∷ []
held_of p q h =
    let parts = and_parts (live p) (bytes_eq (key p) q) h in
    let l : live p ≡ true = parts.0 in
    simp l (ap (λ (x : List ℕ). pair x (content p) ∷ []) (same_is (key p) q parts.1))
