-- Rows of one unit more.
use Rattle.std.proofs.Common.{◌≡◌, ℕ, suc, ◌+◌, ◌<◌, List, [], ◌∷◌, ◌++◌, map, length, get_or, take, sym, ap, ◌∙◌, append_assoc, append-nil, arith, length-append, length-take}
use lib.ListN.{length-map}
use Rattle.std.proofs.lemmas.List.{map_more, flat_map_more}
use Rattle.codec.specs.Format.{each}
use Rattle.image.specs.Dealt.{flat, deal}

module _ {X : Type 0} (put : X → List ℕ) where
  deal_push : (u : ℕ) (yss : List (List X)) (xs : List X) → deal put u (yss ++ xs ∷ []) ≡ deal put u yss ++ each (λ x. (u + length yss) ∷ put x) xs
  deal_push u [] xs = append-nil (each (λ x. u ∷ put x) xs) ∙ ap (λ v. each (λ x. v ∷ put x) xs) (omega arith)
  deal_push u (ys ∷ yss) xs =
      ap (λ bs. each (λ x. u ∷ put x) ys ++ bs) (deal_push (suc u) yss xs ∙ ap (λ v. deal put (suc u) yss ++ each (λ x. v ∷ put x) xs) (omega arith))
      ∙ sym (append_assoc (each (λ x. u ∷ put x) ys) (deal put (suc u) yss) (each (λ x. (u + suc (length yss)) ∷ put x) xs))

-- how many rows there are with one list more
pub flat-more : {X B : Type 0} (f : B → List X) (bs : List B) (k : ℕ) (b : B) → k < length bs → b ≡ get_or bs k b → length (flat (map f (take k bs))) + length (f b) ≡ length (flat (map f (take (k + 1) bs)))
flat-more f bs k b h e =
    ap (λ c. length (flat (map f (take k bs))) + length (f c)) e
    ∙ sym (ap (λ yss. length (flat yss)) (map_more f bs k b h) ∙ ap length (sym (flat_map_more (λ xs. xs) [] (map f (take k bs)) (f (get_or bs k b)))) ∙ length-append (flat (map f (take k bs))) (f (get_or bs k b)))

-- the bytes of all rows with one list more
pub deal-list : {X B : Type 0} (put : X → List ℕ) (f : B → List X) (bs : List B) (k : ℕ) (b : B) → k < length bs → b ≡ get_or bs k b →
    deal put 0 (map f (take k bs)) ++ each (λ x. k ∷ put x) (f b) ≡ deal put 0 (map f (take (k + 1) bs))
deal-list put f bs k b h e =
    ap (λ c. deal put 0 (map f (take k bs)) ++ each (λ x. k ∷ put x) (f c)) e
    ∙ ap (λ v. deal put 0 (map f (take k bs)) ++ each (λ x. v ∷ put x) (f (get_or bs k b))) (let l : k ≡ 0 + length (map f (take k bs)) = omega (arith, length-map (take k bs) f, length-take k bs) in l)
    ∙ sym (ap (deal put 0) (map_more f bs k b h) ∙ deal_push put 0 (map f (take k bs)) (f (get_or bs k b)))
