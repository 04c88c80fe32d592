-- A loop that reads the rows of several units, one unit a turn.
use Rattle.std.proofs.Common.{◌≡◌, ℕ, suc, ◌+◌, ◌-◌, ◌<◌, List, [], ◌∷◌, ◌++◌, Some, Option, ap, ◌∙◌, add-one, arith}
use Rattle.codec.specs.Format.{next}
use Rattle.codec.proofs.Many.{onto, onto-one}
use Rattle.image.specs.Dealt.{run, undeal}

module _ {X : Type 0} (get : List ℕ → Option (X × List ℕ)) (N units : ℕ) where
  abbrev more : ℕ → ℕ → List X × ℕ → List ℕ → Option (List (List X) × List ℕ)
  more unit k p cs = next (undeal get N unit k p.1 cs) (λ xss ds. Some (p.0 ∷ xss, ds))

  -- the turn of the unit at k, where R is what all give
  module _ (k rows : ℕ) (bs : List ℕ) (acc : List (List X)) (R : Option (List (List X) × List ℕ)) (h : k < units)
      (inv : onto acc (undeal get N k (units - k) rows bs) ≡ R) where
    turn : onto acc (next (run get k N rows bs) (more (k + 1) (units - (k + 1)))) ≡ R
    turn =
        let e : suc (units - (k + 1)) ≡ units - k = omega arith in
        ap (λ u. onto acc (next (run get k N rows bs) (more u (units - (k + 1))))) (add-one k) ∙ ap (λ n. onto acc (undeal get N k n rows bs)) e ∙ inv

    pub deal_goes : (xs : List X) (m : ℕ) (cs : List ℕ) → Some ((xs, m), cs) ≡ run get k N rows bs → onto (acc ++ xs ∷ []) (undeal get N (k + 1) (units - (k + 1)) m cs) ≡ R
    deal_goes xs m cs e =
        onto-one acc xs (undeal get N (k + 1) (units - (k + 1)) m cs)
        ∙ ap (λ o. onto acc (next o (more (k + 1) (units - (k + 1))))) e ∙ turn
