-- A loop over a list that gathers F of it behind what is held.
use Rattle.std.proofs.Common.{◌≡◌, ℕ, ◌+◌, ◌<◌, Bool, cond, ltb, List, [], ◌∷◌, ◌++◌, length, get_or, drop, sym, ap, ◌∙◌}
use Rattle.std.proofs.lemmas.List.{append_assoc}
use Rattle.std.proofs.lemmas.Bool.{lt-ltb}
use Rattle.grammar.proofs.Turns.{turn}

module _ {X Y : Type 0} (F : List X → List Y) (xs : List X) (i : ℕ) (h r : List Y) (inv : h ++ F (drop i xs) ≡ r) where
  -- G says what is still to gather behind the element
  pub gathers : (G : List X → List Y) (x : X) (ys more : List Y) → i < length xs → x ≡ get_or xs i x → F (x ∷ drop (i + 1) xs) ≡ ys ++ G (drop (i + 1) xs) → more ≡ h ++ ys → more ++ G (drop (i + 1) xs) ≡ r
  gathers G x ys more l at step e =
      ap (λ m. m ++ G (drop (i + 1) xs)) e ∙ append_assoc h ys (G (drop (i + 1) xs)) ∙ ap (λ m. h ++ m) (sym step)
      ∙ turn (λ zs. h ++ F zs) xs i r inv x l at

-- a push for which there is room
pub pushed : {X : Type 0} (h more : List X) (x : X) (n : ℕ) (r : Bool) → length h < n → r ≡ ltb (length h) n → more ≡ cond r (h ++ x ∷ []) h → more ≡ h ++ x ∷ []
pushed h more x n r l e f = f ∙ ap (λ b. cond b (h ++ x ∷ []) h) (e ∙ lt-ltb (length h) n l)
