-- The turn of a loop over a list, where the invariant says that F of what is left gives the answer.
use Rattle.std.proofs.Common.{◌≡◌, ℕ, ◌+◌, ◌<◌, ◌≤◌, List, [], ◌∷◌, length, get_or, drop, sym, ap, ◌∙◌}
use Rattle.std.proofs.lemmas.List.{at_drop_more, at_drop_all}

module _ {X Y : Type 0} (F : List X → Y) (xs : List X) (i : ℕ) (r : Y) (inv : F (drop i xs) ≡ r) where
  pub turn : (x : X) → i < length xs → x ≡ get_or xs i x → F (x ∷ drop (i + 1) xs) ≡ r
  turn x h at = ap (λ y. F (y ∷ drop (i + 1) xs)) at ∙ sym (at_drop_more F xs i x h) ∙ inv

  pub end : length xs ≤ i → F [] ≡ r
  end h = sym (at_drop_all F xs i h) ∙ inv
