-- A loop over a list that answers a test defined by recursion over the list: the invariant says that the test of what is left is the test of all.
-- The test may also count the places: F j takes the elements from place j on.
use Rattle.std.proofs.Common.{◌≡◌, ℕ, ◌+◌, ◌<◌, ◌≤◌, Bool, true, false, ◌&&◌, List, [], ◌∷◌, length, get_or, drop, sym, ap, ◌∙◌}
use Rattle.std.proofs.lemmas.List.{at_drop_more, at_drop_all}

-- at each element p and the rest are joined by `op`
module _ {X : Type 0} (op : Bool → Bool → Bool) (F : ℕ → List X → Bool) (p : ℕ → X → Bool) (more : (j : ℕ) (x : X) (xs : List X) → F j (x ∷ xs) ≡ op (p j x) (F (j + 1) xs)) where
  -- the turn at place j, where the element decides nothing
  pub test_goes : (xs : List X) (j : ℕ) (d : X) (r b : Bool) → j < length xs → F j (drop j xs) ≡ r → p j (get_or xs j d) ≡ b → op b (F (j + 1) (drop (j + 1) xs)) ≡ r
  test_goes xs j d r b h inv is = sym (at_drop_more (F j) xs j d h ∙ more j (get_or xs j d) (drop (j + 1) xs) ∙ ap (λ a. op a (F (j + 1) (drop (j + 1) xs))) is) ∙ inv

  -- the same, where the element was read as x
  pub test_reads : (xs : List X) (j : ℕ) (x : X) (r b : Bool) → j < length xs → F j (drop j xs) ≡ r → x ≡ get_or xs j x → p j x ≡ b → op b (F (j + 1) (drop (j + 1) xs)) ≡ r
  test_reads xs j x r b h inv read is = test_goes xs j x r b h inv (ap (p j) (sym read) ∙ is)

-- F passes where p passes each element
module _ {X : Type 0} (F : List X → Bool) (p : X → Bool) (more : (x : X) (xs : List X) → F (x ∷ xs) ≡ (p x && F xs)) where
  pub every_goes : (xs : List X) (i : ℕ) (d : X) → i < length xs → F (drop i xs) ≡ F xs → p (get_or xs i d) ≡ true → F (drop (i + 1) xs) ≡ F xs
  every_goes xs i d h inv passes = test_goes ◌&&◌ (λ _. F) (λ _. p) (λ _. more) xs i d (F xs) true h inv passes

  pub every_stops : (xs : List X) (i : ℕ) (d : X) → i < length xs → F (drop i xs) ≡ F xs → p (get_or xs i d) ≡ false → false ≡ F xs
  every_stops xs i d h inv fails = test_goes ◌&&◌ (λ _. F) (λ _. p) (λ _. more) xs i d (F xs) false h inv fails

pub test_ends : {X : Type 0} (F : List X → Bool) (xs : List X) (i : ℕ) → length xs ≤ i → F (drop i xs) ≡ F xs → F [] ≡ F xs
test_ends F xs i h inv = sym (at_drop_all F xs i h) ∙ inv
