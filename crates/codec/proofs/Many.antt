-- A loop that reads so many elements, one a turn: what it has, put before what the rest gives, is what all give.
use Rattle.std.proofs.Common.{◌≡◌, ℕ, suc, ◌+◌, ◌-◌, ◌<◌, Bool, List, [], ◌∷◌, ◌++◌, map, Some, None, Option, Ok, Err, Result, is_ok, refl, ap, ◌∙◌, append_assoc, arith, length, length-append}
use Rattle.std.proofs.lemmas.List.{map_push}
use Rattle.codec.specs.Format.{next, passing, many, filled}

-- elements before those that were read
abbrev pub onto : {X : Type 0} → List X → Option (List X × List ℕ) → Option (List X × List ℕ)
onto acc None = None
onto acc (Some p) = Some (acc ++ p.0, p.1)

module _ {X : Type 0} where
  -- how many there are with one more at the end
  pub one_more : (xs ys : List X) (x : X) (i : ℕ) → ys ≡ xs ++ x ∷ [] → length xs ≡ i → length ys ≡ i + 1
  one_more xs ys x i e h = ap length e ∙ length-append xs (x ∷ []) ∙ ap (λ n. n + 1) h

  pub onto-one : (acc : List X) (x : X) (o : Option (List X × List ℕ)) → onto (acc ++ x ∷ []) o ≡ onto acc (next o (λ xs ds. Some (x ∷ xs, ds)))
  onto-one acc x None = refl
  onto-one acc x (Some p) = ap (λ zs. Some (zs, p.1)) (append_assoc acc (x ∷ []) p.0)

  -- the turn at place i of n, where R is what all give
  module _ (n i : ℕ) (get : List ℕ → Option (X × List ℕ)) (bs : List ℕ) (acc : List X) (R : Option (List X × List ℕ)) (h : i < n)
      (inv : onto acc (many (n - i) get bs) ≡ R) where
    turn : onto acc (next (get bs) (λ x cs. next (many (n - (i + 1)) get cs) (λ xs ds. Some (x ∷ xs, ds)))) ≡ R
    turn = let e : suc (n - (i + 1)) ≡ n - i = omega arith in ap (λ k. onto acc (many k get bs)) e ∙ inv

    pub many_goes : (x : X) (cs : List ℕ) → Some (x, cs) ≡ get bs → onto (acc ++ x ∷ []) (many (n - (i + 1)) get cs) ≡ R
    many_goes x cs e =
        onto-one acc x (many (n - (i + 1)) get cs)
        ∙ ap (λ o. onto acc (next o (λ y ds. next (many (n - (i + 1)) get ds) (λ xs es. Some (y ∷ xs, es))))) e ∙ turn

  -- the same, where what the turn adds is seen by f
  pub many_adds : {B : Type 0} (f : B → X) (n i : ℕ) (get : List ℕ → Option (X × List ℕ)) (bs : List ℕ) (us now : List B) (R : Option (List X × List ℕ)) (b : B) (cs : List ℕ) →
      i < n → onto (map f us) (many (n - i) get bs) ≡ R → now ≡ us ++ b ∷ [] → Some (f b, cs) ≡ get bs → onto (map f now) (many (n - (i + 1)) get cs) ≡ R
  many_adds f n i get bs us now R b cs h inv e read =
      ap (λ zs. onto (map f zs) (many (n - (i + 1)) get cs)) e
      ∙ ap (λ xs. onto xs (many (n - (i + 1)) get cs)) (map_push f us b)
      ∙ many_goes n i get bs (map f us) R h inv (f b) cs read

-- a test of what was read
pub tested_as : {X Y : Type 0} (t : X → Bool) (o : Option (X × List ℕ)) (x : X) (bs : List ℕ) (r : Result (Unit {0}) Y) → Some (x, bs) ≡ o → is_ok r ≡ t x → filled r x bs ≡ next o (λ y cs. passing (t y) y cs)
tested_as t o x bs (Ok u) read e = ap (λ b. passing b x bs) e ∙ ap (λ p. next p (λ y cs. passing (t y) y cs)) read
tested_as t o x bs (Err y) read e = ap (λ b. passing b x bs) e ∙ ap (λ p. next p (λ y cs. passing (t y) y cs)) read
