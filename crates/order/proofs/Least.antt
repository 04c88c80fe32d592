-- The smallest of the items that pass: how a loop finds it, and that there is one where any passes.
use Rattle.std.proofs.Common.{◌≡◌, ℕ, zero, suc, ◌+◌, ◌<◌, ◌≤◌, Bool, true, false, cond, not, ◌&&◌, List, [], ◌∷◌, length, get_or, is_some, IfSome, Some, None, Option, Ordering, sym, refl, ap, ◌∙◌, subst, ⊎_elim, add-one, arith, below_more}
use Rattle.std.specs.Option.{option_map}
use Rattle.std.specs.Ordering.{is_lt}
use Rattle.std.specs.Cmp.{IsStrictWeakOrder, IsTotalOrder}
use Rattle.std.proofs.lemmas.List.MinMax.{ranks_by}
use Rattle.std.proofs.lemmas.List.{get_or_default}
use Rattle.std.proofs.lemmas.Bool.{true≢false, both_ways, cases_Bool, and_parts, not-true, and_left}
use Rattle.order.specs.declared.Need.{Need}
use Rattle.order.specs.Dependency.{first, unbeaten, smallest, ready}

pub first_is : {X : Type 0} (p : ℕ → X → Bool) (xs : List X) (b : ℕ) (d : X) → b < length xs → p b (get_or xs b d) ≡ true → ((k : ℕ) → k < b → p k (get_or xs k d) ≡ false) → first p xs ≡ Some b
first_is p [] b d h t f = absurd (omega arith)
first_is p (x ∷ xs) zero d h t f = ap (λ c. cond c (Some 0) (option_map suc (first (λ i. p (suc i)) xs))) t
first_is p (x ∷ xs) (suc b) d h t f =
    let rest : first (λ i. p (suc i)) xs ≡ Some b = first_is (λ i. p (suc i)) xs b d (omega arith) t (λ k l. f (suc k) (omega arith)) in
    let head : p 0 x ≡ false = f 0 (omega arith) in
    λ i. cond (head i) (Some 0) (option_map suc (rest i))

pub first_none : {X : Type 0} (p : ℕ → X → Bool) (xs : List X) → ((k : ℕ) (d : X) → k < length xs → p k (get_or xs k d) ≡ false) → first p xs ≡ None
first_none p [] f = refl
first_none p (x ∷ xs) f =
    let rest : first (λ i. p (suc i)) xs ≡ None = first_none (λ i. p (suc i)) xs (λ k d l. f (suc k) d (omega arith)) in
    let head : p 0 x ≡ false = f 0 x (omega arith) in
    λ i. cond (head i) (Some 0) (option_map suc (rest i))

module _ {K : Type 0} {R : K → K → Ordering} (o : IsTotalOrder R) where
  abbrev pub lt : K → K → Bool
  lt x y = is_lt (R x y)

  ranks : IsStrictWeakOrder lt
  ranks = ranks_by o (λ x. x)

  pub lt_itself : (x : K) → lt x x ≡ false
  lt_itself x = ⊎_elim (λ t. ranks.one_way x x t) (λ f. f) (cases_Bool (lt x x))

  -- x is under y, which is not over z
  under : (x y z : K) → lt x y ≡ true → lt z y ≡ false → lt x z ≡ true
  under x y z h k = ⊎_elim (λ t. t) (λ f. absurd (both_ways (lt x y) (ranks.chain x z y f k) h)) (cases_Bool (lt x z))

  pub unbeaten_from : (test : ℕ → Bool) (k : K) (xs : List K) (d : K) → ((i : ℕ) → i < length xs → test i ≡ true → lt (get_or xs i d) k ≡ false) → unbeaten R test k xs ≡ true
  unbeaten_from test k [] d f = refl
  unbeaten_from test k (x ∷ xs) d f =
      let rest : unbeaten R (λ i. test (suc i)) k xs ≡ true = unbeaten_from (λ i. test (suc i)) k xs d (λ i l. f (suc i) (omega arith)) in
      let head : (test 0 && lt x k) ≡ false = ⊎_elim (λ t. (λ i. t i && f 0 (omega arith) t i)) (λ e. ap (λ b. b && lt x k) e) (cases_Bool (test 0)) in
      λ i. not (head i) && rest i

  pub unbeaten_to : (test : ℕ → Bool) (k : K) (xs : List K) (d : K) → unbeaten R test k xs ≡ true → (i : ℕ) → i < length xs → test i ≡ true → lt (get_or xs i d) k ≡ false
  unbeaten_to test k [] d h i l t = absurd (omega arith)
  unbeaten_to test k (x ∷ xs) d h zero l t =
      let p = not-true (test 0 && lt x k) (and_parts (not (test 0 && lt x k)) (unbeaten R (λ i. test (suc i)) k xs) h).0 in
      ap (λ b. b && lt x k) (sym t) ∙ p
  unbeaten_to test k (x ∷ xs) d h (suc i) l t =
      unbeaten_to (λ i. test (suc i)) k xs d (and_parts (not (test 0 && lt x k)) (unbeaten R (λ i. test (suc i)) k xs) h).1 i (omega arith) t

  -- b is the first of the smallest of the items below n that pass
  abbrev pub Least : (ℕ → Bool) → List K → ℕ → Option ℕ → Type 0
  Least test keys n None = (k : ℕ) → k < n → test k ≡ false
  Least test keys n (Some b) = (b < n) × (test b ≡ true) × ((k : ℕ) → k < n → (d : K) → test k ≡ true → lt (get_or keys k d) (get_or keys b d) ≡ false) × ((k : ℕ) (d : K) → k < b → test k ≡ true → lt (get_or keys b d) (get_or keys k d) ≡ true)

  module _ (test : ℕ → Bool) (keys : List K) (n : ℕ) where
    pub passes_over : (b : Option ℕ) → Least test keys n b → test n ≡ false → Least test keys (n + 1) b
    passes_over None h f = below_more (λ k. test k ≡ false) n h f
    passes_over (Some b) h f =
        (omega arith, h.1, below_more (λ k. (d : K) → test k ≡ true → lt (get_or keys k d) (get_or keys b d) ≡ false) n h.2 (λ d t. absurd (both_ways (test n) f t)), h.3)

    pub takes_first : Least test keys n None → test n ≡ true → Least test keys (n + 1) (Some n)
    takes_first h t =
        (omega arith, t, below_more (λ k. (d : K) → test k ≡ true → lt (get_or keys k d) (get_or keys n d) ≡ false) n (λ k l d p. absurd (both_ways (test k) (h k l) p)) (λ d _. lt_itself (get_or keys n d)), λ k d l p. absurd (both_ways (test k) (h k l) p))

    pub takes_less : (b : ℕ) → Least test keys n (Some b) → test n ≡ true → ((d : K) → lt (get_or keys n d) (get_or keys b d) ≡ true) → Least test keys (n + 1) (Some n)
    takes_less b h t less = (
      omega arith,
      t,
      below_more (λ k. (d : K) → test k ≡ true → lt (get_or keys k d) (get_or keys n d) ≡ false) n
          (λ k l d p. ranks.chain (get_or keys k d) (get_or keys b d) (get_or keys n d) (h.2 k l d p) (ranks.one_way (get_or keys n d) (get_or keys b d) (less d)))
          (λ d _. lt_itself (get_or keys n d)),
      λ k d l p. under (get_or keys n d) (get_or keys b d) (get_or keys k d) (less d) (h.2 k l d p),
    )

    pub keeps_less : (b : ℕ) → Least test keys n (Some b) → ((d : K) → lt (get_or keys n d) (get_or keys b d) ≡ false) → Least test keys (n + 1) (Some b)
    keeps_less b h more =
        (omega arith, h.1, below_more (λ k. (d : K) → test k ≡ true → lt (get_or keys k d) (get_or keys b d) ≡ false) n h.2 (λ d _. more d), h.3)

  -- the first of the smallest is the one that the definition finds
  pub least_is : (test : ℕ → Bool) (keys : List K) (b : Option ℕ) → Least test keys (length keys) b → smallest R test keys ≡ b
  least_is test [] None h = refl
  least_is test [] (Some b) h = absurd (omega arith)
  least_is test (x ∷ xs) None h = first_none (λ i k. test i && unbeaten R test k (x ∷ xs)) (x ∷ xs) (λ k d l. and_left (test k) (unbeaten R test (get_or (x ∷ xs) k d) (x ∷ xs)) (h k l))
  least_is test (x ∷ xs) (Some b) h =
      first_is (λ i k. test i && unbeaten R test k (x ∷ xs)) (x ∷ xs) b x h.0
      (λ i. h.1 i && unbeaten_from test (get_or (x ∷ xs) b x) (x ∷ xs) x (λ k l t. h.2 k l x t) i)
      (λ k l. earlier k l (test k) refl (unbeaten R test (get_or (x ∷ xs) k x) (x ∷ xs)) refl)
    where
      earlier : (k : ℕ) → k < b → (t : Bool) → test k ≡ t → (u : Bool) → unbeaten R test (get_or (x ∷ xs) k x) (x ∷ xs) ≡ u → (t && u) ≡ false
      earlier k l false p u q = refl
      earlier k l true p false q = refl
      earlier k l true p true q = absurd (both_ways (lt (get_or (x ∷ xs) b x) (get_or (x ∷ xs) k x)) (unbeaten_to test (get_or (x ∷ xs) k x) (x ∷ xs) x q b h.0 h.1) (h.3 k x l p))

-- what a loop over the items holds at place i: the best of those before that are ready
abbrev pub Held : {K : Type 0} (R : K → K → Ordering) → List K → List (Need K) → List ℕ → ℕ → Option ℕ → Type 0
Held R keys needs done i best = IfSome best (λ b. b < length keys) × ((o : IsTotalOrder R) → Least o (ready R keys needs done) keys i best)

module _ {K : Type 0} (R : K → K → Ordering) (keys : List K) (needs : List (Need K)) (done : List ℕ) (i : ℕ) (r : Bool) (is : (o : IsTotalOrder R) → r ≡ ready R keys needs done i) where
  pub held_over : (best new : Option ℕ) → Held R keys needs done i best → new ≡ best → r ≡ false → Held R keys needs done (i + 1) new
  held_over best new h e f =
      subst (λ b. Held R keys needs done (i + 1) b) (sym e) (h.0, λ o. passes_over o (ready R keys needs done) keys i best (h.1 o) (sym (is o) ∙ f))

  pub held_first : (best new : Option ℕ) → i < length keys → Held R keys needs done i best → best ≡ None → new ≡ Some i → r ≡ true → Held R keys needs done (i + 1) new
  held_first best new l h n e t =
      let h' : Held R keys needs done i None = subst (λ b. Held R keys needs done i b) n h in
      subst (λ b. Held R keys needs done (i + 1) b) (sym e) (l, λ o. takes_first o (ready R keys needs done) keys i (h'.1 o) (sym (is o) ∙ t))

  module _ (b : ℕ) (best new : Option ℕ) (h : Held R keys needs done i best) (n : best ≡ Some b) (s : Bool) (less : (o : IsTotalOrder R) (d : K) → s ≡ is_lt (R (get_or keys i d) (get_or keys b d))) where
    pub held_more : s ≡ false → new ≡ Some b → Held R keys needs done (i + 1) new
    held_more f e =
        let h' : Held R keys needs done i (Some b) = subst (λ b. Held R keys needs done i b) n h in
        subst (λ b. Held R keys needs done (i + 1) b) (sym e) (h'.0, λ o. keeps_less o (ready R keys needs done) keys i b (h'.1 o) (λ d. sym (less o d) ∙ f))

    pub held_less : i < length keys → r ≡ true → s ≡ true → new ≡ Some i → Held R keys needs done (i + 1) new
    held_less l t f e =
        let h' : Held R keys needs done i (Some b) = subst (λ b. Held R keys needs done i b) n h in
        subst (λ b. Held R keys needs done (i + 1) b) (sym e) (l, λ o. takes_less o (ready R keys needs done) keys i b (h'.1 o) (sym (is o) ∙ t) (λ d. sym (less o d) ∙ f))

module _ {K : Type 0} {R : K → K → Ordering} (o : IsTotalOrder R) (test : ℕ → Bool) (keys : List K) where
  tries : (n b : ℕ) (d : K) → n < length keys → Least o test keys n (Some b) → test n ≡ true → (s : Bool) → lt o (get_or keys n d) (get_or keys b d) ≡ s → (b' : Option ℕ) × Least o test keys (n + 1) b'
  tries n b d l h e true q = (Some n, takes_less o test keys n b h e (λ d'. (λ i. lt o (get_or_default keys n d' d l i) (get_or_default keys b d' d (omega arith) i)) ∙ q))
  tries n b d l h e false q = (Some b, keeps_less o test keys n b h (λ d'. (λ i. lt o (get_or_default keys n d' d l i) (get_or_default keys b d' d (omega arith) i)) ∙ q))

  step : (n : ℕ) (b : Option ℕ) (d : K) → n < length keys → Least o test keys n b → (t : Bool) → test n ≡ t → (b' : Option ℕ) × Least o test keys (n + 1) b'
  step n b d l h false e = (b, passes_over o test keys n b h e)
  step n None d l h true e = (Some n, takes_first o test keys n h e)
  step n (Some b) d l h true e = tries n b d l h e (lt o (get_or keys n d) (get_or keys b d)) refl

  -- the best of the first n items
  least_exists : (n : ℕ) → K → n ≤ length keys → (b : Option ℕ) × Least o test keys n b
  least_exists zero d h = (None, λ k l. absurd (omega arith))
  least_exists (suc n) d h =
      let before = least_exists n d (omega arith) in
      let more = step n before.0 d (omega arith) before.1 (test n) refl in
      (more.0, subst (λ k. Least o test keys k more.0) (add-one n) more.1)

-- what the smallest says: it passes, and where there is none nothing passes
pub smallest_least : {K : Type 0} {R : K → K → Ordering} (o : IsTotalOrder R) (test : ℕ → Bool) (keys : List K) → Least o test keys (length keys) (smallest R test keys)
smallest_least o test [] = λ k l. absurd (omega arith)
smallest_least o test (x ∷ xs) =
    let best = least_exists o test (x ∷ xs) (length (x ∷ xs)) x (omega arith) in
    subst (λ b. Least o test (x ∷ xs) (length (x ∷ xs)) b) (sym (least_is o test (x ∷ xs) best.0 best.1)) best.1

module _ {K : Type 0} {R : K → K → Ordering} (o : IsTotalOrder R) (test : ℕ → Bool) (keys : List K) where
  at-smallest : (b : Option ℕ) → smallest R test keys ≡ b → Least o test keys (length keys) b
  at-smallest b e = subst (λ b. Least o test keys (length keys) b) e (smallest_least o test keys)

  pub smallest_passes : (i : ℕ) → smallest R test keys ≡ Some i → (i < length keys) × (test i ≡ true)
  smallest_passes i e = let h = at-smallest (Some i) e in (h.0, h.1)

  pub none_passes : smallest R test keys ≡ None → (i : ℕ) → i < length keys → test i ≡ false
  none_passes e = at-smallest None e

-- tests that agree on the items have one smallest
pub smallest-same : {K : Type 0} {R : K → K → Ordering} (o : IsTotalOrder R) (s t : ℕ → Bool) (keys : List K) → ((i : ℕ) → i < length keys → t i ≡ s i) → smallest R s keys ≡ smallest R t keys
smallest-same {R = R} o s t keys same = sym (least_is o t keys (smallest R s keys) (moved (smallest R s keys) (smallest_least o s keys)))
  where
    moved : (b : Option ℕ) → Least o s keys (length keys) b → Least o t keys (length keys) b
    moved None h = λ k l. same k l ∙ h k l
    moved (Some b) h = (h.0, same b h.0 ∙ h.1, (λ k l d p. h.2 k l d (sym (same k l) ∙ p)), λ k d l p. h.3 k d l (sym (same k (let z = h.0 in omega arith)) ∙ p))

-- the first that passes is one of the list
pub first_below : {X : Type 0} (p : ℕ → X → Bool) (xs : List X) (i : ℕ) → first p xs ≡ Some i → i < length xs
first_below p [] i h = absurd (true≢false (sym (ap is_some h)))
first_below p (x ∷ xs) i h = by (p 0 x) refl (first (λ k. p (suc k)) xs) refl (λ j e. first_below (λ k. p (suc k)) xs j e)
  where
    by : (b : Bool) → p 0 x ≡ b → (r : Option ℕ) → first (λ k. p (suc k)) xs ≡ r → ((j : ℕ) → first (λ k. p (suc k)) xs ≡ Some j → j < length xs) → i < length (x ∷ xs)
    by true e r q go = let z : Some 0 ≡ Some i = sym (ap (λ b. cond b (Some 0) (option_map suc (first (λ k. p (suc k)) xs))) e) ∙ h in let y : ◌≡◌ {A = ℕ} 0 i = cc in omega arith
    by false e None q go = absurd (true≢false (sym (ap is_some (sym (ap (λ b. cond b (Some 0) (option_map suc (first (λ k. p (suc k)) xs))) e ∙ ap (option_map suc) q) ∙ h))))
    by false e (Some j) q go =
        let z : Some (suc j) ≡ Some i = sym (ap (λ b. cond b (Some 0) (option_map suc (first (λ k. p (suc k)) xs))) e ∙ ap (option_map suc) q) ∙ h in
        let y : suc j ≡ i = cc in
        let l = go j q in
        omega arith
