-- How often items are placed, summed over all items.
use Rattle.std.proofs.Common.{◌≡◌, ℕ, zero, suc, ◌+◌, ◌<◌, ◌≤◌, Bool, true, false, cond, ◌||◌, eqb, ltb, List, [], ◌∷◌, ◌++◌, length, get_or, sym, refl, ap, ◌∙◌, subst, inl, inr, arith}
use Rattle.std.proofs.lemmas.Bool.{true≢false, both_ways, eq-eqb, eqb-true, lt-ltb, cases_lt}
use Rattle.std.proofs.lemmas.Bool.Decides.{nat_tests}
use Rattle.order.specs.Dependency.{placed, times}

pub total : ℕ → List ℕ → ℕ
total zero d = 0
total (suc n) d = times d n + total n d

hit : ℕ → ℕ → ℕ
hit x i = cond (eqb x i) 1 0

below : ℕ → ℕ → ℕ
below x n = cond (ltb x n) 1 0

below_more : (x n : ℕ) → hit x n + below x n ≡ below x (suc n)
unfolding hit below
below_more x n = grind (arith, nat_tests)

below_none : (x : ℕ) → below x 0 ≡ 0
unfolding below
below_none x = grind (arith, nat_tests)

total_nil : (n : ℕ) → total n [] ≡ 0
unfolding total
total_nil zero = refl
total_nil (suc n) = let r = total_nil n in omega arith

total_cons : (n x : ℕ) (d : List ℕ) → total n (x ∷ d) ≡ below x n + total n d
unfolding total hit
total_cons zero x d = let z = below_none x in omega arith
total_cons (suc n) x d = let m = below_more x n in let r = total_cons n x d in omega arith

below_one : (x n : ℕ) → below x n ≤ 1
unfolding below
below_one x n = grind (arith, nat_tests)

pub total_le : (n : ℕ) (d : List ℕ) → total n d ≤ length d
total_le n [] = let z = total_nil n in omega arith
total_le n (x ∷ d) = let e = total_cons n x d in let r = total_le n d in let b = below_one x n in omega arith

times_self : (x : ℕ) (d : List ℕ) → times (x ∷ d) x ≡ 1 + times d x
times_self x d = ap (λ b. cond b 1 0 + times d x) (eq-eqb x x refl)

below_is : (x n : ℕ) → x < n → below x n ≡ 1
unfolding below
below_is x n h = ap (λ b. cond b 1 0) (lt-ltb x n h)

-- nothing but items below n
pub total_all : (n : ℕ) (d : List ℕ) → ((i : ℕ) → n ≤ i → times d i ≡ 0) → total n d ≡ length d
total_all n [] f = total_nil n
total_all n (x ∷ d) f =
    let small : x < n = under in
    let e = total_cons n x d in
    let b = below_is x n small in
    let r = total_all n d (λ i h. let z = f i h in omega arith) in
    omega arith
  where
    under : x < n
    under = elim (cases_lt x n) [ inl h ↦ h | inr h ↦ let z = f x h in let s = times_self x d in absurd (omega arith) ]

-- each at most once, and n of them in all: each once
pub total_most : (n : ℕ) (d : List ℕ) → ((i : ℕ) → times d i ≤ 1) → total n d ≤ n
unfolding total
total_most zero d f = omega arith
total_most (suc n) d f = let a = f n in let r = total_most n d f in omega arith

pub total_full : (n : ℕ) (d : List ℕ) → ((i : ℕ) → times d i ≤ 1) → total n d ≡ n → (i : ℕ) → i < n → times d i ≡ 1
unfolding total
total_full zero d f e i h = absurd (omega arith)
total_full (suc n) d f e i h =
    let r = total_most n d f in
    let a = f n in
    let here : times d n ≡ 1 = omega arith in
    elim (cases_lt i n) [ inl l ↦ total_full n d f (omega arith) i l | inr l ↦ let same : n ≡ i = omega arith in ap (times d) (sym same) ∙ here ]

-- each at least once: as many as there are items
pub total_least : (n : ℕ) (d : List ℕ) → ((i : ℕ) → i < n → 1 ≤ times d i) → n ≤ total n d
unfolding total
total_least zero d f = omega arith
total_least (suc n) d f = let a = f n (omega arith) in let r = total_least n d (λ i h. f i (omega arith)) in omega arith

-- placed, and placed how often
pub times-placed : (d : List ℕ) (i : ℕ) → placed d i ≡ true → 1 ≤ times d i
times-placed [] i h = absurd (true≢false (sym h))
times-placed (x ∷ d) i h = by (eqb x i) refl (times-placed d i)
  where
    by : (b : Bool) → eqb x i ≡ b → (placed d i ≡ true → 1 ≤ times d i) → 1 ≤ times (x ∷ d) i
    by true e r = subst (λ b. 1 ≤ cond b 1 0 + times d i) (sym e) (omega arith)
    by false e r = let k = r (subst (λ b. (b || placed d i) ≡ true) e h) in subst (λ b. 1 ≤ cond b 1 0 + times d i) (sym e) (omega arith)

pub placed-times : (d : List ℕ) (i : ℕ) → 1 ≤ times d i → placed d i ≡ true
placed-times [] i h = absurd (omega arith)
placed-times (x ∷ d) i h = by (eqb x i) refl (placed-times d i)
  where
    by : (b : Bool) → eqb x i ≡ b → (1 ≤ times d i → placed d i ≡ true) → (eqb x i || placed d i) ≡ true
    by true e r = ap (λ b. b || placed d i) e
    by false e r = let k : 1 ≤ 0 + times d i = subst (λ b. 1 ≤ cond b 1 0 + times d i) e h in ap (λ b. b || placed d i) e ∙ r (omega arith)

pub times_unplaced : (d : List ℕ) (i : ℕ) → placed d i ≡ false → times d i ≡ 0
times_unplaced d i h = elim (cases_lt 0 (times d i)) [ inl l ↦ absurd (both_ways (placed d i) h (placed-times d i l)) | inr l ↦ omega arith ]

pub times_push : (d : List ℕ) (x i : ℕ) → times (d ++ x ∷ []) i ≡ times d i + cond (eqb x i) 1 0
times_push [] x i = omega arith
times_push (y ∷ d) x i = let r = times_push d x i in omega arith

-- what stands in a list is placed
pub times-at : (d : List ℕ) (p : ℕ) → p < length d → 1 ≤ times d (get_or d p 0)
times-at [] p h = absurd (omega arith)
times-at (x ∷ d) zero h = let e = times_self x d in omega arith
times-at (x ∷ d) (suc p) h = let r = times-at d p (omega arith) in omega arith

-- and where it stands
pub stands : (d : List ℕ) (i : ℕ) → 1 ≤ times d i → (p : ℕ) × (p < length d) × (get_or d p 0 ≡ i)
stands [] i h = absurd (omega arith)
stands (x ∷ d) i h = by (eqb x i) refl (stands d i)
  where
    by : (b : Bool) → eqb x i ≡ b → (1 ≤ times d i → (p : ℕ) × (p < length d) × (get_or d p 0 ≡ i)) → (p : ℕ) × (p < length (x ∷ d)) × (get_or (x ∷ d) p 0 ≡ i)
    by true e r = (0, omega arith, eqb-true x i e)
    by false e r =
        let k : 1 ≤ 0 + times d i = subst (λ b. 1 ≤ cond b 1 0 + times d i) e h in
        let at = r (omega arith) in
        (suc at.0, omega arith, at.2)
