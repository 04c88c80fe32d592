-- The order that the definition gives is the only list that meets the rule, and where it stops there is none.
use Rattle.std.proofs.Common.{◌≡◌, ℕ, zero, suc, ◌+◌, ◌<◌, ◌≤◌, Bool, true, false, cond, not, ◌&&◌, ◌||◌, eqb, List, [], ◌∷◌, ◌++◌, length, get_or, take, Some, None, Option, Ordering, unwrap_or, sym, refl, ap, ◌∙◌, subst, inl, inr, ⊎_elim, add-one, arith}
use Rattle.std.specs.Ordering.{is_eq}
use Rattle.std.specs.Cmp.{IsTotalOrder}
use Rattle.std.proofs.lemmas.List.{take-append-le, take_at, get_or_append_left, get_or_at, length_push, take_all, take_more, length-take-le, get_or-take}
use Rattle.std.proofs.lemmas.Bool.{true≢false, cases_lt, cases_Bool, and_parts, and_from, not-true, not-false, lt-ltb, le-ltb, eqb-true, or_cases, or_left, or_right}
use Rattle.order.specs.declared.Need.{Need}
use Rattle.order.specs.Dependency.{Outcome, all, stuck, placed, times, settled, free, ready, next, left, placing, ordered}
use Rattle.order.specs.Law.{EachOnce, NeedsFirst, SmallestFirst, Lawful}
use Rattle.order.proofs.Counts.{total, total_le, total_all, total_full, total_most, total_least, times-placed, times_unplaced, times_push, times-at, stands}
use Rattle.order.proofs.Least.{smallest_passes, none_passes}

module _ {K : Type 0} (cmp : K → K → Ordering) where
  -- what is placed in a is placed in b
  abbrev Covers : List ℕ → List ℕ → Type 0
  Covers a b = (i : ℕ) → placed a i ≡ true → placed b i ≡ true

  more-settled : (a b : List ℕ) → Covers a b → (k : K) (j : ℕ) (xs : List K) → settled cmp a k j xs ≡ true → settled cmp b k j xs ≡ true
  more-settled a b f k j [] h = refl
  more-settled a b f k j (x ∷ xs) h =
      let p = and_parts (not (is_eq (cmp x k)) || placed a j) (settled cmp a k (j + 1) xs) h in
      and_from (not (is_eq (cmp x k)) || placed b j) (settled cmp b k (j + 1) xs)
      (⊎_elim (λ t. or_left (not (is_eq (cmp x k))) (placed b j) t) (λ t. or_right (not (is_eq (cmp x k))) (placed b j) (f j t)) (or_cases (not (is_eq (cmp x k))) (placed a j) p.0))
      (more-settled a b f k (j + 1) xs p.1)

  more-free : (a b : List ℕ) → Covers a b → (keys : List K) (i : ℕ) (ns : List (Need K)) → free cmp keys a i ns ≡ true → free cmp keys b i ns ≡ true
  more-free a b f keys i [] h = refl
  more-free a b f keys i (n ∷ ns) h =
      let p = and_parts (not (eqb n.item i) || settled cmp a n.key 0 keys) (free cmp keys a i ns) h in
      and_from (not (eqb n.item i) || settled cmp b n.key 0 keys) (free cmp keys b i ns)
      (⊎_elim (λ t. or_left (not (eqb n.item i)) (settled cmp b n.key 0 keys) t)
      (λ t. or_right (not (eqb n.item i)) (settled cmp b n.key 0 keys) (more-settled a b f n.key 0 keys t))
      (or_cases (not (eqb n.item i)) (settled cmp a n.key 0 keys) p.0))
      (more-free a b f keys i ns p.1)

module _ {K : Type 0} {R : K → K → Ordering} (o : IsTotalOrder R) (keys : List K) (needs : List (Need K)) where
  -- at most once each, and nothing but items
  abbrev Apart : List ℕ → Type 0
  Apart d = ((i : ℕ) → times d i ≤ 1) × ((i : ℕ) → length keys ≤ i → times d i ≡ 0)

  abbrev Sound : List ℕ → Type 0
  Sound d = SmallestFirst R keys needs d × NeedsFirst R keys needs d × Apart d

  sound_none : Sound []
  sound_none = (λ p h. absurd (omega arith), λ p h. absurd (omega arith), (λ i. omega arith, λ i h. refl))

  at_push : (P : List ℕ → ℕ → Type 0) (d : List ℕ) (x : ℕ) → ((p : ℕ) → p < length d → P (take p d) (get_or d p 0)) → P d x → (p : ℕ) → p < length (d ++ x ∷ []) → P (take p (d ++ x ∷ [])) (get_or (d ++ x ∷ []) p 0)
  at_push P d x f here p h =
      elim (cases_lt p (length d)) [
        | inl l ↦ subst (λ xs. P xs (get_or (d ++ x ∷ []) p 0)) (sym (take-append-le p d (x ∷ []) (omega arith))) (subst (P (take p d)) (sym (get_or_append_left d (x ∷ []) 0 p l)) (f p l))
        | inr l ↦
            let e : length d ≡ p = let n = length_push d x in omega arith in
            subst (λ xs. P xs (get_or (d ++ x ∷ []) p 0)) (sym (take_at d (x ∷ []) p e)) (subst (P d) (sym (get_or_at d x [] 0 p e)) here)
      ]

  apart_push : (d : List ℕ) (x : ℕ) → Apart d → x < length keys → placed d x ≡ false → Apart (d ++ x ∷ [])
  apart_push d x h l f = (λ i. once i (eqb x i) refl, λ i g. none i g (eqb x i) refl)
    where
      once : (i : ℕ) (b : Bool) → eqb x i ≡ b → times (d ++ x ∷ []) i ≤ 1
      once i true e =
          let z : times d i ≡ 0 = ap (times d) (sym (eqb-true x i e)) ∙ times_unplaced d x f in
          let s : times (d ++ x ∷ []) i ≡ times d i + 1 = times_push d x i ∙ ap (λ b. times d i + cond b 1 0) e in
          omega arith
      once i false e =
          let s : times (d ++ x ∷ []) i ≡ times d i + 0 = times_push d x i ∙ ap (λ b. times d i + cond b 1 0) e in
          let z = h.0 i in
          omega arith

      none : (i : ℕ) → length keys ≤ i → (b : Bool) → eqb x i ≡ b → times (d ++ x ∷ []) i ≡ 0
      none i g true e = let z = eqb-true x i e in absurd (omega arith)
      none i g false e =
          let s : times (d ++ x ∷ []) i ≡ times d i + 0 = times_push d x i ∙ ap (λ b. times d i + cond b 1 0) e in
          let z = h.1 i g in
          omega arith

  sound_push : (d : List ℕ) (x : ℕ) → Sound d → next R keys needs d ≡ Some x → Sound (d ++ x ∷ [])
  sound_push d x h e =
      let passes = smallest_passes o (ready R keys needs d) keys x e in
      let parts = and_parts (not (placed d x)) (free R keys d x needs) passes.1 in (
        at_push (λ xs y. next R keys needs xs ≡ Some y) d x h.0 e,
        at_push (λ xs y. free R keys xs y needs ≡ true) d x h.1 parts.1,
        apart_push d x h.2 passes.0 (not-true (placed d x) parts.0),
      )

  -- what the placing comes to
  abbrev Reached : ℕ → Outcome → Type 0
  Reached n (all d) = Sound d × (length d ≡ n)
  Reached n (stuck d i) = Sound d × (next R keys needs d ≡ None) × (i ≡ unwrap_or (left R keys d) 0) × (length d < n)

  reaches : (n m : ℕ) (d : List ℕ) → Sound d → length d + n ≡ m → Reached m (placing R keys needs n d)
  reaches zero m d h e = (h, omega arith)
  reaches (suc n) m d h e = by (next R keys needs d) refl (λ i g. reaches n m (d ++ i ∷ []) g (let s = length_push d i in omega arith))
    where
      by : (c : Option ℕ) → next R keys needs d ≡ c → ((i : ℕ) → Sound (d ++ i ∷ []) → Reached m (placing R keys needs n (d ++ i ∷ []))) → Reached m (elim c [ Some i ↦ placing R keys needs n (d ++ i ∷ []) | None ↦ stuck d (unwrap_or (left R keys d) 0) ])
      by (Some i) q go = go i (sound_push d i h q)
      by None q go = (h, q, refl, omega arith)

  each-once : (d : List ℕ) → Apart d → length d ≡ length keys → EachOnce (length keys) d
  each-once d h e i =
      elim (cases_lt i (length keys)) [
        | inl l ↦ total_full (length keys) d h.0 (total_all (length keys) d h.1 ∙ e) i l ∙ sym (ap (λ b. cond b 1 0) (lt-ltb i (length keys) l))
        | inr l ↦ h.1 i l ∙ sym (ap (λ b. cond b 1 0) (le-ltb i (length keys) l))
      ]

  -- two lists that meet the rule agree place by place
  fronts : (a b : List ℕ) → SmallestFirst R keys needs a → SmallestFirst R keys needs b → (p : ℕ) → p ≤ length a → p ≤ length b → take p a ≡ take p b
  fronts a b f g zero h k = refl
  fronts a b f g (suc p) h k =
      let before : take p a ≡ take p b = fronts a b f g p (omega arith) (omega arith) in
      let here : Some (get_or a p 0) ≡ Some (get_or b p 0) = sym (f p (omega arith)) ∙ ap (next R keys needs) before ∙ g p (omega arith) in
      let same : get_or a p 0 ≡ get_or b p 0 = cc in
      ap (λ n. take n a) (sym (add-one p)) ∙ take_more a p 0 (omega arith) ∙ (λ i. before i ++ same i ∷ []) ∙ sym (take_more b p 0 (omega arith)) ∙ ap (λ n. take n b) (add-one p)

  only : (a b : List ℕ) → SmallestFirst R keys needs a → SmallestFirst R keys needs b → length a ≡ length b → a ≡ b
  only a b f g e = sym (take_all (length a) a (omega arith)) ∙ fronts a b f g (length a) (omega arith) (omega arith) ∙ take_all (length a) b (omega arith)

  pub once-length : (d : List ℕ) → EachOnce (length keys) d → length d ≡ length keys
  once-length d h =
      let full : total (length keys) d ≡ length d = total_all (length keys) d (λ i l. h i ∙ ap (λ b. cond b 1 0) (le-ltb i (length keys) l)) in
      let most = total_most (length keys) d once in
      let least = total_least (length keys) d (λ i l. let e : times d i ≡ 1 = h i ∙ ap (λ b. cond b 1 0) (lt-ltb i (length keys) l) in omega arith) in
      omega arith
    where
      once : (i : ℕ) → times d i ≤ 1
      once i =
          elim (cases_lt i (length keys)) [
            | inl l ↦ let e : times d i ≡ 1 = h i ∙ ap (λ b. cond b 1 0) (lt-ltb i (length keys) l) in omega arith
            | inr l ↦ let e : times d i ≡ 0 = h i ∙ ap (λ b. cond b 1 0) (le-ltb i (length keys) l) in omega arith
          ]

  -- some item is left where fewer than all are placed
  not_all : (d : List ℕ) → length d < length keys → ((i : ℕ) → i < length keys → placed d i ≡ true) → ⊥
  not_all d h f =
      let most = total_le (length keys) d in
      let least = total_least (length keys) d (λ i l. times-placed d i (f i l)) in
      omega arith

  -- where nothing can come next, no list has all items with their needs before them
  no_order : (d other : List ℕ) → length d < length keys → next R keys needs d ≡ None → EachOnce (length keys) other → NeedsFirst R keys needs other → ⊥
  no_order d other h e once first =
      not_all d h (λ i l.
      let n : times other i ≡ 1 = once i ∙ ap (λ b. cond b 1 0) (lt-ltb i (length keys) l) in
      let at = stands other i (omega arith) in
      subst (λ x. placed d x ≡ true) at.2 (covered (length other) (omega arith) at.0 at.1))
    where
      item : (p : ℕ) → p < length other → get_or other p 0 < length keys
      item p l =
          elim (cases_lt (get_or other p 0) (length keys)) [
            | inl k ↦ k
            | inr k ↦ let z : times other (get_or other p 0) ≡ 0 = once (get_or other p 0) ∙ ap (λ b. cond b 1 0) (le-ltb (get_or other p 0) (length keys) k) in let s = times-at other p l in absurd (omega arith)
          ]

      place : (x : ℕ) → x < length keys → free R keys d x needs ≡ true → placed d x ≡ true
      place x l f =
          let unready : (not (placed d x) && free R keys d x needs) ≡ false = none_passes o (ready R keys needs d) keys e x l in
          elim (cases_Bool (placed d x)) [ inl t ↦ t | inr n ↦ absurd (true≢false (sym (λ i. not (n i) && f i) ∙ unready)) ]

      covered : (n : ℕ) → n ≤ length other → (p : ℕ) → p < n → placed d (get_or other p 0) ≡ true
      covered zero l p k = absurd (omega arith)
      covered (suc n) l p k =
          elim (cases_lt p n) [
            | inl m ↦ covered n (omega arith) p m
            | inr m ↦
                let q : p ≡ n = omega arith in
                let cov : Covers R (take n other) d = λ i t.
                let at = stands (take n other) i (times-placed (take n other) i t) in
                let len = length-take-le n other (omega arith) in
                let lt : at.0 < n = omega arith in
                subst (λ x. placed d x ≡ true) (sym (get_or-take n other at.0 0 lt) ∙ at.2) (covered n (omega arith) at.0 lt) in
                subst (λ r. placed d (get_or other r 0) ≡ true) (sym q) (place (get_or other n 0) (item n (omega arith)) (more-free R (take n other) d cov keys (get_or other n 0) needs (first n (omega arith))))
          ]

  lawful_at : (out : Outcome) → Reached (length keys) out → Lawful R keys needs out
  lawful_at (all d) h =
      ((each-once d h.0.2 h.1, h.0.1, h.0.0), λ other g. only other d g.2 h.0.0 (once-length other g.0 ∙ sym h.1))
  lawful_at (stuck d i) h = (
    λ other once first. no_order d other h.3 h.1 once first,
    none_passes o (ready R keys needs d) keys h.1,
    told (left R keys d) refl,
    h.0.0,
  )
    where
      told : (l : Option ℕ) → left R keys d ≡ l → left R keys d ≡ Some i
      told (Some k) e = e ∙ ap Some (sym (h.2 ∙ ap (λ x. unwrap_or x 0) e))
      told None e = absurd (not_all d h.3 (λ j l. not-false (placed d j) (none_passes o (λ j. not (placed d j)) keys e j l)))

  pub lawful : Lawful R keys needs (ordered R keys needs)
  lawful = lawful_at (ordered R keys needs) (reaches (length keys) (length keys) [] sound_none (omega arith))
