-- The slots of an area in order, as a walk through it finds them.
use Rattle.std.proofs.Common.{◌≡◌, ℕ, zero, suc, ◌+◌, ◌-◌, ◌*◌, ◌/◌, ◌<◌, ◌≤◌, true, false, List, [], ◌∷◌, ◌++◌, length, get_or, take, drop, Some, None, Option, MatchOption, sym, refl, ap, ◌∙◌, subst, inl, inr, add-one, arith, length-append}
use Rattle.std.specs.Iterator.{AlwaysYields}
use Rattle.std.specs.List.{AllWithin, HoldsAt}
use Rattle.std.specs.Slice.Iter.{chunks_exact_rest, chunks_exact_size, chunks_exact_steps}
use Rattle.std.specs.Iterator.Adapters.{take_source, take_count, take_steps}
use Rattle.std.proofs.lemmas.Iterator.{YieldsList, YieldsList-from_take}
use Rattle.std.proofs.lemmas.List.{take_at, drop_at, drop-drop}
use Rattle.std.specs.Option.{option_map}
use Rattle.store.specs.Pairs.{has, lookup}
use Rattle.store.proofs.Pairs.{none_from}
use Rattle.area.specs.Layout.{slot_size, rows_of, live, content, holds, held}
use Rattle.area.proofs.Records.{has-held}
use Rattle.slot.specs.Slots.{slot, slot_pairs, SlotOf, SlotFor}
use Rattle.slot.proofs.Gathered.{has_more, length-held, length_more}
use Rattle.slot.proofs.Changes.{found}

-- the first n slots
abbrev pub cuts : ℕ → List ℕ → List (List ℕ)
cuts zero xs = []
cuts (suc n) xs = take slot_size xs ∷ cuts n (drop slot_size xs)

length-cuts : (n : ℕ) (xs : List ℕ) → length (cuts n xs) ≡ n
length-cuts zero xs = refl
length-cuts (suc n) xs = ap suc (length-cuts n (drop slot_size xs))

get_or-cuts : (n : ℕ) (xs : List ℕ) (k : ℕ) (d : List ℕ) → k < n → get_or (cuts n xs) k d ≡ slot xs k
get_or-cuts zero xs k d h = absurd (omega arith)
get_or-cuts (suc n) xs zero d h = refl
get_or-cuts (suc n) xs (suc k) d h =
    let a : ℕ = k * slot_size in
    let e : slot_size + a ≡ suc k * slot_size = omega arith in
    let same : (a + slot_size) - a ≡ (suc k * slot_size + slot_size) - suc k * slot_size = omega arith in
    get_or-cuts n (drop slot_size xs) k d (omega arith)
    ∙ (λ i. take (same i) ((drop-drop a slot_size xs ∙ ap (λ (x : ℕ). drop x xs) e) i))

take-cuts : (m n : ℕ) (xs : List ℕ) → m ≤ n → take m (cuts n xs) ≡ cuts m xs
take-cuts zero n xs h = refl
take-cuts (suc m) zero xs h = absurd (omega arith)
take-cuts (suc m) (suc n) xs h = ap (λ (x : List (List ℕ)). take slot_size xs ∷ x) (take-cuts m n (drop slot_size xs) (omega arith))

cuts_come : (n : ℕ) (s : _) → chunks_exact_size s ≡ slot_size → n * slot_size ≤ length (chunks_exact_rest s) → length (chunks_exact_rest s) < suc n * slot_size → AlwaysYields (chunks_exact_steps {A = ℕ}) (λ y. y.now) s (cuts n (chunks_exact_rest s))
cuts_come zero s size low high =
    λ x j h. let l = ap length h.1.0 in let m = length-append x.now (chunks_exact_rest j) in let k = h.1.1 in absurd (omega arith)
cuts_come (suc n) s size low high = (
  (λ j h. let k = h.1.0 in absurd (omega arith)),
  (λ x j h.
      let e : chunks_exact_rest s ≡ x.now ++ chunks_exact_rest j = h.1.0 in
      let k : length x.now ≡ slot_size = h.1.1 ∙ size in
      let front : take slot_size (chunks_exact_rest s) ≡ x.now = ap (take slot_size) e ∙ take_at x.now (chunks_exact_rest j) slot_size k in
      let behind : drop slot_size (chunks_exact_rest s) ≡ chunks_exact_rest j = ap (drop slot_size) e ∙ drop_at x.now (chunks_exact_rest j) slot_size k in
      let long : length (chunks_exact_rest s) ≡ slot_size + length (chunks_exact_rest j) = ap length e ∙ length-append x.now (chunks_exact_rest j) ∙ ap (λ (m : ℕ). m + length (chunks_exact_rest j)) k in
      let more = cuts_come n j (h.0 ∙ size) (omega arith) (omega arith) in
      (sym front, subst (λ (ys : List ℕ). AlwaysYields (chunks_exact_steps {A = ℕ}) (λ y. y.now) j (cuts n ys)) (sym behind) more)),
)

-- a walk through the first n slots
pub slots_come : (n : ℕ) (xs : List ℕ) → n ≡ rows_of (length xs) → {s : _} → chunks_exact_rest (take_source s) ≡ xs → chunks_exact_size (take_source s) ≡ slot_size → take_count s ≡ n → YieldsList (take_steps (chunks_exact_steps {A = ℕ})) (λ y. y.now) s (cuts n xs)
slots_come n xs rows {s} rest size count =
    let m : ℕ = length xs / slot_size in
    let Come : List ℕ → Type 0 = λ ys. YieldsList (chunks_exact_steps {A = ℕ}) (λ y. y.now) (take_source s) (cuts m ys) in
    let whole : Come xs = subst Come rest (record { runs = cuts_come m (take_source s) size (let l = ap length rest in omega arith) (let l = ap length rest in omega arith) }) in
    subst (λ (ys : List (List ℕ)). YieldsList (take_steps (chunks_exact_steps {A = ℕ})) (λ y. y.now) s ys) (take-cuts n m xs (omega arith)) (YieldsList-from_take n whole count)

-- where a walk stopped
module _ (Yes No : List ℕ → Type 0) (n : ℕ) (xs : List ℕ) where
  none_upto : (i : ℕ) → i ≤ n → AllWithin No (cuts n xs) 0 i → (k : ℕ) → k < i → No (slot xs k)
  none_upto i h all k l = subst No (get_or-cuts n xs k [] (omega arith)) (all k [] (omega arith) l)

  pub stopped : (r : Option ℕ) → MatchOption r (AllWithin No (cuts n xs) 0 (length (cuts n xs))) (λ i. (i < length (cuts n xs)) × HoldsAt Yes (cuts n xs) i × AllWithin No (cuts n xs) 0 i) → MatchOption r ((k : ℕ) → k < n → No (slot xs k)) (λ i. (i < n) × Yes (slot xs i) × ((k : ℕ) → k < i → No (slot xs k)))
  stopped None all = none_upto n (omega arith) (subst (λ (m : ℕ). AllWithin No (cuts n xs) 0 m) (length-cuts n xs) all)
  stopped (Some i) (h, here, all) =
      let l = length-cuts n xs in
      let below : i < n = omega arith in
      (below, subst Yes (get_or-cuts n xs i [] below) (here []), none_upto i (omega arith) all)

pub none_held : (n : ℕ) (xs q : List ℕ) → ((k : ℕ) → k < n → holds (slot xs k) q ≡ false) → has (slot_pairs n xs) q ≡ false
none_held zero xs q h = refl
none_held (suc n) xs q h =
    subst (λ (m : ℕ). has (slot_pairs m xs) q ≡ false) (add-one n)
    (has_more (λ k. held (slot xs k)) n q (none_held n xs q (λ k l. h k (omega arith))) (has-held (slot xs n) q (h n (omega arith))))

pub all_held : (n : ℕ) (xs : List ℕ) → ((k : ℕ) → k < n → live (slot xs k) ≡ true) → length (slot_pairs n xs) ≡ n
all_held zero xs h = refl
all_held (suc n) xs h =
    subst (λ (m : ℕ). length (slot_pairs m xs) ≡ m) (add-one n)
    (length_more (λ k. held (slot xs k)) n (all_held n xs (λ k l. h k (omega arith))) (length-held (slot xs n) (h n (omega arith))))

module _ (n : ℕ) (xs : List ℕ) where
  -- the slot of a name, where a walk stopped at one
  pub name_at : (q : List ℕ) (r : Option ℕ) → MatchOption r ((k : ℕ) → k < n → holds (slot xs k) q ≡ false) (λ i. (i < n) × (holds (slot xs i) q ≡ true) × ((k : ℕ) → k < i → holds (slot xs k) q ≡ false)) → MatchOption r (has (slot_pairs n xs) q ≡ false) (λ i. SlotOf n xs q i)
  name_at q None h = none_held n xs q h
  name_at q (Some i) (h, here, none) = (h, here, none_held i xs q none)

  pub record_at : (q : List ℕ) (r : Option ℕ) → MatchOption r (has (slot_pairs n xs) q ≡ false) (λ i. SlotOf n xs q i) → lookup (slot_pairs n xs) q ≡ option_map (λ i. content (slot xs i)) r
  record_at q None h = none_from (lookup (slot_pairs n xs) q) h
  record_at q (Some i) s = found n xs q i s

  -- a free slot, where a walk stopped at one
  pub free_at : (r : Option ℕ) → MatchOption r ((k : ℕ) → k < n → live (slot xs k) ≡ true) (λ i. (i < n) × (live (slot xs i) ≡ false) × ((k : ℕ) → k < i → live (slot xs k) ≡ true)) → MatchOption r (length (slot_pairs n xs) ≡ n) (λ i. (i < n) × (live (slot xs i) ≡ false))
  free_at None h = all_held n xs h
  free_at (Some i) (h, free, all) = (h, free)

  -- the slot of the name, or else a free one
  pub place_at : (q : List ℕ) {P : Type 0} (r s : Option ℕ) → MatchOption r (has (slot_pairs n xs) q ≡ false) (λ i. SlotOf n xs q i) → MatchOption r P (λ i. s ≡ Some i) → (P → MatchOption s (length (slot_pairs n xs) ≡ n) (λ i. (i < n) × (live (slot xs i) ≡ false))) → MatchOption s ((has (slot_pairs n xs) q ≡ false) × (length (slot_pairs n xs) ≡ n)) (λ i. SlotFor n xs q i)
  place_at q (Some i) s own is free = subst (λ (o : Option ℕ). MatchOption o ((has (slot_pairs n xs) q ≡ false) × (length (slot_pairs n xs) ≡ n)) (λ j. SlotFor n xs q j)) (sym is) (inl own)
  place_at q None s none p free = by s (free p)
    where
      by : (o : Option ℕ) → MatchOption o (length (slot_pairs n xs) ≡ n) (λ i. (i < n) × (live (slot xs i) ≡ false)) → MatchOption o ((has (slot_pairs n xs) q ≡ false) × (length (slot_pairs n xs) ≡ n)) (λ i. SlotFor n xs q i)
      by None full = (none, full)
      by (Some i) here = inr (here.0, here.1, none)
