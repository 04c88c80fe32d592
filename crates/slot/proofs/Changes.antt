-- What a write into one slot leaves of the pairs.
use Rattle.std.proofs.Common.{◌≡◌, ℕ, zero, suc, ◌+◌, ◌-◌, ◌*◌, ◌<◌, ◌≤◌, true, false, cond, ◌||◌, eqb, ltb, leb, ◌≢◌, List, [], ◌∷◌, ◌++◌, length, get_or, take, drop, set, is_some, Some, sym, refl, ap, ◌∙◌, subst, inl, inr, ⊎_elim, add-zero, arith, length-append}
use Rattle.std.proofs.lemmas.Bool.{cases_lt, cases_eq, or_left, or_right, lt-ltb, le-leb, le-ltb}
use Rattle.std.proofs.lemmas.List.{get_or-set_same, get_or-set_other, set_past, get_or_past, take-take, drop-drop, drop_at, length-take-le, take-set-le, drop-set-lt, take_at, take-append-drop}
use Rattle.std.proofs.lemmas.Slice.{between_is}
use Rattle.std.proofs.lemmas.List.Edits.{get_or-between, paste_all, drop-paste}
use Rattle.store.specs.Says.{PutSays, put_pairs}
use Rattle.store.specs.Pairs.{Pair, pair, lookup, has, without, once, SamePairs}
use Rattle.store.proofs.Pairs.{by_test, put_over, put-new, once_out, without_at, lookup-at}
use Rattle.area.specs.Layout.{longest, rows_of, slot_size, laid, lay_number, live, content, held, written}
use Rattle.area.proofs.Records.{held_of, held-laid, length-laid}
use Rattle.slot.specs.Slots.{slot, gather, slot_pairs, cleared, SlotOf, SlotFor}
use Rattle.slot.proofs.Gathered.{gather-at, gather-same, length-gather}

-- opening
pub slot_mark : (xs : List ℕ) (k : ℕ) → get_or (slot xs k) 0 0 ≡ get_or xs (k * slot_size) 0
slot_mark xs k = get_or-between xs (k * slot_size) (k * slot_size + slot_size) 0 0 (omega arith) ∙ ap (λ (x : ℕ). get_or xs x 0) (add-zero (k * slot_size))

set_reads : (xs : List ℕ) (i : ℕ) → get_or (set xs i 0) i 0 ≡ 0
set_reads xs i =
    ⊎_elim {C = get_or (set xs i 0) i 0 ≡ 0}
    (λ h. get_or-set_same xs i 0 0 h)
    (λ h. ap (λ (x : List ℕ). get_or x i 0) (set_past xs i 0 h) ∙ get_or_past xs i 0 h)
    (cases_lt i (length xs))

cleared_dead : (n : ℕ) (xs : List ℕ) (k : ℕ) → k < n → get_or (cleared n xs) (k * slot_size) 0 ≡ 0
cleared_dead zero xs k h = absurd (omega arith)
cleared_dead (suc n) xs k h =
    ⊎_elim {C = get_or (cleared (suc n) xs) (k * slot_size) 0 ≡ 0}
    (λ e. ap (λ (x : ℕ). get_or (cleared (suc n) xs) (x * slot_size) 0) e ∙ set_reads (cleared n xs) (n * slot_size))
    (λ e.
    let apart : k * slot_size ≢ n * slot_size = λ same. e (omega arith) in
    get_or-set_other (cleared n xs) (n * slot_size) (k * slot_size) 0 0 apart ∙ cleared_dead n xs k (let ne = e in omega arith))
    (cases_eq k n)

gather_none : (f : ℕ → List Pair) (a n : ℕ) → ((k : ℕ) → a ≤ k → k < a + n → f k ≡ []) → gather f a n ≡ []
gather_none f a zero h = refl
gather_none f a (suc n) h =
    let here : f a ≡ [] = h a (omega arith) (omega arith) in
    let rest : gather f (suc a) n ≡ [] = gather_none f (suc a) n (λ k l u. h k (omega arith) (omega arith)) in
    λ i. here i ++ rest i

pub held_dead : (p : List ℕ) → live p ≡ false → held p ≡ []
held_dead p h = simp h

pub cleared_none : (n : ℕ) (xs : List ℕ) → slot_pairs n (cleared n xs) ≡ []
cleared_none n xs =
    gather_none (λ k. held (slot (cleared n xs) k)) 0 n
    (λ k l u.
    let below : k < n = omega arith in
    let mark : get_or (slot (cleared n xs) k) 0 0 ≡ 0 = slot_mark (cleared n xs) k ∙ cleared_dead n xs k below in
    held_dead (slot (cleared n xs) k) (simp mark))

-- an area that differs from another in slot i only
module _ (xs ys : List ℕ) (i : ℕ) (front : take (i * slot_size) ys ≡ take (i * slot_size) xs) (back : drop (i * slot_size + slot_size) ys ≡ drop (i * slot_size + slot_size) xs) where
  below : (k : ℕ) → k < i → slot ys k ≡ slot xs k
  below k h =
      let b : ℕ = k * slot_size in
      let e : ℕ = b + slot_size in
      let le : e ≤ i * slot_size = omega arith in
      between_is ys b e
      ∙ ap (drop b) (sym (take-take e (i * slot_size) ys le) ∙ ap (take e) front ∙ take-take e (i * slot_size) xs le)
      ∙ sym (between_is xs b e)

  above : (k : ℕ) → i < k → slot ys k ≡ slot xs k
  above k h =
      let b : ℕ = k * slot_size in
      let a : ℕ = i * slot_size + slot_size in
      let e : a + (b - a) ≡ b = omega arith in
      ap (take (b + slot_size - b)) (ap (λ (x : ℕ). drop x ys) (sym e) ∙ sym (drop-drop (b - a) a ys) ∙ ap (drop (b - a)) back ∙ drop-drop (b - a) a xs ∙ ap (λ (x : ℕ). drop x xs) e)

  pub pairs_around : (n : ℕ) → i < n → slot_pairs n ys ≡ slot_pairs i xs ++ (held (slot ys i) ++ gather (λ k. held (slot xs k)) (suc i) (n - suc i))
  pairs_around n h =
      let f : ℕ → List Pair = λ k. held (slot ys k) in
      let g : ℕ → List Pair = λ k. held (slot xs k) in
      gather-at f n i h
      ∙ (λ j.
      gather-same f g 0 i (λ k l u. ap held (below k (omega arith))) j
      ++ (held (slot ys i) ++ gather-same f g (suc i) (n - suc i) (λ k l u. ap held (above k (omega arith))) j))

module _ (n : ℕ) (xs q : List ℕ) (i : ℕ) where
  pub pairs_at : i < n → slot_pairs n xs ≡ slot_pairs i xs ++ (held (slot xs i) ++ gather (λ k. held (slot xs k)) (suc i) (n - suc i))
  pairs_at h = gather-at (λ k. held (slot xs k)) n i h

  pub pairs_of : SlotOf n xs q i → slot_pairs n xs ≡ slot_pairs i xs ++ pair q (content (slot xs i)) ∷ gather (λ k. held (slot xs k)) (suc i) (n - suc i)
  pairs_of (h, holds-it, none) = pairs_at h ∙ ap (λ (x : List Pair). slot_pairs i xs ++ (x ++ gather (λ k. held (slot xs k)) (suc i) (n - suc i))) (held_of (slot xs i) q holds-it)

  -- a slot marked dead
  pub dropped : SlotOf n xs q i → once (slot_pairs n xs) ≡ true → (slot_pairs n (set xs (i * slot_size) 0) ≡ without q (slot_pairs n xs)) × (once (slot_pairs n (set xs (i * slot_size) 0)) ≡ true)
  dropped (h, holds-it, none) u =
      let a : ℕ = i * slot_size in
      let ys : List ℕ = set xs a 0 in
      let L : List Pair = slot_pairs i xs in
      let R : List Pair = gather (λ k. held (slot xs k)) (suc i) (n - suc i) in
      let o : List ℕ = content (slot xs i) in
      let mark : get_or (slot ys i) 0 0 ≡ 0 = slot_mark ys i ∙ set_reads xs a in
      let after : slot_pairs n ys ≡ L ++ R = pairs_around xs ys i (take-set-le a xs a 0 (omega arith)) (drop-set-lt (a + slot_size) xs a 0 (omega arith)) n h ∙ ap (λ (x : List Pair). L ++ (x ++ R)) (held_dead (slot ys i) (simp mark)) in
      let before : slot_pairs n xs ≡ L ++ pair q o ∷ R = pairs_of (h, holds-it, none) in
      let gone : without q (slot_pairs n xs) ≡ L ++ R = ap (without q) before ∙ without_at L R q o none in
      let out = once_out L R (pair q o) (ap once (sym before) ∙ u) in
      (after ∙ sym gone, ap once after ∙ out.0)

take_front : (s d : List ℕ) (n : ℕ) → length s ≤ n → take n (s ++ d) ≡ s ++ drop (length s) (take n (s ++ d))
take_front s d n h =
    sym (take-append-drop (length s) (take n (s ++ d))) ∙ ap (λ (x : List ℕ). x ++ drop (length s) (take n (s ++ d))) (take-take (length s) n (s ++ d) h ∙ take_at s d (length s) refl)

-- the pairs ys are the pairs xs with this record put, and no name stands twice
abbrev pub Puts : List Pair → List Pair → List ℕ → List ℕ → Type 0
Puts xs ys q bs = SamePairs ys (pair q bs ∷ without q xs) × (once ys ≡ true)

-- a record written into a slot
module _ (n : ℕ) (xs q bs : List ℕ) (i : ℕ) (eight : length q ≡ 8) (short : length bs ≤ 1896) (room : n * slot_size ≤ length xs) (h : i < n) where
  pub put_around : slot_pairs n (written xs (i * slot_size) q bs) ≡ slot_pairs i xs ++ pair q bs ∷ gather (λ k. held (slot xs k)) (suc i) (n - suc i)
  put_around =
      let a : ℕ = i * slot_size in
      let s : List ℕ = laid q bs in
      let m : ℕ = 11 + length bs in
      let ys : List ℕ = written xs a q bs in
      let len : length s ≡ m = length-laid q bs eight in
      let inside : a ≤ length xs = omega arith in
      let whole : ys ≡ take a xs ++ (s ++ drop (a + m) xs) = paste_all xs a s m (sym len) in
      let front : take a ys ≡ take a xs = ap (take a) whole ∙ take_at (take a xs) (s ++ drop (a + m) xs) a (length-take-le a xs inside) in
      let behind : drop (a + m) ys ≡ drop (a + m) xs = drop-paste xs a s m inside (omega arith) in
      let c : ℕ = 1896 - length bs in
      let e : (a + m) + c ≡ a + slot_size = omega arith in
      let back : drop (a + slot_size) ys ≡ drop (a + slot_size) xs =
      ap (λ (x : ℕ). drop x ys) (sym e) ∙ sym (drop-drop c (a + m) ys) ∙ ap (drop c) behind ∙ drop-drop c (a + m) xs ∙ ap (λ (x : ℕ). drop x xs) e in
      let from : drop a ys ≡ s ++ drop (a + m) xs = ap (drop a) whole ∙ drop_at (take a xs) (s ++ drop (a + m) xs) a (length-take-le a xs inside) in
      let N : ℕ = a + slot_size - a in
      let fits : length s ≤ N = omega arith in
      let it : slot ys i ≡ s ++ drop (length s) (take N (s ++ drop (a + m) xs)) = ap (take N) from ∙ take_front s (drop (a + m) xs) N fits in
      let held-it : held (slot ys i) ≡ pair q bs ∷ [] = ap held it ∙ held-laid q bs (drop (length s) (take N (s ++ drop (a + m) xs))) eight in
      pairs_around xs ys i front back n h ∙ ap (λ (x : List Pair). slot_pairs i xs ++ (x ++ gather (λ k. held (slot xs k)) (suc i) (n - suc i))) held-it

pub put_in : (n : ℕ) (xs q bs : List ℕ) (i : ℕ) → length q ≡ 8 → length bs ≤ 1896 → n * slot_size ≤ length xs → SlotFor n xs q i → once (slot_pairs n xs) ≡ true → Puts (slot_pairs n xs) (slot_pairs n (written xs (i * slot_size) q bs)) q bs
put_in n xs q bs i eight short room (inl (h, holds-it, none)) u =
    let L : List Pair = slot_pairs i xs in
    let R : List Pair = gather (λ k. held (slot xs k)) (suc i) (n - suc i) in
    let o : List ℕ = content (slot xs i) in
    let before : slot_pairs n xs ≡ L ++ pair q o ∷ R = pairs_of n xs q i (h, holds-it, none) in
    let after : slot_pairs n (written xs (i * slot_size) q bs) ≡ L ++ pair q bs ∷ R = put_around n xs q bs i eight short room h in
    let done : Puts (L ++ pair q o ∷ R) (L ++ pair q bs ∷ R) q bs = put_over L R q bs o none (ap once (sym before) ∙ u) in
    subst (λ (x : List Pair). Puts x (slot_pairs n (written xs (i * slot_size) q bs)) q bs) (sym before) (subst (λ (x : List Pair). Puts (L ++ pair q o ∷ R) x q bs) (sym after) done)
put_in n xs q bs i eight short room (inr (h, dead, none)) u =
    let L : List Pair = slot_pairs i xs in
    let R : List Pair = gather (λ k. held (slot xs k)) (suc i) (n - suc i) in
    let before : slot_pairs n xs ≡ L ++ R = pairs_at n xs q i h ∙ ap (λ (x : List Pair). L ++ (x ++ R)) (held_dead (slot xs i) dead) in
    let after : slot_pairs n (written xs (i * slot_size) q bs) ≡ L ++ pair q bs ∷ R = put_around n xs q bs i eight short room h in
    let done : Puts (L ++ R) (L ++ pair q bs ∷ R) q bs = put-new L R q bs (ap (λ (x : List Pair). has x q) (sym before) ∙ none) (ap once (sym before) ∙ u) in
    subst (λ (x : List Pair). Puts x (slot_pairs n (written xs (i * slot_size) q bs)) q bs) (sym before) (subst (λ (x : List Pair). Puts (L ++ R) x q bs) (sym after) done)

-- the record in the slot of a name
pub found : (n : ℕ) (xs q : List ℕ) (i : ℕ) → SlotOf n xs q i → lookup (slot_pairs n xs) q ≡ Some (content (slot xs i))
found n xs q i (h, holds-it, none) =
    ap (λ (x : List Pair). lookup x q) (pairs_of n xs q i (h, holds-it, none)) ∙ lookup-at (slot_pairs i xs) (gather (λ k. held (slot xs k)) (suc i) (n - suc i)) q (content (slot xs i)) none

length_held_le : (p : List ℕ) → length (held p) ≤ 1
length_held_le p = by_test (live p) (λ e. simp e (omega arith)) (λ e. simp e (omega arith))

-- where there is a slot for a record, its name is held or fewer pairs stand than there are slots
pub has_room : (n : ℕ) (xs q : List ℕ) (i : ℕ) → SlotFor n xs q i → (has (slot_pairs n xs) q || ltb (length (slot_pairs n xs)) n) ≡ true
has_room n xs q i (inl s) = or_left (has (slot_pairs n xs) q) (ltb (length (slot_pairs n xs)) n) (ap is_some (found n xs q i s))
has_room n xs q i (inr (h, dead, none)) =
    let L : List Pair = slot_pairs i xs in
    let R : List Pair = gather (λ k. held (slot xs k)) (suc i) (n - suc i) in
    let before : slot_pairs n xs ≡ L ++ R = pairs_at n xs q i h ∙ ap (λ (x : List Pair). L ++ (x ++ R)) (held_dead (slot xs i) dead) in
    let l : length L ≤ i = length-gather (λ k. held (slot xs k)) 0 i (λ k. length_held_le (slot xs k)) in
    let r : length R ≤ n - suc i = length-gather (λ k. held (slot xs k)) (suc i) (n - suc i) (λ k. length_held_le (slot xs k)) in
    let all : length (slot_pairs n xs) ≡ length L + length R = ap length before ∙ length-append L R in
    or_right (has (slot_pairs n xs) q) (ltb (length (slot_pairs n xs)) n) (lt-ltb (length (slot_pairs n xs)) n (omega arith))

slot-within : (n : ℕ) (xs q : List ℕ) (i : ℕ) → SlotFor n xs q i → i < n
slot-within n xs q i (inl (h, holds-it, none)) = h
slot-within n xs q i (inr (h, dead, none)) = h

-- a put that found a slot
pub put-done : (n len : ℕ) (xs ys q bs : List ℕ) (i number : ℕ) → length q ≡ 8 → length bs ≤ 1896 → n ≡ rows_of len → len ≡ length xs → number ≡ lay_number len (i * slot_size) (length bs) → ys ≡ cond (eqb number 0) (written xs (i * slot_size) q bs) xs → SlotFor n xs q i → once (slot_pairs n xs) ≡ true → PutSays longest n (slot_pairs n xs) (slot_pairs n ys) q bs number × (once (slot_pairs n ys) ≡ true)
put-done n len xs ys q bs i number eight short rows long fits after s u =
    let h : i < n = slot-within n xs q i s in
    let room : n * slot_size ≤ length xs = omega arith in
    let small : ltb 1896 (length bs) ≡ false = le-ltb 1896 (length bs) short in
    let inside : leb (i * slot_size + (11 + length bs)) len ≡ true = le-leb (i * slot_size + (11 + length bs)) len (omega arith) in
    let done : number ≡ 0 = fits ∙ simp (small, inside) in
    let is : ys ≡ written xs (i * slot_size) q bs = after ∙ ap (λ (m : ℕ). cond (eqb m 0) (written xs (i * slot_size) q bs) xs) done in
    let all = has_room n xs q i s in
    let puts : Puts (slot_pairs n xs) (slot_pairs n ys) q bs = subst (λ (x : List ℕ). Puts (slot_pairs n xs) (slot_pairs n x) q bs) (sym is) (put_in n xs q bs i eight short room s u) in
    let pairs : SamePairs (slot_pairs n ys) (put_pairs number (slot_pairs n xs) q bs) = subst (λ (m : ℕ). SamePairs (slot_pairs n ys) (put_pairs m (slot_pairs n xs) q bs)) (sym done) puts.0 in
    (record { outcome = done ∙ simp (small, all); pairs = pairs }, puts.1)
