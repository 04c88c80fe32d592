-- What a mark, a slide and a new record at the end leave of a log.
use Rattle.std.proofs.Common.{◌≡◌, ℕ, zero, suc, ◌+◌, ◌*◌, ◌<◌, ◌≤◌, true, false, cond, not, ◌&&◌, ◌||◌, eqb, ltb, leb, List, [], ◌∷◌, ◌++◌, length, get_or, take, set, is_some, vec_len, sym, refl, ap, ◌∙◌, subst, arith, length-append, length-set}
use Rattle.std.proofs.Math.Bool.{and-true}
use Rattle.std.proofs.lemmas.Bool.{true≢false, and_parts, and_from, eq-eqb, le-leb, lt-leb, or_parts, leb-false, leb-true, ltb-false, le-ltb, lt-ltb}
use Rattle.std.proofs.lemmas.List.{append-nil, get_or-set_other, set_at, length-take-le, take_all}
use Rattle.std.proofs.lemmas.List.Edits.{take-paste}
use Rattle.store.specs.Pairs.{Pair, pair, has, without, once, SamePairs}
use Rattle.store.proofs.Pairs.{by_test, same_refl, has-append, once_out, once_in, without_at, lookup-at, length_in, moved, lookup_without_same, length_without}
use Rattle.store.specs.Says.{PutSays}
use Rattle.area.specs.Layout.{header_size, slot_size, rows_of, laid, lay_number, content, holds, held, written}
use Rattle.area.proofs.Records.{held_of, held-laid, length-laid, eight}
use Rattle.log_store.specs.Chain.{records, bytes_of, exact, all_exact, log_pairs, marked, lives, with_room, PlaceOf}
use Rattle.log_store.specs.declared.logs.LogStore.{LogStore}
use Rattle.log_store.proofs.Slid.{lives_le}
use Rattle.log_store.proofs.Chained.{records_back, records_bytes, bytes_append, pairs_append, exact-append, exact-parts, exact_long, exact_short, exact-lives, pairs_lives, lives_short}

-- as many rows as long as the area is as long
pub same_rows : (s t : LogStore) → vec_len t.area ≡ vec_len s.area → t.rows ≡ s.rows
same_rows s t e = t.counted ∙ ap rows_of e ∙ sym s.counted

set-take : (n : ℕ) (l : List ℕ) (i a : ℕ) → take n (set l i a) ≡ set (take n l) i a
set-take zero l i a = refl
set-take (suc n) [] i a = refl
set-take (suc n) (x ∷ l) zero a = refl
set-take (suc n) (x ∷ l) (suc i) a = ap (λ (y : List ℕ). x ∷ y) (set-take n l i a)

exact_dead : (p : List ℕ) → exact p ≡ true → exact (set p 0 0) ≡ true
exact_dead p h =
    let l = exact_long p h in
    let s = exact_short p h in
    let n : length (set p 0 0) ≡ length p = length-set p 0 0 in
    let a : get_or (set p 0 0) 9 0 ≡ get_or p 9 0 = get_or-set_other p 0 9 0 0 (λ e. omega arith) in
    let b : get_or (set p 0 0) 10 0 ≡ get_or p 10 0 = get_or-set_other p 0 10 0 0 (λ e. omega arith) in
    and_from (eqb (length (set p 0 0)) (header_size + (get_or (set p 0 0) 9 0 * 256 + get_or (set p 0 0) 10 0))) (leb (length (set p 0 0)) slot_size)
    (eq-eqb (length (set p 0 0)) (header_size + (get_or (set p 0 0) 9 0 * 256 + get_or (set p 0 0) 10 0)) (omega arith))
    (le-leb (length (set p 0 0)) slot_size (omega arith))

set_front : (p r : List ℕ) → exact p ≡ true → (f : List ℕ) → set (f ++ (p ++ r)) (length f) 0 ≡ f ++ (set p 0 0 ++ r)
set_front [] r h f = absurd (let l = exact_long [] h in omega arith)
set_front (b ∷ p) r h f = set_at f b (p ++ r) 0 (length f) refl

held_dead : (p : List ℕ) → exact p ≡ true → held (set p 0 0) ≡ []
held_dead [] h = absurd (let l = exact_long [] h in omega arith)
held_dead (b ∷ p) h = refl

has_miss : (p q : List ℕ) (rest : List Pair) → has (held p ++ rest) q ≡ false → (holds p q ≡ false) × (has rest q ≡ false)
has_miss p q rest h =
    let parts = or_parts (has (held p) q) (has rest q) (sym (has-append (held p) rest q) ∙ h) in
    let miss : holds p q ≡ false =
    by_test (holds p q)
    (λ e. let t : has (held p) q ≡ true = ap (λ (x : List Pair). has x q) (held_of p q e) ∙ simp (same_refl q) in absurd (true≢false (sym t ∙ parts.0)))
    (λ e. e) in
    (miss, parts.1)

marked-at : (A B : List (List ℕ)) (p q : List ℕ) → has (log_pairs A) q ≡ false → holds p q ≡ true → marked q (A ++ p ∷ B) ≡ A ++ set p 0 0 ∷ B
marked-at [] B p q h e = simp e
marked-at (a ∷ A) B p q h e =
    let miss = has_miss a q (log_pairs A) h in
    let f : holds a q ≡ false = miss.0 in
    simp f (ap (λ (x : List (List ℕ)). a ∷ x) (marked-at A B p q miss.1 e))

pub marked_none : (ps : List (List ℕ)) (q : List ℕ) → has (log_pairs ps) q ≡ false → marked q ps ≡ ps
marked_none [] q h = refl
marked_none (p ∷ ps) q h =
    let miss = has_miss p q (log_pairs ps) h in
    let f : holds p q ≡ false = miss.0 in
    simp f (ap (λ (x : List (List ℕ)). p ∷ x) (marked_none ps q miss.1))

-- a log whose live record of a name was marked dead
pub record Ended (end : ℕ) (xs ys q : List ℕ) : Type 0 where
  pub marks : records (take end ys) ≡ marked q (records (take end xs))
  pub good : all_exact (records (take end ys)) ≡ true
  pub pairs : log_pairs (records (take end ys)) ≡ without q (log_pairs (records (take end xs)))
  pub apart : once (log_pairs (records (take end ys))) ≡ true
  pub number : length (log_pairs (records (take end ys))) + 1 ≡ length (log_pairs (records (take end xs)))
  pub had : has (log_pairs (records (take end xs))) q ≡ true

ended : (end : ℕ) (xs q : List ℕ) (at : ℕ) → all_exact (records (take end xs)) ≡ true → once (log_pairs (records (take end xs))) ≡ true → PlaceOf (records (take end xs)) q at → Ended end xs (set xs at 0) q
ended end xs q at good u place =
    let ps : List (List ℕ) = records (take end xs) in
    let A : List (List ℕ) = place.ahead in
    let B : List (List ℕ) = place.behind in
    let p : List ℕ = place.piece in
    let d : List ℕ = set p 0 0 in
    let whole : ps ≡ A ++ p ∷ B = place.whole in
    let parts = exact-parts A (p ∷ B) (ap all_exact (sym whole) ∙ good) in
    let tail = and_parts (exact p) (all_exact B) parts.1 in
    let bytes : take end xs ≡ bytes_of A ++ (p ++ bytes_of B) = sym (records_bytes (take end xs)) ∙ ap bytes_of whole ∙ bytes_append A (p ∷ B) in
    let after : take end (set xs at 0) ≡ bytes_of (A ++ d ∷ B) =
    set-take end xs at 0 ∙ (λ i. set (bytes i) (place.place i) 0) ∙ set_front p (bytes_of B) tail.0 (bytes_of A) ∙ sym (bytes_append A (d ∷ B)) in
    let good' : all_exact (A ++ d ∷ B) ≡ true = exact-append A (d ∷ B) parts.0 (and_from (exact d) (all_exact B) (exact_dead p tail.0) tail.1) in
    let read : records (take end (set xs at 0)) ≡ A ++ d ∷ B = ap records after ∙ records_back (A ++ d ∷ B) good' in
    let L : List Pair = log_pairs A in
    let R : List Pair = log_pairs B in
    let o : List ℕ = content p in
    let before : log_pairs ps ≡ L ++ pair q o ∷ R = ap log_pairs whole ∙ pairs_append A (p ∷ B) ∙ ap (λ (x : List Pair). L ++ (x ++ R)) (held_of p q place.this) in
    let now : log_pairs (records (take end (set xs at 0))) ≡ L ++ R = ap log_pairs read ∙ pairs_append A (d ∷ B) ∙ ap (λ (x : List Pair). L ++ (x ++ R)) (held_dead p tail.0) in
    let out = once_out L R (pair q o) (ap once (sym before) ∙ u) in
    let longer : length (log_pairs ps) ≡ suc (length (L ++ R)) = ap length before ∙ length_in L R (pair q o) in
    let same : length (log_pairs (records (take end (set xs at 0)))) ≡ length (L ++ R) = ap length now in
    record {
      marks = read ∙ sym (ap (marked q) whole ∙ marked-at A B p q place.first place.this);
      good = ap all_exact read ∙ good';
      pairs = now ∙ sym (ap (without q) before ∙ without_at L R q o place.first);
      apart = ap once now ∙ out.0;
      number = omega arith;
      had = ap (λ (x : List Pair). has x q) before ∙ ap is_some (lookup-at L R q o place.first);
    }

pub ended_by : (end : ℕ) (xs ys q : List ℕ) (at : ℕ) → all_exact (records (take end xs)) ≡ true → once (log_pairs (records (take end xs))) ≡ true → PlaceOf (records (take end xs)) q at → ys ≡ set xs at 0 → Ended end xs ys q
ended_by end xs ys q at good u place after = subst (λ (y : List ℕ). Ended end xs y q) (sym after) (ended end xs q at good u place)

-- room made for n bytes
pub record Roomy (whole n end end' : ℕ) (xs ys : List ℕ) : Type 0 where
  pub marks : records (take end' ys) ≡ with_room whole n (records (take end xs))
  pub good : all_exact (records (take end' ys)) ≡ true
  pub pairs : log_pairs (records (take end' ys)) ≡ log_pairs (records (take end xs))

bytes_long : (end : ℕ) (xs : List ℕ) → end ≤ length xs → length (bytes_of (records (take end xs))) ≡ end
bytes_long end xs h = ap length (records_bytes (take end xs)) ∙ length-take-le end xs h

pub roomy_as_is : (whole n end : ℕ) (xs : List ℕ) → end ≤ length xs → all_exact (records (take end xs)) ≡ true → end + n ≤ whole → Roomy whole n end end xs xs
roomy_as_is whole n end xs h good fits =
    let l = bytes_long end xs h in
    let yes : leb (length (bytes_of (records (take end xs))) + n) whole ≡ true = le-leb (length (bytes_of (records (take end xs))) + n) whole (omega arith) in
    record { marks = sym (simp yes); good = good; pairs = refl }

pub roomy_slid : (whole n end end' : ℕ) (xs ys : List ℕ) → end ≤ length xs → all_exact (records (take end xs)) ≡ true → whole < end + n → take end' ys ≡ bytes_of (lives (records (take end xs))) → Roomy whole n end end' xs ys
roomy_slid whole n end end' xs ys h good tight front =
    let l = bytes_long end xs h in
    let no_room : leb (length (bytes_of (records (take end xs))) + n) whole ≡ false = lt-leb (length (bytes_of (records (take end xs))) + n) whole (omega arith) in
    let good' = exact-lives (records (take end xs)) good in
    let read : records (take end' ys) ≡ lives (records (take end xs)) = ap records front ∙ records_back (lives (records (take end xs))) good' in
    record { marks = read ∙ sym (simp no_room); good = ap all_exact read ∙ good'; pairs = ap log_pairs read ∙ pairs_lives (records (take end xs)) }

-- the longest record fits behind the live ones where a row is free
pub slid_fits : (rows whole n end end' : ℕ) (xs : List ℕ) → rows * slot_size ≤ whole → all_exact (records (take end xs)) ≡ true → end' ≡ length (bytes_of (lives (records (take end xs)))) → length (log_pairs (records (take end xs))) < rows → n ≤ slot_size → end' + n ≤ whole
slid_fits rows whole n end end' xs room good e few short = let l = lives_short (records (take end xs)) good in omega arith

-- a record that was laid
pub lay_fits : (whole at n : ℕ) → lay_number whole at n ≡ 0 → (n ≤ 1896) × (at + (11 + n) ≤ whole)
lay_fits whole at n h =
    by_test (ltb 1896 n)
    (λ e. let z : ◌≡◌ {A = ℕ} 42 0 = simp e at h in absurd (omega arith))
    (λ e.
    let rest : cond (leb (at + (11 + n)) whole) 0 41 ≡ 0 = simp e at h in
    by_test (leb (at + (11 + n)) whole)
    (λ f. (ltb-false 1896 n e, leb-true (at + (11 + n)) whole f))
    (λ f. let z : ◌≡◌ {A = ℕ} 41 0 = simp f at rest in absurd (omega arith)))

pub lay_done : (whole at n : ℕ) → n ≤ 1896 → at + (11 + n) ≤ whole → lay_number whole at n ≡ 0
lay_done whole at n h l =
    let short : ltb 1896 n ≡ false = le-ltb 1896 n h in
    let inside : leb (at + (11 + n)) whole ≡ true = le-leb (at + (11 + n)) whole l in
    simp (short, inside)

-- a record laid behind the last
pub record Longer (end end' : ℕ) (xs ys q bs : List ℕ) : Type 0 where
  pub marks : records (take end' ys) ≡ records (take end xs) ++ laid q bs ∷ []
  pub good : all_exact (records (take end' ys)) ≡ true
  pub pairs : log_pairs (records (take end' ys)) ≡ log_pairs (records (take end xs)) ++ pair q bs ∷ []

exact-laid : (q bs : List ℕ) → length q ≡ 8 → length bs ≤ 1896 → exact (laid q bs) ≡ true
exact-laid q bs e h =
    let l : length (laid q bs) ≡ 11 + length bs = length-laid q bs e in
    let P : List ℕ → Type 0 = λ (x : List ℕ). get_or (laid x bs) 9 0 * 256 + get_or (laid x bs) 10 0 ≡ length bs in
    let raw : get_or (laid q bs) 9 0 * 256 + get_or (laid q bs) 10 0 ≡ length bs = subst P (eight q e) (omega arith) in
    and_from (eqb (length (laid q bs)) (header_size + (get_or (laid q bs) 9 0 * 256 + get_or (laid q bs) 10 0))) (leb (length (laid q bs)) slot_size)
    (eq-eqb (length (laid q bs)) (header_size + (get_or (laid q bs) 9 0 * 256 + get_or (laid q bs) 10 0)) (omega arith))
    (le-leb (length (laid q bs)) slot_size (omega arith))

pub longer : (end : ℕ) (xs q bs : List ℕ) → end ≤ length xs → all_exact (records (take end xs)) ≡ true → length q ≡ 8 → length bs ≤ 1896 → Longer end (end + (11 + length bs)) xs (written xs end q bs) q bs
longer end xs q bs h good e short =
    let ps : List (List ℕ) = records (take end xs) in
    let s : List ℕ = laid q bs in
    let l : length s ≡ 11 + length bs = length-laid q bs e in
    let front : take (end + (11 + length bs)) (written xs end q bs) ≡ bytes_of (ps ++ s ∷ []) =
    take-paste xs end s (11 + length bs) h (omega arith)
    ∙ (λ i. sym (records_bytes (take end xs)) i ++ (take_all (11 + length bs) s (omega arith) ∙ sym (append-nil s)) i)
    ∙ sym (bytes_append ps (s ∷ [])) in
    let good' : all_exact (ps ++ s ∷ []) ≡ true = exact-append ps (s ∷ []) good (and_from (exact s) true (exact-laid q bs e short) refl) in
    let read : records (take (end + (11 + length bs)) (written xs end q bs)) ≡ ps ++ s ∷ [] = ap records front ∙ records_back (ps ++ s ∷ []) good' in
    let one : held s ≡ pair q bs ∷ [] = ap held (sym (append-nil s)) ∙ held-laid q bs [] e in
    record {
      marks = read;
      good = ap all_exact read ∙ good';
      pairs = ap log_pairs read ∙ pairs_append ps (s ∷ []) ∙ ap (λ (x : List Pair). log_pairs ps ++ (x ++ [])) one;
    }

pub slid_inside : (end end' : ℕ) (xs : List ℕ) → end ≤ length xs → end' ≡ length (bytes_of (lives (records (take end xs)))) → end' ≤ end
slid_inside end end' xs h e = let l = lives_le (records (take end xs)) in let b = bytes_long end xs h in omega arith

-- the pairs with one more at the end
pub once_more : (L : List Pair) (q bs : List ℕ) → once L ≡ true → has L q ≡ false → once (L ++ pair q bs ∷ []) ≡ true
once_more L q bs u h = once_in L [] (pair q bs) (ap once (append-nil L) ∙ u) (ap (λ (x : List Pair). has x q) (append-nil L) ∙ h)

pub length_more : (L : List Pair) (q bs : List ℕ) → length (L ++ pair q bs ∷ []) ≡ length L + 1
length_more L q bs = length-append L (pair q bs ∷ [])

pub longer_by : (end len : ℕ) (xs ys q bs : List ℕ) → end ≤ length xs → all_exact (records (take end xs)) ≡ true → length q ≡ 8 → 0 ≡ lay_number len end (length bs) → ys ≡ written xs end q bs → Longer end (end + (11 + length bs)) xs ys q bs
longer_by end len xs ys q bs h good e fits is =
    subst (λ (y : List ℕ). Longer end (end + (11 + length bs)) xs y q bs) (sym is) (longer end xs q bs h good e (lay_fits len end (length bs) (sym fits)).0)

-- a row for a name that is held, or new where a row is free
pub row-left : (ps : List Pair) (q : List ℕ) (rows : ℕ) → once ps ≡ true → length ps ≤ rows → (leb rows (length ps) && not (has ps q)) ≡ false → (has (without q ps) q ≡ false) × (length (without q ps) < rows)
row-left ps q rows u l h =
    let n = length_without q ps in (
      ap is_some (lookup_without_same q ps u),
      by_test (has ps q)
          (λ e. let m : length (without q ps) + 1 ≡ length ps = simp e at n in omega arith)
          (λ e. let m : length (without q ps) + 0 ≡ length ps = simp e at n in let f : (leb rows (length ps) && true) ≡ false = simp e at h in let g : leb rows (length ps) ≡ false = sym (and-true (leb rows (length ps))) ∙ f in omega (arith, leb-false rows (length ps) g)),
    )

-- a put that was not refused
pub put_goes : (ps after : List Pair) (q bs : List ℕ) (rows : ℕ) → once ps ≡ true → (leb rows (length ps) && not (has ps q)) ≡ false → length bs ≤ 1896 → after ≡ without q ps ++ pair q bs ∷ [] → PutSays 1896 rows ps after q bs 0
put_goes ps after q bs rows u h short e =
    let small : ltb 1896 (length bs) ≡ false = le-ltb 1896 (length bs) short in
    let free : (has ps q || ltb (length ps) rows) ≡ true =
    by_test (has ps q)
    (λ t. simp t)
    (λ f. let g : leb rows (length ps) ≡ false = sym (and-true (leb rows (length ps))) ∙ simp f at h in let less : ltb (length ps) rows ≡ true = lt-ltb (length ps) rows (leb-false rows (length ps) g) in simp (f, less)) in
    let gone : has (without q ps) q ≡ false = ap is_some (lookup_without_same q ps u) in
    let at_end : SamePairs (without q ps ++ pair q bs ∷ []) (pair q bs ∷ without q ps) = subst (λ (x : List Pair). SamePairs (without q ps ++ pair q bs ∷ []) (pair q bs ∷ x)) (append-nil (without q ps)) (moved (without q ps) [] q bs gone) in
    record { outcome = simp (small, free); pairs = subst (λ (x : List Pair). SamePairs x (pair q bs ∷ without q ps)) (sym e) at_end }
