-- The records held, when one is found, moved to the front, taken in or let go.
use Rattle.std.proofs.Common.{◌≡◌, ℕ, zero, suc, ◌+◌, ◌-◌, ◌<◌, ◌≤◌, true, false, leb, List, [], ◌∷◌, ◌++◌, map, length, get_or, take, drop, Some, None, Option, MatchOption, sym, refl, ap, ◌∙◌, subst, add-one, arith}
use native.Mathlib.Nat.{sub-zero}
use lib.ListN.{length-map}
use Rattle.std.specs.List.{remove, AllWithin, HoldsAt}
use Rattle.std.specs.Option.{option_map}
use Rattle.std.specs.Str.{bytes_eq}
use Rattle.std.proofs.lemmas.Bool.{or_from, le-leb, lt-leb, cond-true, cond-false}
use Rattle.std.proofs.lemmas.List.{take_more, drop_more, take-append-drop, get_or-map, take-map, drop-map, take_all, map-append, get_or_at, get_or_default, drop_at, take_at, length-take-le}
use Rattle.bounded.specs.Held.{held}
use Rattle.store.specs.Pairs.{Pair, pair, lookup, has, without}
use Rattle.store.specs.Says.{get_number, get_buffer}
use Rattle.store.proofs.Pairs.{by_test, same_is, has-append, lookup-at, without_at, length_in}
use Rattle.cache.specs.Recent.{places, admitted, to_front, after_get, PlaceOf}
use Rattle.cache.specs.Kept.{copy_of}
use Rattle.cache.specs.declared.copies.Copied.{Copied}

-- the copy at a place
pub at_map : (cs ds : List Copied) (i : ℕ) (x : Copied) → ds ≡ cs → i < length ds → x ≡ get_or ds i x → (i < length (map copy_of cs)) × (copy_of x ≡ get_or (map copy_of cs) i (copy_of x))
at_map cs ds i x e h r =
    let l : length (map copy_of cs) ≡ length ds = length-map cs copy_of ∙ ap length (sym e) in
    let h' : i < length cs = subst (λ (y : List Copied). i < length y) e h in
    (omega arith, ap copy_of (r ∙ ap (λ (y : List Copied). get_or y i x) e) ∙ sym (get_or-map copy_of cs i x (copy_of x) h'))

module _ (xs : List Pair) (i : ℕ) (p : Pair) (q : List ℕ) (h : i < length xs) (r : p ≡ get_or xs i p) (none : has (take i xs) q ≡ false) where
  pub find_next : bytes_eq p.key q ≡ false → has (take (i + 1) xs) q ≡ false
  find_next e =
      let one : has (p ∷ []) q ≡ false = simp e in
      ap (λ (x : List Pair). has x q) (take_more xs i p h ∙ ap (λ (x : Pair). take i xs ++ x ∷ []) (sym r)) ∙ has-append (take i xs) (p ∷ []) q ∙ or_from (has (take i xs) q) (has (p ∷ []) q) none one

  pub find_here : p.key ≡ q → PlaceOf xs q i
  find_here e =
      let is : p ≡ pair q p.bytes = ap (λ (k : List ℕ). pair k p.bytes) e in
      (h, (p.bytes, sym (take-append-drop i xs) ∙ ap (λ (x : List Pair). take i xs ++ x) (drop_more xs i p h) ∙ ap (λ (x : Pair). take i xs ++ x ∷ drop (i + 1) xs) (sym r ∙ is)), none)

-- where a walk through the copies stopped
module _ (cs : List Copied) (q : List ℕ) (d : Copied) where
  abbrev no : Copied → Type 0
  no x = bytes_eq x.name.bytes q ≡ false

  read : (i : ℕ) → i < length cs → (i < length (map copy_of cs)) × (copy_of (get_or cs i d) ≡ get_or (map copy_of cs) i (copy_of (get_or cs i d)))
  read i h = at_map cs cs i (get_or cs i d) refl h (get_or_default cs i d (get_or cs i d) h)

  none_upto : (n : ℕ) → n ≤ length cs → AllWithin no cs 0 n → has (take n (map copy_of cs)) q ≡ false
  none_upto zero h all = refl
  none_upto (suc n) h all =
      let at = read n (omega arith) in
      let ahead : AllWithin no cs 0 n = λ k e l u. all k e l (omega arith) in
      subst (λ (m : ℕ). has (take m (map copy_of cs)) q ≡ false) (add-one n) (find_next (map copy_of cs) n (copy_of (get_or cs n d)) q at.0 at.1 (none_upto n (omega arith) ahead) (all n d (omega arith) (omega arith)))

  stopped : (r : Option ℕ) → MatchOption r (AllWithin no cs 0 (length cs)) (λ i. (i < length cs) × HoldsAt (λ x. bytes_eq x.name.bytes q ≡ true) cs i × AllWithin no cs 0 i) → MatchOption r (has (map copy_of cs) q ≡ false) (λ i. PlaceOf (map copy_of cs) q i)
  stopped None all = ap (λ (x : List Pair). has x q) (sym (take_all (length cs) (map copy_of cs) (let l = length-map cs copy_of in omega arith))) ∙ none_upto (length cs) (omega arith) all
  stopped (Some i) (h, here, all) =
      let at = read i h in
      find_here (map copy_of cs) i (copy_of (get_or cs i d)) q at.0 at.1 (none_upto i (omega arith) all) (same_is (get_or cs i d).name.bytes q (here d))

pub place_of : (cs : List Copied) (q : List ℕ) (r : Option ℕ) → MatchOption r (AllWithin (λ x. bytes_eq x.name.bytes q ≡ false) cs 0 (length cs)) (λ i. (i < length cs) × HoldsAt (λ x. bytes_eq x.name.bytes q ≡ true) cs i × AllWithin (λ x. bytes_eq x.name.bytes q ≡ false) cs 0 i) → MatchOption r (has (map copy_of cs) q ≡ false) (λ i. PlaceOf (map copy_of cs) q i)
place_of [] q None all = refl
place_of [] q (Some i) (h, here, all) = absurd (omega arith)
place_of (c ∷ cs) q r h = stopped (c ∷ cs) q c r h

map_removed : (cs : List Copied) (i : ℕ) → map copy_of (remove cs i) ≡ take i (map copy_of cs) ++ drop (i + 1) (map copy_of cs)
map_removed cs i =
    map-append copy_of (take i cs) (drop (suc i) cs)
    ∙ (λ j. sym (take-map copy_of i cs) j ++ (sym (drop-map copy_of (suc i) cs) ∙ ap (λ (n : ℕ). drop n (map copy_of cs)) (sym (add-one i))) j)

-- one copy less
pub kept_removed : (cs : List Copied) (i : ℕ) (q : List ℕ) → PlaceOf (map copy_of cs) q i → map copy_of (remove cs i) ≡ without q (map copy_of cs)
kept_removed cs i q (h, (v, e), none) =
    let xs : List Pair = map copy_of cs in
    map_removed cs i ∙ sym (ap (without q) e ∙ without_at (take i xs) (drop (i + 1) xs) q v none)

-- the record of the copy at the place of a name
pub place_copy : (cs : List Copied) (i : ℕ) (q : List ℕ) (x : Copied) → PlaceOf (map copy_of cs) q i → x ≡ get_or cs i x → lookup (map copy_of cs) q ≡ Some (held x.content)
place_copy cs i q x (h, (v, e), none) r =
    let xs : List Pair = map copy_of cs in
    let h' : i < length cs = let l = length-map cs copy_of in omega arith in
    let at = at_map cs cs i x refl h' r in
    let mid : get_or (take i xs ++ pair q v ∷ drop (i + 1) xs) i (copy_of x) ≡ pair q v = get_or_at (take i xs) (pair q v) (drop (i + 1) xs) (copy_of x) i (length-take-le i xs (omega arith)) in
    let same : copy_of x ≡ pair q v = at.1 ∙ ap (λ (y : List Pair). get_or y i (copy_of x)) e ∙ mid in
    ap (λ (y : List Pair). lookup y q) e ∙ lookup-at (take i xs) (drop (i + 1) xs) q v none ∙ ap (λ (p : Pair). Some p.bytes) (sym same)

-- a copy moved to the front is a copy taken in
pub touch_admits : (xs : List Pair) (i : ℕ) (q v : List ℕ) → PlaceOf xs q i → lookup xs q ≡ Some v → length xs ≤ 4 → length v ≤ 1896 → to_front i xs ≡ admitted q v xs
touch_admits xs i q v (h, (w, e), none) look few short =
    let A : List Pair = take i xs in
    let B : List Pair = drop (i + 1) xs in
    let found : lookup xs q ≡ Some w = ap (λ (y : List Pair). lookup y q) e ∙ lookup-at A B q w none in
    let same : w ≡ v = let z : Some w ≡ Some v = sym found ∙ look in cc in
    let gone : without q xs ≡ A ++ B = ap (without q) e ∙ without_at A B q w none in
    let cut : drop i xs ≡ pair q w ∷ B = ap (drop i) e ∙ drop_at A (pair q w ∷ B) i (length-take-le i xs (omega arith)) in
    let long : length (A ++ B) + 1 ≡ length xs = sym (ap length e ∙ length_in A B (pair q w) ∙ sym (add-one (length (A ++ B)))) in
    let yes : leb (length v) 1896 ≡ true = le-leb (length v) 1896 short in
    let all : take 3 (A ++ B) ≡ A ++ B = take_all 3 (A ++ B) (omega arith) in
    ap (λ (y : List Pair). take 1 y ++ (A ++ B)) cut
    ∙ ap (λ (u : List ℕ). pair q u ∷ (A ++ B)) same
    ∙ ap (λ (y : List Pair). pair q v ∷ y) (sym all)
    ∙ ap (λ (y : List Pair). take places (pair q v ∷ y)) (sym gone)
    ∙ sym (cond-true (leb (length v) 1896) (take places (pair q v ∷ without q xs)) (without q xs) yes)

pub got-all : (bs : List ℕ) (room : ℕ) → 0 ≡ get_number (Some bs) room → leb (length bs) room ≡ true
got-all bs room e = by_test (leb (length bs) room) (λ t. t) (λ f. let z : ◌≡◌ {A = ℕ} 0 43 = simp f at e in absurd (omega arith))

-- after a get that gave the record
pub after_got : (o : Option (List ℕ)) (bs : List ℕ) (room : ℕ) (q : List ℕ) (xs : List Pair) → o ≡ Some bs → leb (length bs) room ≡ true → after_get o room q xs ≡ admitted q bs xs
after_got o bs room q xs e t = ap (λ (x : Option (List ℕ)). after_get x room q xs) e ∙ cond-true (leb (length bs) room) (admitted q bs xs) xs t

-- after a get that was refused
pub after_refused : (o : Option (List ℕ)) (bs : List ℕ) (room : ℕ) (q : List ℕ) (xs : List Pair) → o ≡ Some bs → room < length bs → after_get o room q xs ≡ xs
after_refused o bs room q xs e h = ap (λ (x : Option (List ℕ)). after_get x room q xs) e ∙ cond-false (leb (length bs) room) (admitted q bs xs) xs (lt-leb (length bs) room h)

-- a record got from below and taken in
pub fetched : (o : Option (List ℕ)) (n : ℕ) (buffer buffer' q : List ℕ) (xs ys : List Pair) → Some n ≡ option_map length o → 0 ≡ get_number o (length buffer) → buffer' ≡ get_buffer o buffer → ys ≡ admitted q (take (n - 0) buffer') xs → ys ≡ after_get o (length buffer) q xs
fetched None n buffer buffer' q xs ys e z f a = let x : ◌≡◌ {A = ℕ} 0 1 = cc in absurd (omega arith)
fetched (Some bs) n buffer buffer' q xs ys e z f a =
    let t : leb (length bs) (length buffer) ≡ true = got-all bs (length buffer) z in
    let m : n - 0 ≡ length bs = sub-zero n ∙ (let k : Some n ≡ Some (length bs) = e in cc) in
    let full : buffer' ≡ bs ++ drop (length bs) buffer = f ∙ cond-true (leb (length bs) (length buffer)) (bs ++ drop (length bs) buffer) buffer t in
    let it : take (n - 0) buffer' ≡ bs = (λ i. take (m i) (full i)) ∙ take_at bs (drop (length bs) buffer) (length bs) refl in
    a ∙ ap (λ (b : List ℕ). admitted q b xs) it ∙ sym (cond-true (leb (length bs) (length buffer)) (admitted q bs xs) xs t)
