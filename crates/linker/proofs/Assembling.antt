-- Units put together one after the other.
use Rattle.std.proofs.Common.{◌≡◌, ℕ, zero, suc, ◌+◌, ◌<◌, ◌≤◌, List, [], ◌∷◌, ◌++◌, map, length, get_or, take, drop, Some, None, Ok, Err, Option, Result, unwrap_or, sym, refl, ap, ◌∙◌, subst, add-zero, add_assoc, one-add, arith}
use Rattle.std.specs.Option.{option_map, option_to_list, option_and_then}
use Rattle.std.specs.List.{slice_get}
use Rattle.std.proofs.lemmas.List.{take_more, take_all, drop_more, drop_all, length-map, length-take-le}
use Rattle.std.proofs.lemmas.Option.{slice_get_within, get_or_from_slice_get, slice_get-map, none-some, same_Some}
use Rattle.names.specs.declared.name.Name.{Name}
use Rattle.product.specs.declared.row.Reference.{Reference}
use Rattle.image.specs.declared.target.Target.{Target}
use Rattle.image.specs.Picture.{Units, with_unit}
use Rattle.project.specs.Members.{Member, same, at}
use Rattle.project.specs.Checked.{names}
use Rattle.project.proofs.Places.{position-map}
use Rattle.ledger.specs.Fresh.{Made, in_order}
use Rattle.ledger.specs.Linking.{Plain, plain, target_place, resolved, targets, units_of, broken, whole, lacking, link_by, tested_from, linking}
use Rattle.linker.specs.Place.{named, goal, resolved_by}
use Rattle.linker.specs.declared.assembler.Missing.{Missing}
use Rattle.linker.specs.Assembled.{entries_of, targets_of, Added}

-- ---- an element at a place

pub here : {X : Type 0} (xs : List X) (k : ℕ) (x : X) → slice_get xs k ≡ Some x → (k < length xs) × (get_or xs k x ≡ x)
here xs k x e = (slice_get_within xs k x e, get_or_from_slice_get xs k x x e)

pub some_at : {X : Type 0} (xs : List X) (k : ℕ) → k < length xs → (x : X) × (slice_get xs k ≡ Some x)
some_at [] k h = absurd (omega arith)
some_at (x ∷ xs) zero h = (x, refl)
some_at (x ∷ xs) (suc k) h = some_at xs k (omega arith)

-- what a function makes of it
nth-map : {X Y : Type 0} (f : X → Y) (xs : List X) (k : ℕ) (x : X) → slice_get xs k ≡ Some x → slice_get (map f xs) k ≡ Some (f x)
nth-map f xs k x e = slice_get-map f xs k ∙ ap (option_map f) e

drops : {X : Type 0} (xs : List X) (k : ℕ) (x : X) → slice_get xs k ≡ Some x → drop k xs ≡ x ∷ drop (k + 1) xs
drops xs k x e = let h = here xs k x e in drop_more xs k x h.0 ∙ ap (λ y. y ∷ drop (k + 1) xs) h.1

takes : {X : Type 0} (xs : List X) (k : ℕ) (x : X) → slice_get xs k ≡ Some x → take k xs ++ x ∷ [] ≡ take (k + 1) xs
takes xs k x e = let h = here xs k x e in ap (λ y. take k xs ++ y ∷ []) (sym h.1) ∙ sym (take_more xs k x h.0)

-- ---- places that are all units

few_order : (vs : List Member) (ps : List ℕ) → length (in_order vs ps) ≤ length ps
few_order vs [] = omega arith
few_order vs (p ∷ ps) = by (slice_get vs p) (few_order vs ps)
  where
    by : (o : Option Member) → length (in_order vs ps) ≤ length ps → length (option_to_list o ++ in_order vs ps) ≤ suc (length ps)
    by (Some v) h = omega arith
    by None h = omega arith

pub unit_at : (vs : List Member) (ps : List ℕ) (k : ℕ) (u : Member) → length (in_order vs ps) ≡ length ps → slice_get (in_order vs ps) k ≡ Some u → slice_get vs (get_or ps k 0) ≡ Some u
unit_at vs [] k u e h = absurd (none-some u h)
unit_at vs (p ∷ ps) k u e h = by (slice_get vs p) refl k e h (λ j f g. unit_at vs ps j u f g)
  where
    by : (o : Option Member) → slice_get vs p ≡ o → (k : ℕ) → length (option_to_list o ++ in_order vs ps) ≡ suc (length ps) → slice_get (option_to_list o ++ in_order vs ps) k ≡ Some u → ((j : ℕ) → length (in_order vs ps) ≡ length ps → slice_get (in_order vs ps) j ≡ Some u → slice_get vs (get_or ps j 0) ≡ Some u) → slice_get vs (get_or (p ∷ ps) k 0) ≡ Some u
    by None q k f g go = let n = few_order vs ps in absurd (omega arith)
    by (Some v) q zero f g go = q ∙ g
    by (Some v) q (suc k) f g go = go k (omega arith) g

-- ---- references resolved by names

at_named : (n : Name) (us : List Member) → at n us ≡ named n (names us)
at_named n us = sym (position-map (λ m. same m n) (λ (u : Member). u.name) us)

goal_is : (us : List Member) (i : ℕ) (u : Member) (k : ℕ) → target_place us i u k ≡ goal (names us) i u.imports k
goal_is us i u zero = refl
goal_is us i u (suc k) = λ j. option_and_then (λ n. at_named n us j) (slice_get u.imports k)

pub resolved_is : (us : List Member) (i : ℕ) (u : Member) (r : Reference) → resolved us i u r ≡ resolved_by (names us) i u.imports r
resolved_is us i u r = ap (λ o. record { unit = unwrap_or o 0; entry = r.entry }) (goal_is us i u r.position)

targets-at : (us : List Member) (i : ℕ) (vs : List Member) (ds : List Made) (k : ℕ) (u : Member) (d : Made) → slice_get vs k ≡ Some u → slice_get ds k ≡ Some d → slice_get (targets us i vs (map plain ds)) k ≡ Some (map (resolved us (i + k) u) d.parts.references)
targets-at us i [] ds k u d e f = absurd (none-some u e)
targets-at us i (v ∷ vs) [] k u d e f = absurd (none-some d f)
targets-at us i (v ∷ vs) (x ∷ ds) zero u d e f =
    let p : v ≡ u = cc in
    let q : x ≡ d = cc in
    ap Some (λ j. map (resolved us (sym (add-zero i) j) (p j)) (q j).parts.references)
targets-at us i (v ∷ vs) (x ∷ ds) (suc k) u d e f = targets-at us (i + 1) vs ds k u d e f ∙ ap (λ n. Some (map (resolved us n u) d.parts.references)) (add_assoc i 1 k ∙ ap (λ n. i + n) (one-add k))

length-targets : (us : List Member) (i : ℕ) (vs : List Member) (ps : List Plain) → length (targets us i vs ps) ≤ length vs
length-targets us i [] ps = omega arith
length-targets us i (v ∷ vs) [] = omega arith
length-targets us i (v ∷ vs) (p ∷ ps) = let h = length-targets us (i + 1) vs ps in omega arith

-- ---- the image so far

-- the first k units
abbrev pub taken : ℕ → Units → Units
taken k u = record { names = take k u.names; codes = take k u.codes; entries = take k u.entries; references = take k u.references }

module _ (us : List Member) (ds : List Made) where
  abbrev all : Units
  all = units_of us (map plain ds)

  -- what is left to test, and the units so far
  abbrev pub SoFar : ℕ → Units → Type 0
  SoFar k image = (linking us (map plain ds) ≡ tested_from (units_of us (map plain ds)) (drop k us) (drop k (units_of us (map plain ds)).references)) × (image ≡ taken k (units_of us (map plain ds)))

  module _ (k : ℕ) (u : Member) (d : Made) (e : slice_get us k ≡ Some u) (f : slice_get ds k ≡ Some d) where
    ts : List Target
    ts = targets_of (names us) k u d

    referred : slice_get all.references k ≡ Some (targets_of (names us) k u d)
    referred = targets-at us 0 us ds k u d e f ∙ ap (λ n. Some (map (resolved us n u) d.parts.references)) zero_plus ∙ ap Some (λ j. map (λ r. resolved_is us k u r j) d.parts.references)
      where
        zero_plus : 0 + k ≡ k
        zero_plus = omega arith

    next : (image : Units) → SoFar k image → linking us (map plain ds) ≡ link_by u.name (lacking (entries_of ds) (targets_of (names us) k u d)) (tested_from all (drop (k + 1) us) (drop (k + 1) all.references))
    next image inv = inv.0 ∙ (λ j. tested_from all (drops us k u e j) (drops all.references k (targets_of (names us) k u d) referred j))

    pub more : (image after : Units) → SoFar k image → lacking (entries_of ds) (targets_of (names us) k u d) ≡ None → after ≡ with_unit image u.name d.parts.code d.parts.entries (targets_of (names us) k u d) → SoFar (k + 1) after
    more image after inv none is = (
      next image inv ∙ ap (λ o. link_by u.name o (tested_from all (drop (k + 1) us) (drop (k + 1) all.references))) none,
      is
          ∙ ap (λ i. with_unit i u.name d.parts.code d.parts.entries (targets_of (names us) k u d)) inv.1
          ∙ (λ j.
          record {
            names = takes all.names k u.name (nth-map (λ (x : Member). x.name) us k u e) j;
            codes = takes all.codes k d.parts.code (nth-map (λ (p : Plain). p.code) (map plain ds) k (plain d) (nth-map plain ds k d f)) j;
            entries = takes all.entries k d.parts.entries (nth-map (λ (p : Plain). p.entries) (map plain ds) k (plain d) (nth-map plain ds k d f)) j;
            references = takes all.references k (targets_of (names us) k u d) referred j;
          }),
    )

    pub stops : (image : Units) (n : ℕ) → SoFar k image → lacking (entries_of ds) (targets_of (names us) k u d) ≡ Some n → linking us (map plain ds) ≡ broken u.name n
    stops image n inv some = next image inv ∙ ap (λ o. link_by u.name o (tested_from all (drop (k + 1) us) (drop (k + 1) all.references))) some

  pub ends : (k : ℕ) (image : Units) → length us ≤ k → length ds ≤ k → SoFar k image → whole image ≡ linking us (map plain ds)
  ends k image h g inv =
      let a : length (map (λ (u : Member). u.name) us) ≡ length us = length-map us (λ (u : Member). u.name) in
      let b : length (map plain ds) ≡ length ds = length-map ds plain in
      let c : length (map (λ (p : Plain). p.code) (map plain ds)) ≡ length (map plain ds) = length-map (map plain ds) (λ (p : Plain). p.code) in
      let c' : length (map (λ (p : Plain). p.entries) (map plain ds)) ≡ length (map plain ds) = length-map (map plain ds) (λ (p : Plain). p.entries) in
      let t = length-targets us 0 us (map plain ds) in
      ap whole (inv.1 ∙ (λ j.
      record {
        names = take_all k all.names (omega arith) j;
        codes = take_all k all.codes (omega arith) j;
        entries = take_all k all.entries (omega arith) j;
        references = take_all k all.references (omega arith) j;
      }))
      ∙ sym (inv.0 ∙ ap (λ xs. tested_from all xs (drop k all.references)) (drop_all k us h))

-- one turn, by what became of the unit
module _ (vs : List Member) (places : List ℕ) (ds : List Made) (k : ℕ) (image : Units) (slice : List Name) (whole-order : length (in_order vs places) ≡ length places) (all_done : length ds ≡ length places) (few : length places < 25) (inv : SoFar (in_order vs places) ds k image)
    (named : slice ≡ names (in_order vs places)) (h : k < length places) where
  abbrev us : List Member
  us = in_order vs places

  abbrev After : Units → Result (Unit {0}) Missing → Type 0
  After after (Ok x) = SoFar us ds (k + 1) after
  After after (Err e) = broken e.unit e.reference ≡ linking us (map plain ds)

  -- the unit at the place
  here-unit : (u : Member) × (slice_get us k ≡ Some u) × (slice_get vs (get_or places k 0) ≡ Some u)
  here-unit = let u = some_at us k (omega arith) in (u.0, u.1, unit_at vs places k u.0 whole-order u.1)

  -- there is one
  pub never_none : slice_get vs (get_or places k 0) ≡ None → ⊥
  never_none e = none-some _ (sym e ∙ here-unit.2)

  pub turned : (after : Units) (r : Result (Unit {0}) Missing) (u : Member) → slice_get vs (get_or places k 0) ≡ Some u
      → ((d : Made) → slice_get ds k ≡ Some d → length image.names < 24 → Added (entries_of ds) (targets_of slice k u d) u d image after r)
      → After after r
  turned after r u e added =
      let d = some_at ds k (omega arith) in
      let is : here-unit.0 ≡ u = same_Some here-unit.0 u (sym here-unit.2 ∙ e) in
      let a : length (map (λ (x : Member). x.name) us) ≡ length us = length-map us (λ (x : Member). x.name) in
      let b = length-take-le k (map (λ (x : Member). x.name) us) (omega arith) in
      let n : length image.names ≡ length (take k (map (λ (x : Member). x.name) us)) = ap (λ (i : Units). length i.names) inv.1 in
      by d.0 (here-unit.1 ∙ ap Some is) d.1 r
      (subst (λ ns. Added (entries_of ds) (targets_of ns k u d.0) u d.0 image after r) named (added d.0 d.1 (omega arith)))
    where
      by : (d : Made) → slice_get us k ≡ Some u → slice_get ds k ≡ Some d → (r : Result (Unit {0}) Missing) → Added (entries_of ds) (targets_of (names us) k u d) u d image after r → After after r
      by d e f (Ok x) g = more us ds k u d e f image after inv g.0 g.1
      by d e f (Err x) g = ap (λ n. broken n x.reference) g.1 ∙ sym (stops us ds k u d e f image x.reference inv g.0)
