-- What put and remove make of the units.
use Rattle.std.proofs.Common.{◌≡◌, ℕ, zero, suc, ◌<◌, Bool, true, false, cond, ◌⊎◌, List, [], ◌∷◌, ◌++◌, map, length, set, is_some, Some, None, Option, sym, refl, ap, ◌∙◌, inl, inr, arith, position}
use Rattle.std.specs.Option.{option_map}
use Rattle.std.specs.List.{remove}
use Rattle.std.proofs.lemmas.List.{map-append}
use Rattle.std.proofs.lemmas.Bool.{true≢false}
use Rattle.names.specs.declared.name.Name.{Name}
use Rattle.project.specs.declared.unit.Unit.{Unit}
use Rattle.project.specs.Members.{Member, member, same, at, with, without}
use Rattle.project.proofs.Places.{position-cons}

-- one step of the search for the first element that passes
first_case : {X : Type 0} (p : X → Bool) (x : X) (xs : List X) (r : Option ℕ) → position p (x ∷ xs) ≡ r → ((p x ≡ true) × (r ≡ Some 0)) ⊎ ((p x ≡ false) × (r ≡ option_map suc (position p xs)))
first_case p x xs r h = by (p x) refl
  where
    by : (b : Bool) → p x ≡ b → ((p x ≡ true) × (r ≡ Some 0)) ⊎ ((p x ≡ false) × (r ≡ option_map suc (position p xs)))
    by true e = inl (e, sym h ∙ position-cons p x xs ∙ ap (λ b. cond b (Some 0) (option_map suc (position p xs))) e)
    by false e = inr (e, sym h ∙ position-cons p x xs ∙ ap (λ b. cond b (Some 0) (option_map suc (position p xs))) e)

-- a place told by `mapped suc` is one more than the place told
one_more : (o : Option ℕ) (i : ℕ) → option_map suc o ≡ Some i → (j : ℕ) × (o ≡ Some j) × (i ≡ suc j)
one_more (Some j) i h = (j, refl, cc)
one_more None i h = let z : ◌≡◌ {A = Bool} true false = ap is_some (sym h) in absurd (true≢false z)

none_more : (o : Option ℕ) → option_map suc o ≡ None → o ≡ None
none_more (Some j) h = absurd (true≢false (ap is_some h))
none_more None h = refl

pub with_at : (u : Member) (vs : List Member) (i : ℕ) → at u.name vs ≡ Some i → (i < length vs) × (with u vs ≡ set vs i u)
with_at u [] i h = absurd (true≢false (sym (ap is_some h)))
with_at u (v ∷ vs) i h =
    elim (first_case (λ w. same w.name u.name) v vs (Some i) h) [
      | inl e ↦
          let z : i ≡ 0 = cc e.1 in
          (omega arith, ap (λ b. cond b (u ∷ vs) (v ∷ with u vs)) e.0 ∙ ap (λ k. set (v ∷ vs) k u) (sym z))
      | inr e ↦
          let m = one_more (at u.name vs) i (sym e.1) in
          let r = with_at u vs m.0 m.1 in
          let z = m.2 in
          (omega arith, ap (λ b. cond b (u ∷ vs) (v ∷ with u vs)) e.0 ∙ ap (λ ws. v ∷ ws) r.1 ∙ ap (λ k. set (v ∷ vs) k u) (sym m.2))
    ]

pub with_none : (u : Member) (vs : List Member) → at u.name vs ≡ None → with u vs ≡ vs ++ u ∷ []
with_none u [] h = refl
with_none u (v ∷ vs) h =
    elim (first_case (λ w. same w.name u.name) v vs None h) [
      | inl e ↦ absurd (true≢false (sym (ap is_some e.1)))
      | inr e ↦ ap (λ b. cond b (u ∷ vs) (v ∷ with u vs)) e.0 ∙ ap (λ ws. v ∷ ws) (with_none u vs (none_more (at u.name vs) (sym e.1)))
    ]

pub without_at : (n : Name) (vs : List Member) (i : ℕ) → at n vs ≡ Some i → (i < length vs) × (without n vs ≡ remove vs i)
without_at n [] i h = absurd (true≢false (sym (ap is_some h)))
without_at n (v ∷ vs) i h =
    elim (first_case (λ w. same w.name n) v vs (Some i) h) [
      | inl e ↦
          let z : i ≡ 0 = cc e.1 in
          (omega arith, ap (λ b. cond b vs (v ∷ without n vs)) e.0 ∙ ap (λ k. remove (v ∷ vs) k) (sym z))
      | inr e ↦
          let m = one_more (at n vs) i (sym e.1) in
          let r = without_at n vs m.0 m.1 in
          let z = m.2 in
          (omega arith, ap (λ b. cond b vs (v ∷ without n vs)) e.0 ∙ ap (λ ws. v ∷ ws) r.1 ∙ ap (λ k. remove (v ∷ vs) k) (sym m.2))
    ]

pub map_removed : {X Y : Type 0} (f : X → Y) (xs : List X) (i : ℕ) → map f (remove xs i) ≡ remove (map f xs) i
map_removed f [] zero = refl
map_removed f [] (suc i) = refl
map_removed f (x ∷ xs) zero = refl
map_removed f (x ∷ xs) (suc i) = ap (λ ys. f x ∷ ys) (map_removed f xs i)

-- one unit more, where there was room
pub added : (us now : List Unit) (x : Unit) (u : Member) (t s : Bool) → member x ≡ u → now ≡ cond t (us ++ x ∷ []) us → s ≡ t → at u.name (map member us) ≡ None → map member now ≡ cond s (with u (map member us)) (map member us)
added us now x u true s m e f n =
    ap (map member) e
    ∙ map-append member us (x ∷ [])
    ∙ ap (λ v. map member us ++ v ∷ []) m
    ∙ sym (with_none u (map member us) n)
    ∙ sym (ap (λ b. cond b (with u (map member us)) (map member us)) f)
added us now x u false s m e f n = ap (map member) e ∙ sym (ap (λ b. cond b (with u (map member us)) (map member us)) f)
