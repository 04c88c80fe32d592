-- Products that importers cannot tell apart.
use Rattle.std.proofs.Common.{◌≡◌, Bool, true, false, cond, List, [], ◌∷◌, map, length, is_some, Some, None, Option, sym, refl, ap, ◌∙◌, subst, arith}
use Rattle.std.specs.List.{AllZip, AllByRecursion}
use Rattle.std.specs.Str.{bytes_eq}
use Rattle.std.proofs.lemmas.List.Elements.{AllZip-push}
use Rattle.std.proofs.lemmas.Slice.Eq.{bytes_eq-Decides}
use Rattle.std.proofs.lemmas.List.{length-map}
use Rattle.std.proofs.lemmas.Bool.{true≢false, and_parts}
use Rattle.names.specs.declared.name.Name.{Name}
use Rattle.names.specs.declared.refusal.Fault.{Fault}
use Rattle.product.specs.declared.row.Row.{Row}
use Rattle.product.specs.Parts.{Parts, Outcome, made, faulted, WithinRows}
use Rattle.translator.specs.Owed.{Alike, Agree, Kept}
use Rattle.artifact.specs.Art.{Art, WithinArt}
use Rattle.project.specs.Members.{Member, same}
use Rattle.ledger.specs.Meaning.{Meaning, Laws}
use Rattle.ledger.specs.Fresh.{Made, interface_of, interfaces, and_unit}
use Rattle.ledger.specs.Shelf.{all_same, is_current, current, art_of}
use Rattle.ledger.specs.Sound.{SoundMember, SoundMade}
use Rattle.ledger.specs.Agrees.{LikeParts, Like}

-- one outcome that agrees with a product or a fault
pub agree_made : (m : Meaning) (p : Parts) (o : Outcome) → Agree m.same (made p) o → (q : Parts) × (o ≡ made q) × LikeParts m p q
agree_made m p (made q) h = (q, refl, h)
agree_made m p (faulted f) h = absurd h

pub agree_faulted : (m : Meaning) (f : Fault) (o : Outcome) → Agree m.same (faulted f) o → o ≡ faulted f
agree_faulted m f (made q) h = absurd h
agree_faulted m f (faulted g) h = ap faulted (sym h)

-- the test of sameness place by place
pub all_same_alike : (same : List Row → List Row → Bool) (xs ys : List (List Row)) → all_same same xs ys ≡ true → Alike same xs ys
all_same_alike same [] [] h = tt
all_same_alike same [] (y ∷ ys) h = absurd (true≢false (sym h))
all_same_alike same (x ∷ xs) [] h = absurd (true≢false (sym h))
all_same_alike same (x ∷ xs) (y ∷ ys) h = let p = and_parts (same x y) (all_same same xs ys) h in (p.0, all_same_alike same xs ys p.1)

-- what is current has the unit's source, and interfaces the same as the present ones
pub current_some : (m : Meaning) (u : Member) (present : List (List Row)) (o : Option Art) (a : Art) → current m u present o ≡ Some a → (o ≡ Some a) × (a.source ≡ u.source) × Alike m.same a.imports present
current_some m u present None a h = absurd (true≢false (sym (ap is_some h)))
current_some m u present (Some b) a h = by (is_current m u present b) refl
  where
    by : (t : Bool) → is_current m u present b ≡ t → (Some b ≡ Some a) × (a.source ≡ u.source) × Alike m.same a.imports present
    by true e =
        let one : Some b ≡ Some a = sym (ap (λ t. cond t (Some b) None) e) ∙ h in
        let is : b ≡ a = cc in
        let p = and_parts (bytes_eq b.source u.source) (all_same m.same b.imports present) e in
        (one, ap (λ (x : Art). x.source) (sym is) ∙ (bytes_eq-Decides b.source u.source).0 p.0, subst (λ (x : Art). Alike m.same x.imports present) is (all_same_alike m.same b.imports present p.1))
    by false e = absurd (true≢false (sym (ap is_some (sym (ap (λ t. cond t (Some b) None) e) ∙ h))))

module _ (m : Meaning) (l : Laws m) where
  pub alike_chain : (xs ys zs : List (List Row)) → Alike m.same xs ys → Alike m.same ys zs → Alike m.same xs zs
  alike_chain [] [] [] h k = tt
  alike_chain [] [] (z ∷ zs) h k = k
  alike_chain [] (y ∷ ys) zs h k = absurd h
  alike_chain (x ∷ xs) [] zs h k = absurd h
  alike_chain (x ∷ xs) (y ∷ ys) [] h k = absurd k
  alike_chain (x ∷ xs) (y ∷ ys) (z ∷ zs) h k = (l.chained x y z h.0 k.0, alike_chain xs ys zs h.1 k.1)

  pub alike_itself : (xs : List (List Row)) → Alike m.same xs xs
  alike_itself [] = tt
  alike_itself (x ∷ xs) = (l.itself x, alike_itself xs)

  like-interface : (ds es : List Made) → AllZip (Like m) ds es → (n : Name) → m.same (interface_of ds n) (interface_of es n) ≡ true
  like-interface [] [] h n = l.itself []
  like-interface [] (e ∷ es) h n = absurd h
  like-interface (d ∷ ds) [] h n = absurd h
  like-interface (d ∷ ds) (e ∷ es) h n = by (same d.unit n) refl (like-interface ds es h.1 n)
    where
      by : (t : Bool) → same d.unit n ≡ t → m.same (interface_of ds n) (interface_of es n) ≡ true → m.same (interface_of (d ∷ ds) n) (interface_of (e ∷ es) n) ≡ true
      by true q r =
          let q' : same e.unit n ≡ true = ap (λ u. same u n) (sym h.0.0) ∙ q in
          (λ i. m.same (cond (q i) d.parts.interface (interface_of ds n)) (cond (q' i) e.parts.interface (interface_of es n))) ∙ h.0.1.0
      by false q r =
          let q' : same e.unit n ≡ false = ap (λ u. same u n) (sym h.0.0) ∙ q in
          (λ i. m.same (cond (q i) d.parts.interface (interface_of ds n)) (cond (q' i) e.parts.interface (interface_of es n))) ∙ r

  like-listed : (ds es : List Made) → AllZip (Like m) ds es → (ns : List Name) → Alike m.same (map (interface_of ds) ns) (map (interface_of es) ns)
  like-listed ds es h [] = tt
  like-listed ds es h (n ∷ ns) = (like-interface ds es h n, like-listed ds es h ns)

  -- a unit's imports have the same interfaces in lists that are alike
  pub like-interfaces : (ds es : List Made) → AllZip (Like m) ds es → (u : Member) → Alike m.same (interfaces ds u) (interfaces es u)
  like-interfaces ds es h u = like-listed ds es h u.imports

  pub like_push : (ds es : List Made) (u : Member) (p q : Parts) → AllZip (Like m) ds es → LikeParts m p q → AllZip (Like m) (and_unit ds u p) (and_unit es u q)
  like_push ds es u p q h k = AllZip-push (Like m) ds es (record { unit = u.name; parts = p }) (record { unit = u.name; parts = q }) h (refl, k)

-- interfaces that a caller can hold
sound_interface : (ds : List Made) → AllByRecursion SoundMade ds → (n : Name) → WithinRows (interface_of ds n)
sound_interface [] h n = (omega arith, tt)
sound_interface (d ∷ ds) h n = by (same d.unit n) (sound_interface ds h.1 n)
  where
    by : (t : Bool) → WithinRows (interface_of ds n) → WithinRows (cond t d.parts.interface (interface_of ds n))
    by true r = h.0
    by false r = r

sound_listed : (ds : List Made) → AllByRecursion SoundMade ds → (ns : List Name) → AllByRecursion WithinRows (map (interface_of ds) ns)
sound_listed ds h [] = tt
sound_listed ds h (n ∷ ns) = (sound_interface ds h n, sound_listed ds h ns)

pub sound_interfaces : (ds : List Made) → AllByRecursion SoundMade ds → (u : Member) → AllByRecursion WithinRows (interfaces ds u)
sound_interfaces ds h u = sound_listed ds h u.imports

-- what is stored keeps the limits
pub sound_art : (m : Meaning) → Laws m → (u : Member) (ds : List Made) (p : Parts) → SoundMember u → AllByRecursion SoundMade ds → m.means u.source (interfaces ds u) ≡ made p → WithinArt (art_of u (interfaces ds u) p)
sound_art m l u ds p h k e =
    let few : length (interfaces ds u) ≡ length u.imports = length-map u.imports (interface_of ds) in
    record {
      few_source = h.0;
      source = h.1;
      few_imports = let n = h.2 in omega arith;
      imports = sound_interfaces ds k u;
      product = subst (Kept (length (interfaces ds u))) e (l.bounded u.source (interfaces ds u) (h.1, sound_interfaces ds k u));
    }
