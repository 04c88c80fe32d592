-- A build over true artifacts agrees with fresh translation, and leaves true artifacts.
use Rattle.std.proofs.Common.{◌≡◌, ℕ, zero, suc, Bool, true, false, cond, List, [], ◌∷◌, length, take, Some, None, Option, sym, refl, ap, ◌∙◌, subst}
use Rattle.std.specs.List.{AllZip, AllByRecursion}
use Rattle.std.specs.Str.{bytes_eq}
use Rattle.std.proofs.ByRecursion.{All-push}
use Rattle.product.specs.declared.row.Row.{Row}
use Rattle.product.specs.Parts.{Parts, Outcome, made, faulted}
use Rattle.translator.specs.Owed.{Alike, Agree}
use Rattle.artifact.specs.Art.{Art}
use Rattle.project.specs.Members.{Member}
use Rattle.ledger.specs.Meaning.{Meaning, Laws}
use Rattle.ledger.specs.Fresh.{Made, interfaces, and_unit, Fresh, failed, fresh_units}
use Rattle.ledger.specs.Shelf.{Shelf, current, art_of, Ended, accepted, faulty, unstored, Built, marked, stopped, build_units}
use Rattle.ledger.specs.Sound.{SoundMember, SoundMade, TrueArt, TrueShelf, Keeps}
use Rattle.ledger.specs.Agrees.{LikeParts, Like, AgreesBy, Agrees}
use Rattle.ledger.proofs.Alike.{agree_made, agree_faulted, current_some, alike_itself, alike_chain, like-interfaces, like_push, sound_art}

-- one unit of a fresh translation, by what the function gives for it
module _ (m : Meaning) (u : Member) (us : List Member) (done : List Made) where
  after : Outcome → Fresh
  after (made p) = fresh_units m us (and_unit done u p)
  after (faulted f) = failed u.name f

  after_is : (o : Outcome) → elim o [ made p ↦ fresh_units m us (and_unit done u p) | faulted f ↦ failed u.name f ] ≡ after o
  unfolding after
  after_is (made p) = refl
  after_is (faulted f) = refl

  pub fresh_made : (p : Parts) → m.means u.source (interfaces done u) ≡ made p → fresh_units m (u ∷ us) done ≡ fresh_units m us (and_unit done u p)
  unfolding after
  fresh_made p e = after_is (m.means u.source (interfaces done u)) ∙ ap after e

  pub fresh_faulted : (f : _) → m.means u.source (interfaces done u) ≡ faulted f → fresh_units m (u ∷ us) done ≡ failed u.name f
  unfolding after
  fresh_faulted f e = after_is (m.means u.source (interfaces done u)) ∙ ap after e

module _ {S : Type 0} (m : Meaning) (l : Laws m) (sh : Shelf S) (keeps : Keeps sh) where
  -- what a build shows of its units
  abbrev pub Shows : List Member → List Made → Built S → Type 0
  Shows us fresh-done b = Agrees m us fresh-done b × TrueShelf m sh b.state

  -- one unit with a like product before the others
  ahead : (u : Member) (us : List Member) (es : List Made) (q : Parts) (k : ℕ) (b : Built S) → fresh_units m (u ∷ us) es ≡ fresh_units m us (and_unit es u q) → ((vs : List Member) → fresh_units m (u ∷ vs) es ≡ fresh_units m vs (and_unit es u q)) → Shows us (and_unit es u q) b → Shows (u ∷ us) es (marked k b)
  ahead u us es q k b e go h = (by b.ended h.0, h.1)
    where
      by : (x : Ended) → AgreesBy m us (and_unit es u q) b.done (length b.marks) x → AgreesBy m (u ∷ us) es b.done (suc (length b.marks)) x
      by accepted g = (g.0, e ∙ g.1, g.2)
      by (faulty n f) g = e ∙ g
      by (unstored n c) g = (g.0, go (take (length b.marks) us) ∙ g.1)

  true_kept : (s : S) (q : List ℕ) (a : Art) → TrueShelf m sh s → TrueArt m a → sh.room s q a ≡ 0 → TrueShelf m sh (sh.kept s q a)
  true_kept s q a h t e p b k = by (bytes_eq q p) (sym (keeps.back s q a p t.0 e) ∙ k)
    where
      by : (c : Bool) → cond c (Some a) (sh.seen s p) ≡ Some b → TrueArt m b
      by true g = let is : a ≡ b = cc in subst (TrueArt m) is t
      by false g = h p b g

  pub build_shows : (us : List Member) (ds es : List Made) (s : S) → AllByRecursion SoundMember us → AllByRecursion SoundMade ds → TrueShelf m sh s → AllZip (Like m) ds es → Shows us es (build_units m sh us ds s)
  build_shows [] ds es s su sd t h = ((es, refl, h), t)
  build_shows (u ∷ us) ds es s su sd t h =
      by_kept (current m u (interfaces ds u) (sh.seen s u.name.bytes)) refl
      (λ p q w g. build_shows us (and_unit ds u p) (and_unit es u q) s su.1 (All-push SoundMade ds _ sd w) t (like_push m l ds es u p q h g))
      (λ p q w g s' t'. build_shows us (and_unit ds u p) (and_unit es u q) s' su.1 (All-push SoundMade ds _ sd w) t' (like_push m l ds es u p q h g))
    where
      -- what fresh translation gives where the function gives p for interfaces that are the same
      twin : (p : Parts) (imports : List (List Row)) → m.means u.source imports ≡ made p → Alike m.same imports (interfaces ds u) → (q : Parts) × (m.means u.source (interfaces es u) ≡ made q) × LikeParts m p q
      twin p imports e a =
          agree_made m p (m.means u.source (interfaces es u))
          (subst (λ o. Agree m.same o (m.means u.source (interfaces es u))) e (l.agrees u.source imports (interfaces es u) (alike_chain m l imports (interfaces ds u) (interfaces es u) a (like-interfaces m l ds es h u))))

      by_room : (p : Parts) → m.means u.source (interfaces ds u) ≡ made p → (n : ℕ) → sh.room s u.name.bytes (art_of u (interfaces ds u) p) ≡ n
          → ((q : Parts) → SoundMade (record { unit = u.name; parts = p }) → LikeParts m p q → (s' : S) → TrueShelf m sh s' → Shows us (and_unit es u q) (build_units m sh us (and_unit ds u p) s'))
          → Shows (u ∷ us) es (elim n [
            | zero ↦ marked 1 (build_units m sh us (and_unit ds u p) (sh.kept s u.name.bytes (art_of u (interfaces ds u) p)))
            | suc n ↦ stopped (unstored u.name (suc n)) ds s
          ])
      by_room p e zero r go =
          let w = twin p (interfaces ds u) e (alike_itself m l (interfaces ds u)) in
          let fits = sound_art m l u ds p su.0 sd e in
          ahead u us es w.0 1 (build_units m sh us (and_unit ds u p) (sh.kept s u.name.bytes (art_of u (interfaces ds u) p)))
          (fresh_made m u us es w.0 w.1) (λ vs. fresh_made m u vs es w.0 w.1)
          (go w.0 fits.product.interface w.2 (sh.kept s u.name.bytes (art_of u (interfaces ds u) p)) (true_kept s u.name.bytes (art_of u (interfaces ds u) p) t (fits, e) r))
      by_room p e (suc n) r go =
          let w = twin p (interfaces ds u) e (alike_itself m l (interfaces ds u)) in
          ((and_unit es u w.0, fresh_made m u [] es w.0 w.1), t)

      by_means : (o : Outcome) → m.means u.source (interfaces ds u) ≡ o
          → ((p q : Parts) → SoundMade (record { unit = u.name; parts = p }) → LikeParts m p q → (s' : S) → TrueShelf m sh s' → Shows us (and_unit es u q) (build_units m sh us (and_unit ds u p) s'))
          → Shows (u ∷ us) es (elim o [
            | faulted f ↦ stopped (faulty u.name f) ds s
            | made p ↦
                elim (sh.room s u.name.bytes (art_of u (interfaces ds u) p)) [
                  | zero ↦ marked 1 (build_units m sh us (and_unit ds u p) (sh.kept s u.name.bytes (art_of u (interfaces ds u) p)))
                  | suc n ↦ stopped (unstored u.name (suc n)) ds s
                ]
          ])
      by_means (faulted f) e go = (
        fresh_faulted m u us es f
            (agree_faulted m f (m.means u.source (interfaces es u))
            (subst (λ o. Agree m.same o (m.means u.source (interfaces es u))) e (l.agrees u.source (interfaces ds u) (interfaces es u) (like-interfaces m l ds es h u)))),
        t,
      )
      by_means (made p) e go = by_room p e (sh.room s u.name.bytes (art_of u (interfaces ds u) p)) refl (go p)

      by_kept : (c : Option Art) → current m u (interfaces ds u) (sh.seen s u.name.bytes) ≡ c
          → ((p q : Parts) → SoundMade (record { unit = u.name; parts = p }) → LikeParts m p q → Shows us (and_unit es u q) (build_units m sh us (and_unit ds u p) s))
          → ((p q : Parts) → SoundMade (record { unit = u.name; parts = p }) → LikeParts m p q → (s' : S) → TrueShelf m sh s' → Shows us (and_unit es u q) (build_units m sh us (and_unit ds u p) s'))
          → Shows (u ∷ us) es (elim c [
            | Some a ↦ marked 0 (build_units m sh us (and_unit ds u a.product) s)
            | None ↦
                elim (m.means u.source (interfaces ds u)) [
                  | faulted f ↦ stopped (faulty u.name f) ds s
                  | made p ↦
                      elim (sh.room s u.name.bytes (art_of u (interfaces ds u) p)) [
                        | zero ↦ marked 1 (build_units m sh us (and_unit ds u p) (sh.kept s u.name.bytes (art_of u (interfaces ds u) p)))
                        | suc n ↦ stopped (unstored u.name (suc n)) ds s
                      ]
                ]
          ])
      by_kept (Some a) e go go' =
          let is = current_some m u (interfaces ds u) (sh.seen s u.name.bytes) a e in
          let true-art = t u.name.bytes a is.0 in
          let w = twin a.product a.imports (ap (λ src. m.means src a.imports) (sym is.1) ∙ true-art.1) is.2 in
          ahead u us es w.0 0 (build_units m sh us (and_unit ds u a.product) s) (fresh_made m u us es w.0 w.1) (λ vs. fresh_made m u vs es w.0 w.1)
          (go a.product w.0 true-art.0.product.interface w.2)
      by_kept None e go go' = by_means (m.means u.source (interfaces ds u)) refl go'
