-- One unit of a build, by what is found for it.
use Rattle.std.proofs.Common.{◌≡◌, ℕ, zero, suc, List, ◌∷◌, Some, None, Option, refl, ap, ◌∙◌}
use Rattle.names.specs.declared.refusal.Fault.{Fault}
use Rattle.product.specs.Parts.{Parts, Outcome, made, faulted}
use Rattle.artifact.specs.Art.{Art}
use Rattle.project.specs.Members.{Member}
use Rattle.ledger.specs.Meaning.{Meaning}
use Rattle.ledger.specs.Fresh.{Made, interfaces, and_unit}
use Rattle.ledger.specs.Shelf.{Shelf, current, art_of, faulty, unstored, Built, marked, stopped, build_units}

module _ {S : Type 0} (m : Meaning) (sh : Shelf S) (u : Member) (us : List Member) (ds : List Made) (s : S) where
  -- by the store's answer, by what the function gives, and by what is kept
  abbrev by_room : Parts → ℕ → Built S
  by_room p zero = marked 1 (build_units m sh us (and_unit ds u p) (sh.kept s u.name.bytes (art_of u (interfaces ds u) p)))
  by_room p (suc n) = stopped (unstored u.name (suc n)) ds s

  abbrev by_outcome : Outcome → Built S
  by_outcome (faulted f) = stopped (faulty u.name f) ds s
  by_outcome (made p) = by_room p (sh.room s u.name.bytes (art_of u (interfaces ds u) p))

  abbrev by_kept : Option Art → Built S
  by_kept (Some a) = marked 0 (build_units m sh us (and_unit ds u a.product) s)
  by_kept None = by_outcome (m.means u.source (interfaces ds u))

  room_is : (p : Parts) (n : ℕ) → elim n [ zero ↦ marked 1 (build_units m sh us (and_unit ds u p) (sh.kept s u.name.bytes (art_of u (interfaces ds u) p))) | suc n ↦ stopped (unstored u.name (suc n)) ds s ] ≡ by_room p n
  room_is p zero = refl
  room_is p (suc n) = refl

  outcome_is : (o : Outcome) → elim o [ faulted f ↦ stopped (faulty u.name f) ds s | made p ↦ elim (sh.room s u.name.bytes (art_of u (interfaces ds u) p)) [ zero ↦ marked 1 (build_units m sh us (and_unit ds u p) (sh.kept s u.name.bytes (art_of u (interfaces ds u) p))) | suc n ↦ stopped (unstored u.name (suc n)) ds s ] ] ≡ by_outcome o
  outcome_is (faulted f) = refl
  outcome_is (made p) = room_is p (sh.room s u.name.bytes (art_of u (interfaces ds u) p))

  kept_is : (c : Option Art) → elim c [ Some a ↦ marked 0 (build_units m sh us (and_unit ds u a.product) s) | None ↦ elim (m.means u.source (interfaces ds u)) [ faulted f ↦ stopped (faulty u.name f) ds s | made p ↦ elim (sh.room s u.name.bytes (art_of u (interfaces ds u) p)) [ zero ↦ marked 1 (build_units m sh us (and_unit ds u p) (sh.kept s u.name.bytes (art_of u (interfaces ds u) p))) | suc n ↦ stopped (unstored u.name (suc n)) ds s ] ] ] ≡ by_kept c
  kept_is (Some a) = refl
  kept_is None = outcome_is (m.means u.source (interfaces ds u))

  pub step_kept : (a : Art) → current m u (interfaces ds u) (sh.seen s u.name.bytes) ≡ Some a → build_units m sh (u ∷ us) ds s ≡ marked 0 (build_units m sh us (and_unit ds u a.product) s)
  step_kept a e = kept_is (current m u (interfaces ds u) (sh.seen s u.name.bytes)) ∙ ap by_kept e

  step_other : current m u (interfaces ds u) (sh.seen s u.name.bytes) ≡ None → build_units m sh (u ∷ us) ds s ≡ by_outcome (m.means u.source (interfaces ds u))
  step_other e = kept_is (current m u (interfaces ds u) (sh.seen s u.name.bytes)) ∙ ap by_kept e

  pub step_faulty : (f : Fault) → current m u (interfaces ds u) (sh.seen s u.name.bytes) ≡ None → m.means u.source (interfaces ds u) ≡ faulted f → build_units m sh (u ∷ us) ds s ≡ stopped (faulty u.name f) ds s
  step_faulty f e k = step_other e ∙ ap by_outcome k

  pub step_made : (p : Parts) → current m u (interfaces ds u) (sh.seen s u.name.bytes) ≡ None → m.means u.source (interfaces ds u) ≡ made p → sh.room s u.name.bytes (art_of u (interfaces ds u) p) ≡ zero
      → build_units m sh (u ∷ us) ds s ≡ marked 1 (build_units m sh us (and_unit ds u p) (sh.kept s u.name.bytes (art_of u (interfaces ds u) p)))
  step_made p e k r = step_other e ∙ ap by_outcome k ∙ ap (by_room p) r

  pub step_unstored : (p : Parts) (n : ℕ) → current m u (interfaces ds u) (sh.seen s u.name.bytes) ≡ None → m.means u.source (interfaces ds u) ≡ made p → sh.room s u.name.bytes (art_of u (interfaces ds u) p) ≡ suc n
      → build_units m sh (u ∷ us) ds s ≡ stopped (unstored u.name (suc n)) ds s
  step_unstored p n e k r = step_other e ∙ ap by_outcome k ∙ ap (by_room p) r
