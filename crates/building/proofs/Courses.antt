-- A build on its way: one unit more.
use Rattle.std.proofs.Common.{◌≡◌, ℕ, zero, suc, ◌+◌, ◌%◌, ◌^◌, ◌<◌, Bool, cond, ◌||◌, eqb, ltb, List, [], ◌∷◌, ◌++◌, length, sym, ap, ◌∙◌, add-zero, add_assoc, add-suc, zero-add}
use mathlib.Core.List.{map-append}
use Rattle.std.proofs.lemmas.Bool.{lt-ltb}
use Rattle.project.specs.Members.{Member}
use Rattle.ledger.specs.Meaning.{Meaning}
use Rattle.ledger.specs.Fresh.{Made, in_order}
use Rattle.ledger.specs.Shelf.{Shelf, build_units, translations, raised}
use Rattle.ledger.specs.Stored.{View}
use Rattle.building.specs.declared.mark.Mark.{Mark}
use Rattle.building.specs.Step.{mark_number}
use Rattle.building.specs.Course.{numbers, ahead}

-- one mark more
pub marked_more : (was now : List Mark) (k : Mark) (r : Bool) → r ≡ ltb (length was) 24 → length was < 24 → now ≡ cond r (was ++ k ∷ []) was → numbers now ≡ numbers was ++ mark_number k ∷ []
marked_more was now k r fits few after = ap numbers (after ∙ ap (λ b. cond b (was ++ k ∷ []) was) (fits ∙ lt-ltb (length was) 24 few)) ∙ map-append mark_number was (k ∷ [])

-- the count goes with the marks
translations-append : (ks js : List ℕ) → translations (ks ++ js) ≡ translations ks + translations js
translations-append [] js = sym (zero-add (translations js))
translations-append (k ∷ ks) js = ap (λ n. cond (eqb k 1 || eqb k 2) 1 0 + n) (translations-append ks js) ∙ sym (add_assoc (cond (eqb k 1 || eqb k 2) 1 0) (translations ks) (translations js))

raised-more : (a n j : ℕ) → raised (raised a n) j ≡ raised a (n + j)
raised-more a n zero = ap (raised a) (sym (add-zero n))
raised-more a n (suc j) = ap (λ x. (x + 1) % 2 ^ 64) (raised-more a n j) ∙ ap (raised a) (sym (add-suc n j))

pub counts_on : (a was now : ℕ) (ks js : List ℕ) (k : ℕ) → was ≡ raised a (translations ks) → now ≡ raised was (translations (k ∷ [])) → js ≡ ks ++ k ∷ [] → now ≡ raised a (translations js)
counts_on a was now ks js k e f one =
    f ∙ ap (λ x. raised x (translations (k ∷ []))) e ∙ raised-more a (translations ks) (translations (k ∷ [])) ∙ ap (raised a) (sym (translations-append ks (k ∷ []))) ∙ ap (λ x. raised a (translations x)) (sym one)

-- a build of all places is, after the first, what is marked before a build of the others
abbrev pub OnCourse : Meaning → Shelf View → List Member → List ℕ → List ℕ → View → List ℕ → List Made → View → Type 0
OnCourse m sh vs places left v ks ds w = build_units m sh (in_order vs places) [] v ≡ ahead ks (build_units m sh (in_order vs left) ds w)
