-- The turns of the loop that places one item after another.
use Rattle.std.proofs.Common.{◌≡◌, ℕ, suc, ◌+◌, ◌-◌, ◌<◌, ◌≤◌, Bool, true, false, cond, not, ◌&&◌, List, [], ◌∷◌, ◌++◌, length, take, drop, set, Some, None, Option, Ordering, unwrap_or, sym, refl, ap, ◌∙◌, subst, arith, Ok, Err, Result}
use Rattle.std.proofs.lemmas.List.{take_more_set, drop-set-lt, take-append-drop, length-take-le, drop-drop}
use Rattle.std.proofs.lemmas.Bool.{le-ltb}
use Rattle.order.specs.declared.Need.{Need}
use Rattle.order.specs.declared.Unordered.{Unordered}
use Rattle.order.specs.declared.Unordered.TheVariants.{Stuck, Short}
use Rattle.order.specs.Dependency.{Outcome, all, stuck, placed, smallest, next, left, placing, ordered, Tells, Answers}

and_true : (b : Bool) → (b && true) ≡ b
and_true true = refl
and_true false = refl

-- with no needs every item that is not placed is ready
pub left_is : {K : Type 0} (cmp : K → K → Ordering) (keys : List K) (done : List ℕ) → next cmp keys [] done ≡ left cmp keys done
left_is cmp keys done = λ j. smallest cmp (λ i. and_true (not (placed done i)) j) keys

-- what lies behind the places that are filled stays
pub rest_goes : (count : ℕ) (now before : List ℕ) (i : ℕ) → drop count now ≡ drop count before → drop (count + 1) (set now count i) ≡ drop (count + 1) before
rest_goes count now before i rest = drop-set-lt (count + 1) now count i (omega arith) ∙ sym (drop-drop 1 count now) ∙ ap (drop 1) rest ∙ drop-drop 1 count before

module _ {K : Type 0} (cmp : K → K → Ordering) (keys : List K) (needs : List (Need K)) where
  by_next : ℕ → List ℕ → Option ℕ → Outcome
  by_next n done (Some i) = placing cmp keys needs n (done ++ i ∷ [])
  by_next n done None = stuck done (unwrap_or (left cmp keys done) 0)

  by_next_is : (n : ℕ) (done : List ℕ) (o : Option ℕ) → elim o [ Some i ↦ placing cmp keys needs n (done ++ i ∷ []) | None ↦ stuck done (unwrap_or (left cmp keys done) 0) ] ≡ by_next n done o
  unfolding by_next
  by_next_is n done (Some i) = refl
  by_next_is n done None = refl

  placing-one : (n m : ℕ) (done : List ℕ) (o : Option ℕ) → m ≡ suc n → o ≡ next cmp keys needs done → placing cmp keys needs m done ≡ by_next n done o
  placing-one n m done o e h = ap (λ k. placing cmp keys needs k done) e ∙ by_next_is n done (next cmp keys needs done) ∙ ap (by_next n done) (sym h)

  module _ (count : ℕ) (now before : List ℕ) (inv : placing cmp keys needs (length keys - count) (take count now) ≡ ordered cmp keys needs) (rest : drop count now ≡ drop count before) where
    -- one item more
    pub placing_goes : (i : ℕ) → count < length keys → count < length now → Some i ≡ next cmp keys needs (take count now) → placing cmp keys needs (length keys - (count + 1)) (take (count + 1) (set now count i)) ≡ ordered cmp keys needs
    unfolding by_next
    placing_goes i h k e =
        ap (placing cmp keys needs (length keys - (count + 1))) (take_more_set now count i k)
        ∙ sym (placing-one (length keys - (count + 1)) (length keys - count) (take count now) (Some i) (omega arith) e)
        ∙ inv

    whole : count ≤ length now → now ≡ take count now ++ drop (length (take count now)) before
    whole h = sym (take-append-drop count now) ∙ ap (λ zs. take count now ++ zs) (rest ∙ ap (λ n. drop n before) (sym (length-take-le count now h)))

    told : (out : Outcome) (r : Result (Unit {0}) Unordered) → out ≡ ordered cmp keys needs → length keys ≤ length before → Tells cmp keys needs before now r out → Answers cmp keys needs before now r
    told out r e l t = subst (λ b. cond b ((r ≡ Err Short) × (now ≡ before)) (Tells cmp keys needs before now r (ordered cmp keys needs))) (sym (le-ltb (length before) (length keys) l)) (subst (λ u. Tells cmp keys needs before now r u) e t)

    -- no item can be placed any more
    pub placing_sticks : (r : Result (Unit {0}) Unordered) (i : ℕ) → count < length keys → count ≤ length now → length keys ≤ length before → None ≡ next cmp keys needs (take count now) → i ≡ unwrap_or (left cmp keys (take count now)) 0 → r ≡ Err (Stuck i) → Answers cmp keys needs before now r
    unfolding by_next
    placing_sticks r i h k l e f s =
        told (stuck (take count now) (unwrap_or (left cmp keys (take count now)) 0)) r
        (sym (placing-one (length keys - (count + 1)) (length keys - count) (take count now) None (omega arith) e) ∙ inv) l
        (s ∙ ap (λ k. Err (Stuck k)) f, whole k)

    -- all items are placed
    pub placing-ends : (r : Result (Unit {0}) Unordered) → length keys ≤ count → count ≤ length now → length keys ≤ length before → r ≡ Ok tt → Answers cmp keys needs before now r
    placing-ends r h k l s =
        let none : length keys - count ≡ 0 = omega arith in
        told (all (take count now)) r (ap (λ n. placing cmp keys needs n (take count now)) (sym none) ∙ inv) l (s, whole k)
