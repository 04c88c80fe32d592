-- The dependency order of items, each with a key and with needs: keys that have to come first.
-- Items are told apart by their place in the list of keys. An item that is placed stands in the list `done` by that place.
use Rattle.std.specs.Prelude.{◌≡◌, ℕ, zero, suc, ◌+◌, Bool, true, cond, not, ◌&&◌, ◌||◌, List, [], ◌∷◌, ◌++◌, length, drop, Some, None, Option, ◌==◌, nat_lt, Ok, Err, Result}
use Rattle.std.specs.declared.cmp.Ordering.{Ordering}
use Rattle.std.specs.List.{list_any, list_all, enumerate_from}
use Rattle.std.specs.Option.{unwrap_or, option_map}
use Rattle.std.specs.Ordering.{is_eq, is_lt}
use Rattle.order.specs.declared.Need.{Need}
use Rattle.order.specs.declared.Unordered.{Unordered}
use Rattle.order.specs.declared.Unordered.TheVariants.{Stuck, Short}

-- the item i is placed
abbrev pub placed : List ℕ → ℕ → Bool
placed done i = list_any (λ p. p == i) done

-- how often the item i is placed
abbrev pub times : List ℕ → ℕ → ℕ
times [] i = 0
times (p ∷ ps) i = cond (p == i) 1 0 + times ps i

-- the place of the first element that passes
abbrev pub first : {X : Type 0} → (ℕ → X → Bool) → List X → Option ℕ
first p [] = None
first p (x ∷ xs) = cond (p 0 x) (Some 0) (option_map suc (first (λ i. p (suc i)) xs))

-- what came of it: every item in order, or those that could be placed and the smallest of the others
pub data Outcome : Type 0 where
  all : List ℕ → Outcome
  stuck : List ℕ → ℕ → Outcome

module _ {K : Type 0} (cmp : K → K → Ordering) where
  -- of these keys, from place j on, all that equal k are placed
  abbrev pub settled : List ℕ → K → ℕ → List K → Bool
  settled done k j keys = list_all (λ p. not (is_eq (cmp p.1 k)) || placed done p.0) (enumerate_from j keys)

  -- each of these needs that is one of the item i is settled
  abbrev pub free : List K → List ℕ → ℕ → List (Need K) → Bool
  free keys done i needs = list_all (λ n. not (n.item == i) || settled done n.key 0 keys) needs

  -- of these keys none that passes is smaller than k
  abbrev pub unbeaten : (ℕ → Bool) → K → List K → Bool
  unbeaten test k [] = true
  unbeaten test k (x ∷ xs) = not (test 0 && is_lt (cmp x k)) && unbeaten (λ i. test (suc i)) k xs

  -- the item with the smallest key of those that pass, the earlier listed of equals
  abbrev pub smallest : (ℕ → Bool) → List K → Option ℕ
  smallest test keys = first (λ i k. test i && unbeaten test k keys) keys

  -- the smallest item that is not placed
  abbrev pub left : List K → List ℕ → Option ℕ
  left keys done = smallest (λ i. not (placed done i)) keys

  module _ (keys : List K) (needs : List (Need K)) where
    -- the item i is not placed, and all its needs are
    abbrev pub ready : List ℕ → ℕ → Bool
    ready done i = not (placed done i) && free keys done i needs

    -- the item that comes next behind those placed
    abbrev pub next : List ℕ → Option ℕ
    next done = smallest (ready done) keys

    -- n more items behind those placed
    abbrev pub placing : ℕ → List ℕ → Outcome
    placing zero done = all done
    placing (suc n) done = elim (next done) [ Some i ↦ placing n (done ++ i ∷ []) | None ↦ stuck done (unwrap_or (left keys done) 0) ]

    -- all items, each as soon as it is the smallest whose needs are placed
    abbrev pub ordered : Outcome
    ordered = placing (length keys) []

    -- what a call answers and leaves in the places it was lent
    abbrev pub Tells : List ℕ → List ℕ → Result (Unit {0}) Unordered → Outcome → Type 0
    Tells before after r (all done) = (r ≡ Ok tt) × (after ≡ done ++ drop (length done) before)
    Tells before after r (stuck done i) = (r ≡ Err (Stuck i)) × (after ≡ done ++ drop (length done) before)

    -- fewer places than items: refused, with nothing written
    abbrev pub Answers : List ℕ → List ℕ → Result (Unit {0}) Unordered → Type 0
    Answers before after r = cond (nat_lt (length before) (length keys)) ((r ≡ Err Short) × (after ≡ before)) (Tells before after r ordered)
