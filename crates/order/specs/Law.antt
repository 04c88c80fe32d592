-- What an order is, said of the items alone: the definition of `ordered` is held to this.
use Rattle.std.specs.Prelude.{◌≡◌, ℕ, ◌<◌, true, false, cond, List, length, take, Some, nat_lt, slice_index}
use Rattle.std.specs.declared.cmp.Ordering.{Ordering}
use Rattle.order.specs.declared.Need.{Need}
use Rattle.order.specs.Dependency.{Outcome, all, stuck, times, free, ready, next, left}

-- each of n items once, and nothing else
abbrev pub EachOnce : ℕ → List ℕ → Type 0
EachOnce n done = (i : ℕ) → times done i ≡ cond (nat_lt i n) 1 0

module _ {K : Type 0} (cmp : K → K → Ordering) (keys : List K) (needs : List (Need K)) where
  -- every need before its needer: the needs of the item at a place are settled by the items before it
  abbrev pub NeedsFirst : List ℕ → Type 0
  NeedsFirst done = (p : ℕ) → p < length done → free cmp keys (take p done) (slice_index done p) needs ≡ true

  -- at each place stands the smallest of the items that could come there
  abbrev pub SmallestFirst : List ℕ → Type 0
  SmallestFirst done = (p : ℕ) → p < length done → next cmp keys needs (take p done) ≡ Some (slice_index done p)

  -- a list that meets the rule
  abbrev pub Proper : List ℕ → Type 0
  Proper done = EachOnce (length keys) done × NeedsFirst done × SmallestFirst done

  -- an order is the only list that meets the rule; where it stops, no list at all has every need before its needer, nothing left can come next, and the smallest item left is told
  abbrev pub Lawful : Outcome → Type 0
  Lawful (all done) = Proper done × ((other : List ℕ) → Proper other → other ≡ done)
  Lawful (stuck done i) =
      ((other : List ℕ) → EachOnce (length keys) other → NeedsFirst other → ⊥)
      × ((j : ℕ) → j < length keys → ready cmp keys needs done j ≡ false)
      × (left cmp keys done ≡ Some i)
      × SmallestFirst done
