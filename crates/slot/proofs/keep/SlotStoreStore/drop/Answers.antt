use Rattle.std.proofs.Common.{ℕ, List, is_some, sym, ap, ◌∙◌}
use Rattle.store.specs.Pairs.{once}
use Rattle.store.proofs.Pairs.{same_pairs_is, without_none}
use Rattle.area.specs.Layout.{rows_of}
use Rattle.slot.specs.Slots.{slot_pairs}
use Rattle.slot.proofs.Changes.{dropped, found}
use Rattle.slot.proofs.keep.SlotStoreStore.drop.Goals as goal

pub invariant_of-self : goal.invariant_of-self
invariant_of-self c =
    let s = c.args.self.now in
    let gone = dropped s.rows s.area.items c.args.name.bytes c.in-Some.i c.in-Some.ensures.slot s.apart in
    record {
      counted = s.counted ∙ ap rows_of (sym c.bury.ensures.len);
      apart = ap (λ (x : List ℕ). once (slot_pairs s.rows x)) c.bury.ensures.after ∙ gone.1;
    }

pub returns-clause-says : goal.returns-clause-says
returns-clause-says c =
    let s = c.args.self.now in
    let gone = dropped s.rows s.area.items c.args.name.bytes c.in-Some.i c.in-Some.ensures.slot s.apart in
    record {
      found = ap is_some (sym (found s.rows s.area.items c.args.name.bytes c.in-Some.i c.in-Some.ensures.slot));
      pairs = same_pairs_is _ _ (ap (slot_pairs s.rows) c.bury.ensures.after ∙ gone.0);
    }

pub returns-in_default-clause-says : goal.returns-in_default-clause-says
returns-in_default-clause-says c =
    let none = c.in_default.ensures.slot in
    record { found = sym none; pairs = same_pairs_is _ _ (sym (without_none c.args.name.bytes _ none)) }
