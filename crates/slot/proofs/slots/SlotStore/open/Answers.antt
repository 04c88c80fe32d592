use Rattle.std.proofs.Common.{◌≡◌, ℕ, [], vec_items, ap, ◌∙◌, sym, arith}
use Rattle.store.specs.Pairs.{once}
use Rattle.area.specs.Layout.{rows_of}
use Rattle.slot.specs.Slots.{cleared, slot_pairs}
use Rattle.slot.proofs.Changes.{cleared_none}
use Rattle.slot.proofs.slots.SlotStore.open.Goals as goal

pub invariant_of-result : goal.invariant_of-result
invariant_of-result c =
    let all : c.loop-i.i ≡ c.rows-rows.result = omega arith in
    let none : slot_pairs c.rows-rows.result (vec_items c.loop-i.area) ≡ [] = ap (slot_pairs c.rows-rows.result) (c.loop-i.invariant.0 ∙ ap (λ (n : ℕ). cleared n (vec_items c.args.area)) all) ∙ cleared_none c.rows-rows.result (vec_items c.args.area) in
    record { counted = c.rows-rows.ensures ∙ ap rows_of (c.len.ensures ∙ sym c.loop-i.invariant.1); apart = ap once none }

pub returns-clause-none : goal.returns-clause-none
returns-clause-none c =
    let all : c.loop-i.i ≡ c.rows-rows.result = omega arith in
    ap (slot_pairs c.rows-rows.result) (c.loop-i.invariant.0 ∙ ap (λ (n : ℕ). cleared n (vec_items c.args.area)) all) ∙ cleared_none c.rows-rows.result (vec_items c.args.area)
