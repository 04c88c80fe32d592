-- What a slot store holds.
use Rattle.std.specs.Prelude.{List, vec_items}
use Rattle.store.specs.Pairs.{Pair}
use Rattle.slot.specs.Slots.{slot_pairs}
use Rattle.slot.specs.declared.slots.SlotStore.{SlotStore}

-- the pairs of its slots
abbrev pub pairs_of : SlotStore → List Pair
pairs_of s = slot_pairs s.rows (vec_items s.area)
