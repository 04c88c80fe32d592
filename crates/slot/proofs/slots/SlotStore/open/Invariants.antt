use Rattle.std.proofs.Common.{◌≡◌, vec_items, vec_len}
use Rattle.slot.specs.Slots.{cleared}
use Rattle.slot.proofs.slots.SlotStore.open.Given as goal

abbrev pub invariant-loop-i : goal.invariant-loop-i
invariant-loop-i l = (vec_items l.area ≡ cleared l.i (vec_items l.initial.area)) × (vec_len l.area ≡ vec_len l.initial.area)
