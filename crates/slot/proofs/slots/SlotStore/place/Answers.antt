use Rattle.std.proofs.Common.{rules}
use Rattle.slot.proofs.Cuts.{place_at}
use Rattle.slot.proofs.slots.SlotStore.place.Goals as goal

pub returns : goal.returns
returns c = let s = c.args.self.now in place_at s.rows s.area.items c.args.name.bytes c.find.result c.or_else.result c.find.ensures.slot c.or_else.ensures (λ p. search rules)
