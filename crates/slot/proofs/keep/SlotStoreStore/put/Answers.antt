use Rattle.std.proofs.Common.{sym, refl, ap, ◌∙◌}
use Rattle.names.specs.Refusals.{answer}
use Rattle.names.proofs.Spelled.{padded_eight}
use Rattle.area.specs.Layout.{rows_of}
use Rattle.slot.proofs.Changes.{put-done}
use Rattle.slot.proofs.keep.SlotStoreStore.put.Goals as goal

pub invariant_of-self : goal.invariant_of-self
invariant_of-self c =
    let s = c.args.self.now in
    let done = put-done s.rows s.area.len s.area.items c.write.new.area.items c.args.name.bytes c.args.content.now c.in-Some.i (answer c.write.result) (padded_eight c.args.name.bytes c.args.name.valid) c.if-content-gt-LONGEST.false s.counted s.area.ok.0 c.write.ensures.outcome c.write.ensures.after c.in-Some.ensures s.apart in
    record { counted = s.counted ∙ ap rows_of (sym c.write.ensures.len); apart = done.1 }

pub returns : goal.returns
returns c =
    let s = c.args.self.now in
    let done = put-done s.rows s.area.len s.area.items c.write.new.area.items c.args.name.bytes c.args.content.now c.in-Some.i (answer c.write.result) (padded_eight c.args.name.bytes c.args.name.valid) c.if-content-gt-LONGEST.false s.counted s.area.ok.0 c.write.ensures.outcome c.write.ensures.after c.in-Some.ensures s.apart in
    record { says = done.0; rows = refl }
