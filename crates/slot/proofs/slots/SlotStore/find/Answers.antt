use Rattle.std.proofs.Common.{◌≡◌, true, false, ap, ◌∙◌, rules}
use Rattle.std.specs.Slice.Iter.{chunks_exact_rest, chunks_exact_size}
use Rattle.std.proofs.lemmas.Iterator.{IsFirst-from_position}
use borrow.Author.Tests.{tests}
use Rattle.area.specs.Layout.{rows_of, holds}
use Rattle.slot.proofs.Cuts.{slots_come, stopped, name_at, record_at}
use Rattle.slot.proofs.slots.SlotStore.find.Goals as goal

pub returns : goal.returns
returns c =
    let n = c.args.self.now.rows in
    let q = c.args.name.bytes in
    let xs = c.args.self.now.area.items in
    let source = c.take.ensures.source in
    let slots = slots_come n xs (c.args.self.now.counted ∙ ap rows_of c.args.self.now.area.ok.0) (ap chunks_exact_rest source ∙ c.chunks_exact.ensures.rest ∙ c.deref.ensures.value) (ap chunks_exact_size source ∙ c.chunks_exact.ensures.size) c.take.ensures.count in
    let first = IsFirst-from_position _ _ c.position.result (λ p. holds p q ≡ true) (λ p. holds p q ≡ false) c.position.ensures.ran slots (λ x q k. search (rules, tests)) (λ x q k. search (rules, tests)) in
    let at = name_at n xs q c.position.result (stopped (λ p. holds p q ≡ true) (λ p. holds p q ≡ false) n xs c.position.result first) in
    record { slot = at; finds = record_at n xs q c.position.result at }
