use Rattle.std.proofs.Common.{◌≡◌, ℕ, ◌+◌, ◌≤◌, List, length, ap, ◌∙◌, arith}
use Rattle.std.proofs.lemmas.List.{take_at}
use Rattle.std.proofs.lemmas.List.Edits.{length-paste}
use Rattle.names.proofs.Spelled.{padded_eight}
use Rattle.area.specs.Layout.{header_size, laid, written}
use Rattle.area.proofs.Records.{laid_twice, length-laid}
use Rattle.area.proofs.record_at.write.Goals as goal

pub returns-clause-after : goal.returns-clause-after
returns-clause-after c =
    let q = c.args.name.bytes in
    let bs = c.args.content.now in
    let at = c.args.at in
    let bytes = c.as_mut_slice-bytes.result.now in
    let whole = c.as_mut_slice-bytes.ensures.len in
    let eight = padded_eight q c.args.name.valid in
    let laid_there : _ ≡ written bytes at q bs = laid_twice bytes q bs c.copy_from_slice.new.self c.copy_from_slice-2.new.self at _ _ (c.copy_from_slice.ensures.after ∙ c.header.ensures) c.copy_from_slice-2.ensures.after (omega arith) (omega arith) eight (omega arith) in
    let record_fits : header_size + length bs ≤ length (laid q bs) = (let e = length-laid q bs eight in omega arith) in
    let long : length (written bytes at q bs) ≡ c.args.area.now.len = length-paste bytes at (laid q bs) (header_size + length bs) (omega arith) record_fits ∙ whole in
    take_at _ _ c.args.area.now.len (ap length laid_there ∙ long) ∙ laid_there ∙ ap (λ (x : List ℕ). written x at q bs) c.as_mut_slice-bytes.ensures.value
