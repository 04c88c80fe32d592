use Rattle.std.proofs.Common.{leb, ap, ◌∙◌}
use Rattle.std.specs.List.{list_all}
use Rattle.bounded.specs.Held.{held}
use Rattle.product.specs.declared.row.Reference.{Reference}
use Rattle.codec.specs.Format.{left, listed, byte, reference}
use Rattle.codec.proofs.Many.{tested_as}
use Rattle.artifact.proofs.read.read_references.Goals as goal

pub returns : goal.returns
returns c =
    let t = list_all (λ (r : Reference). leb r.position c.args.imports) in
    tested_as t ((listed byte 32 reference).get (left c.args.input.now)) (held c.read_section.new.into) (left c.read_section.new.input) c.unless.result c.in_ok-read_section.ensures (c.unless.ensures ∙ c.all_known.ensures ∙ ap t c.as_slice.ensures)
