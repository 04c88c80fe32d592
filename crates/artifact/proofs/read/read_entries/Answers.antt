use Rattle.std.proofs.Common.{ℕ, ltb, ap, ◌∙◌}
use Rattle.std.specs.List.{list_all}
use Rattle.bounded.specs.Held.{held}
use Rattle.codec.specs.Format.{left, listed, byte, pair}
use Rattle.codec.proofs.Many.{tested_as}
use Rattle.artifact.proofs.read.read_entries.Goals as goal

pub returns : goal.returns
returns c =
    let t = list_all (λ (e : ℕ). ltb e c.args.limit) in
    tested_as t ((listed byte 12 pair).get (left c.args.input.now)) (held c.read_section.new.into) (left c.read_section.new.input) c.unless.result c.in_ok-read_section.ensures (c.unless.ensures ∙ c.all_below.ensures ∙ ap t c.as_slice.ensures)
