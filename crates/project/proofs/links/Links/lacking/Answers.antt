use Rattle.std.proofs.Common.{Some, sym, ap, ◌∙◌}
use Rattle.std.specs.Option.{option_map}
use Rattle.bounded.specs.Held.{held}
use Rattle.project.specs.Members.{member, members}
use Rattle.project.specs.Checked.{missing, lack}
use Rattle.project.proofs.Lacking.{found, none_lacks, no_unit, no_lack, one_lacks}
use Rattle.project.proofs.links.Links.lacking.Goals as goal

pub returns-in_err-i-clause-value : goal.returns-in_err-i-clause-value
returns-in_err-i-clause-value c =
    let vs = members c.args.project.now in
    let r = c.smallest_left.result in
    let is = found vs c.as_slice.result.now (held c.list_whole.new.whole) c.as_slice-2.result.now r c.smallest_left.ensures (c.as_slice.ensures ∙ c.list_names.ensures) c.as_slice-2.ensures c.list_whole.ensures in
    ap (option_map (λ p. missing (Some p.0) p.1)) c.from_residual.ensures ∙ none_lacks vs r is c.in_err-i.was

pub returns-in_err-unit-clause-value : goal.returns-in_err-unit-clause-value
returns-in_err-unit-clause-value c =
    let vs = members c.args.project.now in
    let r = c.smallest_left.result in
    let is = found vs c.as_slice.result.now (held c.list_whole.new.whole) c.as_slice-2.result.now r c.smallest_left.ensures (c.as_slice.ensures ∙ c.list_names.ensures) c.as_slice-2.ensures c.list_whole.ensures in
    absurd (no_unit vs r is c.in_ok-i.i c.in_ok-i.was (sym c.in_err-unit.ensures))

pub returns-in_err-k-clause-value : goal.returns-in_err-k-clause-value
returns-in_err-k-clause-value c =
    let vs = members c.args.project.now in
    let r = c.smallest_left.result in
    let is = found vs c.as_slice.result.now (held c.list_whole.new.whole) c.as_slice-2.result.now r c.smallest_left.ensures (c.as_slice.ensures ∙ c.list_names.ensures) c.as_slice-2.ensures c.list_whole.ensures in
    absurd (no_lack vs r is c.in_ok-i.i c.in_ok-i.was (member c.in_ok-unit.unit.now) (sym c.in_ok-unit.ensures) (ap (lack vs) (sym c.imports.ensures) ∙ sym c.in_err-k.ensures))

pub returns-clause-value : goal.returns-clause-value
returns-clause-value c =
    let vs = members c.args.project.now in
    let r = c.smallest_left.result in
    let is = found vs c.as_slice.result.now (held c.list_whole.new.whole) c.as_slice-2.result.now r c.smallest_left.ensures (c.as_slice.ensures ∙ c.list_names.ensures) c.as_slice-2.ensures c.list_whole.ensures in
    one_lacks vs r is c.in_ok-i.i c.in_ok-i.was (member c.in_ok-unit.unit.now) (sym c.in_ok-unit.ensures) c.name.result c.in_ok-k.k c.name.ensures (ap (lack vs) (sym c.imports.ensures) ∙ sym c.in_ok-k.ensures)
