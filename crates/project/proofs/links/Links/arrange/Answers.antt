use Rattle.std.proofs.Common.{◌≤◌, length, get_or, take, is_ok, Err, ap, ◌∙◌, length-take, arith}
use Rattle.bounded.specs.Held.{held}
use Rattle.project.specs.Checked.{linked}
use Rattle.project.proofs.Listed.{refilled}
use Rattle.project.proofs.Arranging.{few_keys, arranged, circled}
use Rattle.project.proofs.links.Links.arrange.Goals as goal

pub offset_bounds-names-i : goal.offset_bounds-names-i
offset_bounds-names-i c =
    let listed = c.as_slice-names.ensures ∙ c.requires in
    let needed = c.as_slice.ensures ∙ c.list_needs.ensures in
    let few = few_keys c.args.project.now c.as_slice-names.result.now c.as_slice.result.now c.order.new.places c.order.result listed needed c.order.ensures.answers in
    let below = (circled c.args.project.now c.as_slice-names.result.now c.as_slice.result.now c.order.new.places c.order.result listed needed c.order.ensures.answers c.in-Err-Stuck.i (c.in-Err-Stuck.is ∙ ap Err c.in-Err-Stuck.field-0-is)).0 in
    rw c.in-Err-Stuck.i-is (omega arith)

pub bounds-names-i : goal.bounds-names-i
bounds-names-i c =
    let listed = c.as_slice-names.ensures ∙ c.requires in
    let needed = c.as_slice.ensures ∙ c.list_needs.ensures in
    rw c.in-Err-Stuck.i-is
    (circled c.args.project.now c.as_slice-names.result.now c.as_slice.result.now c.order.new.places c.order.result listed needed c.order.ensures.answers c.in-Err-Stuck.i (c.in-Err-Stuck.is ∙ ap Err c.in-Err-Stuck.field-0-is)).0

pub returns-in-Ok : goal.returns-in-Ok
returns-in-Ok c =
    let listed = c.as_slice-names.ensures ∙ c.requires in
    let needed = c.as_slice.ensures ∙ c.list_needs.ensures in
    let few = few_keys c.args.project.now c.as_slice-names.result.now c.as_slice.result.now c.order.new.places c.order.result listed needed c.order.ensures.answers in
    let places = take (length c.as_slice-names.result.now) c.order.new.places in
    let room : length places ≤ 24 = omega (arith, length-take (length c.as_slice-names.result.now) c.order.new.places) in
    ap linked (refilled (held c.clear.new.self) (held c.extend.new.self) places (is_ok c.extend.result) 24 c.clear.ensures c.extend.ensures.fits c.extend.ensures.after room)
    ∙ arranged c.args.project.now c.as_slice-names.result.now c.as_slice.result.now c.order.new.places c.order.result listed needed c.order.ensures.answers c.in-Ok.field-0 c.in-Ok.is

pub returns-in-Err-Stuck : goal.returns-in-Err-Stuck
returns-in-Err-Stuck c =
    let listed = c.as_slice-names.ensures ∙ c.requires in
    let needed = c.as_slice.ensures ∙ c.list_needs.ensures in
    (circled c.args.project.now c.as_slice-names.result.now c.as_slice.result.now c.order.new.places c.order.result listed needed c.order.ensures.answers c.in-Err-Stuck.i (c.in-Err-Stuck.is ∙ ap Err c.in-Err-Stuck.field-0-is)).1 c.index-names-i.result
    (c.index-names-i.is ∙ ap (λ i. get_or c.as_slice-names.result.now i c.index-names-i.result) c.in-Err-Stuck.i-is)
