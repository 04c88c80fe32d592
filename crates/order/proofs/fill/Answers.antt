use Rattle.std.proofs.Common.{unwrap_or, refl, ap, ◌∙◌, arith, length-set}
use Rattle.order.proofs.Placing.{placing_goes, rest_goes, placing_sticks, placing-ends}
use Rattle.order.proofs.fill.Goals as goal

pub slice_bounds-pick-end : goal.slice_bounds-pick-end
slice_bounds-pick-end g c = omega arith

pub slice_bounds-smallest_left-end : goal.slice_bounds-smallest_left-end
slice_bounds-smallest_left-end g c = omega arith

pub shape_of-places-in_default : goal.shape_of-places-in_default
shape_of-places-in_default g c = c.loop-count.invariant.2

pub returns-in_default : goal.returns-in_default
returns-in_default g c =
    placing_sticks g.K.Ord.cmp c.args.keys.now c.args.needs.now c.loop-count.count c.loop-count.places c.args.places.now c.loop-count.invariant.0 c.loop-count.invariant.1
    _ c.unwrap_or.result c.loop-count-test.true (omega arith) (omega arith)
    c.in_default.ensures
    (c.unwrap_or.ensures ∙ ap (λ l. unwrap_or l 0) c.smallest_left.ensures)
    refl

pub bounds-places-count : goal.bounds-places-count
bounds-places-count g c = omega arith

pub loop-count-preserved : goal.loop-count-preserved
loop-count-preserved g c = (
  placing_goes g.K.Ord.cmp c.args.keys.now c.args.needs.now c.loop-count.count c.loop-count.places c.args.places.now c.loop-count.invariant.0 c.loop-count.invariant.1
      c.in-Some.item c.loop-count-test.true (omega arith) c.in-Some.ensures,
  rest_goes c.loop-count.count c.loop-count.places c.args.places.now c.in-Some.item c.loop-count.invariant.1,
  length-set c.loop-count.places c.loop-count.count c.in-Some.item ∙ c.loop-count.invariant.2,
)

pub shape_of-places : goal.shape_of-places
shape_of-places g c = c.loop-count.invariant.2

pub returns : goal.returns
returns g c =
    placing-ends g.K.Ord.cmp c.args.keys.now c.args.needs.now c.loop-count.count c.loop-count.places c.args.places.now c.loop-count.invariant.0 c.loop-count.invariant.1
    _ c.loop-count-test.false (omega arith) (omega arith) refl
