use Rattle.bounded.specs.Held.{held, used}
use Rattle.codec.specs.Format.{left, listed, pair}
use Rattle.codec.proofs.Many.{one_more, many_adds}
use Rattle.image.proofs.column.Column.read_exactly.Goals as goal

pub loop-preserved : goal.loop-preserved
loop-preserved g c =
    let bs = used c.loop.self.lists in
    let now = used c.add.new.self in
    let b = c.read_section.new.into in (
      one_more bs now b c.loop.counter c.in_ok-add.ensures.after c.loop.invariant.0,
      many_adds held c.args.units c.loop.counter (listed pair g.row.N g.T.Field.format).get (left c.loop.input) bs now _ b (left c.read_section.new.input) c.loop-test.true c.loop.invariant.1 c.in_ok-add.ensures.after c.in_ok-read_section.ensures,
    )
