use Rattle.std.proofs.Common.{◌≡◌, ◌+◌, ◌-◌, [], ◌∷◌, ◌++◌, ap, ◌∙◌}
use Rattle.bounded.specs.Held.{held}
use Rattle.codec.specs.Format.{left, many}
use Rattle.codec.proofs.Many.{onto, one_more, many_goes}
use Rattle.codec.proofs.section.read_list.Goals as goal

pub loop-preserved : goal.loop-preserved
loop-preserved g c =
    let e : held c.push.new.self ≡ held c.loop.into ++ c.in_ok-x.x ∷ [] = c.in_ok-push.ensures.after in
    (one_more (held c.loop.into) (held c.push.new.self) c.in_ok-x.x c.loop.counter e c.loop.invariant.0, ap (λ xs. onto xs (many (c.args.count - (c.loop.counter + 1)) g.T.Field.format.get (left c.read.new.input))) e ∙ many_goes c.args.count c.loop.counter g.T.Field.format.get (left c.loop.input) (held c.loop.into) _ c.loop-test.true c.loop.invariant.1 c.in_ok-x.x (left c.read.new.input) c.in_ok-x.ensures)
