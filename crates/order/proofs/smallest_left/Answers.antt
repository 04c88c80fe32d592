use Rattle.std.proofs.Common.{◌∙◌}
use Rattle.order.proofs.Placing.{left_is}
use Rattle.order.proofs.smallest_left.Goals as goal

pub returns : goal.returns
returns g c = c.pick.ensures ∙ left_is g.K.Ord.cmp c.args.keys.now c.args.done.now
