use Rattle.order.proofs.Least.{Held}
use Rattle.order.proofs.pick.Given as goal

abbrev pub invariant-loop-i : goal.invariant-loop-i
invariant-loop-i g l = Held g.K.Ord.cmp l.keys l.needs l.done l.i l.best
