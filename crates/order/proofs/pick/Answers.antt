use Rattle.std.proofs.Common.{◌≡◌, length, sym, subst, arith}
use Rattle.order.proofs.Least.{Least, least_is, held_over, held_first, held_more, held_less}
use Rattle.order.specs.Dependency.{ready}
use Rattle.order.proofs.pick.Goals as goal
use Rattle.order.proofs.pick.Goals.{then-is_ready+in-None, then-is_ready+in-Some+then-beats, then-is_ready+in-Some+else-beats, else-is_ready}

pub loop-i-preserved : goal.loop-i-preserved
loop-i-preserved g c =
    elim c.if-is_ready.branch [
      | then-is_ready+in-Some+else-beats w ↦ held_more _ c.args.keys.now c.args.needs.now c.args.done.now _ c.is_ready.result (λ _. c.is_ready.ensures) _ _ _ c.loop-i.invariant w.in-Some.is _ (λ _. w.beats.ensures) w.if-beats.false w.best-is
      | then-is_ready+in-Some+then-beats w ↦ held_less _ c.args.keys.now c.args.needs.now c.args.done.now _ c.is_ready.result (λ _. c.is_ready.ensures) _ _ _ c.loop-i.invariant w.in-Some.is _ (λ _. w.beats.ensures) c.loop-i-test.true w.if-is_ready.true w.if-beats.true w.best-is
      | then-is_ready+in-None w ↦ held_first _ c.args.keys.now c.args.needs.now c.args.done.now _ c.is_ready.result (λ _. c.is_ready.ensures) _ _ c.loop-i-test.true c.loop-i.invariant w.in-None.is w.best-is w.if-is_ready.true
      | else-is_ready w ↦ held_over _ c.args.keys.now c.args.needs.now c.args.done.now _ c.is_ready.result (λ _. c.is_ready.ensures) _ _ c.loop-i.invariant w.best-is w.if-is_ready.false
    ]

pub returns : goal.returns
returns g c =
    let e : c.loop-i.i ≡ length c.args.keys.now = omega arith in
    let o = g.met.K.Ord.total in
    sym (least_is o _ c.args.keys.now _ (subst (λ n. Least o (ready g.K.Ord.cmp c.args.keys.now c.args.needs.now c.args.done.now) c.args.keys.now n c.loop-i.best) e (c.loop-i.invariant.1 o)))
