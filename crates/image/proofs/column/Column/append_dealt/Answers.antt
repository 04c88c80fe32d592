use Rattle.std.proofs.Common.{◌≤◌, ◌∷◌, map, length, take, ap, ◌∙◌, subst, arith}
use Rattle.std.proofs.lemmas.List.{take_all}
use Rattle.bounded.specs.Held.{held}
use Rattle.codec.specs.Format.{each, pair}
use Rattle.image.specs.Dealt.{lists, flat, deal}
use Rattle.image.proofs.Dealing.{deal-list}
use Rattle.image.proofs.column.Column.append_dealt.Goals as goal

pub loop-unit-preserved : goal.loop-unit-preserved
loop-unit-preserved g c =
    let self = c.args.self.now in
    let put = g.T.Field.format.put in
    let xs = c.as_slice-list-items.result.now in
    let k = c.loop-unit.unit in
    let b = c.list-item.result in
    let row = λ (x : g.row.T.Denot). k ∷ put x in
    let few : length xs ≤ 24 = omega (arith, ap length c.as_slice-list-items.ensures, self.lists.all, self.lists.used.ok.0) in
    subst (λ bs. g.S.Sink.Takes c.append_count.new.out bs c.append_run.new.out) (deal-list put held xs k b c.loop-unit-test.true c.list-item.is)
    (g.met.S.Sink.both c.append_count.new.out c.loop-unit.out c.append_run.new.out (deal put 0 (map held (take k xs))) (each row (held b)) c.loop-unit.invariant
    (subst (λ ys. g.S.Sink.Takes c.loop-unit.out (each row ys) c.append_run.new.out) c.as_slice.ensures (c.append_run.ensures (omega (arith, c.loop-unit-test.true)))))

pub returns : goal.returns
returns g c =
    let self = c.args.self.now in
    let put = g.T.Field.format.put in
    let n = length (flat (lists self)) in
    g.met.S.Sink.both c.args.out.now c.append_count.new.out c.loop-unit.out (pair.put n) (deal put 0 (lists self))
    (subst (λ m. g.S.Sink.Takes c.args.out.now (pair.put m) c.append_count.new.out) c.total.ensures.value (c.append_count.ensures (omega (arith, c.total.ensures.few))))
    (subst (λ xs. g.S.Sink.Takes c.append_count.new.out (deal put 0 (map held xs)) c.loop-unit.out) (take_all c.loop-unit.unit c.as_slice-list-items.result.now c.loop-unit-test.false ∙ c.as_slice-list-items.ensures) c.loop-unit.invariant)
