use Rattle.std.proofs.Common.{◌∷◌}
use Rattle.codec.specs.Format.{byte}
use Rattle.codec.proofs.Added.{puts_more, puts_all}
use Rattle.image.proofs.rows.append_run.Goals as goal

pub loop-x-init : goal.loop-x-init
loop-x-init g c = λ h. g.met.S.Sink.none c.args.out.now

pub loop-x-preserved : goal.loop-x-preserved
loop-x-preserved g c =
    let put = λ (x : g.row.T.Denot). c.args.unit ∷ g.T.Field.format.put x in
    λ h. puts_more g.S.Sink.Takes put c.args.rows.now c.args.out.now c.loop-x.out c.loop-x.x-index c.append.new.out c.x-item.result (g.met.S.Sink.both _ _ _) c.loop-x-test.true c.x-item.is (c.loop-x.invariant h)
    (g.met.S.Sink.both c.loop-x.out c.append_count.new.out c.append.new.out (byte.put c.args.unit) (g.T.Field.format.put c.x-item.result) (c.append_count.ensures h) c.append.ensures)

pub returns : goal.returns
returns g c =
    let put = λ (x : g.row.T.Denot). c.args.unit ∷ g.T.Field.format.put x in
    λ h. puts_all g.S.Sink.Takes put c.args.rows.now c.args.out.now c.loop-x.out c.loop-x.x-index c.loop-x-test.false (c.loop-x.invariant h)
