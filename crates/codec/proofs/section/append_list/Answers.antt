use Rattle.codec.proofs.Added.{puts_more, puts_all}
use Rattle.codec.proofs.section.append_list.Goals as goal

pub loop-x-init : goal.loop-x-init
loop-x-init g c = g.met.S.Sink.none c.args.out.now

pub loop-x-preserved : goal.loop-x-preserved
loop-x-preserved g c =
    puts_more g.S.Sink.Takes g.T.Field.format.put c.args.xs.now c.args.out.now c.loop-x.out c.loop-x.x-index c.append.new.out c.x-item.result (g.met.S.Sink.both _ _ _) c.loop-x-test.true c.x-item.is c.loop-x.invariant c.append.ensures

pub returns : goal.returns
returns g c = puts_all g.S.Sink.Takes g.T.Field.format.put c.args.xs.now c.args.out.now c.loop-x.out c.loop-x.x-index c.loop-x-test.false c.loop-x.invariant
