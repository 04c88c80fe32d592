use Rattle.std.proofs.Common.{ℕ, List, lit<, subst}
use Rattle.product.specs.Parts.{rows}
use Rattle.product.specs.declared.interface.Interface.{Interface}
use Rattle.codec.specs.Format.{interface}
use Rattle.codec.proofs.Added.{puts_more, puts_all, each_map}
use Rattle.artifact.proofs.write.append_imports.Goals as goal

abbrev put : Interface → List ℕ
put i = interface.put (rows i)

pub loop-interface-init : goal.loop-interface-init
loop-interface-init g c = g.met.S.Sink.none c.args.out.now

pub loop-interface-preserved : goal.loop-interface-preserved
loop-interface-preserved g c =
    let l = c.loop-interface in
    puts_more g.S.Sink.Takes put c.args.imports.now c.args.out.now l.out l.interface-index c.append_section.new.out c.interface-item.result (g.met.S.Sink.both _ _ _) c.loop-interface-test.true c.interface-item.is l.invariant (c.append_section.ensures (lit< tt))

pub returns : goal.returns
returns g c =
    let l = c.loop-interface in
    subst (λ bs. g.S.Sink.Takes c.args.out.now bs l.out) (each_map interface.put rows c.args.imports.now)
    (puts_all g.S.Sink.Takes put c.args.imports.now c.args.out.now l.out l.interface-index c.loop-interface-test.false l.invariant)
