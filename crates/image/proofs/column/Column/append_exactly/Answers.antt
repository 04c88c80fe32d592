use Rattle.std.proofs.Common.{◌≡◌, length, sym, ap, ◌∙◌, subst, arith}
use lib.ListN.{length-map}
use Rattle.bounded.specs.Held.{held, used}
use Rattle.codec.specs.Format.{each, listed, byte, pair}
use Rattle.codec.proofs.Added.{puts_more, puts_all, each_map}
use Rattle.image.specs.Dealt.{lists}
use Rattle.image.proofs.column.Column.append_exactly.Goals as goal

pub loop-list-preserved : goal.loop-list-preserved
loop-list-preserved g c =
    puts_more g.S.Sink.Takes (λ b. (listed pair g.row.N g.T.Field.format).put (held b)) c.as_slice-list-items.result.now c.append_count.new.out c.loop-list.out c.loop-list.list-index c.append_section.new.out c.list-item.result (g.met.S.Sink.both _ _ _) c.loop-list-test.true c.list-item.is c.loop-list.invariant (c.append_section.ensures c.requires)

pub returns : goal.returns
returns g c =
    let self = c.args.self.now in
    let put = (listed pair g.row.N g.T.Field.format).put in
    let xs = c.as_slice-list-items.result.now in
    let n : c.len.result ≡ length (lists self) = c.len.ensures ∙ sym (length-map (used self.lists) held) in
    g.met.S.Sink.both c.args.out.now c.append_count.new.out c.loop-list.out (byte.put (length (lists self))) (each put (lists self))
    (subst (λ m. g.S.Sink.Takes c.args.out.now (byte.put m) c.append_count.new.out) n (c.append_count.ensures (omega (arith, c.len.ensures, self.lists.all, self.lists.used.ok.0))))
    (subst (λ bs. g.S.Sink.Takes c.append_count.new.out bs c.loop-list.out) (ap (each (λ b. put (held b))) c.as_slice-list-items.ensures ∙ each_map put held (used self.lists))
    (puts_all g.S.Sink.Takes (λ b. put (held b)) xs c.append_count.new.out c.loop-list.out c.loop-list.list-index c.loop-list-test.false c.loop-list.invariant))
