use Rattle.std.proofs.Common.{◌++◌, lit<}
use Rattle.product.specs.Parts.{parts}
use Rattle.codec.specs.Format.{listed, byte, pair, reference, interface, code}
use Rattle.artifact.proofs.write.append_product.Goals as goal

pub returns : goal.returns
returns g c =
    let p = parts c.args.from.now in
    let k = code.put p.code in
    let e = (listed byte 12 pair).put p.entries in
    let r = (listed byte 32 reference).put p.references in
    let both = g.met.S.Sink.both in
    both _ _ _ (interface.put p.interface) (k ++ (e ++ r)) (c.append_section.ensures (lit< tt))
    (both _ _ _ k (e ++ r) (c.append_section-2.ensures (lit< tt))
    (both _ _ _ e r (c.append_section-3.ensures (lit< tt)) (c.append_section-4.ensures (lit< tt))))
