use Rattle.std.proofs.Common.{◌≡◌, ◌++◌, length, sym, ◌∙◌, subst, arith, lit<}
use lib.ListN.{length-map}
use Rattle.bounded.specs.Held.{used}
use Rattle.product.specs.Parts.{rows}
use Rattle.codec.specs.Format.{each, byte, interface}
use Rattle.artifact.specs.Art.{art, source, product}
use Rattle.artifact.proofs.artifact.Artifact.append_parts.Goals as goal

pub returns : goal.returns
returns g c =
    let a = c.args.self.now in
    let p = art a in
    let n : c.len.result ≡ length p.imports = c.len.ensures ∙ sym (length-map (used a.imports) rows) in
    let k = byte.put (length p.imports) in
    let i = each interface.put p.imports in
    let q = (product 0).put p.product in
    let both = g.met.S.Sink.both in
    both _ _ _ (source.put p.source) ((k ++ i) ++ q) (c.append_section.ensures (lit< tt))
    (both _ _ _ (k ++ i) q
    (both _ _ _ k i
    (subst (λ m. g.S.Sink.Takes c.append_section.new.out (byte.put m) c.append_count.new.out) n (c.append_count.ensures (omega (arith, c.len.ensures, a.imports.all, a.imports.used.ok.0))))
    (subst (λ is. g.S.Sink.Takes c.append_count.new.out (each interface.put is) c.append_imports.new.out) c.imports.ensures c.append_imports.ensures))
    c.append_product.ensures)
