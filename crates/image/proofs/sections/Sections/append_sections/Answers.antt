use Rattle.std.proofs.Common.{◌++◌, length, lit<}
use Rattle.codec.specs.Format.{pair, code}
use Rattle.image.specs.Dealt.{dealt}
use Rattle.image.specs.Picture.{parts, target, names, exactly}
use Rattle.image.proofs.sections.Sections.append_sections.Goals as goal

pub returns : goal.returns
returns g c =
    let u = parts c.args.self.now in
    let n = length u.names in
    let cs = (exactly n code).put u.codes in
    let es = (dealt 12 n pair).put u.entries in
    let rs = (dealt 32 n target).put u.references in
    let both = g.met.S.Sink.both in
    both _ _ _ (names.put u.names) (cs ++ (es ++ rs)) (c.append_section.ensures (lit< tt))
    (both _ _ _ cs (es ++ rs) c.append_exactly.ensures (both _ _ _ es rs c.append_dealt.ensures c.append_dealt-2.ensures))
