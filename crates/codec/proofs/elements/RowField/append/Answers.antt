use Rattle.std.proofs.Common.{◌++◌}
use Rattle.codec.specs.Format.{byte, pair, value, name}
use Rattle.codec.proofs.elements.RowField.append.Goals as goal

pub returns : goal.returns
returns g c =
    let r = c.args.self.now in
    let both = g.met.S.Sink.both in
    both _ _ _ (name.put r.name) (byte.put r.kind ++ (value.put r.value ++ pair.put r.line)) c.append.ensures
    (both _ _ _ (byte.put r.kind) (value.put r.value ++ pair.put r.line) c.append-2.ensures
    (both _ _ _ (value.put r.value) (pair.put r.line) c.append-3.ensures c.append-4.ensures))
