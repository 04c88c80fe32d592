use Rattle.codec.specs.Format.{byte}
use Rattle.image.proofs.fields.TargetField.append.Goals as goal

pub returns : goal.returns
returns g c = g.met.S.Sink.both _ _ _ (byte.put c.args.self.now.unit) (byte.put c.args.self.now.entry) c.append.ensures c.append-2.ensures
