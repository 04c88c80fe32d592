use Rattle.std.proofs.Common.{◌≡◌, ℕ, List, Ok, Err, Result, OnOk, sym, rules}
use Rattle.codec.specs.Format.{got}
use Rattle.artifact.specs.Art.{Art, art, artifact_bytes, read, WithinArt}
use Rattle.artifact.proofs.Rounds.{round_trip}
use Rattle.artifact.proofs.artifact.Artifact.read.Goals as goal

backed : {Y : Type 0} (r : Result (Unit {0}) Y) (a : Art) (bs : List ℕ) → got r a ≡ read bs → OnOk r ((artifact_bytes a ≡ bs) × WithinArt a)
backed (Ok u) a bs e = (round_trip.written_read bs a (sym e), round_trip.within bs a (sym e))
backed (Err y) a bs e = tt

pub returns-clause-back : goal.returns-clause-back
returns-clause-back c = backed c.map_err.result (art c.read_whole.new.self) c.args.bytes.now (search rules)
