use Rattle.std.proofs.Common.{refl}
use Rattle.artifact.proofs.Rounds.{round_trip}
use Rattle.artifact.proofs.write.longest.Goals as goal

pub returns : goal.returns
returns c = (refl, round_trip)
