use Rattle.std.proofs.Common.{refl}
use Rattle.image.proofs.Rounds.{round_trip}
use Rattle.image.proofs.write.longest.Goals as goal

pub returns : goal.returns
returns c = (refl, round_trip)
