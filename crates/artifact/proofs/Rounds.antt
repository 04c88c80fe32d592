-- The theorem of the round trip.
use Rattle.artifact.specs.Art.{WithinArt, artifact}
use Rattle.artifact.specs.Round.{RoundTrip}
use Rattle.codec.proofs.Laws.{whole_back, whole_only, one_writing}
use Rattle.artifact.proofs.Laws.{artifact_lawful}
use Rattle.artifact.proofs.Sizes.{short_fits, within_short, full, full_within, full_long}

pub round_trip : RoundTrip
round_trip =
    record {
      read_written = whole_back artifact WithinArt artifact_lawful;
      written_read = λ bs a e. (whole_only artifact WithinArt artifact_lawful bs a e).0;
      within = λ bs a e. (whole_only artifact WithinArt artifact_lawful bs a e).1;
      one_writing = one_writing artifact WithinArt artifact_lawful;
      longest = λ a h. short_fits a (within_short a h);
      reached = (full, full_within, full_long);
    }
