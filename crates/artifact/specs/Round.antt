-- What holds of every artifact and every list of bytes.
use Rattle.std.specs.Prelude.{◌≡◌, ℕ, ◌≤◌, List, length, Some}
use Rattle.artifact.specs.Art.{Art, WithinArt, artifact_bytes, read}

-- reading what was written gives the parts, writing what was read gives the bytes, so that each artifact has one writing; none is longer than 1,896 bytes, and one is as long
pub record RoundTrip : Type 0 where
  pub read_written : (a : Art) → WithinArt a → read (artifact_bytes a) ≡ Some a
  pub written_read : (bs : List ℕ) (a : Art) → read bs ≡ Some a → artifact_bytes a ≡ bs
  pub within : (bs : List ℕ) (a : Art) → read bs ≡ Some a → WithinArt a
  pub one_writing : (a b : Art) → WithinArt a → WithinArt b → artifact_bytes a ≡ artifact_bytes b → a ≡ b
  pub longest : (a : Art) → WithinArt a → length (artifact_bytes a) ≤ 1896
  pub reached : (a : Art) × WithinArt a × (length (artifact_bytes a) ≡ 1896)
