-- What holds of every image and every list of bytes.
use Rattle.std.specs.Prelude.{◌≡◌, ℕ, ◌≤◌, List, [], ◌∷◌, map, length, take, Some, Ok, Err, Result, refl}
use Rattle.names.specs.declared.name.Name.{Name}
use Rattle.image.specs.Picture.{Units, no_units, WithinUnits, image_bytes, read}
use Rattle.image.specs.declared.target.Target.{Target}

-- one unit of an image
pub record Linked : Type 0 where
  pub name : Name
  pub code : List ℕ
  pub entries : List ℕ
  pub references : List Target

-- units one by one, as the parts of all
abbrev pub gathered : List Linked → Units
gathered us = record { names = map (λ u. u.name) us; codes = map (λ u. u.code) us; entries = map (λ u. u.entries) us; references = map (λ u. u.references) us }

-- what was written reads back, where it was within the limits
abbrev pub ReadsBack : {Y : Type 0} → Result ℕ Y → Units → List ℕ → Type 0
ReadsBack (Ok n) u after = WithinUnits u → read (take n after) ≡ Some u
ReadsBack (Err e) u after = Unit {0}

-- the example of two units: lim with no code, and pol with eight bytes and one entry
abbrev pub two_units : Units
two_units =
    record {
      names = record { bytes = 108 ∷ 105 ∷ 109 ∷ 0 ∷ 0 ∷ 0 ∷ 0 ∷ 0 ∷ []; valid = refl } ∷ record { bytes = 112 ∷ 111 ∷ 108 ∷ 0 ∷ 0 ∷ 0 ∷ 0 ∷ 0 ∷ []; valid = refl } ∷ [];
      codes = [] ∷ (1 ∷ 0 ∷ 0 ∷ 0 ∷ 7 ∷ 2 ∷ 20 ∷ 63 ∷ []) ∷ [];
      entries = [] ∷ (0 ∷ []) ∷ [];
      references = [] ∷ [] ∷ [];
    }

-- its 37 bytes
abbrev pub two_bytes : List ℕ
two_bytes =
    2 ∷ 108 ∷ 105 ∷ 109 ∷ 0 ∷ 0 ∷ 0 ∷ 0 ∷ 0 ∷ 112 ∷ 111 ∷ 108 ∷ 0 ∷ 0 ∷ 0 ∷ 0 ∷ 0 ∷ 2 ∷ 0 ∷ 0 ∷ 0 ∷ 8 ∷ 1 ∷ 0 ∷ 0 ∷ 0 ∷ 7 ∷ 2 ∷ 20 ∷ 63 ∷ 0 ∷ 1 ∷ 1 ∷ 0 ∷ 0 ∷ 0 ∷ 0 ∷ []

-- reading what was written gives the units, writing what was read gives the bytes, so that each image has one writing; none is longer than 12,630 bytes; and two examples
pub record RoundTrip : Type 0 where
  pub read_written : (u : Units) → WithinUnits u → read (image_bytes u) ≡ Some u
  pub written_read : (bs : List ℕ) (u : Units) → read bs ≡ Some u → image_bytes u ≡ bs
  pub within : (bs : List ℕ) (u : Units) → read bs ≡ Some u → WithinUnits u
  pub one_writing : (u v : Units) → WithinUnits u → WithinUnits v → image_bytes u ≡ image_bytes v → u ≡ v
  pub one_by_one : (us vs : List Linked) → WithinUnits (gathered us) → WithinUnits (gathered vs) → image_bytes (gathered us) ≡ image_bytes (gathered vs) → us ≡ vs
  pub longest : (u : Units) → WithinUnits u → length (image_bytes u) ≤ 12630
  pub two_written : image_bytes two_units ≡ two_bytes
  pub two_read : read two_bytes ≡ Some two_units
  pub none_written : image_bytes no_units ≡ 0 ∷ 0 ∷ 0 ∷ 0 ∷ 0 ∷ 0 ∷ []
  pub none_read : read (0 ∷ 0 ∷ 0 ∷ 0 ∷ 0 ∷ 0 ∷ []) ≡ Some no_units
