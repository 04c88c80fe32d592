-- Two names of the same bytes are the same name.
use Rattle.std.proofs.Common.{◌≡◌, true}
use mathlib.Core.Bool.{Bool-set}
use mathlib.Core.HLevel.{is_prop→PathP}
use Rattle.names.specs.Spelling.{padded_name}
use Rattle.names.specs.declared.name.Name.{Name, valid-type}

pub same_name : (a b : Name) → a.bytes ≡ b.bytes → a ≡ b
same_name a b e =
    λ i. record { bytes = e i; valid = is_prop→PathP (λ j. valid-type (e j)) (λ j. Bool-set (padded_name (e j)) true) a.valid b.valid i }
