-- What holds of units, of artifacts kept, and of shelves that keep.
use Rattle.std.specs.Prelude.{◌≡◌, ℕ, ◌<◌, ◌≤◌, cond, List, length, Some, None}
use Rattle.std.specs.List.{AllByRecursion}
use Rattle.std.specs.Str.{bytes_eq}
use Rattle.product.specs.Parts.{made, WithinRows}
use Rattle.artifact.specs.Art.{Art, WithinArt}
use Rattle.project.specs.Members.{Member}
use Rattle.ledger.specs.Meaning.{Meaning}
use Rattle.ledger.specs.Fresh.{Made}
use Rattle.ledger.specs.Shelf.{Shelf}

-- a unit as put accepts it
abbrev pub SoundMember : Member → Type 0
SoundMember u = (length u.source ≤ 512) × AllByRecursion (λ b. b < 256) u.source × (length u.imports ≤ 4)

-- an interface that a caller can hold
abbrev pub SoundMade : Made → Type 0
SoundMade d = WithinRows d.parts.interface

-- an artifact whose product is what the function gives for its own source and recorded interfaces
abbrev pub TrueArt : Meaning → Art → Type 0
TrueArt m a = WithinArt a × (m.means a.source a.imports ≡ made a.product)

-- every artifact on the shelf is such a one
abbrev pub TrueShelf : {S : Type 0} → Meaning → Shelf S → S → Type 0
TrueShelf m sh s = (q : List ℕ) (a : Art) → sh.seen s q ≡ Some a → TrueArt m a

-- a shelf keeps what is put, drops what is dropped, and leaves the rest
pub record Keeps {S : Type 0} (sh : Shelf S) : Type 0 where
  pub back : (s : S) (q : List ℕ) (a : Art) (p : List ℕ) → WithinArt a → sh.room s q a ≡ 0 → sh.seen (sh.kept s q a) p ≡ cond (bytes_eq q p) (Some a) (sh.seen s p)
  pub gone : (s : S) (q p : List ℕ) → sh.seen (sh.dropped s q) p ≡ cond (bytes_eq q p) None (sh.seen s p)
