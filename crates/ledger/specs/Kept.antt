-- What every run keeps.
use Rattle.std.specs.Prelude.{◌≡◌, List, Some, None}
use Rattle.std.specs.List.{AllZip, AllByRecursion}
use Rattle.project.specs.Members.{Member}
use Rattle.ledger.specs.Meaning.{Meaning}
use Rattle.ledger.specs.Fresh.{Made, translated, fresh}
use Rattle.ledger.specs.Shelf.{Shelf}
use Rattle.ledger.specs.Sound.{SoundMember, TrueShelf}
use Rattle.ledger.specs.Agrees.{Like}
use Rattle.ledger.specs.Runs.{Stage, draft, frozen, State}

-- the products held since an accepted build are like those of fresh translation
abbrev pub TrueStage : Meaning → List Member → Stage → Type 0
TrueStage m vs draft = Unit {0}
TrueStage m vs (frozen None) = Unit {0}
TrueStage m vs (frozen (Some ds)) = (es : List Made) × (fresh m vs ≡ translated es) × AllZip (Like m) ds es

pub record TrueState {S : Type 0} (m : Meaning) (sh : Shelf S) (t : State S) : Type 0 where
  pub members : AllByRecursion SoundMember t.project
  pub shelf : TrueShelf m sh t.shelf
  pub stage : TrueStage m t.project t.stage
