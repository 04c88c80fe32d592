-- A store that holds exactly the ledger's artifacts.
use Rattle.std.specs.Prelude.{◌≡◌, ℕ, List, [], ◌∷◌, length, Some, None}
use Rattle.std.specs.Option.{option_map}
use Rattle.artifact.specs.Art.{Art, WithinArt, artifact_bytes}
use Rattle.ledger.specs.Shelf.{Built}
use Rattle.ledger.specs.Runs.{State, Turned}
use Rattle.ledger.specs.Stored.{View}
use Rattle.ledger.specs.Ledger.{Entry, row_of}

-- each name has one row
abbrev pub Once : List Entry → Type 0
Once [] = Unit {0}
Once (e ∷ es) = (row_of es e.key ≡ None) × Once es

-- under each name the bytes of its row's artifact, and nothing else
pub record Holds (v : View) (es : List Entry) : Type 0 where
  pub bytes : (q : List ℕ) → v.at q ≡ option_map artifact_bytes (row_of es q)
  pub number : v.number ≡ length es
  pub within : (q : List ℕ) (a : Art) → row_of es q ≡ Some a → WithinArt a
  pub once : Once es

-- a build over the store and one over the ledger that say the same
pub record SameBuild (b : Built View) (c : Built (List Entry)) : Type 0 where
  pub ended : b.ended ≡ c.ended
  pub marks : b.marks ≡ c.marks
  pub done : b.done ≡ c.done
  pub holds : Holds b.state c.state

-- states of the two that say the same
pub record SameState (t : State View) (u : State (List Entry)) : Type 0 where
  pub project : t.project ≡ u.project
  pub stage : t.stage ≡ u.stage
  pub holds : Holds t.shelf u.shelf

pub record SameTurn (t : Turned View) (u : Turned (List Entry)) : Type 0 where
  pub state : SameState t.state u.state
  pub said : t.said ≡ u.said
