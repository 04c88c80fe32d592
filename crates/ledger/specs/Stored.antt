-- Artifacts kept as bytes in a store.
use Rattle.std.specs.Prelude.{ℕ, ◌+◌, ◌-◌, cond, List, length, is_some, Some, None, Option}
use Rattle.std.specs.Str.{bytes_eq}
use Rattle.store.specs.Pairs.{Pair, lookup}
use Rattle.store.specs.Says.{put_number}
use Rattle.artifact.specs.Art.{Art, artifact_bytes, read}
use Rattle.ledger.specs.Shelf.{Shelf}

-- a store's pairs, in whatever order: the record of each name, and how many names have one
pub record View : Type 0 where
  pub at : List ℕ → Option (List ℕ)
  pub number : ℕ

abbrev pub view : List Pair → View
view ps = record { at = lookup ps; number = length ps }

-- the name has this record from now on
abbrev pub view_put : List ℕ → List ℕ → View → View
view_put q bs v = record { at = λ p. cond (bytes_eq q p) (Some bs) (v.at p); number = v.number + cond (is_some (v.at q)) 0 1 }

-- the name has no record from now on
abbrev pub view_drop : List ℕ → View → View
view_drop q v = record { at = λ p. cond (bytes_eq q p) None (v.at p); number = v.number - cond (is_some (v.at q)) 1 0 }

-- a record that is no artifact counts as none
abbrev pub artifact_in : Option (List ℕ) → Option Art
artifact_in (Some bs) = read bs
artifact_in None = None

-- a store with this record limit and so many rows, as a shelf of artifacts
abbrev pub stored : ℕ → ℕ → Shelf View
stored limit rows =
    record {
      seen = λ v q. artifact_in (v.at q);
      room = λ v q a. put_number limit rows (is_some (v.at q)) v.number (length (artifact_bytes a));
      kept = λ v q a. view_put q (artifact_bytes a) v;
      dropped = λ v q. view_drop q v;
    }
