-- The ledger: rows of name and artifact, fed the calls' arguments alone.
use Rattle.std.specs.Prelude.{ℕ, cond, List, [], ◌∷◌, length, is_some, Some, None, Option}
use Rattle.std.specs.Str.{bytes_eq}
use Rattle.store.specs.Says.{put_number}
use Rattle.artifact.specs.Art.{Art, artifact_bytes}
use Rattle.ledger.specs.Shelf.{Shelf}

-- a name, by its bytes, and the artifact kept for it
pub record Entry : Type 0 where
  pub key : List ℕ
  pub art : Art

-- the artifact in a name's row
abbrev pub row_of : List Entry → List ℕ → Option Art
row_of [] q = None
row_of (e ∷ es) q = cond (bytes_eq e.key q) (Some e.art) (row_of es q)

-- the rows but those of a name
abbrev pub rows_but : List ℕ → List Entry → List Entry
rows_but q [] = []
rows_but q (e ∷ es) = cond (bytes_eq e.key q) (rows_but q es) (e ∷ rows_but q es)

-- the artifact becomes the name's row
abbrev pub with_row : List ℕ → Art → List Entry → List Entry
with_row q a es = record { key = q; art = a } ∷ rows_but q es

-- the ledger knows a store's record limit and its number of rows: an artifact over the limit is 42, else a name without row where so many rows stand is 41
abbrev pub ledger : ℕ → ℕ → Shelf (List Entry)
ledger limit rows =
    record {
      seen = row_of;
      room = λ es q a. put_number limit rows (is_some (row_of es q)) (length es) (length (artifact_bytes a));
      kept = λ es q a. with_row q a es;
      dropped = λ es q. rows_but q es;
    }
