-- What the table of products holds.
use Rattle.std.specs.Prelude.{◌≡◌, ℕ, Bool, cond, ◌&&◌, List, map, ◌==◌}
use Rattle.std.specs.Str.{bytes_eq}
use Rattle.product.specs.declared.row.Row.{Row}
use Rattle.product.specs.Parts.{parts}
use Rattle.bounded.specs.Held.{used}
use Rattle.artifact.specs.Art.{Art}
use Rattle.ledger.specs.Shelf.{all_same}
use Rattle.ledger.specs.Stored.{View, stored}
use Rattle.ledger.specs.Fresh.{Made}
use Rattle.building.specs.declared.table.Finished.{Finished}
use Rattle.building.specs.declared.table.Done.{Done}

-- a unit with its product
abbrev pub finished : Finished → Made
finished f = record { unit = f.name; parts = parts f.product }

-- the units built so far
abbrev pub done_list : Done → List Made
done_list d = map finished (used d.units)

-- the same source, and interfaces that are the same place by place
abbrev pub same_art : (List Row → List Row → Bool) → Art → Art → Bool
same_art same a b = bytes_eq a.source b.source && all_same same a.imports b.imports

-- a put of an artifact, with its answer's number
pub record PutArt (limit rows : ℕ) (before after : View) (q : List ℕ) (a : Art) (n : ℕ) : Type 0 where
  pub outcome : n ≡ (stored limit rows).room before q a
  pub view : after ≡ cond (n == 0) ((stored limit rows).kept before q a) before
