-- What becomes of one unit, as a step of a build.
use Rattle.std.proofs.Common.{◌≡◌, ℕ, List, Some, None, Option, Result, sym, refl, ap, ◌∙◌, subst}
use Rattle.product.specs.Parts.{no_parts}
use Rattle.artifact.specs.Art.{Art}
use Rattle.project.specs.Members.{Member}
use Rattle.ledger.specs.Meaning.{Meaning}
use Rattle.ledger.specs.Fresh.{Made}
use Rattle.ledger.specs.Shelf.{current, art_of}
use Rattle.store.specs.Pairs.{Pair}
use Rattle.product.specs.declared.row.Row.{Row}
use Rattle.building.specs.declared.mark.Mark.{Mark}
use Rattle.ledger.specs.Stored.{View, view, stored}
use Rattle.building.specs.declared.stop.Stop.{Stop}
use Rattle.building.specs.Step.{current_to, UnitBuilt}

-- what is current, against the unit as it would be stored
pub current_is : (m : Meaning) (u : Member) (present : List (List Row)) (fresh : Art) (o : Option Art) → fresh ≡ art_of u present no_parts → current m u present o ≡ current_to m.same fresh o
current_is m u present fresh o e = by o ∙ ap (λ a. current_to m.same a o) (sym e)
  where
    by : (o : Option Art) → current m u present o ≡ current_to m.same (art_of u present no_parts) o
    by None = refl
    by (Some a) = refl

-- a store with the same pairs and rows
pub from_here : (m : Meaning) (limit n k : ℕ) (u : Member) (ds es : List Made) (ps qs : List Pair) (w : View) (r : Result Mark Stop) → k ≡ n → qs ≡ ps → UnitBuilt m (stored limit k) u ds es (view qs) w r → UnitBuilt m (stored limit n) u ds es (view ps) w r
from_here m limit n k u ds es ps qs w r e f h = subst (λ x. UnitBuilt m (stored limit x) u ds es (view ps) w r) e (subst (λ x. UnitBuilt m (stored limit k) u ds es (view x) w r) f h)
