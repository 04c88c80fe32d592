-- The table of products as a list.
use Rattle.std.proofs.Common.{◌≡◌, Bool, true, false, cond, List, [], ◌∷◌, map, Some, None, Option, refl, ap, ◌∙◌}
use Rattle.std.specs.Option.{MatchOption, option_map, option_map_or}
use Rattle.std.specs.List.{find}
use Rattle.names.specs.declared.name.Name.{Name}
use Rattle.product.specs.declared.row.Row.{Row}
use Rattle.product.specs.Parts.{rows}
use Rattle.project.specs.Members.{same}
use Rattle.ledger.specs.Fresh.{interface_of}
use Rattle.building.specs.declared.table.Finished.{Finished}
use Rattle.building.specs.Finish.{finished}

-- the interface of the first unit of the name
first_of : (fs : List Finished) (n : Name) → option_map_or (λ (f : Finished). rows f.product.interface) (find (λ f. same f.name n) fs) [] ≡ interface_of (map finished fs) n
first_of [] n = refl
first_of (f ∷ fs) n = by (same f.name n) (first_of fs n)
  where
    by : (b : Bool) → option_map_or (λ (g : Finished). rows g.product.interface) (find (λ g. same g.name n) fs) [] ≡ interface_of (map finished fs) n → option_map_or (λ (g : Finished). rows g.product.interface) (cond b (Some f) (find (λ g. same g.name n) fs)) [] ≡ cond b (rows f.product.interface) (interface_of (map finished fs) n)
    by true e = refl
    by false e = e

-- what is told of it, or of none
pub interface_by : {R : Type 0} (v : R → Finished) (fs : List Finished) (n : Name) (o : Option R) (out : List Row) (P : R → Type 0) (Q : Type 0) → option_map v o ≡ find (λ f. same f.name n) fs → MatchOption o Q P → (Q → out ≡ []) → ((x : R) → P x → out ≡ rows (v x).product.interface) → out ≡ interface_of (map finished fs) n
interface_by v fs n (Some x) out P Q e m f g = g x m ∙ ap (λ o. option_map_or (λ (f : Finished). rows f.product.interface) o []) e ∙ first_of fs n
interface_by v fs n None out P Q e m f g = f m ∙ ap (λ o. option_map_or (λ (f : Finished). rows f.product.interface) o []) e ∙ first_of fs n
