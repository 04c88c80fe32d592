-- Interfaces compared place by place.
use Rattle.std.proofs.Common.{◌≡◌, suc, Bool, false, ◌&&◌, List, [], ◌∷◌, map, length, sym, refl, ap, arith}
use Rattle.std.specs.List.{list_all, zip}
use Rattle.std.proofs.lemmas.Bool.{and_right}
use Rattle.product.specs.declared.row.Row.{Row}
use Rattle.product.specs.declared.interface.Interface.{Interface}
use Rattle.product.specs.Parts.{rows}
use Rattle.ledger.specs.Shelf.{all_same}

pub unequal : (f : List Row → List Row → Bool) (xs ys : List Interface) → (length xs ≡ length ys → ⊥) → false ≡ all_same f (map rows xs) (map rows ys)
unequal f [] [] h = absurd (h refl)
unequal f [] (y ∷ ys) h = refl
unequal f (x ∷ xs) [] h = refl
unequal f (x ∷ xs) (y ∷ ys) h = sym (and_right (f (rows x) (rows y)) (all_same f (map rows xs) (map rows ys)) (sym (unequal f xs ys (λ e. h (ap suc e)))))

pub zipped : (f : List Row → List Row → Bool) (xs ys : List Interface) → length xs ≡ length ys → list_all (λ p. f (rows p.0) (rows p.1)) (zip xs ys) ≡ all_same f (map rows xs) (map rows ys)
zipped f [] [] h = refl
zipped f [] (y ∷ ys) h = absurd (omega arith)
zipped f (x ∷ xs) [] h = absurd (omega arith)
zipped f (x ∷ xs) (y ∷ ys) h = ap (λ b. f (rows x) (rows y) && b) (zipped f xs ys (omega arith))
