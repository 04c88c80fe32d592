-- The house sameness is equality of names, kinds and values.
use Rattle.std.proofs.Common.{◌≡◌, true, false, ◌&&◌, eqb, List, [], ◌∷◌, map, length, sym, refl, ap, ◌∙◌, arith, w32, of_z}
use Rattle.std.specs.List.{list_all, zip}
use Rattle.std.specs.Str.{bytes_eq}
use Rattle.std.proofs.lemmas.Slice.Eq.{bytes_eq-Decides}
use Rattle.std.proofs.lemmas.Bool.{false≢true, and_parts, and_from, and_right, eqb-true, eq-eqb}
use Rattle.product.specs.declared.row.Row.{Row}
use Rattle.translator.specs.House.{shape, like, house}

pub like-shape : (a b : Row) → like a b ≡ true → shape a ≡ shape b
like-shape a b h =
    let p = and_parts (bytes_eq a.name.bytes b.name.bytes) (eqb a.kind b.kind && eqb (of_z w32 a.value) (of_z w32 b.value)) h in
    let q = and_parts (eqb a.kind b.kind) (eqb (of_z w32 a.value) (of_z w32 b.value)) p.1 in
    λ i. ((bytes_eq-Decides a.name.bytes b.name.bytes).0 p.0 i, (eqb-true a.kind b.kind q.0 i, eqb-true (of_z w32 a.value) (of_z w32 b.value) q.1 i))

pub shape-like : (a b : Row) → shape a ≡ shape b → like a b ≡ true
shape-like a b e =
    and_from (bytes_eq a.name.bytes b.name.bytes) (eqb a.kind b.kind && eqb (of_z w32 a.value) (of_z w32 b.value))
    ((bytes_eq-Decides a.name.bytes b.name.bytes).1 (ap (λ s. s.0) e))
    (and_from (eqb a.kind b.kind) (eqb (of_z w32 a.value) (of_z w32 b.value)) (eq-eqb a.kind b.kind (ap (λ s. s.1.0) e)) (eq-eqb (of_z w32 a.value) (of_z w32 b.value) (ap (λ s. s.1.1) e)))

pub house_shapes : (a b : List Row) → house a b ≡ true → map shape a ≡ map shape b
house_shapes [] [] h = refl
house_shapes [] (b ∷ bs) h = absurd (false≢true h)
house_shapes (a ∷ more) [] h = absurd (false≢true h)
house_shapes (a ∷ more) (b ∷ bs) h =
    let p = and_parts (like a b) (house more bs) h in
    λ i. like-shape a b p.0 i ∷ house_shapes more bs p.1 i

pub house_itself : (a : List Row) → house a a ≡ true
house_itself [] = refl
house_itself (a ∷ more) = and_from (like a a) (house more more) (shape-like a a refl) (house_itself more)

pub house_turned : (a b : List Row) → house a b ≡ true → house b a ≡ true
house_turned [] [] h = refl
house_turned [] (b ∷ bs) h = h
house_turned (a ∷ more) [] h = h
house_turned (a ∷ more) (b ∷ bs) h =
    let p = and_parts (like a b) (house more bs) h in
    and_from (like b a) (house bs more) (shape-like b a (sym (like-shape a b p.0))) (house_turned more bs p.1)

pub house_chained : (a b c : List Row) → house a b ≡ true → house b c ≡ true → house a c ≡ true
house_chained [] [] c h k = k
house_chained [] (b ∷ bs) c h k = absurd (false≢true h)
house_chained (a ∷ more) [] c h k = absurd (false≢true h)
house_chained (a ∷ more) (b ∷ bs) [] h k = k
house_chained (a ∷ more) (b ∷ bs) (c ∷ cs) h k =
    let p = and_parts (like a b) (house more bs) h in
    let q = and_parts (like b c) (house bs cs) k in
    and_from (like a c) (house more cs) (shape-like a c (like-shape a b p.0 ∙ like-shape b c q.0)) (house_chained more bs cs p.1 q.1)

pub house_short : (a b : List Row) → (length a ≡ length b → ⊥) → house a b ≡ false
house_short [] [] h = absurd (h refl)
house_short [] (b ∷ bs) h = refl
house_short (a ∷ more) [] h = refl
house_short (a ∷ more) (b ∷ bs) h = and_right (like a b) (house more bs) (house_short more bs (λ e. h (omega arith)))

-- of equally many rows
pub house_zip : (a b : List Row) → length a ≡ length b → list_all (λ p. like p.0 p.1) (zip a b) ≡ house a b
house_zip [] [] h = refl
house_zip [] (b ∷ bs) h = absurd (omega arith)
house_zip (a ∷ more) [] h = absurd (omega arith)
house_zip (a ∷ more) (b ∷ bs) h = ap (λ t. like a b && t) (house_zip more bs (omega arith))
