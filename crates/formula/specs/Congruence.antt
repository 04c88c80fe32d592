-- The meaning of a source depends on its imports only through the names, kinds and values of their rows.
use Rattle.std.specs.Prelude.{◌≡◌, ℕ, zero, suc, ◌-◌, Bool, true, false, cond, ◌&&◌, List, [], ◌∷◌, length, ℤ, Some, None, Option, ◌==◌, nat_le, nat_lt, slice_index_or, refl}
use Rattle.std.proofs.Common.{sym, ap, subst, ◌∙◌, to_z}
use Rattle.std.specs.Int.{w32}
use Rattle.std.specs.Str.{bytes_eq}
use Rattle.std.proofs.lemmas.Bool.{false≢true, and_parts}
use Rattle.product.specs.declared.row.Row.{Row}
use Rattle.product.specs.Parts.{Outcome, made, faulted, first_row}
use Rattle.translator.specs.Owed.{Alike, Agree}
use Rattle.translator.specs.House.{shape, like, house}
use Rattle.translator.proofs.Alike.{like-shape, house_itself}
use Rattle.tokens.specs.Stream.{stream}
use Rattle.grammar.specs.Walk.{declarations}
use Rattle.scope.specs.Uses.{row_at, as_constant, as_function, outside}
use Rattle.formula.specs.Language.{formula, too_much, with_lines}

abbrev Shape : Type 0
Shape = List ℕ × (ℕ × ℕ)

-- what a unit sees of a row
abbrev sees : Option Row → Option Shape
sees None = None
sees (Some r) = Some (shape r)

abbrev constant_of : Option Shape → Option ℤ
constant_of None = None
constant_of (Some s) = cond (s.1.0 == 1) (Some (to_z w32 s.1.1)) None

abbrev function_of : Option Shape → Option ℕ
function_of None = None
function_of (Some s) = cond (s.1.0 == 2 && nat_le s.1.1 11) (Some s.1.1) None

constant-sees : (o : Option Row) → constant_of (sees o) ≡ as_constant o
constant-sees None = refl
constant-sees (Some r) = refl

function_sees : (o : Option Row) → function_of (sees o) ≡ as_function o
function_sees None = refl
function_sees (Some r) = refl

by_head : (name : List ℕ) (a b : Row) (p q : Option Row) → shape a ≡ shape b → sees p ≡ sees q → (t : Bool) → sees (cond t (Some a) p) ≡ sees (cond t (Some b) q)
by_head name a b p q e f true = ap Some e
by_head name a b p q e f false = f

first-seen : (name : List ℕ) (a b : List Row) → house a b ≡ true → sees (first_row name a) ≡ sees (first_row name b)
first-seen name [] [] h = refl
first-seen name [] (b ∷ bs) h = absurd (false≢true h)
first-seen name (a ∷ more) [] h = absurd (false≢true h)
first-seen name (a ∷ more) (b ∷ bs) h =
    let p = and_parts (like a b) (house more bs) h in
    let e = like-shape a b p.0 in
    by_head name a b (first_row name more) (first_row name bs) e (first-seen name more bs p.1) (bytes_eq a.name.bytes name)
    ∙ ap (λ bytes. sees (cond (bytes_eq bytes name) (Some b) (first_row name bs))) (ap (λ s. s.0) e)

alike_long : (a b : List (List Row)) → Alike house a b → length a ≡ length b
alike_long [] [] h = refl
alike_long [] (y ∷ b) h = absurd h
alike_long (x ∷ a) [] h = absurd h
alike_long (x ∷ a) (y ∷ b) h = ap suc (alike_long a b h.1)

alike_at : (a b : List (List Row)) (i : ℕ) → Alike house a b → house (slice_index_or a i []) (slice_index_or b i []) ≡ true
alike_at [] [] i h = refl
alike_at [] (y ∷ b) i h = absurd h
alike_at (x ∷ a) [] i h = absurd h
alike_at (x ∷ a) (y ∷ b) zero h = h.0
alike_at (x ∷ a) (y ∷ b) (suc i) h = alike_at a b i h.1

sees_cond : (t : Bool) (p q : Option Row) → sees p ≡ sees q → sees (cond t p None) ≡ sees (cond t q None)
sees_cond true p q e = e
sees_cond false p q e = refl

row_seen : (a b : List (List Row)) → Alike house a b → (p : ℕ) (name : List ℕ) → sees (row_at a p name) ≡ sees (row_at b p name)
row_seen a b h p name =
    sees_cond (nat_lt 0 p && nat_le p (length a)) (first_row name (slice_index_or a (p - 1) [])) (first_row name (slice_index_or b (p - 1) [])) (first-seen name (slice_index_or a (p - 1) []) (slice_index_or b (p - 1) []) (alike_at a b (p - 1) h))
    ∙ ap (λ n. sees (cond (nat_lt 0 p && nat_le p n) (first_row name (slice_index_or b (p - 1) [])) None)) (alike_long a b h)

-- a unit sees the same of imports that are the same
pub outside-same : (a b : List (List Row)) → Alike house a b → outside a ≡ outside b
outside-same a b h =
    λ i. record {
      constant = λ p name. (sym (constant-sees (row_at a p name)) ∙ ap constant_of (row_seen a b h p name) ∙ constant-sees (row_at b p name)) i;
      function = λ p name. (sym (function_sees (row_at a p name)) ∙ ap function_of (row_seen a b h p name) ∙ function_sees (row_at b p name)) i;
    }

pub formula-same : (source : List ℕ) (a b : List (List Row)) → Alike house a b → formula source a ≡ formula source b
formula-same source a b h =
    λ i. cond (nat_le (length source) 512 && nat_le (alike_long a b h i) 4) (with_lines (stream source) (outside-same a b h i) (declarations (stream source))) too_much

agree_itself : (o : Outcome) → Agree house o o
agree_itself (made p) = (house_itself p.interface, (refl, (refl, refl)))
agree_itself (faulted f) = refl

pub agrees : (source : List ℕ) (a b : List (List Row)) → Alike house a b → Agree house (formula source a) (formula source b)
agrees source a b h = subst (Agree house (formula source a)) (formula-same source a b h) (agree_itself (formula source a))
