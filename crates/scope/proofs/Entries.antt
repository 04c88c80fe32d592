-- The number of a function, by the place of the first declaration of its name.
use Rattle.std.proofs.Common.{◌≡◌, ℕ, Bool, true, false, cond, ltb, List, length, take, Some, None, Option, is_some, unwrap_or, get_or, count_by, sym, refl, ap, ◌∙◌, true≢false}
use Rattle.std.specs.List.{position, position_or_len}
use Rattle.std.specs.Str.{bytes_eq}
use Rattle.std.proofs.lemmas.Bool.{ltb-true, ltb-false}
use Rattle.std.proofs.lemmas.List.Folds.{find_at}
use Rattle.std.proofs.lemmas.Option.{slice_get-get_or, slice_get_past}
use Rattle.grammar.specs.declared.declaration.Declaration.{Declaration}
use Rattle.grammar.specs.Line.{is_function}
use Rattle.scope.specs.Names.{functions_before, numbered, entry_of}

-- the place of the first declaration of a name
abbrev pub place : List ℕ → List Declaration → Option ℕ
place name ds = position (λ d. bytes_eq d.name.bytes name) ds

-- the declarations in front
abbrev front : List ℕ → List Declaration → ℕ
front name ds = position_or_len (λ d. bytes_eq d.name.bytes name) ds

-- a name that no declaration has
pub no_entry : (name : List ℕ) (ds : List Declaration) → None ≡ place name ds → entry_of name ds ≡ None
no_entry name ds e = by (ltb (front name ds) (length ds)) refl e
  where
    by : (t : Bool) → ltb (front name ds) (length ds) ≡ t → None ≡ cond t (Some (front name ds)) None → entry_of name ds ≡ None
    by true l e = absurd (true≢false (sym (ap is_some e)))
    by false l e = ap (numbered (functions_before name ds)) (find_at (λ (d : Declaration). bytes_eq d.name.bytes name) ds ∙ slice_get_past ds (front name ds) (ltb-false (front name ds) (length ds) l))

-- the declaration at the place of a name
pub entry_at : (name : List ℕ) (ds : List Declaration) (i : ℕ) (d : Declaration) → Some i ≡ place name ds → entry_of name ds ≡ cond (is_function (get_or ds i d).kind) (Some (count_by (λ d. is_function d.kind) (take i ds))) None
entry_at name ds i d e = by (ltb (front name ds) (length ds)) refl e
  where
    by : (t : Bool) → ltb (front name ds) (length ds) ≡ t → Some i ≡ cond t (Some (front name ds)) None → entry_of name ds ≡ cond (is_function (get_or ds i d).kind) (Some (count_by (λ d. is_function d.kind) (take i ds))) None
    by false l e = absurd (true≢false (ap is_some e))
    by true l e =
        let k : ℕ = front name ds in
        let here : k ≡ i = sym (ap (λ o. unwrap_or o 0) e) in
        ap (numbered (functions_before name ds)) (find_at (λ (x : Declaration). bytes_eq x.name.bytes name) ds ∙ slice_get-get_or ds k d (ltb-true k (length ds) l))
        ∙ ap (λ (n : ℕ). cond (is_function (get_or ds n d).kind) (Some (count_by (λ x. is_function x.kind) (take n ds))) None) here
