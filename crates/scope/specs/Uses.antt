-- Names that are used.
use Rattle.std.specs.Prelude.{ℕ, ◌-◌, Bool, true, cond, not, ◌&&◌, ◌||◌, List, [], length, ℤ, is_some, Some, None, Option, ◌==◌, nat_le, nat_lt, slice_index_or}
use Rattle.std.specs.List.{list_all, find}
use Rattle.std.specs.Option.{option_map}
use Rattle.std.specs.Int.{w32}
use Rattle.std.proofs.Common.{of_z, to_z}
use Rattle.std.specs.Str.{bytes_eq}
use Rattle.names.specs.declared.refusal.Fault.{Fault}
use Rattle.product.specs.declared.row.Row.{Row}
use Rattle.product.specs.Parts.{first_row}
use Rattle.tokens.specs.declared.token.Token.{Token}
use Rattle.tokens.specs.declared.token.Token.TheVariants.{Name as Named, Word}
use Rattle.grammar.specs.declared.declaration.Declaration.{Declaration}
use Rattle.grammar.specs.declared.flaw.Flaw.TheVariants.{IllUsed}
use Rattle.grammar.specs.Line.{x_word, placed}
use Rattle.grammar.specs.Walk.{body}
use Rattle.scope.specs.Names.{is_constant, entry_of, at_line}

-- the first row of a name in the import at a position, counted from 1
abbrev pub row_at : List (List Row) → ℕ → List ℕ → Option Row
row_at imports position name = cond (nat_lt 0 position && nat_le position (length imports)) (first_row name (slice_index_or imports (position - 1) [])) None

-- a row of kind 1 is a constant
abbrev pub as_constant : Option Row → Option ℤ
as_constant None = None
as_constant (Some r) = cond (r.kind == 1) (Some (to_z w32 (of_z w32 r.value))) None

-- a row of kind 2 with a value from 0 to 11 is a function, and the value its entry
abbrev pub as_function : Option Row → Option ℕ
as_function None = None
as_function (Some r) = cond (r.kind == 2 && nat_le (of_z w32 r.value) 11) (Some (of_z w32 r.value)) None

-- what a unit sees of its imports: constants and functions, by position and name
pub record Outside : Type 0 where
  pub constant : ℕ → List ℕ → Option ℤ
  pub function : ℕ → List ℕ → Option ℕ

abbrev pub outside : List (List Row) → Outside
outside imports = record { constant = λ p n. as_constant (row_at imports p n); function = λ p n. as_function (row_at imports p n) }

-- a name is of use where it stands: a called one is a function, any other a constant or x
abbrev pub useful : List Declaration → Outside → Bool → Token → Bool
useful ds o called (Named n) = cond called (is_some (entry_of n.bytes ds)) (bytes_eq n.bytes x_word || is_constant n.bytes ds)
useful ds o called (Word p n) = cond called (is_some (o.function p n.bytes)) (is_some (o.constant p n.bytes))
useful ds o called _ = true

-- every name is of use
abbrev pub all_useful : List Declaration → Outside → List Token → Bool
all_useful ds o ts = list_all (λ p. useful ds o p.0 p.1) (placed ts)

-- the first declaration that uses a name that is unknown or of no use there
abbrev pub misused : List Token → List Declaration → Outside → List Declaration → Option Fault
misused all own o ds = option_map (at_line IllUsed) (find (λ d. not (all_useful own o (body all d))) ds)
