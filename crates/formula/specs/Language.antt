-- What a formula source means: the first phase with a fault decides.
use Rattle.std.specs.Prelude.{ℕ, cond, List, Some, None, Ok, Err, Option, Result}
use Rattle.names.specs.declared.refusal.Fault.{Fault}
use Rattle.product.specs.declared.row.Row.{Row}
use Rattle.product.specs.Parts.{Parts, Outcome, made, faulted, no_parts}
use Rattle.translator.specs.Owed.{admitted}
use Rattle.tokens.specs.declared.token.Token.{Token}
use Rattle.tokens.specs.Stream.{stream}
use Rattle.grammar.specs.declared.declaration.Declaration.{Declaration}
use Rattle.grammar.specs.Walk.{declarations}
use Rattle.scope.specs.Names.{misnamed}
use Rattle.scope.specs.Uses.{Outside, outside, misused}
use Rattle.values.specs.declared.known.Known.{Known}
use Rattle.values.specs.Solved.{solved}
use Rattle.emission.specs.Wrote.{then}
use Rattle.emission.specs.Emitted.{functions, rows_of}

-- too long a source, too many imports, too much code or too many references
abbrev pub too_much : Outcome
too_much = faulted (record { code = 9; line = 0 })

module _ (ts : List Token) (o : Outside) where
  -- sixth: the rows and the code have room
  abbrev pub written : Option Parts → Outcome
  written None = too_much
  written (Some p) = made p

  -- fourth and fifth: the constants have an order and values
  abbrev pub with_values : List Declaration → Result (List Known) Fault → Outcome
  with_values ds (Err f) = faulted f
  with_values ds (Ok ks) = written (then (rows_of ks 0 no_parts ds) (λ p. functions ds ks o ts p ds))

  -- third: every used name is known and of use
  abbrev pub with_uses : List Declaration → Option Fault → Outcome
  with_uses ds (Some f) = faulted f
  with_uses ds None = with_values ds (solved ts o ds)

  -- second: every declared name may be declared
  abbrev pub with_names : List Declaration → Option Fault → Outcome
  with_names ds (Some f) = faulted f
  with_names ds None = with_uses ds (misused ts ds o ds)

  -- first: every line has its form
  abbrev pub with_lines : Result (List Declaration) Fault → Outcome
  with_lines (Err f) = faulted f
  with_lines (Ok ds) = with_names ds (misnamed ds 0 ds)

-- the product or the fault of a source, with what it sees of its imports
abbrev pub formula : List ℕ → List (List Row) → Outcome
formula source imports = cond (admitted source imports) (with_lines (stream source) (outside imports) (declarations (stream source))) too_much
