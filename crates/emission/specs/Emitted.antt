-- The code of functions, and the rows of a unit.
use Rattle.std.specs.Prelude.{ℕ, ◌+◌, cond, List, [], ◌∷◌, pos, Some, None, Option, nat_lt}
use Rattle.std.specs.Option.{unwrap_or}
use Rattle.std.specs.Str.{bytes_eq}
use Rattle.tokens.specs.declared.token.Token.{Token}
use Rattle.product.specs.declared.row.Row.{Row}
use Rattle.product.specs.declared.row.Reference.{Reference}
use Rattle.product.specs.Parts.{Parts}
use Rattle.grammar.specs.declared.declaration.Declaration.{Declaration}
use Rattle.grammar.specs.Expression.{Meaning, expression}
use Rattle.grammar.specs.Line.{x_word, is_function}
use Rattle.grammar.specs.Walk.{body}
use Rattle.scope.specs.Names.{entry_of}
use Rattle.scope.specs.Uses.{Outside}
use Rattle.values.specs.declared.known.Known.{Known}
use Rattle.values.specs.Evaluation.{known}
use Rattle.emission.specs.Wrote.{then, adding, entering, showing_row, opcode, pushing, calling}

-- a reference to the unit's own function of that number
abbrev pub own_call : Option ℕ → Option Reference
own_call None = None
own_call (Some k) = cond (nat_lt k 256) (Some (record { position = 0; entry = k })) None

-- a reference to the function of that number in an import
abbrev pub word_call : ℕ → Option ℕ → Option Reference
word_call p None = None
word_call p (Some k) = Some (record { position = p; entry = k })

-- a part that writes comes to nothing else
abbrev pub writing : Option Parts → Option (Unit {0} × Parts)
writing None = None
writing (Some p) = Some (tt, p)

module _ (own : List Declaration) (ks : List Known) (o : Outside) where
  -- x is 02; constants stand by their value; an operator follows its operands; a call is its argument, 30 and the reference's number
  abbrev pub emitting : Meaning Parts (Unit {0})
  emitting = record {
    number = λ v p. writing (pushing v p);
    named = λ n p. writing (cond (bytes_eq n.bytes x_word) (adding (2 ∷ []) p) (then (known n.bytes ks) (λ v. pushing v p)));
    word = λ i n p. writing (then (o.constant i n.bytes) (λ v. pushing v p));
    operation = λ f _ _ p. writing (adding (opcode f ∷ []) p);
    call = λ n _ p. writing (then (own_call (entry_of n.bytes own)) (λ r. calling r p));
    call_word = λ i n _ p. writing (then (word_call i (o.function i n.bytes)) (λ r. calling r p));
  }

  -- a function is an entry, its expression's code and 3F
  abbrev pub function_of : List Token → Declaration → Parts → Option Parts
  function_of all d p = then (entering p) (λ q. then (expression emitting 9 q (body all d)) (λ r. adding (63 ∷ []) r.1))

  -- the functions, in line order
  abbrev pub functions : List Token → Parts → List Declaration → Option Parts
  functions all p [] = Some p
  functions all p (d ∷ ds) = cond (is_function d.kind) (then (function_of all d p) (λ q. functions all q ds)) (functions all p ds)

-- kind 1 with the value, kind 2 with the entry number
abbrev pub row_of : List Known → ℕ → Declaration → Row
row_of ks k d = cond (is_function d.kind) (record { name = d.name; kind = 2; value = pos k; line = d.line }) (record { name = d.name; kind = 1; value = unwrap_or (known d.name.bytes ks) (pos 0); line = d.line })

-- the rows, in line order, behind k functions
abbrev pub rows_of : List Known → ℕ → Parts → List Declaration → Option Parts
rows_of ks k p [] = Some p
rows_of ks k p (d ∷ ds) = then (showing_row (row_of ks k d) p) (λ q. rows_of ks (cond (is_function d.kind) (k + 1) k) q ds)
