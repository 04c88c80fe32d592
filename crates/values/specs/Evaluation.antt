-- The value of a constant's expression, where some constants are known.
use Rattle.std.specs.Prelude.{ℕ, List, [], ◌∷◌, ◌++◌, ℤ, Some, None, Ok, Err, Option, Result}
use Rattle.std.specs.List.{find}
use Rattle.std.specs.Option.{option_map}
use Rattle.std.specs.Str.{bytes_eq}
use Rattle.names.specs.declared.refusal.Fault.{Fault}
use Rattle.tokens.specs.declared.token.Token.{Token}
use Rattle.grammar.specs.declared.declaration.Declaration.{Declaration}
use Rattle.grammar.specs.declared.flaw.Flaw.TheVariants.{NoValue}
use Rattle.grammar.specs.Came.{came}
use Rattle.grammar.specs.Expression.{Meaning, expression}
use Rattle.grammar.specs.Walk.{body}
use Rattle.scope.specs.Names.{at_line}
use Rattle.scope.specs.Uses.{Outside}
use Rattle.values.specs.declared.known.Known.{Known}
use Rattle.values.specs.Arithmetic.{ranged, operated}

-- the value of a known constant
abbrev pub known : List ℕ → List Known → Option ℤ
known name ks = option_map (λ k. k.value) (find (λ k. bytes_eq k.name.bytes name) ks)

-- literals, known constants, constants of imports and operators have values; nothing is written
abbrev pub evaluating : List Known → Outside → Meaning (Unit {0}) ℤ
evaluating ks o = record { number = λ v. came (Some v); named = λ n. came (known n.bytes ks); word = λ p n. came (o.constant p n.bytes); operation = λ f a b. came (operated f a b); call = λ _ _ _. None; call_word = λ _ _ _ _. None }

-- the whole value too is within 32 bits
abbrev pub result : Option (ℤ × Unit {0} × List Token) → Option ℤ
result None = None
result (Some p) = ranged p.0

abbrev pub value : List Token → Outside → List Known → Declaration → Option ℤ
value all o ks d = result (expression (evaluating ks o) 9 tt (body all d))

-- one constant more is known, or its line is at fault
abbrev pub learnt : List Known → Declaration → Option ℤ → Result (List Known) Fault
learnt ks d None = Err (at_line NoValue d)
learnt ks d (Some v) = Ok (ks ++ record { name = d.name; value = v } ∷ [])
