-- Whether tokens are an expression, whatever it comes to.
use Rattle.std.specs.Prelude.{List, Some, None, Option}
use Rattle.tokens.specs.declared.token.Token.{Token}
use Rattle.grammar.specs.Expression.{Meaning}

-- every part comes to something
abbrev pub checking : Meaning (Unit {0}) (Unit {0})
checking = record { number = λ _ s. Some (tt, s); named = λ _ s. Some (tt, s); word = λ _ _ s. Some (tt, s); operation = λ _ _ _ s. Some (tt, s); call = λ _ _ s. Some (tt, s); call_word = λ _ _ _ s. Some (tt, s) }

-- what stands behind
abbrev pub behind : {A S : Type 0} → Option (A × S × List Token) → Option (List Token)
behind None = None
behind (Some p) = Some p.2
