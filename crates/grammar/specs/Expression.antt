-- Expressions: x, a literal, a name, an import word, an operator with two operands or a call with one, in parentheses.
use Rattle.std.specs.Prelude.{ℕ, zero, suc, Bool, true, false, cond, List, [], ◌∷◌, ℤ, Some, None, Option}
use Rattle.names.specs.declared.name.Name.{Name}
use Rattle.tokens.specs.declared.token.Operator.{Operator}
use Rattle.tokens.specs.declared.token.Token.{Token}
use Rattle.tokens.specs.declared.token.Token.TheVariants.{Open, Close, Operator as Sign, Name as Named, Word, Number}

-- what each part of an expression comes to on a state, and what it leaves of the state, if it comes to anything
pub record Meaning (S A : Type 0) : Type 0 where
  pub number : ℤ → S → Option (A × S)
  pub named : Name → S → Option (A × S)
  pub word : ℕ → Name → S → Option (A × S)
  pub operation : Operator → A → A → S → Option (A × S)
  pub call : Name → A → S → Option (A × S)
  pub call_word : ℕ → Name → A → S → Option (A × S)

-- a closing parenthesis
abbrev pub closes : Token → Bool
closes Close = true
closes _ = false

-- what stands behind a closing parenthesis
abbrev pub past : List Token → Option (List Token)
past [] = None
past (t ∷ ts) = cond (closes t) (Some ts) None

module _ {S A : Type 0} (m : Meaning S A) where
  -- what was come to, with the tokens left behind it
  abbrev pub leaving : Option (A × S) → Option (List Token) → Option (A × S × List Token)
  leaving None o = None
  leaving (Some p) None = None
  leaving (Some p) (Some ts) = Some (p.0, p.1, ts)

  -- one operand, then the end
  abbrev pub one : (A → S → Option (A × S)) → Option (A × S × List Token) → Option (A × S × List Token)
  one f None = None
  one f (Some p) = leaving (f p.0 p.1) (past p.2)

  -- two operands, then the end
  abbrev pub two : (S → List Token → Option (A × S × List Token)) → (A → A → S → Option (A × S)) → Option (A × S × List Token) → Option (A × S × List Token)
  two inner f None = None
  two inner f (Some p) = one (f p.0) (inner p.1 p.2)

  -- what stands first in parentheses
  abbrev pub headed : (S → List Token → Option (A × S × List Token)) → S → Token → List Token → Option (A × S × List Token)
  headed inner s (Sign o) ts = two inner (m.operation o) (inner s ts)
  headed inner s (Named n) ts = one (m.call n) (inner s ts)
  headed inner s (Word p n) ts = one (m.call_word p n) (inner s ts)
  headed inner s _ ts = None

  abbrev pub within : (S → List Token → Option (A × S × List Token)) → S → List Token → Option (A × S × List Token)
  within inner s [] = None
  within inner s (t ∷ ts) = headed inner s t ts

  -- what an expression begins with
  abbrev pub begun : (S → List Token → Option (A × S × List Token)) → S → Token → List Token → Option (A × S × List Token)
  begun inner s Open ts = within inner s ts
  begun inner s (Named n) ts = leaving (m.named n s) (Some ts)
  begun inner s (Word p n) ts = leaving (m.word p n s) (Some ts)
  begun inner s (Number v) ts = leaving (m.number v s) (Some ts)
  begun inner s _ ts = None

  abbrev pub level : (S → List Token → Option (A × S × List Token)) → S → List Token → Option (A × S × List Token)
  level inner s [] = None
  level inner s (t ∷ ts) = begun inner s t ts

  -- the expression at the front, of fewer than so many levels, done on s: what it comes to, what it leaves of s, and the tokens behind it
  abbrev pub expression : ℕ → S → List Token → Option (A × S × List Token)
  expression zero s ts = None
  expression (suc levels) s ts = level (expression levels) s ts
