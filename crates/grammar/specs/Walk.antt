-- The declarations of a unit, line by line.
use Rattle.std.specs.Prelude.{ℕ, ◌+◌, ◌-◌, Bool, true, false, cond, List, [], ◌∷◌, ◌++◌, take, drop, Some, None, Option, Ok, Err, Result}
use Rattle.names.specs.declared.refusal.Fault.{Fault}
use Rattle.tokens.specs.declared.token.Token.{Token}
use Rattle.tokens.specs.declared.token.Token.TheVariants.{LineEnd}
use Rattle.grammar.specs.declared.declaration.Declared.{Declared}
use Rattle.grammar.specs.declared.declaration.Declaration.{Declaration}
use Rattle.grammar.specs.declared.flaw.Flaw.{Flaw}
use Rattle.grammar.specs.Flaws.{at}
use Rattle.grammar.specs.Line.{said}

-- the end of a line
abbrev pub ends : Token → Bool
ends LineEnd = true
ends _ = false

-- the declarations behind a line that stands from start to end; its expression follows three tokens
abbrev pub noted : ℕ → ℕ → ℕ → Result (Option Declared) Flaw → List Declaration → Result (List Declaration) Fault
noted line start end (Ok None) ds = Ok ds
noted line start end (Err flaw) ds = Err (at flaw line)
noted line start end (Ok (Some d)) ds = Ok (ds ++ record { kind = d.kind; name = d.name; line = line; start = start + 3; end = end } ∷ [])

-- on from what went well
abbrev pub onward : {X Y : Type 0} → Result X Fault → (X → Result Y Fault) → Result Y Fault
onward (Ok x) k = k x
onward (Err f) k = Err f

-- the tokens from place i on are left, in a line that began at start
abbrev pub walk : List Token → ℕ → ℕ → ℕ → List Declaration → List Token → Result (List Declaration) Fault
walk all start i line ds [] = Ok ds
walk all start i line ds (t ∷ ts) =
    cond (ends t) (onward (noted line start i (said line (take (i - start) (drop start all))) ds) (λ more. walk all (i + 1) (i + 1) (line + 1) more ts))
    (walk all start (i + 1) line ds ts)

-- the declarations of a stream of tokens, or the first wrong line
abbrev pub declarations : List Token → Result (List Declaration) Fault
declarations all = walk all 0 0 1 [] all

-- what a call answered and left in the list lent to it
abbrev pub told : {T X : Type 0} → Result T Fault → X → Result X Fault
told (Ok t) x = Ok x
told (Err f) x = Err f

-- the tokens of a declaration's expression
abbrev pub body : List Token → Declaration → List Token
body all d = take (d.end - d.start) (drop d.start all)
