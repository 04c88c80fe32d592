-- Which constants need which.
use Rattle.std.specs.Prelude.{ℕ, ◌+◌, Bool, false, not, map, filter, List, [], ◌∷◌, ◌++◌}
use Rattle.std.specs.List.{list_any}
use Rattle.std.specs.Str.{bytes_eq}
use Rattle.order.specs.declared.Need.{Need}
use Rattle.tokens.specs.declared.token.Token.{Token}
use Rattle.tokens.specs.declared.token.Token.TheVariants.{Name as Named}
use Rattle.grammar.specs.declared.declaration.Declaration.{Declaration}
use Rattle.grammar.specs.Line.{is_function}
use Rattle.grammar.specs.Walk.{body}

-- the constants among the declarations
abbrev pub constants : List Declaration → List Declaration
constants = filter (λ d. not (is_function d.kind))

-- their lines
abbrev pub lines : List Declaration → List ℕ
lines = map (λ d. d.line)

-- the token is the name
abbrev pub names : List ℕ → Token → Bool
names name (Named n) = bytes_eq n.bytes name
names name _ = false

abbrev pub mentions : List ℕ → List Token → Bool
mentions name = list_any (names name)

-- the constant at place i needs each of these that its expression mentions
abbrev pub needs_of : ℕ → List Token → List Declaration → List (Need ℕ)
needs_of i ts ds = map (λ d. record { item = i; key = d.line }) (filter (λ d. mentions d.name.bytes ts) ds)

abbrev pub needs : List Token → List Declaration → ℕ → List Declaration → List (Need ℕ)
needs all cs i [] = []
needs all cs i (d ∷ ds) = needs_of i (body all d) cs ++ needs all cs (i + 1) ds
