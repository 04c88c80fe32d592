-- The line reader: between tokens, inside a token that began at some place, or inside a comment.
use Rattle.std.specs.Prelude.{ℕ, ◌+◌, ◌-◌, ◌≤◌, Bool, cond, ◌||◌, List, [], ◌∷◌, ◌++◌, take, drop, Some, None, Option, ◌==◌}
use Rattle.std.specs.Option.{option_to_list}
use Rattle.tokens.specs.declared.token.Token.{Token}
use Rattle.tokens.specs.declared.token.Token.TheVariants.{Open, Close, LineEnd}
use Rattle.tokens.specs.declared.state.State.{State}
use Rattle.tokens.specs.declared.state.State.TheVariants.{Between, Inside, Comment}
use Rattle.tokens.specs.Forms.{form}

-- a line's end, a space or a parenthesis parts words
abbrev pub parting : ℕ → Bool
parting b = b == 10 || (b == 32 || (b == 40 || b == 41))

-- a line's end and a parenthesis are tokens of their own
abbrev pub single : ℕ → Option Token
single b = cond (b == 10) (Some LineEnd) (cond (b == 40) (Some Open) (cond (b == 41) (Some Close) None))

-- where the reader is behind the byte b at place i; a comment runs from any semicolon to the line's end
abbrev pub next : State → ℕ → ℕ → State
next Between i b = cond (b == 59) Comment (cond (parting b) Between (Inside i))
next (Inside start) i b = cond (b == 59) Comment (cond (parting b) Between (Inside start))
next Comment i b = cond (b == 10) Between Comment

-- where the word began that ends before the byte b
abbrev pub ended : State → ℕ → Option ℕ
ended Between b = None
ended (Inside start) b = cond (b == 59 || parting b) (Some start) None
ended Comment b = None

-- the token that the byte b is itself
abbrev pub alone : State → ℕ → Option Token
alone Between b = single b
alone (Inside start) b = single b
alone Comment b = cond (b == 10) (Some LineEnd) None

-- the word from where it began up to place i
abbrev pub word : List ℕ → ℕ → Option ℕ → List Token
word source i None = []
word source i (Some start) = form (take (i - start) (drop start source)) ∷ []

-- the tokens that the byte b at place i brings
abbrev pub given : List ℕ → State → ℕ → ℕ → List Token
given source s i b = word source i (ended s b) ++ option_to_list (alone s b)

-- the tokens from place i on, where the bytes are left to read; the source's end ends a line
abbrev pub reading : List ℕ → State → ℕ → List ℕ → List Token
reading source s i [] = given source s i 10
reading source s i (b ∷ bs) = given source s i b ++ reading source (next s i b) (i + 1) bs

-- the tokens of a source, with a mark at each line's end
abbrev pub stream : List ℕ → List Token
stream source = reading source Between 0 source

-- a word begins before where it ends
abbrev pub Begun : ℕ → State → Type 0
Begun i Between = Unit {0}
Begun i (Inside start) = start ≤ i
Begun i Comment = Unit {0}
