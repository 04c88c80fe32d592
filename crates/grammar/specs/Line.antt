-- What a line says: nothing, one declaration, or that it is wrong.
use Rattle.std.specs.Prelude.{ℕ, ◌+◌, ◌-◌, Bool, true, false, cond, not, map, ◌&&◌, ◌||◌, List, [], ◌∷◌, Some, None, Option, Ok, Err, Result, ◌==◌, nat_le}
use Rattle.std.specs.List.{list_any, list_all, zip}
use Rattle.std.specs.Option.{option_map, option_and_then, ok_or}
use Rattle.std.specs.Str.{bytes_eq}
use Rattle.names.specs.declared.name.Name.{Name}
use Rattle.tokens.specs.declared.token.Operator.TheVariants.{Equal}
use Rattle.tokens.specs.declared.token.Token.{Token}
use Rattle.tokens.specs.declared.token.Token.TheVariants.{Open, Close, Operator as Sign, Name as Named, Word, NoForm}
use Rattle.grammar.specs.declared.declaration.Declared.{Declared}
use Rattle.grammar.specs.declared.declaration.Kind.{Kind}
use Rattle.grammar.specs.declared.declaration.Kind.TheVariants.{Constant, Function}
use Rattle.grammar.specs.declared.flaw.Flaw.{Flaw}
use Rattle.grammar.specs.declared.flaw.Flaw.TheVariants.{Opening, Formless, NoDeclaration, TooMuch}
use Rattle.grammar.specs.Expression.{expression}
use Rattle.grammar.specs.Form.{checking, behind}

-- the bytes of the reserved words
abbrev pub x_word : List ℕ
x_word = 120 ∷ 0 ∷ 0 ∷ 0 ∷ 0 ∷ 0 ∷ 0 ∷ 0 ∷ []

abbrev pub const_word : List ℕ
const_word = 99 ∷ 111 ∷ 110 ∷ 115 ∷ 116 ∷ 0 ∷ 0 ∷ 0 ∷ []

abbrev pub fun_word : List ℕ
fun_word = 102 ∷ 117 ∷ 110 ∷ 0 ∷ 0 ∷ 0 ∷ 0 ∷ 0 ∷ []

abbrev pub formula_word : List ℕ
formula_word = 102 ∷ 111 ∷ 114 ∷ 109 ∷ 117 ∷ 108 ∷ 97 ∷ 0 ∷ []

-- the name that a token is
abbrev pub name_of : Token → Option Name
name_of (Named n) = Some n
name_of _ = None

-- const begins a constant, fun a function
abbrev pub keyword : Name → Option Kind
keyword n = cond (bytes_eq n.bytes const_word) (Some Constant) (cond (bytes_eq n.bytes fun_word) (Some Function) None)

-- whether a kind is that of functions
abbrev pub is_function : Kind → Bool
is_function Constant = false
is_function Function = true

-- the equals sign
abbrev pub equates : Token → Bool
equates (Sign Equal) = true
equates _ = false

-- an opening parenthesis
abbrev pub opens : Token → Bool
opens Open = true
opens _ = false

-- a word of no form
abbrev pub formless : Token → Bool
formless NoForm = true
formless _ = false

-- how many parentheses are open behind a token; one that closes nothing leaves none open
abbrev pub open_behind : Token → ℕ → ℕ
open_behind Open n = n + 1
open_behind Close n = n - 1
open_behind _ n = n

-- a word of no form stands among the tokens
abbrev pub any_formless : List Token → Bool
any_formless = list_any formless

-- behind n open parentheses, a ninth opens
abbrev pub deep : ℕ → List Token → Bool
deep n [] = false
deep n (t ∷ ts) = nat_le 9 (open_behind t n) || deep (open_behind t n) ts

-- each token with whether it is called: it is where it stands behind an opening parenthesis
abbrev pub placed : List Token → List (Bool × Token)
placed ts = zip (false ∷ map opens ts) ts

-- in a constant a name is not x, and nothing is called
abbrev pub constant : Bool → Token → Bool
constant called (Named n) = not called && not (bytes_eq n.bytes x_word)
constant called (Word p n) = not called
constant called _ = true

abbrev pub all_constant : List Token → Bool
all_constant ts = list_all (λ p. constant p.0 p.1) (placed ts)

-- nothing is left
abbrev pub at_end : Option (List Token) → Bool
at_end None = false
at_end (Some []) = true
at_end (Some (t ∷ ts)) = false

-- one expression, with at most eight parentheses open
abbrev pub whole : List Token → Bool
whole ts = at_end (behind (expression checking 9 tt ts))

-- const NAME = E, without call or x; fun NAME = E
abbrev pub equated : Kind → Name → List Token → Option Declared
equated kind n [] = None
equated kind n (t ∷ body) = cond (equates t && (whole body && (is_function kind || all_constant body))) (Some (record { kind = kind; name = n })) None

abbrev pub naming : Kind → List Token → Option Declared
naming kind [] = None
naming kind (t ∷ ts) = option_and_then (λ n. equated kind n ts) (name_of t)

-- a declaration, of tokens that all have a form
abbrev pub declaring : List Token → Option Declared
declaring [] = None
declaring (t ∷ ts) = option_and_then (λ kind. naming kind ts) (option_and_then keyword (name_of t))

-- a line is empty, or a declaration
abbrev pub standing : List Token → Result (Option Declared) Flaw
standing [] = Ok None
standing (t ∷ ts) = ok_or (option_map Some (declaring (t ∷ ts))) NoDeclaration

-- a token of no form is worse than a ninth open parenthesis, and that worse than no declaration
abbrev pub judged : List Token → Result (Option Declared) Flaw
judged ts = cond (any_formless ts) (Err Formless) (cond (deep 0 ts) (Err TooMuch) (standing ts))

-- the first line's only token is formula
abbrev pub is_formula : Option Name → Bool
is_formula None = false
is_formula (Some n) = bytes_eq n.bytes formula_word

abbrev pub opening : List Token → Bool
opening [] = false
opening (t ∷ []) = is_formula (name_of t)
opening (t ∷ (u ∷ ts)) = false

-- what the line of that number declares, if it declares anything
abbrev pub said : ℕ → List Token → Result (Option Declared) Flaw
said line ts = cond (line == 1) (cond (opening ts) (Ok None) (Err Opening)) (judged ts)
