-- Names that are declared: whether they may be, and what they stand for.
use Rattle.std.specs.Prelude.{ℕ, ◌+◌, Bool, false, cond, not, ◌||◌, List, [], ◌∷◌, take, Some, None, Option, nat_le, count_by}
use Rattle.std.specs.List.{list_any, find, before_first}
use Rattle.std.specs.Str.{bytes_eq}
use Rattle.names.specs.declared.refusal.Fault.{Fault}
use Rattle.grammar.specs.declared.declaration.Declaration.{Declaration}
use Rattle.grammar.specs.declared.flaw.Flaw.{Flaw}
use Rattle.grammar.specs.declared.flaw.Flaw.TheVariants.{IllNamed, TooMuch}
use Rattle.grammar.specs.Flaws.{at}
use Rattle.grammar.specs.Line.{x_word, const_word, fun_word, formula_word, is_function}

-- x, const, fun and formula are reserved
abbrev pub reserved : List ℕ → Bool
reserved name = bytes_eq name x_word || (bytes_eq name const_word || (bytes_eq name fun_word || bytes_eq name formula_word))

-- one of the declarations has the name
abbrev pub declared : List ℕ → List Declaration → Bool
declared name = list_any (λ d. bytes_eq d.name.bytes name)

-- a fault at a declaration's line
abbrev pub at_line : Flaw → Declaration → Fault
at_line flaw d = at flaw d.line

-- a declaration may not have the name, or it is the thirteenth; i stand before it
abbrev pub ill_named : List Declaration → ℕ → Declaration → Option Fault
ill_named all i d = cond (reserved d.name.bytes) (Some (at_line IllNamed d)) (cond (declared d.name.bytes (take i all)) (Some (at_line IllNamed d)) (cond (nat_le 12 i) (Some (at_line TooMuch d)) None))

-- the first of two
abbrev pub first : {X : Type 0} → Option X → Option X → Option X
first None o = o
first (Some x) o = Some x

-- the first declaration from place i on that may not stand
abbrev pub misnamed : List Declaration → ℕ → List Declaration → Option Fault
misnamed all i [] = None
misnamed all i (d ∷ ds) = first (ill_named all i d) (misnamed all (i + 1) ds)

-- the first declaration of a name
abbrev pub named : List ℕ → List Declaration → Option Declaration
named name = find (λ d. bytes_eq d.name.bytes name)

-- it is that of a constant
abbrev pub constant : Option Declaration → Bool
constant None = false
constant (Some d) = not (is_function d.kind)

abbrev pub is_constant : List ℕ → List Declaration → Bool
is_constant name ds = constant (named name ds)

-- how many functions stand before the first declaration of a name
abbrev pub functions_before : List ℕ → List Declaration → ℕ
functions_before name ds = count_by (λ d. is_function d.kind) (before_first (λ d. bytes_eq d.name.bytes name) ds)

-- the number of the function whose declaration is the first of its name
abbrev pub numbered : ℕ → Option Declaration → Option ℕ
numbered k None = None
numbered k (Some d) = cond (is_function d.kind) (Some k) None

-- the number of the function of that name
abbrev pub entry_of : List ℕ → List Declaration → Option ℕ
entry_of name ds = numbered (functions_before name ds) (named name ds)
