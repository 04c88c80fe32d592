-- The flaws of a formula source.
use Rattle.std.specs.Prelude.{ℕ}
use Rattle.names.specs.declared.refusal.Fault.{Fault}
use Rattle.grammar.specs.declared.flaw.Flaw.{Flaw}
use Rattle.grammar.specs.declared.flaw.Flaw.TheVariants.{Opening, Formless, NoDeclaration, IllNamed, IllUsed, NoValue, Circle, TooMuch}

-- a flaw's number
abbrev pub number : Flaw → ℕ
number Opening = 1
number Formless = 2
number NoDeclaration = 3
number IllNamed = 4
number IllUsed = 5
number NoValue = 7
number Circle = 8
number TooMuch = 9

-- a flaw at a line
abbrev pub at : Flaw → ℕ → Fault
at flaw line = record { code = number flaw; line = line }
