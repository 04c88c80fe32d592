use Rattle.std.proofs.Common.{◌≡◌, ◌<◌, drop}
use Rattle.grammar.specs.Line.{deep}
use Rattle.grammar.proofs.line.opens_ninth.Given as goal

abbrev pub invariant-loop-t : goal.invariant-loop-t
invariant-loop-t l = (deep l.count (drop l.t-index l.tokens) ≡ deep 0 l.tokens) × (l.count < 9)
