use Rattle.std.proofs.Common.{◌≡◌, ◌++◌, drop}
use Rattle.bounded.specs.Held.{held}
use Rattle.tokens.specs.Stream.{reading, stream, Begun}
use Rattle.tokens.proofs.lexer.read.Given as goal

abbrev pub invariant-loop-i : goal.invariant-loop-i
invariant-loop-i l = (held l.tokens ++ reading l.source l.lexer.state l.i (drop l.i l.source) ≡ stream l.source) × Begun l.i l.lexer.state
