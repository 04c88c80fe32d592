use Rattle.grammar.specs.Line.{constant}
use Rattle.grammar.proofs.line.all_constant.Goals as goal

pub returns : goal.returns
returns c = c.all_called.ensures constant (λ called t b k. k)
