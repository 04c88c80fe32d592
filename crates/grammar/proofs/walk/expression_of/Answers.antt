use Rattle.grammar.proofs.Walks.{part-min}
use Rattle.grammar.proofs.walk.expression_of.Goals as goal

pub returns : goal.returns
returns c = part-min c.args.tokens.now c.args.declaration.now.start c.args.declaration.now.end _ _ c.min-end.ensures c.min-start.ensures
