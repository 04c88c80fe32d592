use Rattle.std.proofs.Common.{rules}
use borrow.Author.Tests.{tests}
use Rattle.scope.specs.Sees.{sees}
use Rattle.scope.specs.Uses.{useful}
use Rattle.scope.proofs.unit.Unit.all_useful.Goals as goal

pub returns : goal.returns
returns c = c.all_called.ensures (useful c.args.self.now.own.now (sees c.args.self.now)) (λ called t b k. search (rules, tests))
