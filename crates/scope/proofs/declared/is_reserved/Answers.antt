use Rattle.std.proofs.Common.{rules}
use borrow.Author.Tests.{tests}
use Rattle.std.proofs.Math.Bool.{or-false}
use Rattle.std.proofs.lemmas.Cmp.{nat_list_eq_equiv}
use Rattle.scope.proofs.declared.is_reserved.Goals as goal

pub returns : goal.returns
returns c = search (rules, tests, nat_list_eq_equiv, or-false, c.contains.ensures.value)
