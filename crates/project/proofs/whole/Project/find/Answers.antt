use Rattle.std.proofs.Common.{sym, ◌∙◌, rules}
use borrow.Author.Tests.{tests}
use Rattle.std.proofs.lemmas.Iterator.{YieldsList-from_slice}
use Rattle.std.proofs.lemmas.Iterator.Search.{position_from_yields_List}
use Rattle.bounded.specs.Held.{used}
use Rattle.project.specs.Members.{Member, member, same}
use Rattle.project.proofs.Places.{position-map}
use Rattle.project.proofs.whole.Project.find.Goals as goal

pub returns : goal.returns
returns c =
    position_from_yields_List (λ u. same (member u).name c.args.name) _ _ _ c.position.ensures.ran (YieldsList-from_slice (used c.args.self.now.units) cc) (λ x b q k. search (rules, tests))
    ∙ sym (position-map (λ (v : Member). same v.name c.args.name) member (used c.args.self.now.units))
