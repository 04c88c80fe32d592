use Rattle.std.proofs.Common.{ap, ◌∙◌, rules}
use borrow.Author.Tests.{tests}
use Rattle.std.proofs.lemmas.Iterator.{YieldsList-from_slice}
use Rattle.std.proofs.lemmas.Iterator.Search.{find_from_yields_List}
use Rattle.std.proofs.lemmas.List.{nil_from_length}
use Rattle.bounded.specs.Held.{used}
use Rattle.project.specs.Members.{same}
use Rattle.product.specs.Parts.{rows}
use Rattle.building.specs.declared.table.Finished.{Finished}
use Rattle.building.proofs.Finishing.{interface_by}
use Rattle.building.proofs.table.Done.interface.Goals as goal

pub returns : goal.returns
returns c =
    interface_by (λ f. f.now) (used c.args.self.now.units) c.args.name c.find.result (rows c.map_or.result.now) _ _
    (find_from_yields_List (λ (f : Finished). same f.name c.args.name) _ _ c.find.result c.find.ensures.ran (YieldsList-from_slice (used c.args.self.now.units) cc) (λ x b q k. search (rules, tests)))
    c.map_or.ensures (λ e. ap (λ r. rows r.now) e ∙ nil_from_length (rows c.args.self.now.none) c.args.self.now.empty) (λ x k. search rules)
