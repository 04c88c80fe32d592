use Rattle.std.proofs.Common.{length, ◌∙◌, rules}
use Rattle.std.proofs.lemmas.Bool.{ne_eqb}
use borrow.Author.Tests.{tests}
use Rattle.std.proofs.lemmas.Iterator.{YieldsList-from_slice, YieldsList-from_zip}
use Rattle.std.proofs.lemmas.Iterator.Search.{all_from_yields_List}
use Rattle.product.specs.Parts.{rows}
use Rattle.building.proofs.Comparing.{unequal, zipped}
use Rattle.building.proofs.step.same_imports.Goals as goal

pub returns-then-a-b : goal.returns-then-a-b
returns-then-a-b g c =
    all_from_yields_List (λ p. g.T.Translator.same (rows p.0) (rows p.1)) c.all.new.self _ _ c.all.ensures.ran (YieldsList-from_zip (YieldsList-from_slice c.args.a.now cc) (YieldsList-from_slice c.args.b.now cc)) (λ x b q k. search (rules, tests))
    ∙ zipped g.T.Translator.same c.args.a.now c.args.b.now c.if-a-b.true

pub returns-else-a-b : goal.returns-else-a-b
returns-else-a-b g c = ne_eqb (length c.args.a.now) (length c.args.b.now) c.if-a-b.false ∙ unequal g.T.Translator.same c.args.a.now c.args.b.now c.if-a-b.false
