use Rattle.std.proofs.Common.{rules, tests, take, not}
use Rattle.std.proofs.lemmas.Iterator.{YieldsList-from_slice}
use Rattle.std.proofs.lemmas.Iterator.Consumers.{YieldsList-from_enumerate}
use Rattle.std.proofs.lemmas.Iterator.Search.{all_from_yields_List}
use Rattle.image.specs.Picture.{among}
use Rattle.image.proofs.check.all_different.Goals as goal

pub returns : goal.returns
returns c =
    all_from_yields_List
    (λ p. not (among p.1 (take p.0 c.args.names.now)))
    _
    _
    c.all.result
    c.all.ensures.ran
    (YieldsList-from_enumerate (YieldsList-from_slice _ (cc)) (cc))
    (λ x b q k. search (rules, tests))
