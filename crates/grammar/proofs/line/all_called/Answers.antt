use Rattle.std.proofs.Common.{false, Some, rules}
use borrow.Author.Tests.{tests}
use Rattle.std.proofs.lemmas.Iterator.{YieldsList-from_slice, YieldsList-from_map, YieldsList-from_zip}
use Rattle.std.proofs.lemmas.Iterator.Adapters.{YieldsList-from_once}
use Rattle.std.proofs.lemmas.Iterator.Consumers.{YieldsList-at, YieldsList-from_chain}
use Rattle.std.proofs.lemmas.Iterator.Search.{all_from_yields_List}
use Rattle.grammar.specs.Line.{opens}
use Rattle.grammar.proofs.line.all_called.Goals as goal

pub returns : goal.returns
returns g c holds says =
    all_from_yields_List (λ p. holds p.0 p.1) c.all.new.self _ _ c.all.ensures.ran
    (YieldsList-from_zip
    (YieldsList-at c.zip.ensures.first (YieldsList-from_chain
    (YieldsList-at c.chain.ensures.first (YieldsList-from_once (Some false) (cc)))
    (YieldsList-from_map _ opens (YieldsList-from_slice c.args.tokens.now (cc)) (cc) (λ x r q k. search (rules, tests)))
    (cc) (cc)))
    (YieldsList-from_slice c.args.tokens.now (cc)))
    (λ x b q k. (search (rules, tests), says x.0 x.1 b (search (rules, tests))))
