use Rattle.std.proofs.Common.{rules}
use Rattle.std.proofs.lemmas.Iterator.Consumers.{YieldsList-from_first}
use Rattle.std.proofs.lemmas.Iterator.Search.{find_from_yields_List}
use borrow.Author.Tests.{tests}
use Rattle.area.specs.Layout.{holds}
use Rattle.log_store.specs.Kept.{records_of, records_left}
use Rattle.log_store.proofs.Walk.{walk_finds}
use Rattle.log_store.proofs.logs.LogStore.find.Goals as goal

pub returns : goal.returns
returns c =
    let q = c.args.name.bytes in
    let found = walk_finds (records_of c.args.self.now) q c.find.result
    (find_from_yields_List (λ r. holds r.1 q) c.find.new.self _ c.find.result c.find.ensures.ran (YieldsList-from_first (λ r. (r.0, r.1.now)) records_left _ c.records.ensures) (λ x b f k. search (rules, tests))) in
    record { place = found.0; finds = found.1 }
