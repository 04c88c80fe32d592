use Rattle.std.proofs.Common.{◌≡◌, true, List, length, is_some, sym, ◌∙◌, subst, rules}
use Rattle.std.specs.Option.{option_map}
use Rattle.std.proofs.lemmas.Result.{IfOk-from_err}
use Rattle.names.specs.Refusals.{answer}
use Rattle.store.specs.Pairs.{Pair, lookup}
use Rattle.cache.specs.Kept.{kept}
use Rattle.cache.specs.Recent.{TrueCopies}
use Rattle.cache.proofs.Trusted.{recall_true, refused_found, hit_says}
use Rattle.cache.proofs.keep.CacheStore.get.Goals as goal

pub invariant_of-self : goal.invariant_of-self
invariant_of-self g c =
    let s = c.args.self.now in
    let ps = g.S.Store.pairs s.below in
    record { true_copies = subst (λ (x : List Pair). TrueCopies x ps) (sym c.recall.ensures.latest) (recall_true (length c.args.buffer.now) c.args.name.bytes (kept s.copies) ps s.true_copies) }

pub returns-in_err-n-clause-says : goal.returns-in_err-n-clause-says
returns-in_err-n-clause-says g c =
    let s = c.args.self.now in
    let q = c.args.name.bytes in
    let xs = kept s.copies in
    let same : answer c.from_residual.result ≡ answer c.recall.result = search rules in
    let hit : is_some (lookup xs q) ≡ true = refused_found (lookup xs q) c.in_err-n.field-0.0 (length c.args.buffer.now) c.in_err-n.ensures.outcome in
    hit_says xs (g.S.Store.pairs s.below) q c.args.buffer.now c.recall.new.buffer c.from_residual.result s.true_copies.1 hit (same ∙ c.recall.ensures.outcome) (IfOk-from_err c.from_residual.result (λ n. n ≡ option_map length (lookup xs q)) c.from_residual.ensures.0) c.recall.ensures.filled
