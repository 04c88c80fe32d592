use Rattle.std.proofs.Common.{List, sym, subst}
use Rattle.store.specs.Pairs.{Pair}
use Rattle.cache.specs.Kept.{kept}
use Rattle.cache.specs.Recent.{TrueCopies}
use Rattle.cache.proofs.Trusted.{drop_true}
use Rattle.cache.proofs.keep.CacheStore.drop.Goals as goal

pub invariant_of-self : goal.invariant_of-self
invariant_of-self g c =
    let s = c.args.self.now in
    let ps = g.S.Store.pairs s.below in
    let ps' = g.S.Store.pairs c.drop.new.self in
    record { true_copies = subst (λ (x : List Pair). TrueCopies x ps') (sym c.forget.ensures) (drop_true c.args.name.bytes (kept s.copies) ps ps' s.true_copies c.drop.ensures.says.pairs) }
