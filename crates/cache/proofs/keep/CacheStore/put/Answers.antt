use Rattle.std.proofs.Common.{List, sym, subst}
use Rattle.store.specs.Pairs.{Pair}
use Rattle.cache.specs.Kept.{kept}
use Rattle.cache.specs.Recent.{TrueCopies}
use Rattle.cache.proofs.Trusted.{put_true}
use Rattle.cache.proofs.keep.CacheStore.put.Goals as goal

pub invariant_of-self-2 : goal.invariant_of-self-2
invariant_of-self-2 g c =
    let s = c.args.self.now in
    let ps = g.S.Store.pairs s.below in
    let ps' = g.S.Store.pairs c.put.new.self in
    record { true_copies = subst (λ (x : List Pair). TrueCopies x ps') (sym c.admit.ensures) (put_true g.S.Store.LIMIT (g.S.Store.rows s.below) 0 c.args.name.bytes c.args.content.now (kept s.copies) ps ps' s.true_copies c.in_ok-put.ensures.says) }
