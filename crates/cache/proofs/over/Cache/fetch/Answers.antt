use Rattle.std.proofs.Common.{◌≡◌, List, length, sym, refl, ◌∙◌, subst}
use Rattle.store.specs.Pairs.{Pair, lookup}
use Rattle.cache.specs.Kept.{kept}
use Rattle.cache.specs.Recent.{TrueCopies, after_get}
use Rattle.cache.proofs.Copying.{fetched}
use Rattle.cache.proofs.Trusted.{get_true}
use Rattle.cache.proofs.over.Cache.fetch.Goals as goal

pub invariant_of-self-2 : goal.invariant_of-self-2
invariant_of-self-2 g c =
    let s = c.args.self.now in
    let q = c.args.name.bytes in
    let xs = kept s.copies in
    let ps = g.S.Store.pairs s.below in
    let ps' = g.S.Store.pairs c.get.new.self in
    let room = length c.args.buffer.now in
    let says = c.in_ok-n.ensures.says in
    let latest : kept c.admit.new.self ≡ after_get (lookup ps q) room q xs =
    fetched (lookup ps q) c.in-Some.n c.args.buffer.now c.get.new.buffer q xs (kept c.admit.new.self) (sym c.in-Some.is ∙ says.told) says.outcome says.filled c.admit.ensures in
    record { true_copies = subst (λ (x : List Pair). TrueCopies x ps') (sym latest) (get_true (lookup ps q) room q xs ps ps' s.true_copies says.pairs refl) }
