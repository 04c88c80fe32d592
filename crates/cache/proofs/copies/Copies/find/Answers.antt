use Rattle.std.proofs.Common.{◌≡◌, true, false, vec_items, ◌∙◌, rules}
use Rattle.std.specs.Str.{bytes_eq}
use Rattle.std.proofs.lemmas.Iterator.{IsFirst-from_position, YieldsList-from_slice}
use borrow.Author.Tests.{tests}
use Rattle.cache.proofs.Copying.{place_of}
use Rattle.cache.proofs.copies.Copies.find.Goals as goal

pub returns : goal.returns
returns c =
    let q = c.args.name.bytes in
    let cs = vec_items c.args.self.now.latest in
    place_of cs q c.position.result
    (IsFirst-from_position _ _ c.position.result (λ x. bytes_eq x.name.bytes q ≡ true) (λ x. bytes_eq x.name.bytes q ≡ false) c.position.ensures.ran (YieldsList-from_slice cs (c.iter.ensures.rest ∙ c.deref.ensures.value)) (λ x f k. search (rules, tests)) (λ x f k. search (rules, tests)))
