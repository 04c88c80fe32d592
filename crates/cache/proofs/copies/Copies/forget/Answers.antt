use Rattle.std.proofs.Common.{◌≡◌, List, map, length, vec_items, vec_len, sym, ap, ◌∙◌, arith}
use lib.ListN.{length-map}
use Rattle.store.proofs.Pairs.{without_none}
use Rattle.cache.specs.Kept.{kept, copy_of}
use Rattle.cache.specs.declared.copies.Copied.{Copied}
use Rattle.cache.proofs.Copying.{kept_removed}
use Rattle.cache.proofs.copies.Copies.forget.Goals as goal

pub remove-content-requires : goal.remove-content-requires
remove-content-requires c =
    let cs = vec_items c.args.self.now.latest in
    let l : vec_len c.args.self.now.latest ≡ length cs = c.args.self.now.latest.ok.0 in
    let m : length (map copy_of cs) ≡ length cs = length-map cs copy_of in
    let h = c.in-Some.ensures.0 in
    omega arith

pub returns-in-Some : goal.returns-in-Some
returns-in-Some c =
    ap (λ (x : List Copied). map copy_of x) c.remove-content.ensures.items ∙ kept_removed (vec_items c.args.self.now.latest) c.in-Some.i c.args.name.bytes c.in-Some.ensures

pub returns-in_default : goal.returns-in_default
returns-in_default c = sym (without_none c.args.name.bytes (kept c.args.self.now) c.in_default.ensures)
