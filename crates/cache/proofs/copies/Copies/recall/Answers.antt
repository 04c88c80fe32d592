use Rattle.std.proofs.Common.{◌≡◌, ◌≤◌, map, length, Some, vec_items, vec_len, sym, ap, ◌∙◌, arith, rules}
use lib.ListN.{length-map}
use Rattle.store.specs.Pairs.{lookup}
use Rattle.bounded.specs.Held.{held}
use Rattle.cache.specs.Kept.{kept, copy_of}
use Rattle.cache.proofs.Copying.{place_copy, touch_admits, got-all, after_got, after_refused}
use Rattle.cache.proofs.copies.Copies.recall.Goals as goal

pub index-requires : goal.index-requires
index-requires c =
    let cs = vec_items c.args.self.now.latest in
    let l : vec_len c.args.self.now.latest ≡ length cs = c.args.self.now.latest.ok.0 in
    let m : length (map copy_of cs) ≡ length cs = length-map cs copy_of in
    let h = c.in-Some.ensures.0 in
    omega arith

pub touch-requires : goal.touch-requires
touch-requires c =
    let cs = vec_items c.args.self.now.latest in
    let l : vec_len c.args.self.now.latest ≡ length cs = c.args.self.now.latest.ok.0 in
    let m : length (map copy_of cs) ≡ length cs = length-map cs copy_of in
    let h = c.in-Some.ensures.0 in
    omega arith

pub returns-in_err-n : goal.returns-in_err-n
returns-in_err-n c =
    let s = c.args.self.now in
    let q = c.args.name.bytes in
    let look : lookup (kept s) q ≡ Some c.as_slice.result.now = place_copy (vec_items s.latest) c.in-Some.i q c.index.result.now c.in-Some.ensures c.index.ensures ∙ ap Some (sym c.as_slice.ensures) in
    record { outcome = search rules; told = search rules; filled = search rules; latest = sym (after_refused (lookup (kept s) q) c.as_slice.result.now (length c.args.buffer.now) q (kept s) look c.in_err-n.ensures.short) }

pub returns : goal.returns
returns c =
    let s = c.args.self.now in
    let q = c.args.name.bytes in
    let look : lookup (kept s) q ≡ Some c.as_slice.result.now = place_copy (vec_items s.latest) c.in-Some.i q c.index.result.now c.in-Some.ensures c.index.ensures ∙ ap Some (sym c.as_slice.ensures) in
    let cs = vec_items s.latest in
    let l : vec_len s.latest ≡ length cs = s.latest.ok.0 in
    let m : length (map copy_of cs) ≡ length cs = length-map cs copy_of in
    let four = s.four in
    let few : length (kept s) ≤ 4 = omega arith in
    let bs = c.as_slice.result.now in
    let x = c.index.result.now.content in
    let small : vec_len x.items ≤ 1896 = x.few in
    let size : vec_len x.items ≡ length (held x) = x.items.ok.0 in
    let same : length bs ≡ length (held x) = ap length c.as_slice.ensures in
    let short : length bs ≤ 1896 = omega arith in
    record {
      outcome = search rules;
      told = search rules;
      filled = search rules;
      latest = c.touch.ensures ∙ touch_admits (kept s) c.in-Some.i q bs c.in-Some.ensures look few short ∙ sym (after_got (lookup (kept s) q) bs (length c.args.buffer.now) q (kept s) look (got-all bs (length c.args.buffer.now) c.in_ok-n.ensures.outcome));
    }
