use Rattle.std.proofs.Common.{◌≡◌, length, vec_items, vec_len, sym, arith, rules}
use Rattle.std.proofs.lemmas.List.{take_all}
use Rattle.cache.proofs.memory.free_place.Goals as goal

pub returns-in-Some : goal.returns-in-Some
returns-in-Some c =
    let l : vec_len c.args.latest.now ≡ length (vec_items c.args.latest.now) = c.args.latest.now.ok.0 in
    record { oldest = sym (take_all 3 (vec_items c.args.latest.now) (let h = c.in-Some.ensures.cases in omega arith)); three = search rules; room = search rules; beside = search rules }
