use Rattle.std.proofs.Common.{◌≡◌, ◌-◌, ◌≤◌, length, take, vec_items, vec_len, sym, ap, ◌∙◌, arith}
use Rattle.store.proofs.Pairs.{without_none}
use Rattle.area.specs.Layout.{rows_of}
use Rattle.log_store.specs.Chain.{records, log_pairs}
use Rattle.log_store.specs.Kept.{pairs_of, records_of}
use Rattle.log_store.proofs.Marks.{ended_by, marked_none}
use Rattle.log_store.proofs.logs.LogStore.end_pair.Goals as goal

pub overflow_sub-self : goal.overflow_sub-self
overflow_sub-self c =
    let s = c.args.self.now in
    let e = ended_by s.end (vec_items s.area) (vec_items c.bury.new.area) c.args.name.bytes _ s.good s.apart c.in-Some.ensures.place c.bury.ensures.after in
    let n = e.number in
    let m = s.number in
    omega arith

pub invariant_of-self : goal.invariant_of-self
invariant_of-self c =
    let s = c.args.self.now in
    let e = ended_by c.args.self.now.end (vec_items c.args.self.now.area) (vec_items c.bury.new.area) c.args.name.bytes _ c.args.self.now.good c.args.self.now.apart c.in-Some.ensures.place c.bury.ensures.after in
    let n = e.number in
    let l = c.bury.ensures.len in
    let i = s.inside in
    let f = s.few in
    let inside : s.end ≤ vec_len c.bury.new.area = omega arith in
    let few : length (log_pairs (records (take s.end (vec_items c.bury.new.area)))) ≤ s.rows = omega arith in
    let m = s.number in
    let number : s.count - 1 ≡ length (log_pairs (records (take s.end (vec_items c.bury.new.area)))) = omega arith in
    record { counted = s.counted ∙ ap rows_of (sym l); inside = inside; good = e.good; apart = e.apart; number = number; few = few }

pub returns-clause-marks : goal.returns-clause-marks
returns-clause-marks c = (ended_by c.args.self.now.end (vec_items c.args.self.now.area) (vec_items c.bury.new.area) c.args.name.bytes _ c.args.self.now.good c.args.self.now.apart c.in-Some.ensures.place c.bury.ensures.after).marks

pub returns-clause-pairs : goal.returns-clause-pairs
returns-clause-pairs c = (ended_by c.args.self.now.end (vec_items c.args.self.now.area) (vec_items c.bury.new.area) c.args.name.bytes _ c.args.self.now.good c.args.self.now.apart c.in-Some.ensures.place c.bury.ensures.after).pairs

pub returns-in_default-clause-marks : goal.returns-in_default-clause-marks
returns-in_default-clause-marks c = sym (marked_none (records_of c.args.self.now) c.args.name.bytes c.in_default.ensures.place)

pub returns-in_default-clause-pairs : goal.returns-in_default-clause-pairs
returns-in_default-clause-pairs c = sym (without_none c.args.name.bytes (pairs_of c.args.self.now) c.in_default.ensures.place)
