use Rattle.std.proofs.Common.{◌≡◌, ℕ, ◌+◌, ◌≤◌, length, take, vec_items, vec_len, sym, ap, ◌∙◌, arith}
use Rattle.names.proofs.Spelled.{padded_eight}
use Rattle.store.specs.Pairs.{once}
use Rattle.area.specs.Layout.{rows_of}
use Rattle.log_store.specs.Chain.{records, log_pairs}
use Rattle.log_store.proofs.Marks.{longer_by, lay_fits, once_more, length_more}
use Rattle.log_store.proofs.logs.LogStore.append.Goals as goal

pub invariant_of-self-2 : goal.invariant_of-self-2
invariant_of-self-2 c =
    let s = c.args.self.now in
    let q = c.args.name.bytes in
    let bs = c.args.content.now in
    let xs = vec_items s.area in
    let long : vec_len s.area ≡ length xs = s.area.ok.0 in
    let i = s.inside in
    let made = longer_by s.end (vec_len s.area) xs (vec_items c.write.new.area) q bs (omega arith) s.good (padded_eight q c.args.name.valid) c.in_ok-write.ensures.outcome c.in_ok-write.ensures.after in
    let l = c.write.ensures.len in
    let m = length_more (log_pairs (records (take s.end xs))) q bs in
    let p = c.requires.row in
    let fits = lay_fits (vec_len s.area) s.end (length bs) (sym c.in_ok-write.ensures.outcome) in
    let inside : s.end + (11 + length bs) ≤ vec_len c.write.new.area = omega arith in
    let few : length (log_pairs (records (take s.end xs))) + 1 ≤ s.rows = omega arith in
    record {
      counted = s.counted ∙ ap rows_of (sym l);
      inside = inside;
      good = made.good;
      apart = ap once made.pairs ∙ once_more (log_pairs (records (take s.end xs))) q bs s.apart c.requires.fresh;
      number = ap (λ (k : ℕ). k + 1) s.number ∙ sym m ∙ ap length (sym made.pairs);
      few = (let e = ap length made.pairs in omega arith);
    }

pub returns-clause-marks : goal.returns-clause-marks
returns-clause-marks c =
    let s = c.args.self.now in
    let long : vec_len s.area ≡ length (vec_items s.area) = s.area.ok.0 in
    let i = s.inside in
    (longer_by s.end (vec_len s.area) (vec_items s.area) (vec_items c.write.new.area) c.args.name.bytes c.args.content.now (omega arith) s.good (padded_eight c.args.name.bytes c.args.name.valid) c.in_ok-write.ensures.outcome c.in_ok-write.ensures.after).marks

pub returns-clause-pairs : goal.returns-clause-pairs
returns-clause-pairs c =
    let s = c.args.self.now in
    let long : vec_len s.area ≡ length (vec_items s.area) = s.area.ok.0 in
    let i = s.inside in
    (longer_by s.end (vec_len s.area) (vec_items s.area) (vec_items c.write.new.area) c.args.name.bytes c.args.content.now (omega arith) s.good (padded_eight c.args.name.bytes c.args.name.valid) c.in_ok-write.ensures.outcome c.in_ok-write.ensures.after).pairs
