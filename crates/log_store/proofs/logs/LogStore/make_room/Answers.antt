use Rattle.std.proofs.Common.{◌≡◌, ◌+◌, ◌*◌, ◌<◌, ◌≤◌, length, vec_items, vec_len, sym, refl, ap, ◌∙◌, arith}
use Rattle.store.specs.Pairs.{once}
use Rattle.area.specs.Layout.{rows_of, slot_size}
use Rattle.log_store.proofs.Marks.{roomy_as_is, roomy_slid, slid_fits, slid_inside}
use Rattle.log_store.proofs.logs.LogStore.make_room.Goals as goal

pub invariant_of-self : goal.invariant_of-self
invariant_of-self c =
    let s = c.args.self.now in
    let xs = vec_items s.area in
    let ys = vec_items c.slide-self.new.area in
    let long : vec_len s.area ≡ length xs = s.area.ok.0 in
    let i = s.inside in
    let within : s.end ≤ length xs = omega arith in
    let tight : vec_len s.area < s.end + c.args.n = omega arith in
    let made = roomy_slid (vec_len s.area) c.args.n s.end c.slide-self.result xs ys within s.good tight c.slide-self.ensures.front in
    let back = slid_inside s.end c.slide-self.result xs within c.slide-self.ensures.end in
    let l = c.slide-self.ensures.len in
    let inside : c.slide-self.result ≤ vec_len c.slide-self.new.area = omega arith in
    record {
      counted = s.counted ∙ ap rows_of (sym l);
      inside = inside;
      good = made.good;
      apart = ap once made.pairs ∙ s.apart;
      number = s.number ∙ ap length (sym made.pairs);
      few = (let f = s.few in let e = ap length made.pairs in omega arith);
    }

pub returns-then-n-len : goal.returns-then-n-len
returns-then-n-len c =
    let s = c.args.self.now in
    let xs = vec_items s.area in
    let ys = vec_items c.slide-self.new.area in
    let long : vec_len s.area ≡ length xs = s.area.ok.0 in
    let i = s.inside in
    let within : s.end ≤ length xs = omega arith in
    let tight : vec_len s.area < s.end + c.args.n = omega arith in
    let made = roomy_slid (vec_len s.area) c.args.n s.end c.slide-self.result xs ys within s.good tight c.slide-self.ensures.front in
    let k = s.counted in
    let room : s.rows * slot_size ≤ vec_len s.area = omega arith in
    let l = c.slide-self.ensures.len in
    record {
      marks = made.marks;
      pairs = made.pairs;
      room = λ few short. let fits = slid_fits s.rows (vec_len s.area) c.args.n s.end c.slide-self.result xs room s.good c.slide-self.ensures.end few short in omega arith;
      len = l;
    }

pub returns-else-n-len : goal.returns-else-n-len
returns-else-n-len c =
    let s = c.args.self.now in
    let xs = vec_items s.area in
    let long : vec_len s.area ≡ length xs = s.area.ok.0 in
    let i = s.inside in
    let within : s.end ≤ length xs = omega arith in
    let fits : s.end + c.args.n ≤ vec_len s.area = omega arith in
    let made = roomy_as_is (vec_len s.area) c.args.n s.end xs within s.good fits in
    record { marks = made.marks; pairs = refl; room = λ few short. fits; len = refl }
