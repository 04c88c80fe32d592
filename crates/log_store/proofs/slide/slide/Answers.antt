use Rattle.std.proofs.Common.{◌≡◌, ℕ, ◌+◌, ◌-◌, ◌≤◌, List, length, drop, vec_items, vec_len, sym, refl, ap, ◌∙◌, subst, arith}
use lib.Seq.{paste}
use Rattle.std.specs.List.{between}
use Rattle.area.specs.Layout.{live, size}
use Rattle.log_store.proofs.Slid.{Sliding, slide_starts, to_below, step_within, next_dead, next-live, slide_ends}
use Rattle.log_store.proofs.slide.slide.Goals as goal
use Rattle.log_store.proofs.slide.slide.Goals.{then-is_live, else-is_live}

pub loop-from-init : goal.loop-from-init
loop-from-init c = (slide_starts (vec_items c.args.area.now) c.args.end, refl)

pub copy_within-requires-clause-in_bounds : goal.copy_within-requires-clause-in_bounds
copy_within-requires-clause-in_bounds c =
    let start = vec_items c.args.area.now in
    let xs = vec_items c.loop-from.area in
    let from = c.loop-from.from in
    let end = c.args.end in
    let long : c.length_of-size.result ≡ size (between from end xs) = c.length_of-size.ensures ∙ ap (λ (x : List ℕ). size (between from end x)) c.deref.ensures.value in
    let whole : vec_len c.args.area.now ≡ length start = c.args.area.now.ok.0 in
    let same = c.loop-from.invariant.1 in
    let fits = step_within start end xs from c.loop-from.to (omega arith) c.requires.1 c.loop-from.invariant.0 c.loop-from-test.true in
    omega arith

pub copy_within-requires-clause-dest_in_bounds : goal.copy_within-requires-clause-dest_in_bounds
copy_within-requires-clause-dest_in_bounds c =
    let start = vec_items c.args.area.now in
    let xs = vec_items c.loop-from.area in
    let from = c.loop-from.from in
    let end = c.args.end in
    let long : c.length_of-size.result ≡ size (between from end xs) = c.length_of-size.ensures ∙ ap (λ (x : List ℕ). size (between from end x)) c.deref.ensures.value in
    let whole : vec_len c.args.area.now ≡ length start = c.args.area.now.ok.0 in
    let same = c.loop-from.invariant.1 in
    let fits = step_within start end xs from c.loop-from.to (omega arith) c.requires.1 c.loop-from.invariant.0 c.loop-from-test.true in
    let below = to_below start end xs from c.loop-from.to (omega arith) c.requires.1 c.loop-from.invariant.0 c.loop-from-test.true in
    omega arith

pub overflow_add-to : goal.overflow_add-to
overflow_add-to c =
    let start = vec_items c.args.area.now in
    let xs = vec_items c.loop-from.area in
    let from = c.loop-from.from in
    let end = c.args.end in
    let long : c.length_of-size.result ≡ size (between from end xs) = c.length_of-size.ensures ∙ ap (λ (x : List ℕ). size (between from end x)) c.deref.ensures.value in
    let whole : vec_len c.args.area.now ≡ length start = c.args.area.now.ok.0 in
    let within : end ≤ length start = omega arith in
    let fits = step_within start end xs from c.loop-from.to within c.requires.1 c.loop-from.invariant.0 c.loop-from-test.true in
    let below = to_below start end xs from c.loop-from.to within c.requires.1 c.loop-from.invariant.0 c.loop-from-test.true in
    omega arith

pub loop-from-preserved : goal.loop-from-preserved
loop-from-preserved c =
    let start = vec_items c.args.area.now in
    let xs = vec_items c.loop-from.area in
    let from = c.loop-from.from in
    let to = c.loop-from.to in
    let end = c.args.end in
    let n = c.length_of-size.result in
    let long : n ≡ size (between from end xs) = c.length_of-size.ensures ∙ ap (λ (x : List ℕ). size (between from end x)) c.deref.ensures.value in
    let whole : vec_len c.args.area.now ≡ length start = c.args.area.now.ok.0 in
    let within : end ≤ length start = omega arith in
    let inv = c.loop-from.invariant.0 in
    let test : c.is_live.result ≡ live (between from end xs) = c.is_live.ensures ∙ ap (λ (x : List ℕ). live (between from end x)) c.deref.ensures.value in
    elim c.if-is_live.branch [
      | then-is_live w ↦
          let ys = vec_items w.copy_within.new.self in
          let k : (from + (11 + n)) - from ≡ 11 + size (between from end xs) = omega arith in
          let moved : ys ≡ paste xs to (drop from xs) (11 + size (between from end xs)) = w.copy_within.ensures.items ∙ ap (λ (k : ℕ). paste xs to (drop from xs) k) k in
          let next : Sliding start end ys (from + (11 + size (between from end xs))) (to + (11 + size (between from end xs))) = next-live start end xs from to within c.requires.1 inv c.loop-from-test.true ys (sym test ∙ w.if-is_live.true) moved in
          let here : Sliding start end ys (from + (11 + n)) (to + (11 + n)) = subst (λ (k : ℕ). Sliding start end ys (from + (11 + k)) (to + (11 + k))) (sym long) next in
          let there : Sliding start end (vec_items c.if-is_live.area) (from + (11 + n)) (to + (11 + n)) = subst (λ (x : List ℕ). Sliding start end x (from + (11 + n)) (to + (11 + n))) (sym (ap vec_items w.area-is)) here in
          (subst (λ (k : ℕ). Sliding start end (vec_items c.if-is_live.area) (from + (11 + n)) k) (sym w.to-is) there, ap vec_len w.area-is ∙ w.copy_within.ensures.len ∙ c.loop-from.invariant.1)
      | else-is_live w ↦
          let next : Sliding start end xs (from + (11 + size (between from end xs))) to = next_dead start end xs from to within c.requires.1 inv c.loop-from-test.true (sym test ∙ w.if-is_live.false) in
          let here : Sliding start end xs (from + (11 + n)) to = subst (λ (k : ℕ). Sliding start end xs (from + (11 + k)) to) (sym long) next in
          let there : Sliding start end (vec_items c.if-is_live.area) (from + (11 + n)) to = subst (λ (x : List ℕ). Sliding start end x (from + (11 + n)) to) (sym (ap vec_items w.area-is)) here in
          (subst (λ (k : ℕ). Sliding start end (vec_items c.if-is_live.area) (from + (11 + n)) k) (sym w.to-is) there, ap vec_len w.area-is ∙ c.loop-from.invariant.1)
    ]

pub returns : goal.returns
returns c =
    let start = vec_items c.args.area.now in
    let whole : vec_len c.args.area.now ≡ length start = c.args.area.now.ok.0 in
    let within : c.args.end ≤ length start = omega arith in
    let ends = slide_ends start c.args.end (vec_items c.loop-from.area) c.loop-from.from c.loop-from.to within c.requires.1 c.loop-from.invariant.0 c.loop-from-test.false in
    record { front = ends.0; end = ends.1; len = c.loop-from.invariant.1 }
