use Rattle.std.proofs.Common.{◌≡◌, ◌<◌, not, [], ◌∷◌, ◌++◌, length, get_or, is_ok, is_some, sym, refl, ap, ◌∙◌, arith}
use Rattle.std.proofs.lemmas.List.{length_push, length-map}
use Rattle.bounded.specs.Held.{held, used}
use Rattle.project.specs.Members.{member, members}
use Rattle.project.specs.Checked.{lack, lacks}
use Rattle.project.proofs.Standing.{used_few, member_at}
use Rattle.project.proofs.Listed.{grown, whole-more, whole_same}
use Rattle.project.proofs.Lacking.{lacks-there}
use Rattle.project.proofs.check.list_whole.Goals as goal
use Rattle.project.proofs.check.list_whole.Goals.{then-is_none, else-is_none}

pub loop-i-preserved : goal.loop-i-preserved
loop-i-preserved c =
    let us = used c.args.project.now.units in
    let vs = members c.args.project.now in
    let i = c.loop-i.i in
    let u = c.unit-item.result in
    let units = used_few c.args.project.now.units in
    let all = ap length c.as_slice-unit-items.ensures in
    let as_many : length vs ≡ length us = length-map us member in
    let below : i < length us = omega arith in
    let here : lacks vs vs i ≡ not c.is_none.result =
    lacks-there vs vs i (member u) (member_at us i u below (c.unit-item.is ∙ ap (λ xs. get_or xs i u) c.as_slice-unit-items.ensures))
    ∙ ap (λ xs. is_some (lack vs xs)) (sym c.imports.ensures) ∙ ap is_some (sym c.lack.ensures) ∙ c.is_none.ensures in
    elim c.if-is_none.branch [
      | then-is_none w ↦
          let room : length (held c.loop-i.whole) < 24 = let n = c.loop-i.invariant.0 in omega arith in
          let now : held c.if-is_none.whole ≡ held c.loop-i.whole ++ i ∷ [] =
          ap held w.whole-is ∙ grown (held c.loop-i.whole) (held w.push.new.self) (held c.loop-i.whole) i (is_ok w.push.result) 24 w.push.ensures.fits w.push.ensures.after room refl in
          let size = ap length now ∙ length_push (held c.loop-i.whole) i in
          let n = c.loop-i.invariant.0 in
          (omega arith, whole-more (lacks vs vs) i (held c.loop-i.whole) (held c.if-is_none.whole) c.loop-i.invariant.1 (here ∙ ap not w.if-is_none.true) now)
      | else-is_none w ↦
          let now : held c.if-is_none.whole ≡ held c.loop-i.whole = ap held w.whole-is in
          let size = ap length now in
          let n = c.loop-i.invariant.0 in
          (omega arith, whole_same (lacks vs vs) i (held c.loop-i.whole) (held c.if-is_none.whole) c.loop-i.invariant.1 (here ∙ ap not w.if-is_none.false) now)
    ]
