use Rattle.std.proofs.Common.{◌+◌, length, drop, sym, ap, ◌∙◌, rules, arith}
use Rattle.bounded.specs.Held.{held}
use Rattle.grammar.specs.Walk.{walk, declarations, told}
use Rattle.grammar.proofs.Turns.{end}
use Rattle.grammar.proofs.Walks.{stays, goes, stops, noted_few}
use Rattle.grammar.proofs.walk.declare.Goals as goal

pub returns-in_err-note : goal.returns-in_err-note
returns-in_err-note c =
    let e =
    stops c.as_slice-all.result.now c.loop-i.start c.loop-i.i c.loop-i.line (held c.loop-i.out) _ _ _ c.loop-i.invariant.0 c.loop-i-test.true c.index-all-i.is c.is_line_end.ensures
    _ c.judge.ensures _ c.if-is_line_end.true (ap (λ r. told r (held c.note.new.out)) (sym c.in_err-note.was) ∙ c.note.ensures)
    ∙ ap declarations c.as_slice-all.ensures in
    search rules

pub loop-i-preserved : goal.loop-i-preserved
loop-i-preserved c =
    let all = c.as_slice-all.result.now in
    let i = c.loop-i.i in
    elim c.if-is_line_end.branch [
      | goal.then-is_line_end+in_ok-note w ↦
          let says = ap (λ r. told r (held w.note.new.out)) (sym w.in_ok-note.was) ∙ w.note.ensures in
          let few = noted_few c.loop-i.line c.loop-i.start i _ _ _ says in
          let long = ap (λ o. length (held o)) w.out-is in (
            (λ k. walk all (w.start-is k) (i + 1) (w.line-is k) (held (w.out-is k)) (drop (i + 1) all))
                ∙ goes all c.loop-i.start i c.loop-i.line (held c.loop-i.out) _ _ _ c.loop-i.invariant.0 c.loop-i-test.true c.index-all-i.is c.is_line_end.ensures
                _ w.judge.ensures _ w.if-is_line_end.true says,
            (omega (arith, w.start-is), (omega (arith, w.line-is, c.loop-i.invariant.1.1.0), (omega (arith, few, long, c.loop-i.invariant.1.1.1.0), c.loop-i.invariant.1.1.1.1))),
          )
      | goal.else-is_line_end w ↦
          let long = ap (λ o. length (held o)) w.out-is in (
            (λ k. walk all (w.start-is k) (i + 1) (w.line-is k) (held (w.out-is k)) (drop (i + 1) all))
                ∙ stays all c.loop-i.start i c.loop-i.line (held c.loop-i.out) _ _ _ c.loop-i.invariant.0 c.loop-i-test.true c.index-all-i.is c.is_line_end.ensures w.if-is_line_end.false,
            (omega (arith, w.start-is, c.loop-i.invariant.1.0), (omega (arith, w.line-is, c.loop-i.invariant.1.1.0), (omega (arith, long, c.loop-i.invariant.1.1.1.0), c.loop-i.invariant.1.1.1.1))),
          )
    ]

pub returns : goal.returns
returns c =
    end (walk c.as_slice-all.result.now c.loop-i.start c.loop-i.i c.loop-i.line (held c.loop-i.out)) c.as_slice-all.result.now c.loop-i.i _ c.loop-i.invariant.0 c.loop-i-test.false
    ∙ ap declarations c.as_slice-all.ensures
