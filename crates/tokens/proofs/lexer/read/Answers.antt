use Rattle.std.proofs.Common.{◌+◌, [], ◌++◌, length, get_or, drop, sym, ap, ◌∙◌, subst}
use Rattle.bounded.specs.Held.{held}
use Rattle.tokens.specs.Stream.{reading, Begun}
use Rattle.tokens.proofs.Turns.{word_room, own_room, joined, turn_is, end_is, begun-next}
use Rattle.tokens.proofs.lexer.read.Goals as goal

pub put_word-requires-clause-room : goal.put_word-requires-clause-room
put_word-requires-clause-room c =
    let src = c.args.source.now in
    let i = c.loop-i.i in
    let s = c.loop-i.lexer.state in
    word_room src i (get_or src i 0) s _ _ (held c.loop-i.tokens) c.if-source-gt512.false c.step-step.ensures.ends c.step-step.ensures.brings _ (turn_is src s i (held c.loop-i.tokens) c.loop-i-test.true c.loop-i.invariant.0)

pub put-requires : goal.put-requires
put-requires c =
    let src = c.args.source.now in
    let i = c.loop-i.i in
    let s = c.loop-i.lexer.state in
    own_room src i (get_or src i 0) s _ _ (held c.loop-i.tokens) c.if-source-gt512.false c.step-step.ensures.ends c.step-step.ensures.brings _ _ (turn_is src s i (held c.loop-i.tokens) c.loop-i-test.true c.loop-i.invariant.0) c.put_word.ensures

pub loop-i-preserved : goal.loop-i-preserved
loop-i-preserved c =
    let src = c.args.source.now in
    let i = c.loop-i.i in
    let s = c.loop-i.lexer.state in (
      ap (λ t. held c.put.new.tokens ++ reading src t (i + 1) (drop (i + 1) src)) c.step-step.ensures.moves
          ∙ joined src i (get_or src i 0) s _ _ (held c.loop-i.tokens) c.if-source-gt512.false c.step-step.ensures.ends c.step-step.ensures.brings _ _ _ (turn_is src s i (held c.loop-i.tokens) c.loop-i-test.true c.loop-i.invariant.0) c.put_word.ensures c.put.ensures,
      subst (Begun (i + 1)) (sym c.step-step.ensures.moves) (begun-next s i (get_or src i 0) c.loop-i.invariant.1),
    )

pub put_word-requires-2-clause-room : goal.put_word-requires-2-clause-room
put_word-requires-2-clause-room c =
    let src = c.args.source.now in
    let s = c.loop-i.lexer.state in
    word_room src (length src) 10 s _ _ (held c.loop-i.tokens) c.if-source-gt512.false c.step-last.ensures.ends c.step-last.ensures.brings [] (end_is src s c.loop-i.i (held c.loop-i.tokens) c.loop-i-test.false c.loop-i.auto.i-end c.loop-i.invariant.0)

pub put-requires-2 : goal.put-requires-2
put-requires-2 c =
    let src = c.args.source.now in
    let s = c.loop-i.lexer.state in
    own_room src (length src) 10 s _ _ (held c.loop-i.tokens) c.if-source-gt512.false c.step-last.ensures.ends c.step-last.ensures.brings [] _ (end_is src s c.loop-i.i (held c.loop-i.tokens) c.loop-i-test.false c.loop-i.auto.i-end c.loop-i.invariant.0) c.put_word-2.ensures
