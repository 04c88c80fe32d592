use Rattle.std.proofs.Common.{ℕ, ◌+◌, Bool, map, filter, cond, [], ◌∷◌, length, drop, sym, ap, ◌∙◌, arith}
use Rattle.std.proofs.lemmas.List.{length-append, append-nil}
use Rattle.bounded.specs.Held.{held}
use Rattle.order.specs.declared.Need.{Need}
use Rattle.grammar.specs.declared.declaration.Declaration.{Declaration}
use Rattle.values.specs.Needed.{needs_of, mentions}
use Rattle.values.proofs.Gathers.{gathers, pushed}
use Rattle.values.proofs.needed.add_needs.Goals as goal

pub loop-d-preserved : goal.loop-d-preserved
loop-d-preserved c =
    let h = held c.loop-d.out in
    let cs = c.args.constants.now in
    let i = c.loop-d.d-index in
    let d = c.d-item.result in
    let n : Need ℕ = record { item = c.args.item; key = d.line } in
    let N : Declaration → Need ℕ = λ e. record { item = c.args.item; key = e.line } in
    let P : Declaration → Bool = λ e. mentions e.name.bytes c.args.tokens.now in
    let F = needs_of c.args.item c.args.tokens.now in
    elim c.if-is_mentioned.branch [
      | goal.then-is_mentioned w ↦
          let more = pushed h (held w.push.new.self) n 144 _ (omega (arith, c.loop-d.invariant.1)) w.push.ensures.fits w.push.ensures.after in
          let same = ap held w.out-is in (
            gathers F cs i h _ c.loop-d.invariant.0 F d (n ∷ []) _ c.loop-d-test.true c.d-item.is
                (ap (λ b. map N (cond b (d ∷ filter P (drop (i + 1) cs)) (filter P (drop (i + 1) cs)))) (sym c.is_mentioned.ensures ∙ w.if-is_mentioned.true)) (same ∙ more),
            omega (arith, ap length (same ∙ more), length-append h (n ∷ []), c.loop-d.invariant.1),
          )
      | goal.else-is_mentioned w ↦
          let same = ap held w.out-is in (
            gathers F cs i h _ c.loop-d.invariant.0 F d [] _ c.loop-d-test.true c.d-item.is
                (ap (λ b. map N (cond b (d ∷ filter P (drop (i + 1) cs)) (filter P (drop (i + 1) cs)))) (sym c.is_mentioned.ensures ∙ w.if-is_mentioned.false)) (same ∙ sym (append-nil h)),
            omega (arith, ap length same, c.loop-d.invariant.1),
          )
    ]
