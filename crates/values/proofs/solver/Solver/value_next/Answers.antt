use Rattle.std.proofs.Common.{ap, ◌∙◌, slice_get}
use Rattle.bounded.specs.Held.{held}
use Rattle.scope.specs.Sees.{sees}
use Rattle.values.specs.Evaluation.{value, learnt}
use Rattle.values.specs.Solved.{behind}
use Rattle.values.proofs.solver.Solver.value_next.Goals as goal

pub returns-in-Some : goal.returns-in-Some
returns-in-Some c =
    let all = c.args.unit.now.tokens.now in
    let o = sees c.args.unit.now in
    let ks = held c.args.known.now in
    let d = c.in-Some.d in
    c.learn.ensures ∙ ap (learnt ks d) (c.value_of.ensures ∙ ap (λ k. value all o k d) c.as_slice-in-Some.ensures) ∙ ap (behind all o ks) (c.in-Some.ensures ∙ ap (λ xs. slice_get xs c.args.place) c.as_slice.ensures)
