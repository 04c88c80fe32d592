use Rattle.std.proofs.Common.{◌≡◌, [], length, take, replicate, Ok, ap, ◌∙◌, rules, arith}
use Rattle.bounded.specs.Held.{held}
use Rattle.bounded.proofs.Few.{held_few}
use Rattle.scope.specs.Sees.{sees}
use Rattle.values.specs.Solved.{valued}
use Rattle.values.proofs.Settles.{settles}
use Rattle.values.proofs.solver.Solver.settle.Goals as goal

pub returns : goal.returns
returns c =
    let all = c.args.unit.now.tokens.now in
    let o = sees c.args.unit.now in
    let s = c.args.self.now in
    let cs = held s.constants in
    let keys = held s.keys in
    let needs = held s.needs in
    let e : c.order.result ≡ Ok tt = search rules in
    let few = held_few s.constants in
    c.value_all.ensures
    ∙ ap (λ xs. valued all o cs [] (take (length xs) c.order.new.places)) c.as_slice-constants.ensures
    ∙ settles all o cs keys needs (replicate 12 0) c.order.new.places c.order.result (omega (arith, few, c.requires)) (search rules) c.requires e
