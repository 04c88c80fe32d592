use Rattle.std.proofs.Common.{◌≡◌, ◌≤◌, [], length, drop}
use Rattle.bounded.specs.Held.{held}
use Rattle.scope.specs.Sees.{sees}
use Rattle.values.specs.Solved.{valued}
use Rattle.values.proofs.solver.Solver.value_all.Given as goal

abbrev pub invariant-loop-p : goal.invariant-loop-p
invariant-loop-p l =
    (valued l.unit.tokens.now (sees l.unit) (held l.self.constants) (held l.known) (drop l.p-index l.places) ≡ valued l.unit.tokens.now (sees l.unit) (held l.self.constants) [] l.places)
    × (length (held l.known) ≤ l.p-index)
