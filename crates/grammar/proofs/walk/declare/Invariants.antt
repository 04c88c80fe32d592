use Rattle.std.proofs.Common.{◌≡◌, ◌+◌, ◌≤◌, length, drop}
use Rattle.bounded.specs.Held.{held}
use Rattle.grammar.specs.Walk.{walk, declarations}
use Rattle.grammar.proofs.walk.declare.Given as goal

abbrev pub invariant-loop-i : goal.invariant-loop-i
invariant-loop-i l =
    (walk l.all l.start l.i l.line (held l.out) (drop l.i l.all) ≡ declarations l.all)
    × ((l.start ≤ l.i) × ((l.line ≤ l.i + 1) × ((length (held l.out) ≤ l.i) × (length l.all ≤ 513))))
