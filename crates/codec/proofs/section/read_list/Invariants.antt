use Rattle.std.proofs.Common.{◌≡◌, ◌-◌, length}
use Rattle.bounded.specs.Held.{held}
use Rattle.codec.specs.Format.{left, many, many_within}
use Rattle.codec.proofs.Many.{onto}
use Rattle.codec.proofs.section.read_list.Given as goal

abbrev pub invariant-loop : goal.invariant-loop
invariant-loop g l =
    (length (held l.into) ≡ l.counter)
    × (onto (held l.into) (many (l.count - l.counter) g.T.Field.format.get (left l.input)) ≡ many_within g.row.N l.count g.T.Field.format.get (left l.initial.input))
