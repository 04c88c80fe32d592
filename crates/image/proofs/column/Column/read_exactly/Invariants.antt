use Rattle.std.proofs.Common.{◌≡◌, ◌-◌, length}
use Rattle.bounded.specs.Held.{used}
use Rattle.codec.specs.Format.{left, many, listed, pair}
use Rattle.codec.proofs.Many.{onto}
use Rattle.image.specs.Dealt.{lists}
use Rattle.image.proofs.column.Column.read_exactly.Given as goal

abbrev pub invariant-loop : goal.invariant-loop
invariant-loop g l =
    (length (used l.self.lists) ≡ l.counter)
    × (onto (lists l.self) (many (l.units - l.counter) (listed pair g.row.N g.T.Field.format).get (left l.input)) ≡ many l.units (listed pair g.row.N g.T.Field.format).get (left l.initial.input))
