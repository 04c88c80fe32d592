use Rattle.std.proofs.Common.{◌≡◌, ◌-◌, length}
use Rattle.bounded.specs.Held.{used}
use Rattle.codec.specs.Format.{left}
use Rattle.codec.proofs.Many.{onto}
use Rattle.image.specs.Dealt.{lists, undeal}
use Rattle.image.proofs.column.Column.read_dealt.Given as goal

abbrev pub invariant-loop-unit : goal.invariant-loop-unit
invariant-loop-unit g l =
    (length (used l.self.lists) ≡ l.unit)
    × (onto (lists l.self) (undeal g.T.Field.format.get g.row.N l.unit (l.units - l.unit) l.others (left l.input)) ≡ undeal g.T.Field.format.get g.row.N 0 l.units l.initial.others (left l.initial.input))
