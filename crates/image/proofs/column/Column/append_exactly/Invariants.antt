use Rattle.std.proofs.Common.{take}
use Rattle.bounded.specs.Held.{held}
use Rattle.codec.specs.Format.{each, listed, pair}
use Rattle.image.proofs.column.Column.append_exactly.Given as goal

abbrev pub invariant-loop-list : goal.invariant-loop-list
invariant-loop-list g l = g.S.Sink.Takes l.initial.out (each (λ b. (listed pair g.row.N g.T.Field.format).put (held b)) (take l.list-index l.list-items)) l.out
