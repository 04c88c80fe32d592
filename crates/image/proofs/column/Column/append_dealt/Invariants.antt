use Rattle.std.proofs.Common.{map, take}
use Rattle.bounded.specs.Held.{held}
use Rattle.image.specs.Dealt.{deal}
use Rattle.image.proofs.column.Column.append_dealt.Given as goal

abbrev pub invariant-loop-unit : goal.invariant-loop-unit
invariant-loop-unit g l = g.S.Sink.Takes l.initial.out (deal g.T.Field.format.put 0 (map held (take l.unit l.list-items))) l.out
