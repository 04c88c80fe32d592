use Rattle.std.proofs.Common.{take}
use Rattle.codec.specs.Format.{each}
use Rattle.codec.proofs.section.append_list.Given as goal

abbrev pub invariant-loop-x : goal.invariant-loop-x
invariant-loop-x g l = g.S.Sink.Takes l.initial.out (each g.T.Field.format.put (take l.x-index l.xs)) l.out
