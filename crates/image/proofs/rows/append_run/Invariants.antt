use Rattle.std.proofs.Common.{◌<◌, ◌∷◌, take}
use Rattle.codec.specs.Format.{each}
use Rattle.image.proofs.rows.append_run.Given as goal

abbrev pub invariant-loop-x : goal.invariant-loop-x
invariant-loop-x g l = l.unit < 256 → g.S.Sink.Takes l.initial.out (each (λ x. l.unit ∷ g.T.Field.format.put x) (take l.x-index l.rows)) l.out
