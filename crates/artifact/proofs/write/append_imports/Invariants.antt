use Rattle.std.proofs.Common.{take}
use Rattle.product.specs.Parts.{rows}
use Rattle.codec.specs.Format.{each, interface}
use Rattle.artifact.proofs.write.append_imports.Given as goal

abbrev pub invariant-loop-interface : goal.invariant-loop-interface
invariant-loop-interface g l = g.S.Sink.Takes l.initial.out (each (λ i. interface.put (rows i)) (take l.interface-index l.imports)) l.out
