use Rattle.std.proofs.Common.{◌≡◌, ◌-◌, length}
use Rattle.bounded.specs.Held.{used}
use Rattle.codec.specs.Format.{left, many, many_within, interface}
use Rattle.codec.proofs.Many.{onto}
use Rattle.artifact.specs.Art.{imported}
use Rattle.artifact.proofs.read.read_imports.Given as goal

abbrev pub invariant-loop : goal.invariant-loop
invariant-loop l =
    (length (used l.into) ≡ l.counter)
    × (onto (imported (used l.into)) (many (l.count - l.counter) interface.get (left l.input)) ≡ many_within 4 l.count interface.get (left l.initial.input))
