use Rattle.std.proofs.Common.{◌≡◌, ◌≤◌, length, drop}
use Rattle.product.specs.Parts.{rows, parts, no_parts}
use Rattle.emission.specs.Emitted.{rows_of}
use Rattle.emission.proofs.emit.Emitting.show_rows.Given as goal

abbrev pub invariant-loop-d : goal.invariant-loop-d
invariant-loop-d l =
    (rows_of l.self.known.now l.k (parts l.out) (drop l.d-index l.d-items) ≡ rows_of l.self.known.now 0 no_parts l.d-items)
    × ((length (rows l.out.interface) ≡ l.d-index) × ((l.d-index ≤ 12) × (l.k ≤ l.d-index)))
