use Rattle.std.proofs.Common.{◌≡◌, drop}
use Rattle.product.specs.Parts.{parts}
use Rattle.scope.specs.Sees.{sees}
use Rattle.emission.specs.Emitted.{functions}
use Rattle.emission.proofs.emit.Emitting.emit_functions.Given as goal

abbrev pub invariant-loop-d : goal.invariant-loop-d
invariant-loop-d l =
    functions l.self.unit.own.now l.self.known.now (sees l.self.unit) l.self.unit.tokens.now (parts l.out) (drop l.d-index l.d-items)
    ≡ functions l.self.unit.own.now l.self.known.now (sees l.self.unit) l.self.unit.tokens.now (parts l.initial.out) l.d-items
