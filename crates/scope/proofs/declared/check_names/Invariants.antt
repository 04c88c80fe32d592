use Rattle.std.proofs.Common.{◌≡◌, drop}
use Rattle.scope.specs.Names.{misnamed}
use Rattle.scope.proofs.declared.check_names.Given as goal

abbrev pub invariant-loop-i : goal.invariant-loop-i
invariant-loop-i l = misnamed l.declarations l.i (drop l.i l.declarations) ≡ misnamed l.declarations 0 l.declarations
