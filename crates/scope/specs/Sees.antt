-- What a unit sees of its imports.
use Rattle.std.specs.Prelude.{map}
use Rattle.product.specs.Parts.{rows}
use Rattle.scope.specs.declared.unit.Unit.{Unit}
use Rattle.scope.specs.Uses.{Outside, outside}

abbrev pub sees : Unit → Outside
sees u = outside (map rows u.imports.now)
