use Rattle.std.proofs.Common.{pos, ap, rules}
use Rattle.names.specs.declared.name.Name.{Name}
use Rattle.translator.specs.Echoed.{d_name}
use Rattle.product.specs.declared.row.Row.{Row}
use Rattle.names.proofs.Same.{same_name}
use Rattle.translator.proofs.echo.d_row.Goals as goal

abbrev row_of : Name → Row
row_of n = record { name = n; kind = 2; value = pos 0; line = 1 }

pub returns : goal.returns
returns c = ap row_of (same_name c.unwrap-name.result d_name (search rules))
