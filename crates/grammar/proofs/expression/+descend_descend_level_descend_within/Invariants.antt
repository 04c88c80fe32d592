use Rattle.std.proofs.Common.{◌+◌, ◌*◌}
use Rattle.grammar.proofs.expression.+descend_descend_level_descend_within.Given as goal

abbrev pub decreases-descend : goal.decreases-descend
decreases-descend g l = 3 * l.levels

abbrev pub decreases-descend_level : goal.decreases-descend_level
decreases-descend_level g l = 3 * l.levels + 2

abbrev pub decreases-descend_within : goal.decreases-descend_within
decreases-descend_within g l = 3 * l.levels + 1
