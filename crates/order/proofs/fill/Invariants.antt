use Rattle.std.proofs.Common.{◌≡◌, ◌-◌, length, take, drop}
use Rattle.order.specs.Dependency.{placing, ordered}
use Rattle.order.proofs.fill.Given as goal

abbrev pub invariant-loop-count : goal.invariant-loop-count
invariant-loop-count g l =
    (placing g.K.Ord.cmp l.keys l.needs (length l.keys - l.count) (take l.count l.places) ≡ ordered g.K.Ord.cmp l.keys l.needs)
    × (drop l.count l.places ≡ drop l.count l.initial.places)
    × (length l.places ≡ length l.initial.places)
