use Rattle.std.proofs.Common.{◌≡◌, ◌-◌, vec_items, vec_len}
use Rattle.log_store.proofs.Slid.{Sliding}
use Rattle.log_store.proofs.slide.slide.Given as goal

abbrev pub invariant-loop-from : goal.invariant-loop-from
invariant-loop-from l = Sliding (vec_items l.initial.area) l.end (vec_items l.area) l.from l.to × (vec_len l.area ≡ vec_len l.initial.area)

abbrev pub decreases-loop-from : goal.decreases-loop-from
decreases-loop-from l = l.end - l.from
