use Rattle.std.proofs.Common.{◌≡◌, ◌≤◌, vec_len, vec_capacity}
use Rattle.bounded.proofs.pool.Pool.open.Given as goal

abbrev pub invariant-loop : goal.invariant-loop
invariant-loop g l = (vec_len l.spare ≡ l.counter) × (g.row.N ≤ vec_capacity l.spare)
