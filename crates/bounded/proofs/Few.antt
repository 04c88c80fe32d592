-- A bounded list is within its limit.
use Rattle.std.proofs.Common.{ℕ, ◌≤◌, length, arith}
use Rattle.bounded.specs.Held.{held}
use Rattle.bounded.specs.declared.list.Bounded.{Bounded}

pub held_few : {X : Type 0} {n : ℕ} (b : Bounded X n) → length (held b) ≤ n
held_few b = omega (arith, b.few, b.items.ok.0)
