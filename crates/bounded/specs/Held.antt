-- What a bounded list holds, and what of a pool is in use.
use Rattle.std.specs.Prelude.{ℕ, List, vec_items}
use Rattle.bounded.specs.declared.list.Bounded.{Bounded}
use Rattle.bounded.specs.declared.pool.Pool.{Pool}

-- the elements, first to last
abbrev pub held : {X : Type 0} {n : ℕ} → Bounded X n → List X
held b = vec_items b.items

-- the elements in use, first to last
abbrev pub used : {X : Type 0} {n : ℕ} → Pool X n → List X
used p = vec_items p.used
