-- The units that stand, by place.
use Rattle.std.proofs.Common.{◌≡◌, ℕ, ◌<◌, ◌≤◌, List, map, length, get_or, Some, refl, ap, ◌∙◌, arith}
use Rattle.std.specs.Option.{option_map}
use Rattle.std.specs.List.{slice_get}
use Rattle.std.proofs.lemmas.Option.{slice_get-map, slice_get_read}
use Rattle.bounded.specs.declared.pool.Pool.{Pool}
use Rattle.bounded.specs.Held.{used}
use Rattle.project.specs.declared.unit.Unit.{Unit}
use Rattle.project.specs.Members.{member}

pub used_few : {X : Type 0} {n : ℕ} (p : Pool X n) → length (used p) ≤ n
used_few p = omega (arith, p.all, p.used.ok.0)

pub member_at : (us : List Unit) (i : ℕ) (u : Unit) → i < length us → u ≡ get_or us i u → slice_get (map member us) i ≡ Some (member u)
member_at us i u h e = slice_get-map member us i ∙ ap (option_map member) (slice_get_read us (length us) i u refl h e)
