-- The units of a project as a list, and what put and remove make of it.
use Rattle.std.specs.Prelude.{ℕ, Bool, cond, not, ◌&&◌, List, [], ◌∷◌, map, length, is_some, Option, nat_le, nat_lt, position}
use Rattle.std.specs.Str.{bytes_eq}
use Rattle.names.specs.declared.name.Name.{Name}
use Rattle.bounded.specs.Held.{held, used}
use Rattle.project.specs.declared.unit.Unit.{Unit}
use Rattle.project.specs.declared.whole.Project.{Project}

-- a unit: its name, the names that it imports, its source
pub record Member : Type 0 where
  pub name : Name
  pub imports : List Name
  pub source : List ℕ

-- two names are one
abbrev pub same : Name → Name → Bool
same a b = bytes_eq a.bytes b.bytes

-- a unit as a member
abbrev pub member : Unit → Member
member u = record { name = u.name; imports = held u.imports; source = held u.source }

-- the units of a project, in the order in which they came
abbrev pub members : Project → List Member
members p = map member (used p.units)

-- the place of the unit of a name
abbrev pub at : Name → List Member → Option ℕ
at n vs = position (λ v. same v.name n) vs

-- the unit in the place of the one of its name, or behind all others
abbrev pub with : Member → List Member → List Member
with u [] = u ∷ []
with u (v ∷ vs) = cond (same v.name u.name) (u ∷ vs) (v ∷ with u vs)

-- all units but the one of that name
abbrev pub without : Name → List Member → List Member
without n [] = []
without n (v ∷ vs) = cond (same v.name n) vs (v ∷ without n vs)

-- what put answers: 12 a source over 512 bytes, 13 over 4 imports, 14 a new name where 24 units stand
abbrev pub put_answer : Member → List Member → ℕ
put_answer u vs =
    cond (nat_lt 512 (length u.source)) 12 (cond (nat_lt 4 (length u.imports)) 13 (cond (not (is_some (at u.name vs)) && nat_le 24 (length vs)) 14 0))

-- what remove answers: 15 where there is no unit of that name
abbrev pub remove_answer : Name → List Member → ℕ
remove_answer n vs = cond (is_some (at n vs)) 0 15
