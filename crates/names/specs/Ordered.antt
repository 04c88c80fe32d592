-- The order of names.
use Rattle.std.specs.Prelude.{ℕ, List}
use Rattle.std.specs.declared.cmp.Ordering.{Ordering}
use Rattle.std.specs.Ordering.{nat_cmp, on}
use Rattle.std.specs.Cmp.{IsTotalOrder}
use Rattle.std.specs.Cmp.Lexicographic.{slice_cmp, on_texts}
use Rattle.names.specs.declared.name.Name.{Name}

-- the first byte that differs decides
abbrev pub bytewise : List ℕ → List ℕ → Ordering
bytewise = slice_cmp nat_cmp

-- names in the order of their bytes
abbrev pub name_cmp : Name → Name → Ordering
name_cmp = on (λ (n : Name). n.bytes) bytewise

-- a total order of names
abbrev pub by_name : IsTotalOrder name_cmp
by_name = on_texts (λ (n : Name). n.bytes)
