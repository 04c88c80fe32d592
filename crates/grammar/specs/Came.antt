-- What a call answered and left in the state lent to it.
use Rattle.std.specs.Prelude.{List, Some, None, Option}
use Rattle.std.specs.Borrow.{Bor}

-- a part of an expression
abbrev pub came : {A S : Type 0} → Option A → S → Option (A × S)
came None s = None
came (Some a) s = Some (a, s)

-- a whole expression, with the tokens behind it
abbrev pub seen : {A S T : Type 0} → Option (A × Bor (List T)) → S → Option (A × S × List T)
seen None s = None
seen (Some p) s = Some (p.0, s, p.1.now)
