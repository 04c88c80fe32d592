-- The constants of a unit, in dependency order.
use Rattle.std.specs.Prelude.{ℕ, cond, List, [], ◌∷◌, length, Some, None, Ok, Err, Option, Result, nat_le, slice_get}
use Rattle.names.specs.declared.refusal.Fault.{Fault}
use Rattle.order.specs.declared.Unordered.{Unordered}
use Rattle.order.specs.declared.Unordered.TheVariants.{Stuck, Short}
use Rattle.order.specs.Dependency.{Outcome, all as in_order, stuck, ordered}
use Rattle.tokens.specs.declared.token.Token.{Token}
use Rattle.grammar.specs.declared.declaration.Declaration.{Declaration}
use Rattle.grammar.specs.declared.flaw.Flaw.TheVariants.{Circle, TooMuch}
use Rattle.grammar.specs.Flaws.{at}
use Rattle.grammar.specs.Walk.{onward}
use Rattle.scope.specs.Names.{at_line}
use Rattle.scope.specs.Uses.{Outside}
use Rattle.values.specs.declared.known.Known.{Known}
use Rattle.values.specs.Evaluation.{value, learnt}
use Rattle.values.specs.Needed.{constants, lines, needs}
use Rattle.std.specs.Ordering.{nat_cmp}

-- what is known behind the constant at a place
abbrev pub behind : List Token → Outside → List Known → Option Declaration → Result (List Known) Fault
behind all o ks None = Ok ks
behind all o ks (Some d) = learnt ks d (value all o ks d)

-- the values of the constants at these places, one after the other
abbrev pub valued : List Token → Outside → List Declaration → List Known → List ℕ → Result (List Known) Fault
valued all o cs ks [] = Ok ks
valued all o cs ks (p ∷ ps) = onward (behind all o ks (slice_get cs p)) (λ more. valued all o cs more ps)

-- a circle is told by the smallest line left
abbrev pub circle : Option Declaration → Fault
circle None = at Circle 0
circle (Some d) = at_line Circle d

-- why constants without an order are at fault
abbrev pub unordered : List Declaration → Unordered → Fault
unordered cs (Stuck i) = circle (slice_get cs i)
unordered cs Short = at TooMuch 0

abbrev pub settled : List Token → Outside → List Declaration → Outcome → Result (List Known) Fault
settled all o cs (in_order done) = valued all o cs [] done
settled all o cs (stuck done i) = Err (circle (slice_get cs i))

-- of at most twelve declarations
abbrev pub solved : List Token → Outside → List Declaration → Result (List Known) Fault
solved all o ds = cond (nat_le (length ds) 12) (settled all o (constants ds) (ordered nat_cmp (lines (constants ds)) (needs all (constants ds) 0 (constants ds)))) (Err (at TooMuch 0))
