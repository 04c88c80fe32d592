-- What the order answered, and what is learnt by it.
use Rattle.std.proofs.Common.{◌≡◌, ℕ, ◌≤◌, cond, List, [], length, take, drop, Err, Result, refl, ap, ◌∙◌, subst, arith, Ok}
use Rattle.std.proofs.lemmas.List.{take_at}
use Rattle.std.proofs.lemmas.Bool.{le-ltb}
use Rattle.order.specs.declared.Need.{Need}
use Rattle.order.specs.declared.Unordered.{Unordered}
use Rattle.order.specs.declared.Unordered.TheVariants.{Short}
use Rattle.order.specs.Dependency.{Outcome, all as in_order, stuck, ordered, Answers, Tells}
use Rattle.tokens.specs.declared.token.Token.{Token}
use Rattle.grammar.specs.declared.declaration.Declaration.{Declaration}
use Rattle.scope.specs.Uses.{Outside}
use Rattle.values.specs.Solved.{valued, settled}
use Rattle.values.proofs.Placed.{ordered_long}
use Rattle.std.specs.Ordering.{nat_cmp}

module _ (all : List Token) (o : Outside) (cs : List Declaration) (keys : List ℕ) (needs : List (Need ℕ)) (before after : List ℕ) (r : Result (Unit {0}) Unordered)
    (room : length keys ≤ length before) (says : Answers nat_cmp keys needs before after r) where
  tells : Tells nat_cmp keys needs before after r (ordered nat_cmp keys needs)
  tells = subst (λ b. cond b ((r ≡ Err Short) × (after ≡ before)) (Tells nat_cmp keys needs before after r (ordered nat_cmp keys needs))) (le-ltb (length before) (length keys) room) says

  by_all : (out : Outcome) → ((d : List ℕ) → out ≡ in_order d → length d ≡ length cs) → r ≡ Ok tt → Tells nat_cmp keys needs before after r out → valued all o cs [] (take (length cs) after) ≡ settled all o cs out
  by_all (in_order d) long e t = ap (valued all o cs []) (ap (take (length cs)) t.1 ∙ take_at d (drop (length d) before) (length cs) (long d refl))
  by_all (stuck d i) long e t = let k = t.0 in let z : ◌≡◌ {A = ℕ} 0 1 = cc in absurd (omega arith)

  pub settles : length keys ≡ length cs → r ≡ Ok tt → valued all o cs [] (take (length cs) after) ≡ settled all o cs (ordered nat_cmp keys needs)
  settles keyed e = by_all (ordered nat_cmp keys needs) (λ d f. ordered_long nat_cmp keys needs d f ∙ keyed) e tells
