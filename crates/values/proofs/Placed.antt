-- Constants by their places, and the order of the places.
use Rattle.std.proofs.Common.{◌≡◌, ℕ, zero, suc, ◌+◌, ◌<◌, ◌≤◌, List, [], ◌∷◌, ◌++◌, length, get_or, drop, ℤ, Some, None, Ok, Option, Result, Ordering, unwrap_or, sym, ap, ◌∙◌, arith, slice_get}
use Rattle.std.proofs.lemmas.List.{length-append, at_drop_more}
use Rattle.order.specs.declared.Need.{Need}
use Rattle.order.specs.Dependency.{all as in_order, stuck, next, left, placing, ordered}
use Rattle.tokens.specs.declared.token.Token.{Token}
use Rattle.names.specs.declared.refusal.Fault.{Fault}
use Rattle.grammar.specs.Walk.{onward}
use Rattle.grammar.specs.declared.declaration.Declaration.{Declaration}
use Rattle.scope.specs.Uses.{Outside}
use Rattle.values.specs.declared.known.Known.{Known}
use Rattle.values.specs.Evaluation.{value, learnt}
use Rattle.values.specs.Solved.{behind, valued}

learnt_few : (ks more : List Known) (d : Declaration) (v : Option ℤ) → Ok more ≡ learnt ks d v → length more ≤ length ks + 1
learnt_few ks more d None e = let z : ◌≡◌ {A = ℕ} 0 1 = cc in omega arith
learnt_few ks more d (Some v) e =
    let k : more ≡ ks ++ record { name = d.name; value = v } ∷ [] = cc in
    omega (arith, ap length k, length-append ks (record { name = d.name; value = v } ∷ []))

-- a place adds at most one constant
pub behind_few : (all : List Token) (o : Outside) (ks more : List Known) (d : Option Declaration) → Ok more ≡ behind all o ks d → length more ≤ length ks + 1
behind_few all o ks more None e = let k : more ≡ ks = cc in omega (arith, ap length k)
behind_few all o ks more (Some d) e = learnt_few ks more d (value all o ks d) e

-- an order has as many places as there are items
module _ {K : Type 0} (cmp : K → K → Ordering) (keys : List K) (needs : List (Need K)) where
  by_next : (n : ℕ) (done d : List ℕ) → ((i : ℕ) → placing cmp keys needs n (done ++ i ∷ []) ≡ in_order d → length d ≡ length (done ++ i ∷ []) + n) → (o : Option ℕ)
      → (elim o [ Some i ↦ placing cmp keys needs n (done ++ i ∷ []) | None ↦ stuck done (unwrap_or (left cmp keys done) 0) ]) ≡ in_order d → length d ≡ length done + suc n
  by_next n done d more (Some i) e = let h = more i e in omega (arith, h, length-append done (i ∷ []))
  by_next n done d more None e = let z : ◌≡◌ {A = ℕ} 0 1 = cc in omega arith

  placing_long : (n : ℕ) (done d : List ℕ) → placing cmp keys needs n done ≡ in_order d → length d ≡ length done + n
  placing_long zero done d e = let k : done ≡ d = cc in omega (arith, ap length k)
  placing_long (suc n) done d e = by_next n done d (λ i. placing_long n (done ++ i ∷ []) d) (next cmp keys needs done) e

  pub ordered_long : (d : List ℕ) → ordered cmp keys needs ≡ in_order d → length d ≡ length keys
  ordered_long d e = let h = placing_long (length keys) [] d e in omega arith

-- the turn at a place, where r is what was learnt there
pub onto : (all : List Token) (o : Outside) (cs : List Declaration) (ks : List Known) (ps : List ℕ) (i : ℕ) (r : Result (List Known) Fault) → valued all o cs ks (drop i ps) ≡ r → i < length ps
    → (m : Result (List Known) Fault) → m ≡ behind all o ks (slice_get cs (get_or ps i 0)) → onward m (λ more. valued all o cs more (drop (i + 1) ps)) ≡ r
onto all o cs ks ps i r inv h m e = ap (λ n. onward n (λ more. valued all o cs more (drop (i + 1) ps))) e ∙ sym (at_drop_more (valued all o cs ks) ps i 0 h) ∙ inv
