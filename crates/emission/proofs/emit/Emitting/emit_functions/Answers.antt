use Rattle.std.proofs.Common.{◌≡◌, ℕ, ◌+◌, ◌<◌, true, false, cond, List, length, get_or, drop, is_ok, Option, sym, refl, ap, ◌∙◌, rules}
use Rattle.product.specs.Parts.{Parts, parts}
use Rattle.tokens.specs.declared.token.Token.{Token}
use denote.Enum.Bare.{sameb}
use Rattle.grammar.specs.contracts.declaration.Kind.{the_type}
use Rattle.grammar.specs.declared.declaration.Kind.{Kind}
use Rattle.grammar.specs.declared.declaration.Kind.TheVariants.{Constant, Function}
use Rattle.grammar.specs.Line.{is_function}
use Rattle.grammar.specs.declared.declaration.Declaration.{Declaration}
use Rattle.grammar.proofs.Turns.{turn}
use Rattle.scope.specs.Sees.{sees}
use Rattle.scope.specs.Uses.{Outside}
use Rattle.values.specs.declared.known.Known.{Known}
use Rattle.emission.specs.Wrote.{done, then}
use Rattle.emission.specs.Emitted.{function_of, functions}
use Rattle.emission.proofs.emit.Emitting.emit_functions.Goals as goal

module _ (own : List Declaration) (ks : List Known) (o : Outside) (all : List Token) (p : Parts) (i : ℕ) (r : Option Parts) (d : Declaration)
    (inv : functions own ks o all p (drop i own) ≡ r) (h : i < length own) (at : d ≡ get_or own i d) where
  there : cond (is_function d.kind) (then (function_of own ks o all d p) (λ q. functions own ks o all q (drop (i + 1) own))) (functions own ks o all p (drop (i + 1) own)) ≡ r
  there = turn (functions own ks o all p) own i r inv d h at

  over : is_function d.kind ≡ false → functions own ks o all p (drop (i + 1) own) ≡ r
  over f = sym (ap (λ b. cond b (then (function_of own ks o all d p) (λ q. functions own ks o all q (drop (i + 1) own))) (functions own ks o all p (drop (i + 1) own))) f) ∙ there

  onto : is_function d.kind ≡ true → (m : Option Parts) → m ≡ function_of own ks o all d p → then m (λ q. functions own ks o all q (drop (i + 1) own)) ≡ r
  onto f m e =
      ap (λ n. then n (λ q. functions own ks o all q (drop (i + 1) own))) e
      ∙ sym (ap (λ b. cond b (then (function_of own ks o all d p) (λ q. functions own ks o all q (drop (i + 1) own))) (functions own ks o all p (drop (i + 1) own))) f) ∙ there

function_is : (k : Kind) → sameb the_type k Function ≡ is_function k
function_is Constant = refl
function_is Function = refl

pub returns-in_err-emit_function : goal.returns-in_err-emit_function
returns-in_err-emit_function c =
    let own = c.args.self.now.unit.own.now in
    let says = ap (λ r. done (is_ok r) (parts c.emit_function.new.out)) (sym c.in_err-emit_function.was) ∙ c.emit_function.ensures in
    let e =
    onto own c.args.self.now.known.now (sees c.args.self.now.unit) c.args.self.now.unit.tokens.now (parts c.loop-d.out) c.loop-d.d-index _ _ c.loop-d.invariant c.loop-d-test.true c.d-item.is
    (sym (c.eq.ensures ∙ function_is c.d-item.result.kind) ∙ c.if-eq.true) _ says in
    let f : is_ok c.from_residual.result ≡ false = search rules in
    ap (λ b. done b (parts c.emit_function.new.out)) f ∙ e

pub loop-d-preserved : goal.loop-d-preserved
loop-d-preserved c =
    let own = c.args.self.now.unit.own.now in
    let ks = c.args.self.now.known.now in
    let o = sees c.args.self.now.unit in
    let all = c.args.self.now.unit.tokens.now in
    let F = functions own ks o all in
    elim c.if-eq.branch [
      | goal.then-eq+in_ok-emit_function w ↦
          ap (λ u. F (parts u) (drop (c.loop-d.d-index + 1) own)) w.out-is
          ∙ onto own ks o all (parts c.loop-d.out) c.loop-d.d-index _ _ c.loop-d.invariant c.loop-d-test.true c.d-item.is (sym (c.eq.ensures ∙ function_is c.d-item.result.kind) ∙ w.if-eq.true) _
          (ap (λ r. done (is_ok r) (parts w.emit_function.new.out)) (sym w.in_ok-emit_function.was) ∙ w.emit_function.ensures)
      | goal.else-eq w ↦
          ap (λ u. F (parts u) (drop (c.loop-d.d-index + 1) own)) w.out-is
          ∙ over own ks o all (parts c.loop-d.out) c.loop-d.d-index _ _ c.loop-d.invariant c.loop-d-test.true c.d-item.is (sym (c.eq.ensures ∙ function_is c.d-item.result.kind) ∙ w.if-eq.false)
    ]
