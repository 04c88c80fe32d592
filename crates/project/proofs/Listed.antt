-- What the loops of a check list, one unit after another.
use Rattle.std.proofs.Common.{◌≡◌, ℕ, suc, ◌+◌, ◌<◌, ◌≤◌, Bool, true, false, cond, not, ◌&&◌, ltb, leb, List, [], ◌∷◌, ◌++◌, map, length, get_or, take, sym, ap, ◌∙◌, add-zero, arith}
use Rattle.std.proofs.lemmas.List.{append-nil, append_assoc, take_more, length-map, length-take-le, map-append}
use Rattle.std.proofs.lemmas.Bool.{lt-ltb, le-leb}
use Rattle.std.proofs.lemmas.Grind.{common_steps}
use Rattle.std.proofs.lemmas.Bool.Decides.{nat_tests}
use Rattle.order.specs.Dependency.{placed}
use Rattle.bounded.specs.Held.{held}
use Rattle.project.specs.declared.unit.Unit.{Unit}
use Rattle.project.specs.Members.{Member, member}
use Rattle.project.specs.Checked.{needs_for, needs}

-- one element more, where there is room
pub grown : {X : Type 0} (was now xs : List X) (x : X) (r : Bool) (n : ℕ) → r ≡ ltb (length was) n → now ≡ cond r (was ++ x ∷ []) was → length was < n → was ≡ xs → now ≡ xs ++ x ∷ []
grown was now xs x r n f a h e = a ∙ ap (λ b. cond b (was ++ x ∷ []) was) (f ∙ lt-ltb (length was) n h) ∙ ap (λ ys. ys ++ x ∷ []) e

-- a list emptied, and more elements where there is room
pub refilled : {X : Type 0} (was now more : List X) (t : Bool) (n : ℕ) → was ≡ [] → t ≡ leb (length was + length more) n → now ≡ cond t (was ++ more) was → length more ≤ n → now ≡ more
refilled was now more t n e f a h =
    let none : length was ≡ 0 = ap length e in
    a ∙ ap (λ b. cond b (was ++ more) was) (f ∙ le-leb (length was + length more) n (omega arith)) ∙ ap (λ xs. xs ++ more) e

needs_push : (j : ℕ) (vs : List Member) (v : Member) → needs j (vs ++ v ∷ []) ≡ needs j vs ++ needs_for (j + length vs) v.imports
needs_push j [] v = append-nil (needs_for j v.imports) ∙ ap (λ k. needs_for k v.imports) (sym (add-zero j))
needs_push j (w ∷ ws) v =
    let e : (j + 1) + length ws ≡ j + suc (length ws) = omega arith in
    ap (λ ns. needs_for j w.imports ++ ns) (needs_push (j + 1) ws v ∙ ap (λ k. needs (j + 1) ws ++ needs_for k v.imports) e)
    ∙ sym (append_assoc (needs_for j w.imports) (needs (j + 1) ws) (needs_for (j + suc (length ws)) v.imports))

-- the needs of one unit more
pub needs-more : (us : List Unit) (i : ℕ) (u : Unit) → i < length us → u ≡ get_or us i u → needs 0 (map member (take i us)) ++ needs_for i (held u.imports) ≡ needs 0 (map member (take (i + 1) us))
needs-more us i u h e =
    let l : length (map member (take i us)) ≡ length (take i us) = length-map (take i us) member in
    let part = length-take-le i us (omega arith) in
    let k : 0 + length (map member (take i us)) ≡ i = omega arith in
    ap (λ m. needs 0 (map member (take i us)) ++ needs_for m (held u.imports)) (sym k)
    ∙ sym (needs_push 0 (map member (take i us)) (member u))
    ∙ ap (needs 0) (sym (map-append member (take i us) (u ∷ [])))
    ∙ ap (λ xs. needs 0 (map member xs)) (ap (λ w. take i us ++ w ∷ []) e ∙ sym (take_more us i u h))

-- the units below i that lack nothing, with and without the one at i
module _ (test : ℕ → Bool) (i : ℕ) (was now : List ℕ) (inv : (k : ℕ) → placed was k ≡ (ltb k i && not (test k))) where
  pub whole-more : test i ≡ false → now ≡ was ++ i ∷ [] → (k : ℕ) → placed now k ≡ (ltb k (i + 1) && not (test k))
  whole-more t e k = grind (arith, common_steps, nat_tests, inv k, t, e)

  pub whole_same : test i ≡ true → now ≡ was → (k : ℕ) → placed now k ≡ (ltb k (i + 1) && not (test k))
  whole_same t e k = grind (arith, common_steps, nat_tests, inv k, t, e)
