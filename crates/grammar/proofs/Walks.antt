-- The turns of the loop over the tokens of a unit.
use Rattle.std.proofs.Common.{◌≡◌, ℕ, ◌+◌, ◌-◌, ◌<◌, ◌≤◌, min, Bool, true, false, cond, List, [], ◌∷◌, ◌++◌, length, get_or, take, drop, Some, None, Option, Ok, Err, Result, sym, ap, ◌∙◌, ⊎_elim, arith}
use Rattle.std.proofs.lemmas.List.{take_all, drop_all, length-take, length-append}
use Rattle.std.proofs.lemmas.Slice.{between_is}
use Rattle.std.proofs.lemmas.Bool.{cases_lt}
use Rattle.names.specs.declared.refusal.Fault.{Fault}
use Rattle.tokens.specs.declared.token.Token.{Token}
use Rattle.grammar.specs.declared.declaration.Declared.{Declared}
use Rattle.grammar.specs.declared.declaration.Declaration.{Declaration}
use Rattle.grammar.specs.declared.flaw.Flaw.{Flaw}
use Rattle.grammar.specs.Line.{said}
use Rattle.grammar.specs.Walk.{ends, noted, onward, walk}
use Rattle.grammar.proofs.Turns.{turn}

-- a part within the list is the part that was asked for
pub part-min : {X : Type 0} (xs : List X) (s e e' s' : ℕ) → e' ≡ min e (length xs) → s' ≡ min s e' → take (e' - s') (drop s' xs) ≡ take (e - s) (drop s xs)
part-min xs s e e' s' p q =
    let front : take e' xs ≡ take e xs = ⊎_elim (λ (h : e < length xs). let k : e' ≡ e = omega arith in ap (λ n. take n xs) k) (λ (h : length xs ≤ e). take_all e' xs (omega arith) ∙ sym (take_all e xs h)) (cases_lt e (length xs)) in
    let long = length-take e xs in
    let back : drop s' (take e xs) ≡ drop s (take e xs) = ⊎_elim (λ (h : s < e'). let k : s' ≡ s = omega arith in ap (λ n. drop n (take e xs)) k) (λ (h : e' ≤ s). drop_all s' (take e xs) (omega arith) ∙ sym (drop_all s (take e xs) (omega arith))) (cases_lt s e') in
    between_is xs s' e' ∙ ap (drop s') front ∙ back ∙ sym (between_is xs s e)

module _ (all : List Token) (start i line : ℕ) (ds : List Declaration) (r : Result (List Declaration) Fault) (t : Token) (e : Bool)
    (inv : walk all start i line ds (drop i all) ≡ r) (h : i < length all) (at : t ≡ get_or all i t) (says : e ≡ ends t) where
  there : cond e (onward (noted line start i (said line (take (i - start) (drop start all))) ds) (λ more. walk all (i + 1) (i + 1) (line + 1) more (drop (i + 1) all))) (walk all start (i + 1) line ds (drop (i + 1) all)) ≡ r
  there = ap (λ b. cond b (onward (noted line start i (said line (take (i - start) (drop start all))) ds) (λ more. walk all (i + 1) (i + 1) (line + 1) more (drop (i + 1) all))) (walk all start (i + 1) line ds (drop (i + 1) all))) says
      ∙ turn (walk all start i line ds) all i r inv t h at

  pub stays : e ≡ false → walk all start (i + 1) line ds (drop (i + 1) all) ≡ r
  stays f = sym (ap (λ b. cond b (onward (noted line start i (said line (take (i - start) (drop start all))) ds) (λ more. walk all (i + 1) (i + 1) (line + 1) more (drop (i + 1) all))) (walk all start (i + 1) line ds (drop (i + 1) all))) f) ∙ there

  ended : e ≡ true → onward (noted line start i (said line (take (i - start) (drop start all))) ds) (λ more. walk all (i + 1) (i + 1) (line + 1) more (drop (i + 1) all)) ≡ r
  ended f = sym (ap (λ b. cond b (onward (noted line start i (said line (take (i - start) (drop start all))) ds) (λ more. walk all (i + 1) (i + 1) (line + 1) more (drop (i + 1) all))) (walk all start (i + 1) line ds (drop (i + 1) all))) f) ∙ there

  module _ (v : Result (Option Declared) Flaw) (is : v ≡ said line (take (i - start) (drop start all))) where
    pub goes : (more : List Declaration) → e ≡ true → Ok more ≡ noted line start i v ds → walk all (i + 1) (i + 1) (line + 1) more (drop (i + 1) all) ≡ r
    goes more f n = ap (λ k. onward k (λ ms. walk all (i + 1) (i + 1) (line + 1) ms (drop (i + 1) all))) (n ∙ ap (λ w. noted line start i w ds) is) ∙ ended f

    pub stops : (fault : Fault) → e ≡ true → Err fault ≡ noted line start i v ds → Err fault ≡ r
    stops fault f n = ap (λ k. onward k (λ ms. walk all (i + 1) (i + 1) (line + 1) ms (drop (i + 1) all))) (n ∙ ap (λ w. noted line start i w ds) is) ∙ ended f

-- a line adds at most one declaration
pub noted_few : (line start end : ℕ) (v : Result (Option Declared) Flaw) (ds more : List Declaration) → Ok more ≡ noted line start end v ds → length more ≤ length ds + 1
noted_few line start end (Ok None) ds more e = let k : more ≡ ds = cc in omega (arith, ap length k)
noted_few line start end (Err flaw) ds more e = let z : ◌≡◌ {A = ℕ} 0 1 = cc in omega arith
noted_few line start end (Ok (Some d)) ds more e =
    let k : more ≡ ds ++ record { kind = d.kind; name = d.name; line = line; start = start + 3; end = end } ∷ [] = cc in
    omega (arith, ap length k, length-append ds (record { kind = d.kind; name = d.name; line = line; start = start + 3; end = end } ∷ []))
