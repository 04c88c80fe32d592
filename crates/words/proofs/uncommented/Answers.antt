use Rattle.std.proofs.Common.{rules, tests, ◌≡◌, ℕ, ◌≤◌, cond, not, ltb, eqb, length, take, unwrap_or, Some, None, ap, ◌∙◌, inl, inr, arith}
use Rattle.std.specs.List.{position_or_len}
use Rattle.std.proofs.lemmas.Bool.{lt-ltb, le-ltb, cases_lt}
use Rattle.std.proofs.lemmas.List.Sums.{prefix_len-le-length}
use Rattle.std.proofs.lemmas.Iterator.{YieldsList-from_slice}
use Rattle.std.proofs.lemmas.Iterator.Search.{position_from_yields_List}
use Rattle.words.proofs.uncommented.Goals as goal

-- a place below n, or n itself
below : (p n : ℕ) → p ≤ n → unwrap_or (cond (ltb p n) (Some p) None) n ≡ p
below p n h =
    elim (cases_lt p n) [
      | inl l ↦ ap (λ b. unwrap_or (cond b (Some p) None) n) (lt-ltb p n l)
      | inr l ↦ let e : n ≡ p = omega arith in ap (λ b. unwrap_or (cond b (Some p) None) n) (le-ltb p n l) ∙ e
    ]

pub returns : goal.returns
returns c =
    let xs = c.args.line.now in
    let at = position_from_yields_List (λ b. eqb b 35) _ _ c.position.result c.position.ensures.ran (YieldsList-from_slice _ c.iter.ensures.rest) (λ x b q k. search (rules, tests)) in
    ap (λ n. take n xs)
    (c.unwrap_or-end.ensures ∙ ap (λ r. unwrap_or r (length xs)) at ∙ below (position_or_len (λ b. eqb b 35) xs) (length xs) (prefix_len-le-length (λ b. not (eqb b 35)) xs))
