-- A walk through the records of a log.
use Rattle.std.proofs.Common.{◌≡◌, ℕ, zero, suc, ◌+◌, ◌-◌, ◌<◌, ◌≤◌, min, false, eqb, List, [], ◌∷◌, ◌++◌, length, take, drop, Some, None, Option, MatchOption, sym, refl, ap, ◌∙◌, subst, ⊎_elim, append_assoc, arith, length-drop}
use Rattle.std.proofs.lemmas.Bool.{cases_lt, eqb-false}
use Rattle.std.proofs.lemmas.List.{take_all, take_rest, drop-drop, length-take-le, nil_from_length, append-nil}
use Rattle.std.specs.Option.{option_map}
use Rattle.std.specs.List.{find}
use denote.Ref.{Bor}
use Rattle.store.specs.Pairs.{Pair, lookup, has}
use Rattle.store.proofs.Pairs.{by_test, none_from, lookup-at}
use Rattle.area.specs.Layout.{header_size, size, content, holds}
use Rattle.log_store.specs.Chain.{chain, records, placed, bytes_of, log_pairs, PlaceOf}
use Rattle.area.proofs.Records.{held_of}
use Rattle.log_store.proofs.Chained.{bytes_more, pairs_append, has-next}

-- as many steps as there are bytes reach the end
chain_enough : (n m : ℕ) (bs : List ℕ) → length bs ≤ n → length bs ≤ m → chain n bs ≡ chain m bs
chain_enough zero zero bs h l = refl
chain_enough zero (suc m) [] h l = refl
chain_enough zero (suc m) (b ∷ bs) h l = absurd (omega arith)
chain_enough (suc n) zero [] h l = refl
chain_enough (suc n) zero (b ∷ bs) h l = absurd (omega arith)
chain_enough (suc n) (suc m) [] h l = refl
chain_enough (suc n) (suc m) (b ∷ bs) h l =
    let k : ℕ = header_size + size (b ∷ bs) in
    let d = length-drop k (b ∷ bs) in
    ap (λ (x : List (List ℕ)). take k (b ∷ bs) ∷ x) (chain_enough n m (drop k (b ∷ bs)) (omega arith) (omega arith))

step_of : (ys : List ℕ) (at n : ℕ) → 0 < length ys → n ≡ min (length ys) (header_size + size ys) → placed at (records ys) ≡ (at, take n ys) ∷ placed (at + n) (records (drop n ys))
step_of [] at n h e = absurd (omega arith)
step_of (b ∷ bs) at n h e =
    let ys : List ℕ = b ∷ bs in
    let k : ℕ = header_size + size ys in
    let past : length ys ≤ k → n ≡ length ys = λ l. omega arith in
    let gone : (m : ℕ) → length ys ≤ m → drop m ys ≡ [] = λ m l. nil_from_length (drop m ys) (let d = length-drop m ys in omega arith) in
    let same : (take k ys ≡ take n ys) × (drop k ys ≡ drop n ys) =
    ⊎_elim {C = (take k ys ≡ take n ys) × (drop k ys ≡ drop n ys)}
    (λ l. let here : k ≡ n = omega arith in (ap (λ (m : ℕ). take m ys) here, ap (λ (m : ℕ). drop m ys) here))
    (λ l. (take_all k ys l ∙ sym (take_all n ys (omega arith)), gone k l ∙ sym (gone n (omega arith))))
    (cases_lt k (length ys)) in
    let long : length (take n ys) ≡ n = length-take-le n ys (omega arith) in
    let left = length-drop n ys in
    let rest : chain (length bs) (drop k ys) ≡ records (drop n ys) = ap (chain (length bs)) same.1 ∙ chain_enough (length bs) (length (drop n ys)) (drop n ys) (omega arith) (omega arith) in
    λ i. (at, same.0 i) ∷ placed (at + (ap length same.0 ∙ long) i) (rest i)

-- one record of the walk, and one fewer left
module _ (xs : List ℕ) (at n : ℕ) (more : eqb (length (take (length xs - at) (drop at xs))) 0 ≡ false) (is : n ≡ min (length (take (length xs - at) (drop at xs))) (header_size + size (take (length xs - at) (drop at xs)))) where
  pub walk_step : placed at (records (drop at xs)) ≡ (at, take n (take (length xs - at) (drop at xs))) ∷ placed (at + n) (records (drop (at + n) xs))
  walk_step =
      let rest : take (length xs - at) (drop at xs) ≡ drop at xs = take_rest xs at in
      let some : 0 < length (drop at xs) = (let ne = eqb-false (length (take (length xs - at) (drop at xs))) 0 more in let same = ap length rest in omega arith) in
      step_of (drop at xs) at n some (is ∙ ap (λ (ys : List ℕ). min (length ys) (header_size + size ys)) rest)
      ∙ (λ i. (at, take n (sym rest i)) ∷ placed (at + n) (records (drop-drop n at xs i)))

-- what the first record of a name among these is, and where it begins
abbrev Found : List (List ℕ) → List ℕ → Option (ℕ × List ℕ) → Type 0
Found ps q o = MatchOption o (has (log_pairs ps) q ≡ false) (λ r. PlaceOf ps q r.0) × (lookup (log_pairs ps) q ≡ option_map (λ r. content r.1) o)

search_finds : (q : List ℕ) (pre ps : List (List ℕ)) → has (log_pairs pre) q ≡ false → Found (pre ++ ps) q (find (λ r. holds r.1 q) (placed (length (bytes_of pre)) ps))
search_finds q pre [] none =
    let gone : has (log_pairs (pre ++ [])) q ≡ false = ap (λ (x : List (List ℕ)). has (log_pairs x) q) (append-nil pre) ∙ none in
    (gone, none_from (lookup (log_pairs (pre ++ [])) q) gone)
search_finds q pre (p ∷ ps) none =
    by_test (holds p q)
    (λ e.
    let look : lookup (log_pairs (pre ++ p ∷ ps)) q ≡ Some (content p) =
    ap (λ (x : List Pair). lookup x q) (pairs_append pre (p ∷ ps) ∙ ap (λ (x : List Pair). log_pairs pre ++ (x ++ log_pairs ps)) (held_of p q e)) ∙ lookup-at (log_pairs pre) (log_pairs ps) q (content p) none in
    let here : Found (pre ++ p ∷ ps) q (Some (length (bytes_of pre), p)) = (record { ahead = pre; piece = p; behind = ps; whole = refl; place = refl; this = e; first = none }, look) in
    let hit : find (λ r. holds r.1 q) (placed (length (bytes_of pre)) (p ∷ ps)) ≡ Some (length (bytes_of pre), p) = simp e in
    subst (Found (pre ++ p ∷ ps) q) (sym hit) here)
    (λ e.
    let on : Found ((pre ++ p ∷ []) ++ ps) q (find (λ r. holds r.1 q) (placed (length (bytes_of (pre ++ p ∷ []))) ps)) = search_finds q (pre ++ p ∷ []) ps (has-next pre p q none e) in
    let same : (pre ++ p ∷ []) ++ ps ≡ pre ++ p ∷ ps = append_assoc pre (p ∷ []) ps in
    let at : length (bytes_of (pre ++ p ∷ [])) ≡ length (bytes_of pre) + length p = bytes_more pre p in
    let there : Found (pre ++ p ∷ ps) q (find (λ r. holds r.1 q) (placed (length (bytes_of pre) + length p) ps)) = subst (λ (x : List (List ℕ)). Found x q (find (λ r. holds r.1 q) (placed (length (bytes_of pre) + length p) ps))) same (subst (λ (n : ℕ). Found ((pre ++ p ∷ []) ++ ps) q (find (λ r. holds r.1 q) (placed n ps))) at on) in
    let miss : find (λ r. holds r.1 q) (placed (length (bytes_of pre)) (p ∷ ps)) ≡ find (λ r. holds r.1 q) (placed (length (bytes_of pre) + length p) ps) = simp e in
    subst (Found (pre ++ p ∷ ps) q) (sym miss) there)

-- a walk that stopped at the first record of a name
pub walk_finds : (ps : List (List ℕ)) (q : List ℕ) (o : Option (ℕ × Bor (List ℕ))) → option_map (λ r. (r.0, r.1.now)) o ≡ find (λ r. holds r.1 q) (placed 0 ps) → MatchOption o (has (log_pairs ps) q ≡ false) (λ r. PlaceOf ps q r.0) × (lookup (log_pairs ps) q ≡ option_map (λ r. content r.1.now) o)
walk_finds ps q o e = by o (subst (Found ps q) (sym e) (search_finds q [] ps refl))
  where
    by : (o : Option (ℕ × Bor (List ℕ))) → Found ps q (option_map (λ r. (r.0, r.1.now)) o) → MatchOption o (has (log_pairs ps) q ≡ false) (λ r. PlaceOf ps q r.0) × (lookup (log_pairs ps) q ≡ option_map (λ r. content r.1.now) o)
    by None f = f
    by (Some r) f = f
