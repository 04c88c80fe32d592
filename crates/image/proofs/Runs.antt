-- A loop that reads the rows of one unit, one a turn.
use Rattle.std.proofs.Common.{◌≡◌, ℕ, zero, suc, ◌-◌, ◌<◌, true, false, cond, List, [], ◌∷◌, ◌++◌, length, drop, Some, None, Option, sym, refl, ap, ◌∙◌, append_assoc, append-nil, arith}
use Rattle.std.proofs.lemmas.List.{length_push}
use Rattle.std.proofs.lemmas.Bool.{true≢false}
use Rattle.codec.specs.Format.{next, begins}
use Rattle.image.specs.Dealt.{run}

-- rows before those that were read
abbrev pub onto_run : {X : Type 0} → List X → Option ((List X × ℕ) × List ℕ) → Option ((List X × ℕ) × List ℕ)
onto_run acc None = None
onto_run acc (Some p) = Some ((acc ++ p.0.0, p.0.1), p.1)

module _ {X : Type 0} (get : List ℕ → Option (X × List ℕ)) (unit : ℕ) where
  onto-one : (acc : List X) (x : X) (o : Option ((List X × ℕ) × List ℕ)) → onto_run (acc ++ x ∷ []) o ≡ onto_run acc (next o (λ p ds. Some ((x ∷ p.0, p.1), ds)))
  onto-one acc x None = refl
  onto-one acc x (Some p) = ap (λ zs. Some ((zs, p.0.1), p.1)) (append_assoc acc (x ∷ []) p.0.0)

  abbrev more : ℕ → ℕ → X → List ℕ → Option ((List X × ℕ) × List ℕ)
  more room rows x cs = next (run get unit room rows cs) (λ p ds. Some ((x ∷ p.0, p.1), ds))

  -- a row of the unit stands first
  run_row : (room rows : ℕ) (bs : List ℕ) → begins unit bs ≡ true → run get unit (suc room) (suc rows) bs ≡ next (get (drop 1 bs)) (more room rows)
  run_row room rows [] h = absurd (true≢false (sym h))
  run_row room rows (b ∷ bs) h = ap (λ t. cond t (next (get bs) (more room rows)) (Some (([], suc rows), b ∷ bs))) h

  pub run_other : (room rows : ℕ) (bs : List ℕ) → begins unit bs ≡ false → run get unit room rows bs ≡ Some (([], rows), bs)
  run_other room zero bs h = refl
  run_other room (suc rows) [] h = refl
  run_other zero (suc rows) (b ∷ bs) h = ap (λ t. cond t None (Some (([], suc rows), b ∷ bs))) h
  run_other (suc room) (suc rows) (b ∷ bs) h = ap (λ t. cond t (next (get bs) (more room rows)) (Some (([], suc rows), b ∷ bs))) h

  -- the turn with n rows to come, where R is what all give
  module _ (N n : ℕ) (bs cs : List ℕ) (acc : List X) (R : Option ((List X × ℕ) × List ℕ)) (h : 0 < n) (first : begins unit bs ≡ true) (rest : cs ≡ drop 1 bs)
      (inv : onto_run acc (run get unit (N - length acc) n bs) ≡ R) where
    pub run_goes : (x : X) (ds : List ℕ) (now : List X) → now ≡ acc ++ x ∷ [] → length acc < N → Some (x, ds) ≡ get cs → onto_run now (run get unit (N - length now) (n - 1) ds) ≡ R
    run_goes x ds now e f read =
        let l : length now ≡ suc (length acc) = ap length e ∙ length_push acc x ∙ omega arith in
        let room : N - length now ≡ N - suc (length acc) = ap (λ k. N - k) l in
        let split : N - length acc ≡ suc (N - suc (length acc)) = omega arith in
        let rows : n ≡ suc (n - 1) = omega arith in
        ap (λ k. onto_run now (run get unit k (n - 1) ds)) room
        ∙ ap (λ xs. onto_run xs (run get unit (N - suc (length acc)) (n - 1) ds)) e
        ∙ onto-one acc x (run get unit (N - suc (length acc)) (n - 1) ds)
        ∙ ap (λ o. onto_run acc (next o (more (N - suc (length acc)) (n - 1)))) (read ∙ ap get rest)
        ∙ ap (onto_run acc) (sym (run_row (N - suc (length acc)) (n - 1) bs first))
        ∙ sym (λ i. onto_run acc (run get unit (split i) (rows i) bs)) ∙ inv

  pub run_stops : (N n : ℕ) (bs cs : List ℕ) (acc : List X) (R : Option ((List X × ℕ) × List ℕ)) → begins unit bs ≡ false → cs ≡ bs → onto_run acc (run get unit (N - length acc) n bs) ≡ R → Some ((acc, n), cs) ≡ R
  run_stops N n bs cs acc R h same inv =
      ap (λ xs. Some ((acc, n), xs)) same ∙ sym (ap (onto_run acc) (run_other (N - length acc) n bs h) ∙ ap (λ xs. Some ((xs, n), bs)) (append-nil acc)) ∙ inv
