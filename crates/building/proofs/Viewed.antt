-- A store's pairs after a put, in whatever order.
use Rattle.std.proofs.Common.{◌≡◌, ℕ, suc, ◌+◌, Bool, true, false, cond, eqb, List, ◌∷◌, length, Some, sym, refl, ap, ◌∙◌, arith}
use Rattle.std.specs.Str.{bytes_eq}
use Rattle.store.specs.Pairs.{Pair, pair, lookup, has, without, SamePairs}
use Rattle.store.specs.Says.{put_pairs}
use Rattle.store.proofs.Pairs.{lookup_without_other, length_without}
use Rattle.ledger.specs.Stored.{view, view_put}

put_view : (q bs : List ℕ) (ps : List Pair) → view (pair q bs ∷ without q ps) ≡ view_put q bs (view ps)
put_view q bs ps = λ i. record { at = λ p. here p (bytes_eq q p) refl i; number = count (has ps q) (length_without q ps) i }
  where
    here : (p : List ℕ) (b : Bool) → bytes_eq q p ≡ b → cond (bytes_eq q p) (Some bs) (lookup (without q ps) p) ≡ cond (bytes_eq q p) (Some bs) (lookup ps p)
    here p true e = ap (λ c. cond c (Some bs) (lookup (without q ps) p)) e ∙ sym (ap (λ c. cond c (Some bs) (lookup ps p)) e)
    here p false e = ap (λ y. cond (bytes_eq q p) (Some bs) y) (lookup_without_other q p ps e)

    count : (b : Bool) → length (without q ps) + cond b 1 0 ≡ length ps → suc (length (without q ps)) ≡ length ps + cond b 0 1
    count true r = omega arith
    count false r = omega arith

same_view : (xs ys : List Pair) → SamePairs xs ys → view xs ≡ view ys
same_view xs ys h = λ i. record { at = λ q. h.records q i; number = h.number i }

-- the pairs after a put with this number
pub put_viewed : (n : ℕ) (before after : List Pair) (q bs : List ℕ) → SamePairs after (put_pairs n before q bs) → view after ≡ cond (eqb n 0) (view_put q bs (view before)) (view before)
put_viewed n before after q bs h = same_view after (put_pairs n before q bs) h ∙ by (eqb n 0)
  where
    by : (b : Bool) → view (cond b (pair q bs ∷ without q before) before) ≡ cond b (view_put q bs (view before)) (view before)
    by true = put_view q bs before
    by false = refl
