-- Pieces that are put one behind the other, into a list or a buffer, are put as one.
use Rattle.std.specs.Prelude.{◌≡◌, ℕ, ◌+◌, ◌-◌, List, [], ◌++◌, length, drop}
use Rattle.std.proofs.Common.{sym, ap, ◌∙◌, append_assoc, append-nil, arith, length-append, length-drop}
use Rattle.std.proofs.lemmas.List.{drop-drop}
use Rattle.codec.specs.Adding.{Adds, Lays}

pub adds_none : (most : ℕ) (u : List ℕ) → Adds most u [] u
adds_none most u h = sym (append-nil u)

pub adds_both : (most : ℕ) (u a v b w : List ℕ) → Adds most u a v → Adds most v b w → Adds most u (a ++ b) w
adds_both most u a v b w f g h =
    let n : length (a ++ b) ≡ length a + length b = length-append a b in
    let e : v ≡ u ++ a = f (omega arith) in
    let m : length v ≡ length u + length a = ap length e ∙ length-append u a in
    g (omega arith) ∙ ap (λ xs. xs ++ b) e ∙ append_assoc u a b

pub lays_none : (at : ℕ) (u : List ℕ) → Lays at [] u u at
lays_none at u front back e l h = (e ∙ ap (λ xs. xs ++ back) (sym (append-nil front)), omega arith)

pub lays_both : (at : ℕ) (a b u v w : List ℕ) (m n : ℕ) → Lays at a u v m → Lays m b v w n → Lays at (a ++ b) u w n
lays_both at a b u v w m n f g front back e l h =
    let sum : length (a ++ b) ≡ length a + length b = length-append a b in
    let p = f front back e l (omega arith) in
    let k : length (front ++ a) ≡ m = length-append front a ∙ ap (λ x. x + length a) l ∙ sym p.1 in
    let left : length (drop (length a) back) ≡ length back - length a = length-drop (length a) back in
    let q = g (front ++ a) (drop (length a) back) p.0 k (omega arith) in
    let end : m ≡ at + length a = p.1 in
    let far : n ≡ m + length b = q.1 in (
      q.0 ∙ (λ i. append_assoc front a b i ++ drop-drop (length b) (length a) back i) ∙ ap (λ x. (front ++ (a ++ b)) ++ drop x back) (sym sum),
      omega arith,
    )
