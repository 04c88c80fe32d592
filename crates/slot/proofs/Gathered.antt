-- What places give, one behind the other.
use Rattle.std.proofs.Common.{◌≡◌, ℕ, zero, suc, ◌+◌, ◌-◌, ◌<◌, ◌≤◌, true, false, List, ◌++◌, length, sym, refl, ap, ◌∙◌, append_assoc, add-zero, suc-add, zero-add, arith, length-append}
use Rattle.std.proofs.lemmas.List.{append-nil}
use Rattle.std.proofs.lemmas.Bool.{or_from}
use Rattle.store.specs.Pairs.{Pair, has}
use Rattle.store.proofs.Pairs.{has-append}
use Rattle.area.specs.Layout.{live, held}
use Rattle.slot.specs.Slots.{gather}

pub gather-split : (f : ℕ → List Pair) (a b m : ℕ) → gather f a (b + m) ≡ gather f a b ++ gather f (a + b) m
gather-split f a zero m = ap (gather f a) (zero-add m) ∙ ap (λ (x : ℕ). gather f x m) (sym (add-zero a))
gather-split f a (suc b) m =
    let same : suc a + b ≡ a + suc b = omega arith in
    ap (gather f a) (suc-add b m)
    ∙ ap (λ (x : List Pair). f a ++ x) (gather-split f (suc a) b m)
    ∙ sym (append_assoc (f a) (gather f (suc a) b) (gather f (suc a + b) m))
    ∙ ap (λ (x : ℕ). (f a ++ gather f (suc a) b) ++ gather f x m) same

pub gather-same : (f g : ℕ → List Pair) (a n : ℕ) → ((k : ℕ) → a ≤ k → k < a + n → f k ≡ g k) → gather f a n ≡ gather g a n
gather-same f g a zero h = refl
gather-same f g a (suc n) h =
    let here : f a ≡ g a = h a (omega arith) (omega arith) in
    let rest : gather f (suc a) n ≡ gather g (suc a) n = gather-same f g (suc a) n (λ k l u. h k (omega arith) (omega arith)) in
    λ i. here i ++ rest i

pub gather-more : (f : ℕ → List Pair) (i : ℕ) → gather f 0 (i + 1) ≡ gather f 0 i ++ f i
gather-more f i =
    gather-split f 0 i 1 ∙ ap (λ (x : List Pair). gather f 0 i ++ x) (append-nil (f (0 + i))) ∙ ap (λ (x : ℕ). gather f 0 i ++ f x) (zero-add i)

-- the places ahead of i, the place i and those behind it
pub gather-at : (f : ℕ → List Pair) (n i : ℕ) → i < n → gather f 0 n ≡ gather f 0 i ++ (f i ++ gather f (suc i) (n - suc i))
gather-at f n i h =
    let e : n ≡ i + suc (n - suc i) = omega arith in
    ap (gather f 0) e ∙ gather-split f 0 i (suc (n - suc i)) ∙ ap (λ (x : ℕ). gather f 0 i ++ (f x ++ gather f (suc x) (n - suc i))) (zero-add i)

pub length-gather : (f : ℕ → List Pair) (a n : ℕ) → ((k : ℕ) → length (f k) ≤ 1) → length (gather f a n) ≤ n
length-gather f a zero h = omega arith
length-gather f a (suc n) h = let rest = length-gather f (suc a) n h in let here = h a in simp length-append (omega arith)

pub has_more : (f : ℕ → List Pair) (i : ℕ) (q : List ℕ) → has (gather f 0 i) q ≡ false → has (f i) q ≡ false → has (gather f 0 (i + 1)) q ≡ false
has_more f i q h e = ap (λ (x : List Pair). has x q) (gather-more f i) ∙ has-append (gather f 0 i) (f i) q ∙ or_from (has (gather f 0 i) q) (has (f i) q) h e

pub length_more : (f : ℕ → List Pair) (i : ℕ) → length (gather f 0 i) ≡ i → length (f i) ≡ 1 → length (gather f 0 (i + 1)) ≡ i + 1
length_more f i h e = ap length (gather-more f i) ∙ simp length-append (omega arith)

pub length-held : (p : List ℕ) → live p ≡ true → length (held p) ≡ 1
length-held p h = simp h
