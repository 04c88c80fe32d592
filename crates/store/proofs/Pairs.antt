-- Lists of pairs: look-ups, a pair taken out, put in or moved.
use Rattle.std.proofs.Common.{◌≡◌, ℕ, suc, ◌+◌, Bool, true, false, cond, not, ◌||◌, List, [], ◌∷◌, ◌++◌, length, is_some, Some, None, Option, sym, refl, ap, ◌∙◌, subst, arith, length-append}
use Rattle.std.specs.Str.{bytes_eq}
use Rattle.std.proofs.lemmas.Slice.Eq.{bytes_eq-Decides}
use Rattle.std.proofs.lemmas.Bool.{true≢false, and_parts, and_from, not-true, not_from_false, or_parts}
use Rattle.store.specs.Pairs.{Pair, pair, lookup, has, without, once, SamePairs}

-- a proof by the two values of a test
pub by_test : {P : Type 0} (b : Bool) → (b ≡ true → P) → (b ≡ false → P) → P
by_test true t f = t refl
by_test false t f = f refl

pub same_is : (a b : List ℕ) → bytes_eq a b ≡ true → a ≡ b
same_is a b e = (bytes_eq-Decides a b).0 e

pub same_refl : (a : List ℕ) → bytes_eq a a ≡ true
same_refl a = (bytes_eq-Decides a a).1 refl

pub none_from : {X : Type 0} (o : Option X) → is_some o ≡ false → o ≡ None
none_from None h = refl
none_from (Some x) h = absurd (true≢false h)

-- without q keeps the records of the other names
pub lookup_without_other : (q k : List ℕ) (ps : List Pair) → bytes_eq q k ≡ false → lookup (without q ps) k ≡ lookup ps k
lookup_without_other q k [] h = refl
lookup_without_other q k (p ∷ ps) h =
    by_test (bytes_eq p.key q)
    (λ e. let other : bytes_eq p.key k ≡ false = ap (λ x. bytes_eq x k) (same_is p.key q e) ∙ h in simp (e, other))
    (λ e. simp (e, lookup_without_other q k ps h))

-- of a list where no name stands twice, without q has no q
pub lookup_without_same : (q : List ℕ) (ps : List Pair) → once ps ≡ true → lookup (without q ps) q ≡ None
lookup_without_same q [] h = refl
lookup_without_same q (p ∷ ps) h =
    let parts = and_parts (not (has ps p.key)) (once ps) h in
    let gone : lookup ps p.key ≡ None = none_from (lookup ps p.key) (not-true (has ps p.key) parts.0) in
    by_test (bytes_eq p.key q)
    (λ e. let at : lookup ps q ≡ None = sym (ap (λ x. lookup ps x) (same_is p.key q e)) ∙ gone in simp (e, at))
    (λ e. simp (e, lookup_without_same q ps parts.1))

pub length_without : (q : List ℕ) (ps : List Pair) → length (without q ps) + cond (has ps q) 1 0 ≡ length ps
length_without q [] = refl
length_without q (p ∷ ps) =
    by_test (bytes_eq p.key q)
    (λ e. simp e (omega arith))
    (λ e. simp e (omega (arith, length_without q ps)))

pub without_none : (q : List ℕ) (ps : List Pair) → has ps q ≡ false → without q ps ≡ ps
without_none q [] h = refl
without_none q (p ∷ ps) h =
    by_test (bytes_eq p.key q)
    (λ e. absurd (true≢false (simp e at h)))
    (λ e. let rest : has ps q ≡ false = simp e at h in simp (e, without_none q ps rest))

-- two lists, one behind the other
pub lookup-append : (xs ys : List Pair) (q : List ℕ) → lookup (xs ++ ys) q ≡ cond (has xs q) (lookup xs q) (lookup ys q)
lookup-append [] ys q = refl
lookup-append (x ∷ xs) ys q =
    by_test (bytes_eq x.key q) (λ e. simp e) (λ e. simp (e, lookup-append xs ys q))

pub lookup_right : (xs ys : List Pair) (q : List ℕ) → has xs q ≡ false → lookup (xs ++ ys) q ≡ lookup ys q
lookup_right xs ys q h = simp (lookup-append, h)

pub has-append : (xs ys : List Pair) (q : List ℕ) → has (xs ++ ys) q ≡ (has xs q || has ys q)
has-append [] ys q = refl
has-append (x ∷ xs) ys q =
    by_test (bytes_eq x.key q) (λ e. simp e) (λ e. simp (e, has-append xs ys q))

-- the pair that stands behind a front without its name
pub lookup-at : (L R : List Pair) (k b : List ℕ) → has L k ≡ false → lookup (L ++ pair k b ∷ R) k ≡ Some b
lookup-at L R k b h = lookup_right L (pair k b ∷ R) k h ∙ simp (same_refl k)

pub without_at : (L R : List Pair) (k b : List ℕ) → has L k ≡ false → without k (L ++ pair k b ∷ R) ≡ L ++ R
without_at [] R k b h = simp (same_refl k)
without_at (p ∷ L) R k b h =
    by_test (bytes_eq p.key k)
    (λ e. absurd (true≢false (simp e at h)))
    (λ e. let rest : has L k ≡ false = simp e at h in simp (e, without_at L R k b rest))

pub length_in : (L R : List Pair) (p : Pair) → length (L ++ p ∷ R) ≡ suc (length (L ++ R))
length_in L R p = simp length-append (omega arith)

pub same_pairs_is : (xs ys : List Pair) → xs ≡ ys → SamePairs xs ys
same_pairs_is xs ys e = record { records = λ q. ap (λ x. lookup x q) e; number = ap length e }

-- a pair put in anywhere is a pair put in front
pub moved : (L R : List Pair) (k b : List ℕ) → has L k ≡ false → SamePairs (L ++ pair k b ∷ R) (pair k b ∷ (L ++ R))
moved L R k b h =
    record {
      records =
          λ q.
          by_test (bytes_eq k q)
          (λ e. let x : lookup (L ++ pair k b ∷ R) k ≡ Some b = lookup-at L R k b h in
          let y : lookup (L ++ pair k b ∷ R) q ≡ Some b = sym (ap (λ z. lookup (L ++ pair k b ∷ R) z) (same_is k q e)) ∙ x in
          y ∙ simp e)
          (λ e. lookup-append L (pair k b ∷ R) q ∙ (simp (e, lookup-append L R q)));
      number = length_in L R (pair k b);
    }

-- names stand once
pub has_out : (L R : List Pair) (p : Pair) (q : List ℕ) → has (L ++ p ∷ R) q ≡ false → (has (L ++ R) q ≡ false) × (bytes_eq p.key q ≡ false)
has_out [] R p q h =
    by_test (bytes_eq p.key q)
    (λ e. absurd (true≢false (simp e at h)))
    (λ e. let rest : has R q ≡ false = simp e at h in (rest, e))
has_out (x ∷ L) R p q h =
    by_test (bytes_eq x.key q)
    (λ e. absurd (true≢false (simp e at h)))
    (λ e. let rest : has (L ++ p ∷ R) q ≡ false = simp e at h in let out = has_out L R p q rest in let front : has (x ∷ (L ++ R)) q ≡ false = simp (e, out.0) in (front, out.1))

pub has_in : (L R : List Pair) (p : Pair) (q : List ℕ) → has (L ++ R) q ≡ false → bytes_eq p.key q ≡ false → has (L ++ p ∷ R) q ≡ false
has_in [] R p q h e = simp (e, h)
has_in (x ∷ L) R p q h e =
    by_test (bytes_eq x.key q)
    (λ f. absurd (true≢false (simp f at h)))
    (λ f. let rest : has (L ++ R) q ≡ false = simp f at h in simp (f, has_in L R p q rest e))

same_flip : (a b : List ℕ) → bytes_eq a b ≡ false → bytes_eq b a ≡ false
same_flip a b h =
    by_test (bytes_eq b a) (λ e. absurd (true≢false (sym (same_refl a) ∙ ap (λ x. bytes_eq a x) (sym (same_is b a e)) ∙ h))) (λ e. e)

pub once_out : (L R : List Pair) (p : Pair) → once (L ++ p ∷ R) ≡ true → (once (L ++ R) ≡ true) × (has (L ++ R) p.key ≡ false)
once_out [] R p h = let parts = and_parts (not (has R p.key)) (once R) h in (parts.1, not-true (has R p.key) parts.0)
once_out (x ∷ L) R p h =
    let parts = and_parts (not (has (L ++ p ∷ R) x.key)) (once (L ++ p ∷ R)) h in
    let rest = once_out L R p parts.1 in
    let out = has_out L R p x.key (not-true (has (L ++ p ∷ R) x.key) parts.0) in
    let apart : bytes_eq x.key p.key ≡ false = same_flip p.key x.key out.1 in
    let front : has (x ∷ (L ++ R)) p.key ≡ false = simp (apart, rest.1) in
    (and_from (not (has (L ++ R) x.key)) (once (L ++ R)) (not_from_false (has (L ++ R) x.key) out.0) rest.0, front)

pub once_in : (L R : List Pair) (p : Pair) → once (L ++ R) ≡ true → has (L ++ R) p.key ≡ false → once (L ++ p ∷ R) ≡ true
once_in [] R p h n = and_from (not (has R p.key)) (once R) (not_from_false (has R p.key) n) h
once_in (x ∷ L) R p h n =
    let parts = and_parts (not (has (L ++ R) x.key)) (once (L ++ R)) h in
    by_test (bytes_eq x.key p.key)
    (λ e. absurd (true≢false (simp e at n)))
    (λ e.
    let rest : has (L ++ R) p.key ≡ false = simp e at n in
    let free : has (L ++ p ∷ R) x.key ≡ false = has_in L R p x.key (not-true (has (L ++ R) x.key) parts.0) (same_flip x.key p.key e) in
    and_from (not (has (L ++ p ∷ R) x.key)) (once (L ++ p ∷ R)) (not_from_false (has (L ++ p ∷ R) x.key) free) (once_in L R p parts.1 rest))

-- a record put where the old one of its name stood
pub put_over : (L R : List Pair) (k b o : List ℕ) → has L k ≡ false → once (L ++ pair k o ∷ R) ≡ true → SamePairs (L ++ pair k b ∷ R) (pair k b ∷ without k (L ++ pair k o ∷ R)) × (once (L ++ pair k b ∷ R) ≡ true)
put_over L R k b o h u =
    let out = once_out L R (pair k o) u in
    (subst (λ (x : List Pair). SamePairs (L ++ pair k b ∷ R) (pair k b ∷ x)) (sym (without_at L R k o h)) (moved L R k b h), once_in L R (pair k b) out.0 out.1)

-- a record put under a new name
pub put-new : (L R : List Pair) (k b : List ℕ) → has (L ++ R) k ≡ false → once (L ++ R) ≡ true → SamePairs (L ++ pair k b ∷ R) (pair k b ∷ without k (L ++ R)) × (once (L ++ pair k b ∷ R) ≡ true)
put-new L R k b h u =
    let front : has L k ≡ false = (or_parts (has L k) (has R k) (sym (has-append L R k) ∙ h)).0 in
    (subst (λ (x : List Pair). SamePairs (L ++ pair k b ∷ R) (pair k b ∷ x)) (sym (without_none k (L ++ R) h)) (moved L R k b front), once_in L R (pair k b) u h)
