-- The copies stay true: what put, get and drop leave of them agrees with the store below.
use Rattle.std.proofs.Common.{◌≡◌, ℕ, zero, suc, true, false, not, eqb, leb, List, [], ◌∷◌, length, take, is_some, IfOk, Some, None, Option, Result, sym, refl, ap, ◌∙◌, subst, arith}
use Rattle.std.specs.Option.{option_map}
use Rattle.std.specs.Str.{bytes_eq}
use Rattle.std.proofs.lemmas.Bool.{true≢false, and_parts, and_from, not-true, not_from_false}
use Rattle.names.specs.declared.refusal.Refusal.{Refusal}
use Rattle.names.specs.declared.refusal.Refusal.TheVariants.{NotAName, SourceTooLong, TooManyImports, TooManyUnits, NoSuchUnit, TooManyRows, ImportMissing, ImportCircle, Faulty, StoreFull, RecordTooLong, BufferTooShort, NotBuilt, ImageTooLong, EntryMissing, NotAnImage, NotAnArtifact}
use Rattle.names.specs.Refusals.{number, answer}
use Rattle.store.specs.Pairs.{Pair, pair, lookup, has, without, once, SamePairs}
use Rattle.store.specs.Says.{get_number, get_buffer, PutSays, GetSays}
use Rattle.store.proofs.Pairs.{by_test, same_is, same_refl, lookup_without_other, lookup_without_same}
use Rattle.cache.specs.Recent.{admitted, after_put, after_get, Agrees, TrueCopies}

-- a front of a list
has-take : (n : ℕ) (xs : List Pair) (q : List ℕ) → has xs q ≡ false → has (take n xs) q ≡ false
has-take zero xs q h = refl
has-take (suc n) [] q h = refl
has-take (suc n) (x ∷ xs) q h =
    by_test (bytes_eq x.key q)
    (λ e. absurd (true≢false (simp e at h)))
    (λ e. let rest : has xs q ≡ false = simp e at h in simp (e, has-take n xs q rest))

once-take : (n : ℕ) (xs : List Pair) → once xs ≡ true → once (take n xs) ≡ true
once-take zero xs h = refl
once-take (suc n) [] h = refl
once-take (suc n) (x ∷ xs) h =
    let parts = and_parts (not (has xs x.key)) (once xs) h in
    and_from (not (has (take n xs) x.key)) (once (take n xs)) (not_from_false (has (take n xs) x.key) (has-take n xs x.key (not-true (has xs x.key) parts.0))) (once-take n xs parts.1)

lookup-take : (n : ℕ) (xs : List Pair) (q v : List ℕ) → lookup (take n xs) q ≡ Some v → lookup xs q ≡ Some v
lookup-take zero xs q v h = let z : ◌≡◌ {A = ℕ} 0 1 = cc in absurd (omega arith)
lookup-take (suc n) [] q v h = h
lookup-take (suc n) (x ∷ xs) q v h =
    by_test (bytes_eq x.key q)
    (λ e. let g : Some x.bytes ≡ Some v = simp e at h in simp e g)
    (λ e. let g : lookup (take n xs) q ≡ Some v = simp e at h in simp e (lookup-take n xs q v g))

-- one name less
has-without : (q : List ℕ) (xs : List Pair) (k : List ℕ) → has xs k ≡ false → has (without q xs) k ≡ false
has-without q [] k h = refl
has-without q (x ∷ xs) k h =
    by_test (bytes_eq x.key k)
    (λ e. absurd (true≢false (simp e at h)))
    (λ e.
    let rest : has xs k ≡ false = simp e at h in
    by_test (bytes_eq x.key q) (λ f. simp f rest) (λ f. simp (f, e, has-without q xs k rest)))

pub once-without : (q : List ℕ) (xs : List Pair) → once xs ≡ true → once (without q xs) ≡ true
once-without q [] h = refl
once-without q (x ∷ xs) h =
    let parts = and_parts (not (has xs x.key)) (once xs) h in
    by_test (bytes_eq x.key q)
    (λ e. simp e parts.1)
    (λ e. simp e (and_from (not (has (without q xs) x.key)) (once (without q xs)) (not_from_false (has (without q xs) x.key) (has-without q xs x.key (not-true (has xs x.key) parts.0))) (once-without q xs parts.1)))

-- a drop
without_agrees : (q : List ℕ) (xs ps ps' : List Pair) → once xs ≡ true → Agrees xs ps → ((k : List ℕ) → bytes_eq q k ≡ false → lookup ps' k ≡ lookup ps k) → Agrees (without q xs) ps'
without_agrees q xs ps ps' u a same k v h =
    by_test (bytes_eq q k)
    (λ e.
    let gone : lookup (without q xs) k ≡ None = sym (ap (λ (x : List ℕ). lookup (without q xs) x) (same_is q k e)) ∙ lookup_without_same q xs u in
    let z : ◌≡◌ {A = ℕ} 0 1 = cc in absurd (omega arith))
    (λ e. same k e ∙ a k v (sym (lookup_without_other q k xs e) ∙ h))

pub drop_true : (q : List ℕ) (xs ps ps' : List Pair) → TrueCopies xs ps → SamePairs ps' (without q ps) → TrueCopies (without q xs) ps'
drop_true q xs ps ps' t s = (once-without q xs t.0, without_agrees q xs ps ps' t.0 t.1 (λ k e. s.records k ∙ lookup_without_other q k ps e))

-- a record taken in, which is the one below
pub admit_true : (q bs : List ℕ) (xs ps ps' : List Pair) → TrueCopies xs ps → lookup ps' q ≡ Some bs → ((k : List ℕ) → bytes_eq q k ≡ false → lookup ps' k ≡ lookup ps k) → TrueCopies (admitted q bs xs) ps'
admit_true q bs xs ps ps' t here same =
    let ys : List Pair = pair q bs ∷ without q xs in
    let u : once (without q xs) ≡ true = once-without q xs t.0 in
    let free : has (without q xs) q ≡ false = ap is_some (lookup_without_same q xs t.0) in
    let uy : once ys ≡ true = and_from (not (has (without q xs) q)) (once (without q xs)) (not_from_false (has (without q xs) q) free) u in
    let rest : Agrees (without q xs) ps' = without_agrees q xs ps ps' t.0 t.1 same in
    let ay : Agrees ys ps' =
    λ k v h.
    by_test (bytes_eq q k)
    (λ e. let g : Some bs ≡ Some v = simp e at h in ap (λ (x : List ℕ). lookup ps' x) (sym (same_is q k e)) ∙ here ∙ g)
    (λ e. let g : lookup (without q xs) k ≡ Some v = simp e at h in rest k v g) in
    by_test (leb (length bs) 1896)
    (λ e. simp e ((once-take 4 ys uy, λ k v h. ay k v (lookup-take 4 ys k v h))))
    (λ e. simp e ((u, rest)))

-- after a put
pub put_true : (limit rows n : ℕ) (q bs : List ℕ) (xs ps ps' : List Pair) → TrueCopies xs ps → PutSays limit rows ps ps' q bs n → TrueCopies (after_put n q bs xs) ps'
put_true limit rows n q bs xs ps ps' t says =
    let same = says.pairs in
    by_test (eqb n 0)
    (λ e.
    let s : SamePairs ps' (pair q bs ∷ without q ps) = simp e at same in
    let here : lookup ps' q ≡ Some bs = s.records q ∙ simp (same_refl q) in
    simp e (admit_true q bs xs ps ps' t here (λ k f. s.records k ∙ simp (f, lookup_without_other q k ps f))))
    (λ e. let s : SamePairs ps' ps = simp e at same in simp e ((t.0, λ k v h. s.records k ∙ t.1 k v h)))

-- after a get
pub get_true : (o : Option (List ℕ)) (room : ℕ) (q : List ℕ) (xs ps ps' : List Pair) → TrueCopies xs ps → ps' ≡ ps → lookup ps q ≡ o → TrueCopies (after_get o room q xs) ps'
get_true None room q xs ps ps' t e o = subst (λ (x : List Pair). TrueCopies xs x) (sym e) t
get_true (Some bs) room q xs ps ps' t e o =
    subst (λ (x : List Pair). TrueCopies (after_get (Some bs) room q xs) x) (sym e)
    (by_test (leb (length bs) room) (λ f. simp f (admit_true q bs xs ps ps t o (λ k g. refl))) (λ f. simp f t))

-- no refusal has the number 0
pub refused_number : (e : Refusal) → number e ≡ 0 → ⊥
refused_number NotAName h = omega arith
refused_number SourceTooLong h = omega arith
refused_number TooManyImports h = omega arith
refused_number TooManyUnits h = omega arith
refused_number NoSuchUnit h = omega arith
refused_number TooManyRows h = omega arith
refused_number (ImportMissing unit position) h = omega arith
refused_number (ImportCircle unit) h = omega arith
refused_number (Faulty unit fault) h = omega arith
refused_number (StoreFull unit) h = omega arith
refused_number (RecordTooLong unit) h = omega arith
refused_number BufferTooShort h = omega arith
refused_number NotBuilt h = omega arith
refused_number ImageTooLong h = omega arith
refused_number (EntryMissing unit reference) h = omega arith
refused_number NotAnImage h = omega arith
refused_number NotAnArtifact h = omega arith

-- a name with a copy has the copy's record below
pub same_below : (xs ps : List Pair) (q : List ℕ) → Agrees xs ps → is_some (lookup xs q) ≡ true → lookup ps q ≡ lookup xs q
same_below xs ps q a h = by_found (lookup xs q) refl h
  where
    by_found : (o : Option (List ℕ)) → lookup xs q ≡ o → is_some o ≡ true → lookup ps q ≡ o
    by_found None e t = absurd (true≢false (sym t))
    by_found (Some v) e t = a q v e

pub refused_found : (o : Option (List ℕ)) (e : Refusal) (room : ℕ) → number e ≡ get_number o room → is_some o ≡ true
refused_found None e room h = absurd (refused_number e h)
refused_found (Some v) e room h = refl

-- after a get that was asked of the copies
pub recall_true : (room : ℕ) (q : List ℕ) (xs ps : List Pair) → TrueCopies xs ps → TrueCopies (after_get (lookup xs q) room q xs) ps
recall_true room q xs ps t = by_found (lookup xs q) refl
  where
    by_found : (o : Option (List ℕ)) → lookup xs q ≡ o → TrueCopies (after_get o room q xs) ps
    by_found None e = t
    by_found (Some v) e = get_true (Some v) room q xs ps ps t refl (t.1 q v e)

-- a get that a copy answers
pub hit_says : (xs ps : List Pair) (q buffer buffer' : List ℕ) (r : Result (Option ℕ) Refusal) → Agrees xs ps → is_some (lookup xs q) ≡ true → answer r ≡ get_number (lookup xs q) (length buffer) → IfOk r (λ n. n ≡ option_map length (lookup xs q)) → buffer' ≡ get_buffer (lookup xs q) buffer → GetSays ps ps q buffer buffer' r
hit_says xs ps q buffer buffer' r a h o t f =
    let e : lookup xs q ≡ lookup ps q = sym (same_below xs ps q a h) in
    record {
      outcome = o ∙ ap (λ (x : Option (List ℕ)). get_number x (length buffer)) e;
      told = subst (λ (x : Option (List ℕ)). IfOk r (λ n. n ≡ option_map length x)) e t;
      filled = f ∙ ap (λ (x : Option (List ℕ)). get_buffer x buffer) e;
      pairs = refl;
    }
