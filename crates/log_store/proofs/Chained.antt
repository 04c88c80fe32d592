-- Records one behind the other: reading them back, marking one dead, keeping the live ones.
use Rattle.std.proofs.Common.{◌≡◌, ℕ, zero, suc, ◌+◌, ◌*◌, ◌<◌, ◌≤◌, true, false, eqb, leb, List, [], ◌∷◌, ◌++◌, length, get_or, take, drop, sym, refl, ap, ◌∙◌, append_assoc, arith, length-append, length-drop}
use Rattle.std.proofs.lemmas.Bool.{and_parts, and_from, eqb-true, leb-true, or_from}
use Rattle.std.proofs.lemmas.List.{append-nil, take_at, drop_at, take-append-drop, get_or_append_left, nil_from_length}
use Rattle.store.specs.Pairs.{Pair, pair, has}
use Rattle.store.proofs.Pairs.{by_test, has-append}
use Rattle.area.specs.Layout.{header_size, slot_size, live, key, size, content, holds, held}
use Rattle.area.proofs.Records.{has-held}
use Rattle.log_store.specs.Chain.{chain, records, bytes_of, exact, all_exact, log_pairs, lives}

-- the facts of an exact record
pub exact_long : (p : List ℕ) → exact p ≡ true → length p ≡ header_size + (get_or p 9 0 * 256 + get_or p 10 0)
exact_long p h = eqb-true (length p) (header_size + (get_or p 9 0 * 256 + get_or p 10 0)) (and_parts (eqb (length p) (header_size + (get_or p 9 0 * 256 + get_or p 10 0))) (leb (length p) slot_size) h).0

pub exact_short : (p : List ℕ) → exact p ≡ true → length p ≤ slot_size
exact_short p h = leb-true (length p) slot_size (and_parts (eqb (length p) (header_size + (get_or p 9 0 * 256 + get_or p 10 0))) (leb (length p) slot_size) h).1

-- its length is read where other bytes follow it
pub size_front : (p r : List ℕ) → exact p ≡ true → header_size + size (p ++ r) ≡ length p
size_front p r h =
    let l = exact_long p h in
    let a : get_or (p ++ r) 9 0 ≡ get_or p 9 0 = get_or_append_left p r 0 9 (omega arith) in
    let b : get_or (p ++ r) 10 0 ≡ get_or p 10 0 = get_or_append_left p r 0 10 (omega arith) in
    let n : length (p ++ r) ≡ length p + length r = length-append p r in
    omega arith

-- records are read back as they lie
chain_front : (n : ℕ) (p r : List ℕ) → exact p ≡ true → chain (suc n) (p ++ r) ≡ p ∷ chain n r
chain_front n [] r h = absurd (let l = exact_long [] h in omega arith)
chain_front n (b ∷ p) r h =
    let s = size_front (b ∷ p) r h in
    λ i. (ap (λ (k : ℕ). take k ((b ∷ p) ++ r)) s ∙ take_at (b ∷ p) r (length (b ∷ p)) refl) i ∷ (ap (λ (k : ℕ). chain n (drop k ((b ∷ p) ++ r))) s ∙ ap (chain n) (drop_at (b ∷ p) r (length (b ∷ p)) refl)) i

chain_back : (n : ℕ) (ps : List (List ℕ)) → all_exact ps ≡ true → length ps ≤ n → chain n (bytes_of ps) ≡ ps
chain_back zero [] h l = refl
chain_back (suc n) [] h l = refl
chain_back zero (p ∷ ps) h l = absurd (omega arith)
chain_back (suc n) (p ∷ ps) h l =
    let parts = and_parts (exact p) (all_exact ps) h in
    chain_front n p (bytes_of ps) parts.0 ∙ ap (λ (x : List (List ℕ)). p ∷ x) (chain_back n ps parts.1 (omega arith))

long_enough : (ps : List (List ℕ)) → all_exact ps ≡ true → length ps ≤ length (bytes_of ps)
long_enough [] h = omega arith
long_enough (p ∷ ps) h =
    let parts = and_parts (exact p) (all_exact ps) h in
    let l = exact_long p parts.0 in
    let rest = long_enough ps parts.1 in
    simp length-append (omega arith)

pub records_back : (ps : List (List ℕ)) → all_exact ps ≡ true → records (bytes_of ps) ≡ ps
records_back ps h = chain_back (length (bytes_of ps)) ps h (long_enough ps h)

-- and are all the bytes
chain_bytes : (n : ℕ) (bs : List ℕ) → length bs ≤ n → bytes_of (chain n bs) ≡ bs
chain_bytes zero [] h = refl
chain_bytes (suc n) [] h = refl
chain_bytes zero (b ∷ bs) h = absurd (omega arith)
chain_bytes (suc n) (b ∷ bs) h =
    let k : ℕ = header_size + size (b ∷ bs) in
    let l : length (drop k (b ∷ bs)) ≤ n = simp length-drop (omega arith) in
    ap (λ (x : List ℕ). take k (b ∷ bs) ++ x) (chain_bytes n (drop k (b ∷ bs)) l) ∙ take-append-drop k (b ∷ bs)

pub records_bytes : (bs : List ℕ) → bytes_of (records bs) ≡ bs
records_bytes bs = chain_bytes (length bs) bs (omega arith)

-- lists of records
pub bytes_append : (ps qs : List (List ℕ)) → bytes_of (ps ++ qs) ≡ bytes_of ps ++ bytes_of qs
bytes_append [] qs = refl
bytes_append (p ∷ ps) qs = ap (λ (x : List ℕ). p ++ x) (bytes_append ps qs) ∙ sym (append_assoc p (bytes_of ps) (bytes_of qs))

pub pairs_append : (ps qs : List (List ℕ)) → log_pairs (ps ++ qs) ≡ log_pairs ps ++ log_pairs qs
pairs_append [] qs = refl
pairs_append (p ∷ ps) qs = ap (λ (x : List Pair). held p ++ x) (pairs_append ps qs) ∙ sym (append_assoc (held p) (log_pairs ps) (log_pairs qs))

pub exact-append : (ps qs : List (List ℕ)) → all_exact ps ≡ true → all_exact qs ≡ true → all_exact (ps ++ qs) ≡ true
exact-append [] qs h k = k
exact-append (p ∷ ps) qs h k = let parts = and_parts (exact p) (all_exact ps) h in and_from (exact p) (all_exact (ps ++ qs)) parts.0 (exact-append ps qs parts.1 k)

pub exact-parts : (ps qs : List (List ℕ)) → all_exact (ps ++ qs) ≡ true → (all_exact ps ≡ true) × (all_exact qs ≡ true)
exact-parts [] qs h = (refl, h)
exact-parts (p ∷ ps) qs h =
    let parts = and_parts (exact p) (all_exact (ps ++ qs)) h in
    let rest = exact-parts ps qs parts.1 in
    (and_from (exact p) (all_exact ps) parts.0 rest.0, rest.1)

pub exact-lives : (ps : List (List ℕ)) → all_exact ps ≡ true → all_exact (lives ps) ≡ true
exact-lives [] h = refl
exact-lives (p ∷ ps) h =
    let parts = and_parts (exact p) (all_exact ps) h in
    by_test (live p)
    (λ e. simp e (and_from (exact p) (all_exact (lives ps)) parts.0 (exact-lives ps parts.1)))
    (λ e. simp e (exact-lives ps parts.1))

pub pairs_lives : (ps : List (List ℕ)) → log_pairs (lives ps) ≡ log_pairs ps
pairs_lives [] = refl
pairs_lives (p ∷ ps) = by_test (live p) (λ e. simp e (ap (λ (x : List Pair). pair (key p) (content p) ∷ x) (pairs_lives ps))) (λ e. simp e (pairs_lives ps))

pub lives-append : (ps qs : List (List ℕ)) → lives (ps ++ qs) ≡ lives ps ++ lives qs
lives-append [] qs = refl
lives-append (p ∷ ps) qs = by_test (live p) (λ e. simp e (ap (λ (x : List (List ℕ)). p ∷ x) (lives-append ps qs))) (λ e. simp e (lives-append ps qs))

-- the live records need no more than a slot for each pair
pub lives_short : (ps : List (List ℕ)) → all_exact ps ≡ true → length (bytes_of (lives ps)) ≤ length (log_pairs ps) * slot_size
lives_short [] h = omega arith
lives_short (p ∷ ps) h =
    let parts = and_parts (exact p) (all_exact ps) h in
    let short = exact_short p parts.0 in
    let rest = lives_short ps parts.1 in
    by_test (live p) (λ e. simp (e, length-append) (omega arith)) (λ e. simp e rest)

-- a place between records
pub record Cursor (ps : List (List ℕ)) (at : ℕ) : Type 0 where
  pub ahead : List (List ℕ)
  pub behind : List (List ℕ)
  pub whole : ps ≡ ahead ++ behind
  pub place : at ≡ length (bytes_of ahead)

-- the record at a place
pub record Here (ps ahead : List (List ℕ)) (rest : List ℕ) : Type 0 where
  pub piece : List ℕ
  pub behind : List (List ℕ)
  pub whole : ps ≡ ahead ++ piece ∷ behind
  pub front : rest ≡ piece ++ bytes_of behind
  pub good : exact piece ≡ true

pub front_of : (xs : List ℕ) (ps : List (List ℕ)) (at : ℕ) (c : Cursor ps at) → xs ≡ bytes_of ps → drop at xs ≡ bytes_of c.behind
front_of xs ps at c e =
    (λ i. drop (c.place i) ((e ∙ ap bytes_of c.whole ∙ bytes_append c.ahead c.behind) i)) ∙ drop_at (bytes_of c.ahead) (bytes_of c.behind) (length (bytes_of c.ahead)) refl

here_by : (ps ahead behind : List (List ℕ)) (rest : List ℕ) → ps ≡ ahead ++ behind → rest ≡ bytes_of behind → all_exact behind ≡ true → 0 < length rest → Here ps ahead rest
here_by ps ahead [] rest w e h l = absurd (let z : length rest ≡ 0 = ap length e in omega arith)
here_by ps ahead (p ∷ behind) rest w e h l = record { piece = p; behind = behind; whole = w; front = e; good = (and_parts (exact p) (all_exact behind) h).0 }

pub here : (xs : List ℕ) (ps : List (List ℕ)) (at : ℕ) (c : Cursor ps at) → xs ≡ bytes_of ps → all_exact ps ≡ true → at < length xs → Here ps c.ahead (drop at xs)
here xs ps at c e h l =
    here_by ps c.ahead c.behind (drop at xs) c.whole (front_of xs ps at c e) (exact-parts c.ahead c.behind (ap all_exact (sym c.whole) ∙ h)).1 (simp length-drop (omega arith))

pub all_read : (xs : List ℕ) (ps : List (List ℕ)) (at : ℕ) (c : Cursor ps at) → xs ≡ bytes_of ps → all_exact ps ≡ true → length xs ≤ at → ps ≡ c.ahead
all_read xs ps at c e h l =
    let good = (exact-parts c.ahead c.behind (ap all_exact (sym c.whole) ∙ h)).1 in
    let none : length (drop at xs) ≡ 0 = simp length-drop (omega arith) in
    let left : length (bytes_of c.behind) ≡ 0 = ap length (sym (front_of xs ps at c e)) ∙ none in
    let few = long_enough c.behind good in
    let nil : c.behind ≡ [] = nil_from_length c.behind (omega arith) in
    c.whole ∙ ap (λ (x : List (List ℕ)). c.ahead ++ x) nil ∙ append-nil c.ahead

-- a record is read where other bytes follow it
pub live_front : (p r : List ℕ) → exact p ≡ true → live (p ++ r) ≡ live p
live_front p r h = let l = exact_long p h in ap (λ (x : ℕ). eqb x 1) (get_or_append_left p r 0 0 (omega arith))

pub bytes_more : (ps : List (List ℕ)) (p : List ℕ) → length (bytes_of (ps ++ p ∷ [])) ≡ length (bytes_of ps) + length p
bytes_more ps p = ap length (bytes_append ps (p ∷ [])) ∙ length-append (bytes_of ps) (bytes_of (p ∷ [])) ∙ ap (λ (x : List ℕ). length (bytes_of ps) + length x) (append-nil p)

pub has-next : (ps : List (List ℕ)) (p q : List ℕ) → has (log_pairs ps) q ≡ false → holds p q ≡ false → has (log_pairs (ps ++ p ∷ [])) q ≡ false
has-next ps p q h k =
    ap (λ (x : List Pair). has x q) (pairs_append ps (p ∷ []) ∙ ap (λ (x : List Pair). log_pairs ps ++ x) (append-nil (held p)))
    ∙ has-append (log_pairs ps) (held p) q
    ∙ or_from (has (log_pairs ps) q) (has (held p) q) h (has-held p q k)
