-- Images read back to exactly what was written, and are written again exactly as they were read.
use Rattle.std.proofs.Common.{◌≡◌, ℕ, zero, suc, ◌+◌, ◌*◌, ◌<◌, ◌≤◌, Bool, true, false, cond, eqb, ◌⊎◌, List, [], ◌∷◌, ◌++◌, length, Some, None, Option, sym, refl, ap, ◌∙◌, subst, inl, inr, append_assoc, suc-mul, zero-mul, arith, length-append}
use Rattle.std.specs.List.{AllByRecursion}
use Rattle.std.proofs.lemmas.Bool.{eq-eqb, ne_eqb, eqb-true}
use Rattle.names.specs.declared.name.Name.{Name}
use Rattle.codec.specs.Format.{Format, next, begins, each, many, byte, pair, name, code}
use Rattle.codec.proofs.Laws.{Lawful, next_some, seq_back, last_back, seq_only, glue, some_first, some_rest, passed, byte_lawful, pair_lawful, name_lawful, many_back, many_only, listed_lawful, tested_lawful, lawful_as}
use Rattle.image.specs.Dealt.{flat, deal, run, undeal, dealt}
use Rattle.image.specs.Picture.{Units, target, SmallTarget, exactly, names, sections, valid, image, WithinUnits}
use Rattle.image.specs.declared.target.Target.{Target}
use Rattle.image.proofs.Runs.{run_other}

target_1 : ℕ → List ℕ → Option (Target × List ℕ)
target_1 u cs = next (byte.get cs) (λ e ds. Some (record { unit = u; entry = e }, ds))

target_back : (t : Target) → SmallTarget t → (rest : List ℕ) → target.get (target.put t ++ rest) ≡ Some (t, rest)
unfolding target_1
target_back t h rest =
    last_back byte (λ b. b < 256) byte_lawful target_1 t.unit h.0 (t.entry ∷ rest)
    ∙ last_back byte (λ b. b < 256) byte_lawful (λ e ds. Some (record { unit = t.unit; entry = e }, ds)) t.entry h.1 rest

target_only : (bs : List ℕ) (t : Target) (rest : List ℕ) → target.get bs ≡ Some (t, rest) → (bs ≡ target.put t ++ rest) × SmallTarget t
unfolding target_1
target_only bs t rest e =
    let a = seq_only byte (λ b. b < 256) byte_lawful target_1 bs t rest e in
    let b = seq_only byte (λ b. b < 256) byte_lawful (λ k ds. Some (record { unit = a.0; entry = k }, ds)) a.1 t rest a.4 in
    let s : Target = record { unit = a.0; entry = b.0 } in
    let same : s ≡ t = some_first s t b.1 rest b.4 in
    (a.2 ∙ ap (λ cs. a.0 ∷ cs) b.2 ∙ (λ i. (same i).unit ∷ (same i).entry ∷ some_rest s t b.1 rest b.4 i), subst SmallTarget same (a.3, b.3))

target_lawful : Lawful target SmallTarget
target_lawful = record { back = target_back; only = target_only }

module _ {X : Type 0} (f : Format X) (P : X → Type 0) (law : Lawful f P) where
  -- exactly so many elements
  module _ (n : ℕ) (small : n < 256) where
    behind_count : ℕ → List ℕ → Option (List X × List ℕ)
    behind_count m cs = cond (eqb m n) (many n f.get cs) None

    exactly_back : (xs : List X) → (length xs ≡ n) × AllByRecursion P xs → (rest : List ℕ) → (exactly n f).get ((exactly n f).put xs ++ rest) ≡ Some (xs, rest)
    unfolding behind_count
    exactly_back xs h rest =
        let e : length xs ≡ n = h.0 in
        seq_back byte (λ b. b < 256) byte_lawful behind_count (length xs) (omega arith) (each f.put xs) rest
        ∙ ap (λ t. cond t (many n f.get (each f.put xs ++ rest)) None) (eq-eqb (length xs) n e)
        ∙ ap (λ k. many k f.get (each f.put xs ++ rest)) (sym e)
        ∙ many_back f P law xs h.1 rest

    exactly_only : (bs : List ℕ) (xs : List X) (rest : List ℕ) → (exactly n f).get bs ≡ Some (xs, rest) → (bs ≡ (exactly n f).put xs ++ rest) × ((length xs ≡ n) × AllByRecursion P xs)
    unfolding behind_count
    exactly_only bs xs rest e =
        let a = seq_only byte (λ b. b < 256) byte_lawful behind_count bs xs rest e in
        let b = passed (eqb a.0 n) (many n f.get a.1) (xs, rest) a.4 in
        let c = many_only f P law n a.1 xs rest b.1 in
        let m : a.0 ≡ length xs = eqb-true a.0 n b.0 ∙ sym c.2 in
        (glue bs (byte.put (length xs)) a.1 (each f.put xs) rest (a.2 ∙ ap (λ k. byte.put k ++ a.1) m) c.0, (c.2, c.1))

    exactly_lawful : Lawful (exactly n f) (λ xs. (length xs ≡ n) × AllByRecursion P xs)
    exactly_lawful = record { back = exactly_back; only = exactly_only }

  -- the rows of one unit
  module _ (u : ℕ) where
    abbrev line : X → List ℕ
    line x = u ∷ f.put x

    abbrev more : ℕ → ℕ → X → List ℕ → Option ((List X × ℕ) × List ℕ)
    more room rows x cs = next (run f.get u room rows cs) (λ p ds. Some ((x ∷ p.0, p.1), ds))

    run_none : (room m : ℕ) (tail : List ℕ) → (m ≡ 0) ⊎ (begins u tail ≡ false) → run f.get u room m tail ≡ Some (([], m), tail)
    run_none room m tail (inl e) = ap (λ k. run f.get u room k tail) e ∙ ap (λ k. Some (([], k), tail)) (sym e)
    run_none room m tail (inr e) = run_other f.get u room m tail e

    run_back : (xs ys : List X) (room : ℕ) (tail : List ℕ) → length xs ≤ room → AllByRecursion P xs → (length ys ≡ 0) ⊎ (begins u tail ≡ false) →
        run f.get u room (length (xs ++ ys)) (each line xs ++ tail) ≡ Some ((xs, length ys), tail)
    run_back [] ys room tail h all stops = run_none room (length ys) tail stops
    run_back (x ∷ xs) ys zero tail h all stops = absurd (omega arith)
    run_back (x ∷ xs) ys (suc room) tail h all stops =
        ap (λ t. cond t (next (f.get ((f.put x ++ each line xs) ++ tail)) (more room (length (xs ++ ys)))) (Some (([], suc (length (xs ++ ys))), u ∷ ((f.put x ++ each line xs) ++ tail)))) (eq-eqb u u refl)
        ∙ seq_back f P law (more room (length (xs ++ ys))) x all.0 (each line xs) tail
        ∙ ap (λ o. next o (λ p ds. Some ((x ∷ p.0, p.1), ds))) (run_back xs ys room tail (omega arith) all.1 stops)

    abbrev Read : ℕ → ℕ → List ℕ → List X → ℕ → List ℕ → Type 0
    Read n room bs xs m rest = (bs ≡ each line xs ++ rest) × AllByRecursion P xs × (length xs ≤ room) × (n ≡ length xs + m)

    -- no rows
    stayed : (n room : ℕ) (bs : List ℕ) (xs : List X) (m : ℕ) (rest : List ℕ) → ◌≡◌ {A = Option ((List X × ℕ) × List ℕ)} (Some (([], n), bs)) (Some ((xs, m), rest)) → Read n room bs xs m rest
    stayed n room bs xs m rest e =
        let p : ◌≡◌ {A = List X × ℕ} ([], n) (xs, m) = some_first ([], n) (xs, m) bs rest e in
        let none : [] ≡ xs = ap (λ q. q.0) p in
        let same : n ≡ m = ap (λ q. q.1) p in
        (some_rest ([], n) (xs, m) bs rest e ∙ ap (λ ys. each line ys ++ rest) none, subst (AllByRecursion P) none tt, let l : length xs ≡ 0 = sym (ap length none) in omega arith, let l : length xs ≡ 0 = sym (ap length none) in omega arith)

    -- one row more
    took : (n room : ℕ) (b : ℕ) (bs : List ℕ) (xs : List X) (m : ℕ) (rest : List ℕ) → b ≡ u → (x : X) (cs : List ℕ) (ys : List X) → bs ≡ f.put x ++ cs → P x → Read n room cs ys m rest → x ∷ ys ≡ xs →
        Read (suc n) (suc room) (b ∷ bs) xs m rest
    took n room b bs xs m rest e x cs ys front h r same =
        let long : suc (length ys) ≡ length xs = ap length same in
        let few : length ys ≤ room = r.2 in
        let count : n ≡ length ys + m = r.3 in (
          (λ i. e i ∷ glue bs (f.put x) cs (each line ys) rest front r.0 i) ∙ ap (λ zs. each line zs ++ rest) same,
          subst (AllByRecursion P) same (h, r.1),
          omega arith,
          omega arith,
        )

    full : (t : Bool) (n : ℕ) (bs : List ℕ) (xs : List X) (m : ℕ) (rest : List ℕ) → ◌≡◌ {A = Option ((List X × ℕ) × List ℕ)} (cond t None (Some (([], n), bs))) (Some ((xs, m), rest)) → Read n zero bs xs m rest
    full true n bs xs m rest e = cc
    full false n bs xs m rest e = stayed n zero bs xs m rest e

    split : (t : Bool) (n room b : ℕ) (bs : List ℕ) (xs : List X) (m : ℕ) (rest : List ℕ) →
        ((cs : List ℕ) (ys : List X) → run f.get u room n cs ≡ Some ((ys, m), rest) → Read n room cs ys m rest) → eqb b u ≡ t →
        ◌≡◌ {A = Option ((List X × ℕ) × List ℕ)} (cond t (next (f.get bs) (more room n)) (Some (([], suc n), b ∷ bs))) (Some ((xs, m), rest)) → Read (suc n) (suc room) (b ∷ bs) xs m rest
    split true n room b bs xs m rest again same e =
        let a = seq_only f P law (more room n) bs (xs, m) rest e in
        let c = next_some (run f.get u room n a.1) (λ p ds. Some ((a.0 ∷ p.0, p.1), ds)) (xs, m) rest a.4 in
        let q : ◌≡◌ {A = List X × ℕ} (a.0 ∷ c.0.0, c.0.1) (xs, m) = some_first (a.0 ∷ c.0.0, c.0.1) (xs, m) c.1 rest c.3 in
        let behind : c.1 ≡ rest = some_rest (a.0 ∷ c.0.0, c.0.1) (xs, m) c.1 rest c.3 in
        let left : c.0.1 ≡ m = ap (λ p. p.1) q in
        let o : run f.get u room n a.1 ≡ Some ((c.0.0, m), rest) = c.2 ∙ (λ i. Some ((c.0.0, left i), behind i)) in
        took n room b bs xs m rest (eqb-true b u same) a.0 a.1 c.0.0 a.2 a.3 (again a.1 c.0.0 o) (ap (λ p. p.0) q)
    split false n room b bs xs m rest again same e = stayed (suc n) (suc room) (b ∷ bs) xs m rest e

    run_only : (n room : ℕ) (bs : List ℕ) (xs : List X) (m : ℕ) (rest : List ℕ) → run f.get u room n bs ≡ Some ((xs, m), rest) → Read n room bs xs m rest
    run_only zero room bs xs m rest e = stayed zero room bs xs m rest e
    run_only (suc n) room [] xs m rest e = stayed (suc n) room [] xs m rest e
    run_only (suc n) zero (b ∷ bs) xs m rest e = full (eqb b u) (suc n) (b ∷ bs) xs m rest e
    run_only (suc n) (suc room) (b ∷ bs) xs m rest e = split (eqb b u) n room b bs xs m rest (λ cs ys. run_only n room cs ys m rest) refl e

  -- the rows of several units
  module _ (room : ℕ) where
    abbrev Few : List X → Type 0
    Few xs = (length xs ≤ room) × AllByRecursion P xs

    abbrev others : ℕ → ℕ → List X × ℕ → List ℕ → Option (List (List X) × List ℕ)
    others u k p cs = next (undeal f.get room (suc u) k p.1 cs) (λ xss ds. Some (p.0 ∷ xss, ds))

    stops : (u v : ℕ) (xss : List (List X)) (rest : List ℕ) → u < v → (length (flat xss) ≡ 0) ⊎ (begins u (deal f.put v xss ++ rest) ≡ false)
    stops u v [] rest h = inl refl
    stops u v ([] ∷ xss) rest h = stops u (suc v) xss rest (omega arith)
    stops u v ((x ∷ xs) ∷ xss) rest h = inr (ne_eqb v u (λ e. omega arith))

    deal_back : (u : ℕ) (xss : List (List X)) → AllByRecursion Few xss → (rest : List ℕ) → undeal f.get room u (length xss) (length (flat xss)) (deal f.put u xss ++ rest) ≡ Some (xss, rest)
    deal_back u [] h rest = refl
    deal_back u (xs ∷ xss) h rest =
        let tail = deal f.put (suc u) xss ++ rest in
        ap (λ bs. next (run f.get u room (length (xs ++ flat xss)) bs) (others u (length xss))) (append_assoc (each (λ x. u ∷ f.put x) xs) (deal f.put (suc u) xss) rest)
        ∙ ap (λ o. next o (others u (length xss))) (run_back u xs (flat xss) room tail h.0.0 h.0.1 (stops u (suc u) xss rest (omega arith)))
        ∙ ap (λ o. next o (λ yss ds. Some (xs ∷ yss, ds))) (deal_back (suc u) xss h.1 rest)

    deal_only : (k u n : ℕ) (bs : List ℕ) (xss : List (List X)) (rest : List ℕ) → undeal f.get room u k n bs ≡ Some (xss, rest) →
        (bs ≡ deal f.put u xss ++ rest) × AllByRecursion Few xss × (length xss ≡ k) × (n ≡ length (flat xss))
    deal_only zero u n bs xss rest e =
        let p = passed (eqb n 0) (Some ([], bs)) (xss, rest) e in
        let none : [] ≡ xss = some_first [] xss bs rest p.1 in
        let zero-rows : n ≡ 0 = eqb-true n 0 p.0 in
        (some_rest [] xss bs rest p.1 ∙ ap (λ yss. deal f.put u yss ++ rest) none, subst (AllByRecursion Few) none tt, sym (ap length none), zero-rows ∙ ap (λ yss. length (flat yss)) none)
    deal_only (suc k) u n bs xss rest e =
        let a = next_some (run f.get u room n bs) (others u k) xss rest e in
        let xs = a.0.0 in
        let m = a.0.1 in
        let c = next_some (undeal f.get room (suc u) k m a.1) (λ yss ds. Some (xs ∷ yss, ds)) xss rest a.3 in
        let yss = c.0 in
        let same : xs ∷ yss ≡ xss = some_first (xs ∷ yss) xss c.1 rest c.3 in
        let behind : c.1 ≡ rest = some_rest (xs ∷ yss) xss c.1 rest c.3 in
        let r = run_only u n room bs xs m a.1 a.2 in
        let d = deal_only k (suc u) m a.1 yss rest (c.2 ∙ ap (λ ds. Some (yss, ds)) behind) in
        let count : n ≡ length (xs ++ flat yss) = r.3 ∙ ap (λ j. length xs + j) d.3 ∙ sym (length-append xs (flat yss)) in (
          glue bs (each (λ x. u ∷ f.put x) xs) a.1 (deal f.put (suc u) yss) rest r.0 d.0 ∙ ap (λ zss. deal f.put u zss ++ rest) same,
          subst (AllByRecursion Few) same ((r.2, r.1), d.1),
          sym (ap length same) ∙ ap suc d.2,
          count ∙ ap (λ zss. length (flat zss)) same,
        )

    flat_few : (xss : List (List X)) → AllByRecursion Few xss → length (flat xss) ≤ length xss * room
    flat_few [] h = omega (arith, zero-mul room)
    flat_few (xs ∷ xss) h = omega (arith, length-append xs (flat xss), flat_few xss h.1, suc-mul (length xss) room, h.0.0)

    module _ (units : ℕ) (small : units * room < 65536) where
      abbrev behind_rows : ℕ → List ℕ → Option (List (List X) × List ℕ)
      behind_rows rows cs = undeal f.get room zero units rows cs

      dealt_back : (xss : List (List X)) → (length xss ≡ units) × AllByRecursion Few xss → (rest : List ℕ) → (dealt room units f).get ((dealt room units f).put xss ++ rest) ≡ Some (xss, rest)
      dealt_back xss h rest =
          let n = length (flat xss) in
          let product : length xss * room ≡ units * room = ap (λ k. k * room) h.0 in
          let fits : n < 65536 = omega (arith, flat_few xss h.1) in
          seq_back pair (λ k. k < 65536) pair_lawful behind_rows n fits (deal f.put zero xss) rest
          ∙ ap (λ k. undeal f.get room zero k n (deal f.put zero xss ++ rest)) (sym h.0)
          ∙ deal_back zero xss h.1 rest

      dealt_only : (bs : List ℕ) (xss : List (List X)) (rest : List ℕ) → (dealt room units f).get bs ≡ Some (xss, rest) → (bs ≡ (dealt room units f).put xss ++ rest) × ((length xss ≡ units) × AllByRecursion Few xss)
      dealt_only bs xss rest e =
          let a = seq_only pair (λ k. k < 65536) pair_lawful behind_rows bs xss rest e in
          let d = deal_only units zero a.0 a.1 xss rest a.4 in
          (glue bs (pair.put (length (flat xss))) a.1 (deal f.put zero xss) rest (a.2 ∙ ap (λ k. pair.put k ++ a.1) d.3) d.0, (d.2, d.1))

      dealt_lawful : Lawful (dealt room units f) (λ xss. (length xss ≡ units) × AllByRecursion Few xss)
      dealt_lawful = record { back = dealt_back; only = dealt_only }

abbrev Coded : ℕ → List (List ℕ) → Type 0
Coded n cs = (length cs ≡ n) × AllByRecursion (λ c. (length c ≤ 384) × AllByRecursion (λ b. b < 256) c) cs

abbrev Entered : ℕ → List (List ℕ) → Type 0
Entered n ess = (length ess ≡ n) × AllByRecursion (λ es. (length es ≤ 12) × AllByRecursion (λ e. e < 65536) es) ess

abbrev Referred : ℕ → List (List Target) → Type 0
Referred n tss = (length tss ≡ n) × AllByRecursion (λ ts. (length ts ≤ 32) × AllByRecursion SmallTarget ts) tss

names_lawful : Lawful names (λ ns. (length ns ≤ 24) × AllByRecursion (λ n. Unit {0}) ns)
names_lawful = listed_lawful name (λ n. Unit {0}) name_lawful byte (λ b. b < 256) byte_lawful 24 (λ n h. omega arith)

all-names : (ns : List Name) → AllByRecursion (λ n. Unit {0}) ns
all-names [] = tt
all-names (n ∷ ns) = (tt, all-names ns)

codes_lawful : (n : ℕ) → n ≤ 24 → Lawful (exactly n code) (Coded n)
codes_lawful n h =
    exactly_lawful code (λ c. (length c ≤ 384) × AllByRecursion (λ b. b < 256) c)
    (listed_lawful byte (λ b. b < 256) byte_lawful pair (λ k. k < 65536) pair_lawful 384 (λ k g. omega arith)) n (omega arith)

entries_lawful : (n : ℕ) → n ≤ 24 → Lawful (dealt 12 n pair) (Entered n)
entries_lawful n h = dealt_lawful pair (λ e. e < 65536) pair_lawful 12 n (omega arith)

references_lawful : (n : ℕ) → n ≤ 24 → Lawful (dealt 32 n target) (Referred n)
references_lawful n h = dealt_lawful target SmallTarget target_lawful 32 n (omega arith)

-- sections within their limits
abbrev SectionsWithin : Units → Type 0
SectionsWithin u = (length u.names ≤ 24) × Coded (length u.names) u.codes × Entered (length u.names) u.entries × Referred (length u.names) u.references

abbrev sections_3 : List Name → List (List ℕ) → List (List ℕ) → List ℕ → Option (Units × List ℕ)
sections_3 n c e es = next ((dealt 32 (length n) target).get es) (λ r fs. Some (record { names = n; codes = c; entries = e; references = r }, fs))

abbrev sections_2 : List Name → List (List ℕ) → List ℕ → Option (Units × List ℕ)
sections_2 n c ds = next ((dealt 12 (length n) pair).get ds) (sections_3 n c)

abbrev sections_1 : List Name → List ℕ → Option (Units × List ℕ)
sections_1 n cs = next ((exactly (length n) code).get cs) (sections_2 n)

sections_back : (u : Units) → SectionsWithin u → (rest : List ℕ) → sections.get (sections.put u ++ rest) ≡ Some (u, rest)
sections_back u h rest =
    let n = length u.names in
    let c = (exactly n code).put u.codes in
    let e = (dealt 12 n pair).put u.entries in
    let r = (dealt 32 n target).put u.references in
    seq_back names (λ ns. (length ns ≤ 24) × AllByRecursion (λ n. Unit {0}) ns) names_lawful sections_1 u.names (h.0, all-names u.names) (c ++ (e ++ r)) rest
    ∙ seq_back (exactly n code) (Coded n) (codes_lawful n h.0) (sections_2 u.names) u.codes h.1 (e ++ r) rest
    ∙ seq_back (dealt 12 n pair) (Entered n) (entries_lawful n h.0) (sections_3 u.names u.codes) u.entries h.2 r rest
    ∙ last_back (dealt 32 n target) (Referred n) (references_lawful n h.0) (λ x fs. Some (record { names = u.names; codes = u.codes; entries = u.entries; references = x }, fs)) u.references h.3 rest

sections_only : (bs : List ℕ) (u : Units) (rest : List ℕ) → sections.get bs ≡ Some (u, rest) → (bs ≡ sections.put u ++ rest) × SectionsWithin u
sections_only bs u rest eq =
    let a = seq_only names (λ ns. (length ns ≤ 24) × AllByRecursion (λ n. Unit {0}) ns) names_lawful sections_1 bs u rest eq in
    let n = length a.0 in
    let few : n ≤ 24 = a.3.0 in
    let b = seq_only (exactly n code) (Coded n) (codes_lawful n few) (sections_2 a.0) a.1 u rest a.4 in
    let c = seq_only (dealt 12 n pair) (Entered n) (entries_lawful n few) (sections_3 a.0 b.0) b.1 u rest b.4 in
    let d = seq_only (dealt 32 n target) (Referred n) (references_lawful n few) (λ x fs. Some (record { names = a.0; codes = b.0; entries = c.0; references = x }, fs)) c.1 u rest c.4 in
    let v : Units = record { names = a.0; codes = b.0; entries = c.0; references = d.0 } in
    let same : v ≡ u = some_first v u d.1 rest d.4 in
    let behind : d.1 ≡ rest = some_rest v u d.1 rest d.4 in
    let k = (exactly n code).put b.0 in
    let e = (dealt 12 n pair).put c.0 in
    let r = (dealt 32 n target).put d.0 in
    let all : bs ≡ sections.put v ++ rest = glue bs (names.put a.0) a.1 (k ++ (e ++ r)) rest a.2 (glue a.1 k b.1 (e ++ r) rest b.2 (glue b.1 e c.1 r rest c.2 (d.2 ∙ ap (λ xs. r ++ xs) behind))) in
    let good : SectionsWithin v = (few, b.3, c.3, d.3) in
    (all ∙ ap (λ x. sections.put x ++ rest) same, subst SectionsWithin same good)

sections_lawful : Lawful sections SectionsWithin
sections_lawful = record { back = sections_back; only = sections_only }

pub image_lawful : Lawful image WithinUnits
image_lawful =
    lawful_as image (λ u. (valid u ≡ true) × SectionsWithin u) WithinUnits (tested_lawful sections SectionsWithin sections_lawful valid)
    (λ u h. (h.sound, (h.few, (h.coded, h.codes), (h.entered, h.entries), (h.referred, h.references))))
    (λ u h. record { few = h.1.0; coded = h.1.1.0; codes = h.1.1.1; entered = h.1.2.0; entries = h.1.2.1; referred = h.1.3.0; references = h.1.3.1; sound = h.0 })
