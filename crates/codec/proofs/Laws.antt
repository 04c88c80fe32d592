-- Formats that read back to exactly what was written, and write again exactly what was read.
use Rattle.std.proofs.Common.{◌≡◌, ℕ, zero, suc, ◌+◌, ◌*◌, ◌/◌, ◌%◌, ◌^◌, ◌<◌, ◌≤◌, Bool, true, false, cond, eqb, ltb, leb, List, [], ◌∷◌, ◌++◌, length, take, drop, ℤ, Some, None, Option, sym, refl, ap, ◌∙◌, subst, append_assoc, append-nil, arith, take-append-drop, w32, SFits, to_z, of_z}
use mir.Facts.{sfits_to_z, Fits-of_z}
use Rattle.std.specs.List.{AllByRecursion}
use Rattle.std.proofs.lemmas.Bool.{lt-ltb, ltb-true, le-leb, leb-true, eqb-true}
use Rattle.std.proofs.lemmas.List.{take_at, drop_at}
use Rattle.std.proofs.lemmas.Int.{to_z-of_z, of_z-to_z}
use Rattle.names.specs.Spelling.{padded_name}
use Rattle.names.specs.declared.name.Name.{Name}
use Rattle.names.proofs.Spelled.{padded_eight}
use Rattle.product.specs.Parts.{SoundRow}
use Rattle.product.specs.declared.row.Row.{Row}
use Rattle.product.specs.declared.row.Reference.{Reference}
use Rattle.codec.specs.Format.{Format, next, passing, get_byte, byte, pair, value, name_of, name, row, reference, many, many_within, each, listed, tested, whole}
use Rattle.codec.proofs.Named.{name_of_yes}

-- a format of the values that P holds of
pub record Lawful {X : Type 0} (f : Format X) (P : X → Type 0) : Type 0 where
  pub back : (x : X) → P x → (rest : List ℕ) → f.get (f.put x ++ rest) ≡ Some (x, rest)
  pub only : (bs : List ℕ) (x : X) (rest : List ℕ) → f.get bs ≡ Some (x, rest) → (bs ≡ f.put x ++ rest) × P x

-- what comes first, and what is left behind it
module _ {X Y : Type 0} where
  pub next_some : (o : Option (X × List ℕ)) (k : X → List ℕ → Option (Y × List ℕ)) (y : Y) (rest : List ℕ) → next o k ≡ Some (y, rest) →
      (x : X) × (cs : List ℕ) × (o ≡ Some (x, cs)) × (k x cs ≡ Some (y, rest))
  next_some None k y rest e = cc
  next_some (Some p) k y rest e = (p.0, p.1, refl, e)

  module _ (f : Format X) (P : X → Type 0) (law : Lawful f P) (k : X → List ℕ → Option (Y × List ℕ)) where
    -- one element before others
    pub seq_back : (x : X) → P x → (t rest : List ℕ) → next (f.get ((f.put x ++ t) ++ rest)) k ≡ k x (t ++ rest)
    seq_back x h t rest = ap (λ bs. next (f.get bs) k) (append_assoc (f.put x) t rest) ∙ ap (λ o. next o k) (law.back x h (t ++ rest))

    -- the last element
    pub last_back : (x : X) → P x → (rest : List ℕ) → next (f.get (f.put x ++ rest)) k ≡ k x rest
    last_back x h rest = ap (λ o. next o k) (law.back x h rest)

    pub seq_only : (bs : List ℕ) (y : Y) (rest : List ℕ) → next (f.get bs) k ≡ Some (y, rest) →
        (x : X) × (cs : List ℕ) × (bs ≡ f.put x ++ cs) × P x × (k x cs ≡ Some (y, rest))
    seq_only bs y rest e =
        let n = next_some (f.get bs) k y rest e in
        let o = law.only bs n.0 n.1 n.2 in
        (n.0, n.1, o.0, o.1, n.3)

pub glue : (bs a cs t rest : List ℕ) → bs ≡ a ++ cs → cs ≡ t ++ rest → bs ≡ (a ++ t) ++ rest
glue bs a cs t rest e f = e ∙ ap (λ xs. a ++ xs) f ∙ sym (append_assoc a t rest)

module _ {X : Type 0} where
  pub some_first : (x y : X) (bs cs : List ℕ) → ◌≡◌ {A = Option (X × List ℕ)} (Some (x, bs)) (Some (y, cs)) → x ≡ y
  some_first x y bs cs e = let p : ◌≡◌ {A = X × List ℕ} (x, bs) (y, cs) = cc in ap (λ q. q.0) p

  pub some_rest : (x y : X) (bs cs : List ℕ) → ◌≡◌ {A = Option (X × List ℕ)} (Some (x, bs)) (Some (y, cs)) → bs ≡ cs
  some_rest x y bs cs e = let p : ◌≡◌ {A = X × List ℕ} (x, bs) (y, cs) = cc in ap (λ q. q.1) p

  pub passing_some : (t : Bool) (x y : X) (bs cs : List ℕ) → passing t x bs ≡ Some (y, cs) → (t ≡ true) × (x ≡ y) × (bs ≡ cs)
  passing_some true x y bs cs e = (refl, some_first x y bs cs e, some_rest x y bs cs e)
  passing_some false x y bs cs e = cc

-- a test that passed
pub passed : {Y : Type 0} (t : Bool) (o : Option Y) (y : Y) → cond t o None ≡ Some y → (t ≡ true) × (o ≡ Some y)
passed true o y e = (refl, e)
passed false o y e = cc

byte_only : (bs : List ℕ) (x : ℕ) (rest : List ℕ) → get_byte bs ≡ Some (x, rest) → (bs ≡ x ∷ rest) × (x < 256)
byte_only [] x rest e = cc
byte_only (b ∷ bs) x rest e =
    let p = passing_some (ltb b 256) b x bs rest e in
    (λ i. p.1 i ∷ p.2 i, subst (λ n. n < 256) p.1 (ltb-true b 256 p.0))

pub byte_lawful : Lawful byte (λ b. b < 256)
byte_lawful = record { back = λ b h rest. ap (λ t. passing t b rest) (lt-ltb b 256 h); only = byte_only }

abbrev first_of_pair : ℕ → List ℕ → Option (ℕ × List ℕ)
first_of_pair h cs = next (get_byte cs) (λ l ds. Some (h * 256 + l, ds))

pair_back : (n : ℕ) → n < 65536 → (rest : List ℕ) → pair.get (pair.put n ++ rest) ≡ Some (n, rest)
pair_back n h rest =
    last_back byte (λ b. b < 256) byte_lawful first_of_pair (n / 256) (omega arith) (n % 256 ∷ rest)
    ∙ last_back byte (λ b. b < 256) byte_lawful (λ l ds. Some (n / 256 * 256 + l, ds)) (n % 256) (omega arith) rest
    ∙ ap (λ m. Some (m, rest)) (omega arith)

pair_only : (bs : List ℕ) (x : ℕ) (rest : List ℕ) → pair.get bs ≡ Some (x, rest) → (bs ≡ pair.put x ++ rest) × (x < 65536)
pair_only bs x rest e =
    let p = seq_only byte (λ b. b < 256) byte_lawful first_of_pair bs x rest e in
    let q = seq_only byte (λ b. b < 256) byte_lawful (λ l ds. Some (p.0 * 256 + l, ds)) p.1 x rest p.4 in
    let h = p.0 in
    let l = q.0 in
    let hs : h < 256 = p.3 in
    let ls : l < 256 = q.3 in
    let n : h * 256 + l ≡ x = some_first (h * 256 + l) x q.1 rest q.4 in
    let high : h ≡ x / 256 = omega arith in
    let low : l ≡ x % 256 = omega arith in
    (p.2 ∙ ap (λ cs. h ∷ cs) q.2 ∙ (λ i. high i ∷ low i ∷ some_rest (h * 256 + l) x q.1 rest q.4 i), omega arith)

pub pair_lawful : Lawful pair (λ n. n < 65536)
pair_lawful = record { back = pair_back; only = pair_only }

abbrev first_of_value : ℕ → List ℕ → Option (ℤ × List ℕ)
first_of_value h cs = next (pair.get cs) (λ l ds. Some (to_z w32 (h * 65536 + l), ds))

value_back : (z : ℤ) → SFits w32 z → (rest : List ℕ) → value.get (value.put z ++ rest) ≡ Some (z, rest)
value_back z h rest =
    let n = of_z w32 z in
    let fits : n < 2 ^ 32 = (Fits-of_z h).fits in
    seq_back pair (λ k. k < 65536) pair_lawful first_of_value (n / 65536) (omega arith) (pair.put (n % 65536)) rest
    ∙ last_back pair (λ k. k < 65536) pair_lawful (λ l ds. Some (to_z w32 (n / 65536 * 65536 + l), ds)) (n % 65536) (omega arith) rest
    ∙ ap (λ m. Some (to_z w32 m, rest)) (let e : n / 65536 * 65536 + n % 65536 ≡ n = omega arith in e)
    ∙ ap (λ y. Some (y, rest)) (to_z-of_z w32 z h)

value_only : (bs : List ℕ) (z : ℤ) (rest : List ℕ) → value.get bs ≡ Some (z, rest) → (bs ≡ value.put z ++ rest) × SFits w32 z
value_only bs z rest e =
    let p = seq_only pair (λ k. k < 65536) pair_lawful first_of_value bs z rest e in
    let q = seq_only pair (λ k. k < 65536) pair_lawful (λ l ds. Some (to_z w32 (p.0 * 65536 + l), ds)) p.1 z rest p.4 in
    let h = p.0 in
    let l = q.0 in
    let hs : h < 65536 = p.3 in
    let ls : l < 65536 = q.3 in
    let n : to_z w32 (h * 65536 + l) ≡ z = some_first (to_z w32 (h * 65536 + l)) z q.1 rest q.4 in
    let small : h * 65536 + l < 2 ^ 32 = omega arith in
    let m : h * 65536 + l ≡ of_z w32 z = sym (of_z-to_z w32 (h * 65536 + l) small) ∙ ap (of_z w32) n in
    let high : h ≡ of_z w32 z / 65536 = omega arith in
    let low : l ≡ of_z w32 z % 65536 = omega arith in (
      glue bs (pair.put (of_z w32 z / 65536)) p.1 (pair.put (of_z w32 z % 65536)) rest
          (p.2 ∙ ap (λ k. pair.put k ++ p.1) high)
          (q.2 ∙ (λ i. pair.put (low i) ++ some_rest (to_z w32 (h * 65536 + l)) z q.1 rest q.4 i)),
      subst (SFits w32) n (sfits_to_z (record { fits = small })),
    )

pub value_lawful : Lawful value (SFits w32)
value_lawful = record { back = value_back; only = value_only }

pub name-length : (n : Name) → length n.bytes ≡ 8
name-length n = padded_eight n.bytes n.valid

name_back : (n : Name) → (rest : List ℕ) → name.get (name.put n ++ rest) ≡ Some (n, rest)
name_back n rest =
    let bs = n.bytes ++ rest in
    sym (name_of_yes (take 8 bs) (padded_name (take 8 bs)) refl (drop 8 bs) n (sym (take_at n.bytes rest 8 (name-length n))))
    ∙ ap (λ cs. Some (n, cs)) (drop_at n.bytes rest 8 (name-length n))

name_of_only : (bs : List ℕ) (t : Bool) (e : padded_name bs ≡ t) (cs : List ℕ) (n : Name) (rest : List ℕ) → name_of bs t e cs ≡ Some (n, rest) → (bs ≡ n.bytes) × (cs ≡ rest)
name_of_only bs true e cs n rest h =
    (ap (λ m. m.bytes) (some_first (record { bytes = bs; valid = e }) n cs rest h), some_rest (record { bytes = bs; valid = e }) n cs rest h)
name_of_only bs false e cs n rest h = cc

name_only : (bs : List ℕ) (n : Name) (rest : List ℕ) → name.get bs ≡ Some (n, rest) → (bs ≡ name.put n ++ rest) × Unit {0}
name_only bs n rest e =
    let p = name_of_only (take 8 bs) (padded_name (take 8 bs)) refl (drop 8 bs) n rest e in
    (sym (take-append-drop 8 bs) ∙ (λ i. p.0 i ++ p.1 i), tt)

pub name_lawful : Lawful name (λ n. Unit {0})
name_lawful = record { back = λ n h rest. name_back n rest; only = name_only }

-- the rest of a row, behind its name, kind and value
abbrev row_3 : Name → ℕ → ℤ → List ℕ → Option (Row × List ℕ)
row_3 n k v es = next (pair.get es) (λ l fs. Some (record { name = n; kind = k; value = v; line = l }, fs))

abbrev row_2 : Name → ℕ → List ℕ → Option (Row × List ℕ)
row_2 n k ds = next (value.get ds) (row_3 n k)

abbrev row_1 : Name → List ℕ → Option (Row × List ℕ)
row_1 n cs = next (byte.get cs) (row_2 n)

row_back : (r : Row) → SoundRow r → (rest : List ℕ) → row.get (row.put r ++ rest) ≡ Some (r, rest)
row_back r h rest =
    seq_back name (λ n. Unit {0}) name_lawful row_1 r.name tt (byte.put r.kind ++ (value.put r.value ++ pair.put r.line)) rest
    ∙ seq_back byte (λ b. b < 256) byte_lawful (row_2 r.name) r.kind h.0 (value.put r.value ++ pair.put r.line) rest
    ∙ seq_back value (SFits w32) value_lawful (row_3 r.name r.kind) r.value h.1.0 (pair.put r.line) rest
    ∙ last_back pair (λ n. n < 65536) pair_lawful (λ l fs. Some (record { name = r.name; kind = r.kind; value = r.value; line = l }, fs)) r.line h.1.1 rest

row_only : (bs : List ℕ) (r : Row) (rest : List ℕ) → row.get bs ≡ Some (r, rest) → (bs ≡ row.put r ++ rest) × SoundRow r
row_only bs r rest e =
    let a = seq_only name (λ n. Unit {0}) name_lawful row_1 bs r rest e in
    let b = seq_only byte (λ k. k < 256) byte_lawful (row_2 a.0) a.1 r rest a.4 in
    let c = seq_only value (SFits w32) value_lawful (row_3 a.0 b.0) b.1 r rest b.4 in
    let d = seq_only pair (λ n. n < 65536) pair_lawful (λ l fs. Some (record { name = a.0; kind = b.0; value = c.0; line = l }, fs)) c.1 r rest c.4 in
    let s : Row = record { name = a.0; kind = b.0; value = c.0; line = d.0 } in
    let same : s ≡ r = some_first s r d.1 rest d.4 in
    let behind : d.1 ≡ rest = some_rest s r d.1 rest d.4 in
    let all : bs ≡ row.put s ++ rest = glue bs (name.put a.0) a.1 (byte.put b.0 ++ (value.put c.0 ++ pair.put d.0)) rest a.2 (glue a.1 (byte.put b.0) b.1 (value.put c.0 ++ pair.put d.0) rest b.2 (glue b.1 (value.put c.0) c.1 (pair.put d.0) rest c.2 (d.2 ∙ ap (λ xs. pair.put d.0 ++ xs) behind))) in
    (all ∙ ap (λ x. row.put x ++ rest) same, subst SoundRow same (b.3, (c.3, d.3)))

pub row_lawful : Lawful row SoundRow
row_lawful = record { back = row_back; only = row_only }

-- a reference whose numbers are bytes
abbrev pub SmallReference : Reference → Type 0
SmallReference r = (r.position < 256) × (r.entry < 256)

abbrev reference_1 : ℕ → List ℕ → Option (Reference × List ℕ)
reference_1 p cs = next (byte.get cs) (λ e ds. Some (record { position = p; entry = e }, ds))

reference_back : (r : Reference) → SmallReference r → (rest : List ℕ) → reference.get (reference.put r ++ rest) ≡ Some (r, rest)
reference_back r h rest =
    last_back byte (λ b. b < 256) byte_lawful reference_1 r.position h.0 (r.entry ∷ rest)
    ∙ last_back byte (λ b. b < 256) byte_lawful (λ e ds. Some (record { position = r.position; entry = e }, ds)) r.entry h.1 rest

reference_only : (bs : List ℕ) (r : Reference) (rest : List ℕ) → reference.get bs ≡ Some (r, rest) → (bs ≡ reference.put r ++ rest) × SmallReference r
reference_only bs r rest e =
    let a = seq_only byte (λ b. b < 256) byte_lawful reference_1 bs r rest e in
    let b = seq_only byte (λ b. b < 256) byte_lawful (λ k ds. Some (record { position = a.0; entry = k }, ds)) a.1 r rest a.4 in
    let s : Reference = record { position = a.0; entry = b.0 } in
    let same : s ≡ r = some_first s r b.1 rest b.4 in
    (a.2 ∙ ap (λ cs. a.0 ∷ cs) b.2 ∙ (λ i. (same i).position ∷ (same i).entry ∷ some_rest s r b.1 rest b.4 i), subst SmallReference same (a.3, b.3))

pub reference_lawful : Lawful reference SmallReference
reference_lawful = record { back = reference_back; only = reference_only }

-- so many elements
module _ {X : Type 0} (f : Format X) (P : X → Type 0) (law : Lawful f P) where
  abbrev more : ℕ → X → List ℕ → Option (List X × List ℕ)
  more n x cs = next (many n f.get cs) (λ xs ds. Some (x ∷ xs, ds))

  pub many_back : (xs : List X) → AllByRecursion P xs → (rest : List ℕ) → many (length xs) f.get (each f.put xs ++ rest) ≡ Some (xs, rest)
  many_back [] h rest = refl
  many_back (x ∷ xs) h rest =
      seq_back f P law (more (length xs)) x h.0 (each f.put xs) rest
      ∙ ap (λ o. next o (λ ys ds. Some (x ∷ ys, ds))) (many_back xs h.1 rest)

  pub many_only : (n : ℕ) (bs : List ℕ) (xs : List X) (rest : List ℕ) → many n f.get bs ≡ Some (xs, rest) → (bs ≡ each f.put xs ++ rest) × AllByRecursion P xs × (length xs ≡ n)
  many_only zero bs xs rest e =
      let none : [] ≡ xs = some_first [] xs bs rest e in
      (some_rest [] xs bs rest e ∙ ap (λ ys. each f.put ys ++ rest) none, subst (AllByRecursion P) none tt, sym (ap length none))
  many_only (suc n) bs xs rest e =
      let a = seq_only f P law (more n) bs xs rest e in
      let b = next_some (many n f.get a.1) (λ ys ds. Some (a.0 ∷ ys, ds)) xs rest a.4 in
      let ys = b.0 in
      let same : a.0 ∷ ys ≡ xs = some_first (a.0 ∷ ys) xs b.1 rest b.3 in
      let behind : b.1 ≡ rest = some_rest (a.0 ∷ ys) xs b.1 rest b.3 in
      let c = many_only n a.1 ys rest (b.2 ∙ ap (λ ds. Some (ys, ds)) behind) in
      (glue bs (f.put a.0) a.1 (each f.put ys) rest a.2 c.0 ∙ ap (λ zs. each f.put zs ++ rest) same, subst (AllByRecursion P) same (a.3, c.1), sym (ap length same) ∙ ap suc c.2)

  -- a section
  module _ (count : Format ℕ) (C : ℕ → Type 0) (counts : Lawful count C) (limit : ℕ) (small : (n : ℕ) → n ≤ limit → C n) where
    abbrev behind_count : ℕ → List ℕ → Option (List X × List ℕ)
    behind_count n cs = many_within limit n f.get cs

    listed_back : (xs : List X) → (length xs ≤ limit) × AllByRecursion P xs → (rest : List ℕ) → (listed count limit f).get ((listed count limit f).put xs ++ rest) ≡ Some (xs, rest)
    listed_back xs h rest =
        seq_back count C counts behind_count (length xs) (small (length xs) h.0) (each f.put xs) rest
        ∙ ap (λ t. cond t (many (length xs) f.get (each f.put xs ++ rest)) None) (le-leb (length xs) limit h.0)
        ∙ many_back xs h.1 rest

    listed_only : (bs : List ℕ) (xs : List X) (rest : List ℕ) → (listed count limit f).get bs ≡ Some (xs, rest) → (bs ≡ (listed count limit f).put xs ++ rest) × ((length xs ≤ limit) × AllByRecursion P xs)
    listed_only bs xs rest e =
        let a = seq_only count C counts behind_count bs xs rest e in
        let b = passed (leb a.0 limit) (many a.0 f.get a.1) (xs, rest) a.4 in
        let c = many_only a.0 a.1 xs rest b.1 in
        (glue bs (count.put (length xs)) a.1 (each f.put xs) rest (a.2 ∙ ap (λ n. count.put n ++ a.1) (sym c.2)) c.0, (subst (λ n. n ≤ limit) (sym c.2) (leb-true a.0 limit b.0), c.1))

    pub listed_lawful : Lawful (listed count limit f) (λ xs. (length xs ≤ limit) × AllByRecursion P xs)
    listed_lawful = record { back = listed_back; only = listed_only }

  -- only what passes a test
  module _ (t : X → Bool) where
    tested_back : (x : X) → (t x ≡ true) × P x → (rest : List ℕ) → (tested t f).get ((tested t f).put x ++ rest) ≡ Some (x, rest)
    tested_back x h rest = last_back f P law (λ y cs. passing (t y) y cs) x h.1 rest ∙ ap (λ b. passing b x rest) h.0

    tested_only : (bs : List ℕ) (x : X) (rest : List ℕ) → (tested t f).get bs ≡ Some (x, rest) → (bs ≡ (tested t f).put x ++ rest) × ((t x ≡ true) × P x)
    tested_only bs x rest e =
        let a = seq_only f P law (λ y cs. passing (t y) y cs) bs x rest e in
        let b = passing_some (t a.0) a.0 x a.1 rest a.4 in
        (a.2 ∙ (λ i. f.put (b.1 i) ++ b.2 i), (subst (λ y. t y ≡ true) b.1 b.0, subst P b.1 a.3))

    pub tested_lawful : Lawful (tested t f) (λ x. (t x ≡ true) × P x)
    tested_lawful = record { back = tested_back; only = tested_only }

-- the same law, said of the same values in other words
pub lawful_as : {X : Type 0} (f : Format X) (P Q : X → Type 0) → Lawful f P → ((x : X) → Q x → P x) → ((x : X) → P x → Q x) → Lawful f Q
lawful_as f P Q law to from =
    record { back = λ x h rest. law.back x (to x h) rest; only = λ bs x rest e. let o = law.only bs x rest e in (o.0, from x o.1) }

-- what is read to the end
module _ {X : Type 0} (f : Format X) (P : X → Type 0) (law : Lawful f P) where
  none_left : (xs : List ℕ) → length xs ≡ 0 → xs ≡ []
  none_left [] e = refl
  none_left (x ∷ xs) e = absurd (omega arith)

  at_end : (y x : X) (cs : List ℕ) (t : Bool) → eqb (length cs) 0 ≡ t → cond t (Some y) None ≡ Some x → ◌≡◌ {A = Option (X × List ℕ)} (Some (y, cs)) (Some (x, []))
  at_end y x cs true h e = let same : y ≡ x = cc in λ i. Some (same i, none_left cs (eqb-true (length cs) 0 h) i)
  at_end y x cs false h e = cc

  whole_some : (o : Option (X × List ℕ)) (x : X) → whole o ≡ Some x → ◌≡◌ {A = Option (X × List ℕ)} o (Some (x, []))
  whole_some None x e = cc
  whole_some (Some p) x e = at_end p.0 x p.1 (eqb (length p.1) 0) refl e

  pub whole_back : (x : X) → P x → whole (f.get (f.put x)) ≡ Some x
  whole_back x h = ap (λ bs. whole (f.get bs)) (sym (append-nil (f.put x))) ∙ ap whole (law.back x h [])

  pub whole_only : (bs : List ℕ) (x : X) → whole (f.get bs) ≡ Some x → (f.put x ≡ bs) × P x
  whole_only bs x e =
      let o = law.only bs x [] (whole_some (f.get bs) x e) in
      (sym (o.0 ∙ append-nil (f.put x)), o.1)

  -- one writing of each value
  pub one_writing : (x y : X) → P x → P y → f.put x ≡ f.put y → x ≡ y
  one_writing x y h k e = let s : Some x ≡ Some y = sym (whole_back x h) ∙ ap (λ bs. whole (f.get bs)) e ∙ whole_back y k in cc
