-- Artifacts read back to exactly what was written, and are written again exactly as they were read.
use Rattle.std.proofs.Common.{◌≡◌, ℕ, ◌<◌, ◌≤◌, Bool, true, ltb, leb, List, [], ◌∷◌, ◌++◌, length, Some, Option, refl, ap, ◌∙◌, subst, arith}
use Rattle.std.specs.List.{AllByRecursion, list_all}
use Rattle.std.proofs.ByRecursion.{All-weaker}
use Rattle.std.proofs.lemmas.Bool.{lt-ltb, ltb-true, le-leb, leb-true, and_parts}
use Rattle.product.specs.Parts.{Parts, SoundRow, WithinRows, SoundReference, Within}
use Rattle.product.specs.declared.row.Row.{Row}
use Rattle.product.specs.declared.row.Reference.{Reference}
use Rattle.codec.specs.Format.{next, listed, byte, pair, row, reference, interface, code}
use Rattle.codec.proofs.Laws.{Lawful, seq_back, last_back, seq_only, glue, some_first, some_rest, byte_lawful, pair_lawful, row_lawful, SmallReference, reference_lawful, listed_lawful, tested_lawful, lawful_as}
use Rattle.artifact.specs.Art.{Art, WithinArt, source, imports, entries, references, product, artifact}

-- a test of each element, as a fact of each
module _ {X : Type 0} (t : X → Bool) (P : X → Type 0) (yes : (x : X) → P x → t x ≡ true) (fact : (x : X) → t x ≡ true → P x) where
  all_yes : (xs : List X) → AllByRecursion P xs → list_all t xs ≡ true
  all_yes [] h = refl
  all_yes (x ∷ xs) h = simp (yes x h.0, all_yes xs h.1)

  all_fact : (xs : List X) → list_all t xs ≡ true → AllByRecursion P xs
  all_fact [] h = tt
  all_fact (x ∷ xs) h = let p = and_parts (t x) (list_all t xs) h in (fact x p.0, all_fact xs p.1)

all_both : {X : Type 0} (P Q R : X → Type 0) → ((x : X) → P x → Q x → R x) → (xs : List X) → AllByRecursion P xs → AllByRecursion Q xs → AllByRecursion R xs
all_both P Q R f [] h k = tt
all_both P Q R f (x ∷ xs) h k = (f x h.0 k.0, all_both P Q R f xs h.1 k.1)

abbrev BytesWithin : ℕ → List ℕ → Type 0
BytesWithin n bs = (length bs ≤ n) × AllByRecursion (λ b. b < 256) bs

source_lawful : Lawful source (BytesWithin 512)
source_lawful = listed_lawful byte (λ b. b < 256) byte_lawful pair (λ n. n < 65536) pair_lawful 512 (λ n h. omega arith)

pub interface_lawful : Lawful interface WithinRows
interface_lawful = listed_lawful row SoundRow row_lawful byte (λ b. b < 256) byte_lawful 12 (λ n h. omega arith)

imports_lawful : Lawful imports (λ is. (length is ≤ 4) × AllByRecursion WithinRows is)
imports_lawful = listed_lawful interface WithinRows interface_lawful byte (λ b. b < 256) byte_lawful 4 (λ n h. omega arith)

pub code_lawful : Lawful code (BytesWithin 384)
code_lawful = listed_lawful byte (λ b. b < 256) byte_lawful pair (λ n. n < 65536) pair_lawful 384 (λ n h. omega arith)

-- entries in code of at most 384 bytes
abbrev EntriesWithin : ℕ → List ℕ → Type 0
EntriesWithin n es = (length es ≤ 12) × AllByRecursion (λ e. e < n) es

entries_lawful : (n : ℕ) → n ≤ 384 → Lawful (entries n) (EntriesWithin n)
entries_lawful n small =
    lawful_as (entries n)
    (λ es. (list_all (λ e. ltb e n) es ≡ true) × ((length es ≤ 12) × AllByRecursion (λ e. e < 65536) es)) (EntriesWithin n)
    (tested_lawful (listed byte 12 pair) (λ es. (length es ≤ 12) × AllByRecursion (λ e. e < 65536) es) (listed_lawful pair (λ k. k < 65536) pair_lawful byte (λ b. b < 256) byte_lawful 12 (λ k h. omega arith)) (list_all (λ e. ltb e n)))
    (λ es h. (all_yes (λ e. ltb e n) (λ e. e < n) (λ e. lt-ltb e n) (λ e. ltb-true e n) es h.1, (h.0, All-weaker (λ e. e < n) (λ e. e < 65536) (λ e k. omega arith) es h.1)))
    (λ es h. (h.1.0, all_fact (λ e. ltb e n) (λ e. e < n) (λ e. lt-ltb e n) (λ e. ltb-true e n) es h.0))

-- references of a unit with so many imports
abbrev ReferencesWithin : ℕ → List Reference → Type 0
ReferencesWithin n rs = (length rs ≤ 32) × AllByRecursion (SoundReference n) rs

references_lawful : (n : ℕ) → n ≤ 4 → Lawful (references n) (ReferencesWithin n)
references_lawful n small =
    let t : Reference → Bool = λ r. leb r.position n in
    let P : Reference → Type 0 = λ r. r.position ≤ n in
    let yes : (r : Reference) → r.position ≤ n → leb r.position n ≡ true = λ r. le-leb r.position n in
    let fact : (r : Reference) → leb r.position n ≡ true → r.position ≤ n = λ r. leb-true r.position n in
    lawful_as (references n)
    (λ rs. (list_all (λ r. leb r.position n) rs ≡ true) × ((length rs ≤ 32) × AllByRecursion SmallReference rs)) (ReferencesWithin n)
    (tested_lawful (listed byte 32 reference) (λ rs. (length rs ≤ 32) × AllByRecursion SmallReference rs) (listed_lawful reference SmallReference reference_lawful byte (λ b. b < 256) byte_lawful 32 (λ k h. omega arith)) (list_all (λ r. leb r.position n)))
    (λ rs h. (all_yes t P yes fact rs (All-weaker (SoundReference n) P (λ r s. s.0) rs h.1), (h.0, All-weaker (SoundReference n) SmallReference (λ r s. (let k : r.position ≤ n = s.0 in omega arith, s.1)) rs h.1)))
    (λ rs h. (h.1.0, all_both P SmallReference (SoundReference n) (λ r p s. (p, s.1)) rs (all_fact t P yes fact rs h.0) h.1.1))

-- the rest of a product, behind its interface, code and entries
abbrev product_3 : ℕ → List Row → List ℕ → List ℕ → List ℕ → Option (Parts × List ℕ)
product_3 n i c e es = next ((references n).get es) (λ r fs. Some (record { interface = i; code = c; entries = e; references = r }, fs))

abbrev product_2 : ℕ → List Row → List ℕ → List ℕ → Option (Parts × List ℕ)
product_2 n i c ds = next ((entries (length c)).get ds) (product_3 n i c)

abbrev product_1 : ℕ → List Row → List ℕ → Option (Parts × List ℕ)
product_1 n i cs = next (code.get cs) (product_2 n i)

module _ (n : ℕ) (small : n ≤ 4) where
  product_back : (p : Parts) → Within n p → (rest : List ℕ) → (product n).get ((product n).put p ++ rest) ≡ Some (p, rest)
  product_back p h rest =
      let c = p.code in
      let e = (listed byte 12 pair).put p.entries in
      let r = (listed byte 32 reference).put p.references in
      seq_back interface WithinRows interface_lawful (product_1 n) p.interface h.interface (code.put c ++ (e ++ r)) rest
      ∙ seq_back code (BytesWithin 384) code_lawful (product_2 n p.interface) c (h.few_code, h.code) (e ++ r) rest
      ∙ seq_back (entries (length c)) (EntriesWithin (length c)) (entries_lawful (length c) h.few_code) (product_3 n p.interface c) p.entries (h.few_entries, h.entries) r rest
      ∙ last_back (references n) (ReferencesWithin n) (references_lawful n small) (λ x fs. Some (record { interface = p.interface; code = c; entries = p.entries; references = x }, fs)) p.references (h.few_references, h.references) rest

  product_only : (bs : List ℕ) (p : Parts) (rest : List ℕ) → (product n).get bs ≡ Some (p, rest) → (bs ≡ (product n).put p ++ rest) × Within n p
  product_only bs p rest eq =
      let a = seq_only interface WithinRows interface_lawful (product_1 n) bs p rest eq in
      let b = seq_only code (BytesWithin 384) code_lawful (product_2 n a.0) a.1 p rest a.4 in
      let c = seq_only (entries (length b.0)) (EntriesWithin (length b.0)) (entries_lawful (length b.0) b.3.0) (product_3 n a.0 b.0) b.1 p rest b.4 in
      let d = seq_only (references n) (ReferencesWithin n) (references_lawful n small) (λ x fs. Some (record { interface = a.0; code = b.0; entries = c.0; references = x }, fs)) c.1 p rest c.4 in
      let q : Parts = record { interface = a.0; code = b.0; entries = c.0; references = d.0 } in
      let same : q ≡ p = some_first q p d.1 rest d.4 in
      let behind : d.1 ≡ rest = some_rest q p d.1 rest d.4 in
      let e = (listed byte 12 pair).put c.0 in
      let r = (listed byte 32 reference).put d.0 in
      let all : bs ≡ (product n).put q ++ rest = glue bs (interface.put a.0) a.1 (code.put b.0 ++ (e ++ r)) rest a.2 (glue a.1 (code.put b.0) b.1 (e ++ r) rest b.2 (glue b.1 e c.1 r rest c.2 (d.2 ∙ ap (λ xs. r ++ xs) behind))) in
      let good : Within n q = record { interface = a.3; few_code = b.3.0; code = b.3.1; few_entries = c.3.0; entries = c.3.1; few_references = d.3.0; references = d.3.1 } in
      (all ∙ ap (λ x. (product n).put x ++ rest) same, subst (Within n) same good)

  pub product_lawful : Lawful (product n) (Within n)
  product_lawful = record { back = product_back; only = product_only }

abbrev artifact_2 : List ℕ → List (List Row) → List ℕ → Option (Art × List ℕ)
artifact_2 s i ds = next ((product (length i)).get ds) (λ p es. Some (record { source = s; imports = i; product = p }, es))

abbrev artifact_1 : List ℕ → List ℕ → Option (Art × List ℕ)
artifact_1 s cs = next (imports.get cs) (artifact_2 s)

abbrev ImportsWithin : List (List Row) → Type 0
ImportsWithin is = (length is ≤ 4) × AllByRecursion WithinRows is

artifact_back : (a : Art) → WithinArt a → (rest : List ℕ) → artifact.get (artifact.put a ++ rest) ≡ Some (a, rest)
artifact_back a h rest =
    let n = length a.imports in
    seq_back source (BytesWithin 512) source_lawful artifact_1 a.source (h.few_source, h.source) (imports.put a.imports ++ (product n).put a.product) rest
    ∙ seq_back imports ImportsWithin imports_lawful (artifact_2 a.source) a.imports (h.few_imports, h.imports) ((product n).put a.product) rest
    ∙ last_back (product n) (Within n) (product_lawful n h.few_imports) (λ p es. Some (record { source = a.source; imports = a.imports; product = p }, es)) a.product h.product rest

artifact_only : (bs : List ℕ) (a : Art) (rest : List ℕ) → artifact.get bs ≡ Some (a, rest) → (bs ≡ artifact.put a ++ rest) × WithinArt a
artifact_only bs a rest eq =
    let s = seq_only source (BytesWithin 512) source_lawful artifact_1 bs a rest eq in
    let i = seq_only imports ImportsWithin imports_lawful (artifact_2 s.0) s.1 a rest s.4 in
    let n = length i.0 in
    let p = seq_only (product n) (Within n) (product_lawful n i.3.0) (λ x es. Some (record { source = s.0; imports = i.0; product = x }, es)) i.1 a rest i.4 in
    let b : Art = record { source = s.0; imports = i.0; product = p.0 } in
    let same : b ≡ a = some_first b a p.1 rest p.4 in
    let behind : p.1 ≡ rest = some_rest b a p.1 rest p.4 in
    let all : bs ≡ artifact.put b ++ rest = glue bs (source.put s.0) s.1 (imports.put i.0 ++ (product n).put p.0) rest s.2 (glue s.1 (imports.put i.0) i.1 ((product n).put p.0) rest i.2 (p.2 ∙ ap (λ xs. (product n).put p.0 ++ xs) behind)) in
    let good : WithinArt b = record { few_source = s.3.0; source = s.3.1; few_imports = i.3.0; imports = i.3.1; product = p.3 } in
    (all ∙ ap (λ x. artifact.put x ++ rest) same, subst WithinArt same good)

pub artifact_lawful : Lawful artifact WithinArt
artifact_lawful = record { back = artifact_back; only = artifact_only }
