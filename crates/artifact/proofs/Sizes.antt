-- How long an artifact is.
use Rattle.std.proofs.Common.{◌≡◌, ℕ, zero, suc, ◌+◌, ◌*◌, ◌<◌, ◌≤◌, List, [], ◌∷◌, ◌++◌, length, replicate, pos, sym, refl, ap, ◌∙◌, suc-mul, zero-mul, arith, lit<, length-append}
use lib.ListN.{length-replicate}
use mir.Facts.{sfits_lit}
use Rattle.std.specs.List.{AllByRecursion}
use Rattle.std.proofs.ByRecursion.{All-weaker}
use Rattle.product.specs.Parts.{SoundRow, WithinRows, SoundReference}
use Rattle.product.specs.declared.row.Row.{Row}
use Rattle.product.specs.declared.row.Reference.{Reference}
use Rattle.codec.specs.Format.{each, byte, pair, reference, interface, code}
use Rattle.codec.proofs.Lengths.{each-length, each_at_most, bytes_length, rows-length, code-length}
use Rattle.artifact.specs.Art.{Art, WithinArt, source, imports, entries, references, artifact_bytes}

-- an artifact whose lists are within their limits, whatever stands in them
pub record Short (a : Art) : Type 0 where
  pub few_source : length a.source ≤ 512
  pub few_imports : length a.imports ≤ 4
  pub imports : AllByRecursion (λ rs. length rs ≤ 12) a.imports
  pub few_rows : length a.product.interface ≤ 12
  pub few_code : length a.product.code ≤ 384
  pub few_entries : length a.product.entries ≤ 12
  pub few_references : length a.product.references ≤ 32

rows_short : (rs : List Row) → length rs ≤ 12 → length (interface.put rs) ≤ 181
rows_short rs h = omega (arith, rows-length rs)

-- six sections one behind the other
six : (a b c d e f : List ℕ) → length (a ++ (b ++ (c ++ (d ++ (e ++ f))))) ≡ length a + (length b + (length c + (length d + (length e + length f))))
six a b c d e f = simp length-append

pub short_fits : (a : Art) → Short a → length (artifact_bytes a) ≤ 1896
short_fits a h =
    let p = a.product in
    let i = interface.put p.interface in
    let c = code.put p.code in
    let e = (entries (length p.code)).put p.entries in
    let r = (references (length a.imports)).put p.references in
    let s = source.put a.source in
    let m = imports.put a.imports in
    let s-long : length s ≡ 2 + length a.source = ap (λ n. suc (suc n)) (bytes_length a.source) ∙ omega arith in
    let m-long : length m ≤ 1 + length a.imports * 181 = omega (arith, each_at_most interface.put 181 (λ rs. length rs ≤ 12) rows_short a.imports h.imports) in
    let e-long : length e ≡ 1 + length p.entries * 2 = ap suc (each-length pair.put 2 (λ n. refl) p.entries) ∙ omega arith in
    let r-long : length r ≡ 1 + length p.references * 2 = ap suc (each-length reference.put 2 (λ x. refl) p.references) ∙ omega arith in
    let i-long : length i ≤ 181 = rows_short p.interface h.few_rows in
    let c-long : length c ≡ 2 + length p.code = code-length p.code in
    let few_source : length a.source ≤ 512 = h.few_source in
    let few_imports : length a.imports ≤ 4 = h.few_imports in
    let few_code : length p.code ≤ 384 = h.few_code in
    let few_entries : length p.entries ≤ 12 = h.few_entries in
    let few_references : length p.references ≤ 32 = h.few_references in
    let all : length (artifact_bytes a) ≡ length s + (length m + (length i + (length c + (length e + length r)))) = six s m i c e r in
    omega arith

pub within_short : (a : Art) → WithinArt a → Short a
within_short a h =
    record {
      few_source = h.few_source;
      few_imports = h.few_imports;
      imports = All-weaker WithinRows (λ rs. length rs ≤ 12) (λ rs k. k.0) a.imports h.imports;
      few_rows = h.product.interface.0;
      few_code = h.product.few_code;
      few_entries = h.product.few_entries;
      few_references = h.product.few_references;
    }

all_same : {X : Type 0} (P : X → Type 0) (x : X) → P x → (n : ℕ) → AllByRecursion P (replicate n x)
all_same P x h zero = tt
all_same P x h (suc n) = (h, all_same P x h n)

-- a row and a reference that stand for any
some_row : Row
some_row = record { name = record { bytes = 97 ∷ 0 ∷ 0 ∷ 0 ∷ 0 ∷ 0 ∷ 0 ∷ 0 ∷ []; valid = refl }; kind = 0; value = pos 0; line = 0 }

some_reference : Reference
some_reference = record { position = 0; entry = 0 }

some_rows : List Row
some_rows = replicate 12 some_row

-- an artifact with every list at its limit
abbrev full_of : List Row → Row → Reference → Art
full_of rs r x =
    record {
      source = replicate 512 0;
      imports = replicate 4 rs;
      product = record { interface = replicate 12 r; code = replicate 384 0; entries = replicate 12 0; references = replicate 32 x };
    }

sound : SoundRow some_row
unfolding some_row
sound = (lit< tt, (sfits_lit tt, lit< tt))

sound_rows : WithinRows some_rows
unfolding some_rows
sound_rows = (omega (arith, length-replicate 12 some_row), all_same SoundRow some_row sound 12)

pub full : Art
full = full_of some_rows some_row some_reference

pub full_within : WithinArt full
unfolding full some_reference
full_within =
    record {
      few_source = omega (arith, length-replicate {A = ℕ} 512 0);
      source = all_same (λ b. b < 256) 0 (lit< tt) 512;
      few_imports = omega (arith, length-replicate 4 some_rows);
      imports = all_same WithinRows some_rows sound_rows 4;
      product =
          record {
            interface = (omega (arith, length-replicate 12 some_row), all_same SoundRow some_row sound 12);
            few_code = omega (arith, length-replicate {A = ℕ} 384 0);
            code = all_same (λ b. b < 256) 0 (lit< tt) 384;
            few_entries = omega (arith, length-replicate {A = ℕ} 12 0);
            entries = all_same (λ e. e < length (replicate {A = ℕ} 384 0)) 0 (omega (arith, length-replicate {A = ℕ} 384 0)) 12;
            few_references = omega (arith, length-replicate 32 some_reference);
            references = all_same (SoundReference (length (replicate 4 some_rows))) some_reference (omega arith, lit< tt) 32;
          };
    }

each_same : {X : Type 0} (put : X → List ℕ) (x : X) (n : ℕ) → length (each put (replicate n x)) ≡ n * length (put x)
each_same put x zero = sym (zero-mul (length (put x)))
each_same put x (suc n) = length-append (put x) (each put (replicate n x)) ∙ ap (λ k. length (put x) + k) (each_same put x n) ∙ sym (suc-mul n (length (put x)) ∙ omega arith)

rows_full : (r : Row) → length (interface.put (replicate 12 r)) ≡ 181
rows_full r = rows-length (replicate 12 r) ∙ ap (λ n. 1 + n * 15) (length-replicate 12 r)

-- every limit reached
full_sums : (rs : List Row) (r : Row) (x : Reference) → length (interface.put rs) ≡ 181 → length (artifact_bytes (full_of rs r x)) ≡ 1896
full_sums rs r x h =
    let s = source.put (replicate 512 0) in
    let m = imports.put (replicate 4 rs) in
    let i = interface.put (replicate 12 r) in
    let c = code.put (replicate 384 0) in
    let e = (entries (length (replicate {A = ℕ} 384 0))).put (replicate 12 0) in
    let f = (references (length (replicate 4 rs))).put (replicate 32 x) in
    let s-long : length s ≡ 514 = ap (λ n. suc (suc n)) (each_same byte.put 0 512) in
    let m-long : length m ≡ 725 = ap suc (each_same interface.put rs 4 ∙ ap (λ n. 4 * n) h) in
    let c-long : length c ≡ 386 = ap (λ n. suc (suc n)) (each_same byte.put 0 384) in
    let e-long : length e ≡ 25 = ap suc (each_same pair.put 0 12) in
    let f-long : length f ≡ 65 = ap suc (each_same reference.put x 32) in
    let i-long : length i ≡ 181 = rows_full r in
    let all : length (artifact_bytes (full_of rs r x)) ≡ length s + (length m + (length i + (length c + (length e + length f)))) = six s m i c e f in
    omega arith

pub full_long : length (artifact_bytes full) ≡ 1896
unfolding full some_rows
full_long = full_sums some_rows some_row some_reference (rows_full some_row)
