-- The theorem of the round trip.
use Rattle.std.proofs.Common.{◌≡◌, ℕ, suc, ◌+◌, ◌*◌, ◌<◌, ◌≤◌, List, [], ◌∷◌, ◌++◌, map, length, drop, refl, ap, ◌∙◌, suc-mul, zero-mul, arith, length-append}
use Rattle.std.specs.List.{AllByRecursion}
use Rattle.codec.specs.Format.{each, pair, name, code}
use Rattle.codec.proofs.Laws.{whole_back, whole_only, one_writing, name-length}
use Rattle.codec.proofs.Lengths.{each-length, code-length}
use Rattle.image.specs.Dealt.{flat, deal, dealt}
use Rattle.image.specs.Picture.{Units, WithinUnits, SmallTarget, target, names, exactly, image, image_bytes}
use Rattle.image.specs.Round.{RoundTrip, Linked, gathered}
use Rattle.image.proofs.Laws.{image_lawful}

codes_long : (cs : List (List ℕ)) → length (each code.put cs) ≡ length cs * 2 + length (flat cs)
codes_long [] = refl
codes_long (c ∷ cs) =
    let a : length (each code.put cs) ≡ length cs * 2 + length (flat cs) = codes_long cs in
    let b : length (code.put c ++ each code.put cs) ≡ length (code.put c) + length (each code.put cs) = length-append (code.put c) (each code.put cs) in
    let d : length (c ++ flat cs) ≡ length c + length (flat cs) = length-append c (flat cs) in
    let e : length (code.put c) ≡ 2 + length c = code-length c in
    omega arith

module _ {X : Type 0} (put : X → List ℕ) (two : (x : X) → length (put x) ≡ 2) where
  row_long : (u : ℕ) (x : X) → length (u ∷ put x) ≡ 3
  row_long u x = ap suc (two x)

  deal_long : (u : ℕ) (xss : List (List X)) → length (deal put u xss) ≡ length (flat xss) * 3
  deal_long u [] = refl
  deal_long u (xs ∷ xss) =
      let a : length (deal put (suc u) xss) ≡ length (flat xss) * 3 = deal_long (suc u) xss in
      let b : length (each (λ x. u ∷ put x) xs) ≡ length xs * 3 = each-length (λ x. u ∷ put x) 3 (row_long u) xs in
      let c : length (each (λ x. u ∷ put x) xs ++ deal put (suc u) xss) ≡ length (each (λ x. u ∷ put x) xs) + length (deal put (suc u) xss) = length-append (each (λ x. u ∷ put x) xs) (deal put (suc u) xss) in
      let d : length (xs ++ flat xss) ≡ length xs + length (flat xss) = length-append xs (flat xss) in
      omega arith

four : (a b c d : List ℕ) → length (a ++ (b ++ (c ++ d))) ≡ length a + (length b + (length c + length d))
four a b c d = simp length-append

-- how long an image is
pub image_long : (u : Units) → length (image_bytes u) ≡ 6 + 8 * length u.names + 2 * length u.codes + length (flat u.codes) + 3 * length (flat u.entries) + 3 * length (flat u.references)
image_long u =
    let n = length u.names in
    let a = names.put u.names in
    let c = (exactly n code).put u.codes in
    let e = (dealt 12 n pair).put u.entries in
    let r = (dealt 32 n target).put u.references in
    let a-long : length a ≡ 1 + n * 8 = ap suc (each-length name.put 8 name-length u.names) ∙ omega arith in
    let c-long : length c ≡ 1 + (length u.codes * 2 + length (flat u.codes)) = ap suc (codes_long u.codes) ∙ omega arith in
    let e-long : length e ≡ 2 + length (flat u.entries) * 3 = ap (λ k. suc (suc k)) (deal_long pair.put (λ x. refl) 0 u.entries) ∙ omega arith in
    let r-long : length r ≡ 2 + length (flat u.references) * 3 = ap (λ k. suc (suc k)) (deal_long target.put (λ x. refl) 0 u.references) ∙ omega arith in
    let all : length (image_bytes u) ≡ length a + (length c + (length e + length r)) = four a c e r in
    omega arith

flat-within : {X : Type 0} (P : X → Type 0) (m : ℕ) (xss : List (List X)) → AllByRecursion (λ xs. (length xs ≤ m) × AllByRecursion P xs) xss → length (flat xss) ≤ length xss * m
flat-within P m [] h = omega (arith, zero-mul m)
flat-within P m (xs ∷ xss) h = omega (arith, length-append xs (flat xss), flat-within P m xss h.1, suc-mul (length xss) m, h.0.0)

abbrev first : {X : Type 0} → X → List X → X
first d [] = d
first d (x ∷ xs) = x

-- units one by one are given by their parts
same_units : (us vs : List Linked) → map (λ u. u.name) us ≡ map (λ u. u.name) vs → map (λ u. u.code) us ≡ map (λ u. u.code) vs → map (λ u. u.entries) us ≡ map (λ u. u.entries) vs →
    map (λ u. u.references) us ≡ map (λ u. u.references) vs → us ≡ vs
same_units [] [] a b c d = refl
same_units [] (v ∷ vs) a b c d = absurd (let e : ◌≡◌ {A = ℕ} 0 (suc (length (map (λ (u : Linked). u.code) vs))) = ap length b in omega arith)
same_units (u ∷ us) [] a b c d = absurd (let e : ◌≡◌ {A = ℕ} (suc (length (map (λ (u : Linked). u.code) us))) 0 = ap length b in omega arith)
same_units (u ∷ us) (v ∷ vs) a b c d =
    let same : u ≡ v = λ i. record { name = first u.name (a i); code = first u.code (b i); entries = first u.entries (c i); references = first u.references (d i) } in
    λ i. same i ∷ same_units us vs (ap (drop 1) a) (ap (drop 1) b) (ap (drop 1) c) (ap (drop 1) d) i

longest : (u : Units) → WithinUnits u → length (image_bytes u) ≤ 12630
longest u h =
    omega (arith, image_long u, h.few, h.coded, h.entered, h.referred, flat-within (λ b. b < 256) 384 u.codes h.codes, flat-within (λ e. e < 65536) 12 u.entries h.entries, flat-within SmallTarget 32 u.references h.references)

pub round_trip : RoundTrip
round_trip =
    record {
      read_written = whole_back image WithinUnits image_lawful;
      written_read = λ bs u e. (whole_only image WithinUnits image_lawful bs u e).0;
      within = λ bs u e. (whole_only image WithinUnits image_lawful bs u e).1;
      one_writing = one_writing image WithinUnits image_lawful;
      one_by_one = λ us vs h k e. let s : gathered us ≡ gathered vs = one_writing image WithinUnits image_lawful (gathered us) (gathered vs) h k e in same_units us vs (ap (λ u. u.names) s) (ap (λ u. u.codes) s) (ap (λ u. u.entries) s) (ap (λ u. u.references) s);
      longest = longest;
      two_written = refl;
      two_read = refl;
      none_written = refl;
      none_read = refl;
    }
