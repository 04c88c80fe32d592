use Rattle.std.proofs.Common.{◌≡◌, ℕ, ◌≤◌, cond, leb, [], length, take, drop, sym, refl, ap, ◌∙◌, arith, rules}
use Rattle.std.proofs.lemmas.List.{take_at}
use Rattle.std.proofs.lemmas.Bool.{le-leb}
use Rattle.image.specs.Picture.{units, image_bytes, read}
use Rattle.image.proofs.Rounds.{round_trip}
use Rattle.image.proofs.image.Image.write.Goals as goal

fitting : (a b : ℕ) → a ≤ b → ◌≡◌ {A = ℕ} 0 (cond (leb a b) 0 52)
fitting a b h = ap (λ t. cond {A = ℕ} t 0 52) (sym (le-leb a b h))

pub returns : goal.returns
returns c =
    let u = units c.args.self.now in
    let bs = image_bytes u in
    let buffer = c.args.buffer.now in
    let h : length bs ≤ length buffer = omega (arith, c.if-size-buffer.false, c.size.ensures) in
    let p = c.append_sections.ensures.1 [] buffer refl refl h in
    let same : _ ≡ c.append_sections.new.out.bytes.now = search rules in
    let after = same ∙ p.0 in
    let n : c.append_sections.new.out.at ≡ length bs = omega (arith, p.1) in
    record {
      number = fitting (length bs) (length buffer) h;
      written = (n, after);
      back = λ w. ap read ((λ i. take (n i) (after i)) ∙ take_at bs (drop (length bs) buffer) (length bs) refl) ∙ round_trip.read_written u w;
    }
