use Rattle.std.proofs.Common.{◌≡◌, ℕ, Bool, ltb, ◌&&◌, List, [], ◌∷◌, map, length, refl, rules, tests, ap, ◌∙◌}
use Rattle.std.specs.List.{list_all, zip}
use Rattle.std.proofs.lemmas.Iterator.{YieldsList-from_slice, YieldsList-from_zip}
use Rattle.std.proofs.lemmas.Iterator.Search.{all_from_yields_List}
use Rattle.bounded.specs.Held.{held, used}
use Rattle.image.proofs.sections.Sections.all_placed.Goals as goal

-- a test of pairs of what two lists hold
zip_held : {A B X Y : Type 0} (t : X → Y → Bool) (f : A → X) (g : B → Y) (xs : List A) (bs : List B) → list_all (λ p. t (f p.0) (g p.1)) (zip xs bs) ≡ list_all (λ p. t p.0 p.1) (zip (map f xs) (map g bs))
zip_held t f g [] bs = refl
zip_held t f g (a ∷ xs) [] = refl
zip_held t f g (a ∷ xs) (b ∷ bs) = ap (λ r. t (f a) (g b) && r) (zip_held t f g xs bs)

pub returns : goal.returns
returns c =
    let i = c.args.self.now in
    let t = λ (code places : List ℕ). list_all (λ e. ltb e (length code)) places in
    let zipped = c.zip.result in
    all_from_yields_List (λ p. t (held p.0) (held p.1)) c.all.new.self _ c.all.result c.all.ensures.ran
    (YieldsList-from_zip {xs = c.as_slice-codes.result.now} {ys = c.as_slice-entries.result.now} {s = zipped} (YieldsList-from_slice c.as_slice-codes.result.now (search rules)) (YieldsList-from_slice c.as_slice-entries.result.now (search rules))) (λ x b q k. search (rules, tests))
    ∙ (λ j. list_all (λ p. t (held p.0) (held p.1)) (zip (c.as_slice-codes.ensures j) (c.as_slice-entries.ensures j)))
    ∙ zip_held t held held (used i.codes.lists) (used i.entries.lists)
