use Rattle.std.proofs.Common.{rules, tests, List, ℕ, not, eqb, length, sym, ap, ◌∙◌}
use Rattle.std.specs.List.{slice_get}
use Rattle.std.specs.Option.{option_map}
use Rattle.std.proofs.lemmas.Iterator.{YieldsList-from_slice}
use Rattle.std.proofs.lemmas.Iterator.Consumers.{nth_from_yields_List, YieldsList-from_filter, YieldsList-at}
use Rattle.std.proofs.lemmas.Iterator.Search.{position_from_yields_List}
use Rattle.std.proofs.lemmas.Iterator.Splits.{YieldsList-from_slice_split}
use Rattle.std.proofs.lemmas.List.{take_rest}
use Rattle.words.proofs.Spaces.{parted, from_first, without_first}
use Rattle.words.proofs.word.Goals as goal

pub returns : goal.returns
returns c =
    let code = c.uncommented-code.result.now in
    let at = position_from_yields_List (λ b. not (eqb b 32)) _ _ c.position.result c.position.ensures.ran (YieldsList-from_slice _ c.iter.ensures.rest) (λ x b q k. search (rules, tests)) in
    nth_from_yields_List c.nth.result _ c.args.place c.nth.ensures.ran
    (YieldsList-from_filter _ (λ w. not (eqb (length w) 0))
    (YieldsList-at c.filter.ensures.source (YieldsList-from_slice_split _ (λ b. eqb b 32) _ c.split.ensures.rest c.split.ensures.done c.split.ensures.closure (λ x b q k. search (rules, tests))))
    c.filter.ensures.closure (λ x b q k. search (rules, tests)))
    ∙ ap (λ ws. slice_get ws c.args.place) (ap parted (take_rest code c.in_ok-first.first) ∙ from_first code c.in_ok-first.first (sym c.in_ok-first.was ∙ at))
    ∙ ap (λ (bs : List ℕ). slice_get (parted bs) c.args.place) c.uncommented-code.ensures

pub returns-in_err-first : goal.returns-in_err-first
returns-in_err-first c =
    let code = c.uncommented-code.result.now in
    let at = position_from_yields_List (λ b. not (eqb b 32)) _ _ c.position.result c.position.ensures.ran (YieldsList-from_slice _ c.iter.ensures.rest) (λ x b q k. search (rules, tests)) in
    ap (λ o. option_map (λ x. x.now) o) c.from_residual.ensures
    ∙ ap (λ ws. slice_get ws c.args.place) (sym (without_first code (sym c.in_err-first.was ∙ at)))
    ∙ ap (λ (bs : List ℕ). slice_get (parted bs) c.args.place) c.uncommented-code.ensures
