use Rattle.std.proofs.Common.{rules, tests, sym, ap, ◌∙◌}
use Rattle.std.specs.List.{list_all}
use Rattle.std.proofs.lemmas.List.Folds.{list_all-map}
use Rattle.std.proofs.lemmas.Iterator.{YieldsList-from_slice}
use Rattle.std.proofs.lemmas.Iterator.Search.{all_from_yields_List}
use Rattle.bounded.specs.Held.{held, used}
use Rattle.image.specs.Picture.{parts, present}
use Rattle.image.proofs.sections.Sections.all_meet.Goals as goal

pub returns : goal.returns
returns c =
    let i = c.args.self.now in
    let t = list_all (present (parts i).entries) in
    all_from_yields_List (λ b. t (held b)) _ _ c.all.result c.all.ensures.ran (YieldsList-from_slice _ c.iter.ensures.rest) (λ x b q k. search (rules, tests))
    ∙ ap (list_all (λ b. t (held b))) c.as_slice.ensures
    ∙ sym (list_all-map t held (used i.references.lists))
