use Rattle.std.proofs.Common.{◌<◌, ◌++◌, [], ◌∷◌, length, is_ok, ap, ◌∙◌, arith}
use Rattle.bounded.specs.Held.{held}
use Rattle.building.specs.declared.mark.Mark.TheVariants.{Failed}
use Rattle.building.specs.Step.{mark_number}
use Rattle.building.specs.Course.{numbers}
use Rattle.building.proofs.Courses.{marked_more, counts_on}
use Rattle.building.proofs.workshop.Workshop.build_at.Goals as goal

pub returns-in-Ok-clause-counts : goal.returns-in-Ok-clause-counts
returns-in-Ok-clause-counts g c = λ a e.
    let told = c.in-Ok.ensures in
    let was = held c.build_unit.new.self.marks in
    let few : length was < 24 = let s = ap length told.marks in let r = c.requires in omega arith in
    let one = marked_more was (held c.push.new.self) c.in-Ok.mark (is_ok c.push.result) c.push.ensures.fits few c.push.ensures.after in
    counts_on a _ _ (numbers (held c.args.self.now.marks)) (numbers (held c.push.new.self)) _ e told.counts (one ∙ ap (λ ks. numbers ks ++ mark_number c.in-Ok.mark ∷ []) told.marks)

pub returns-in-Err-clause-counts : goal.returns-in-Err-clause-counts
returns-in-Err-clause-counts g c = λ a e.
    let told = c.in-Err.ensures in
    let was = held c.build_unit.new.self.marks in
    let few : length was < 24 = let s = ap length told.marks in let r = c.requires in omega arith in
    let one = marked_more was (held c.push-in-Err.new.self) Failed (is_ok c.push-in-Err.result) c.push-in-Err.ensures.fits few c.push-in-Err.ensures.after in
    counts_on a _ _ (numbers (held c.args.self.now.marks)) (numbers (held c.push-in-Err.new.self)) _ e told.counts (one ∙ ap (λ ks. numbers ks ++ 2 ∷ []) told.marks)
