use Rattle.std.proofs.Common.{◌≡◌, ◌≤◌, length, drop}
use Rattle.bounded.specs.Held.{held}
use Rattle.project.specs.Members.{members}
use Rattle.ledger.specs.Meaning.{meaning}
use Rattle.ledger.specs.Shelf.{translations, raised}
use Rattle.ledger.specs.Stored.{view, stored}
use Rattle.building.specs.Finish.{done_list}
use Rattle.building.specs.Course.{numbers}
use Rattle.building.proofs.Courses.{OnCourse}
use Rattle.building.proofs.workshop.Workshop.build.Given as goal

abbrev pub invariant-loop-place : goal.invariant-loop-place
invariant-loop-place g l =
    OnCourse (meaning g.T.Translator.means g.T.Translator.same) (stored g.S.Store.LIMIT (g.S.Store.rows l.initial.store)) (members l.project) l.places (drop l.place-index l.places) (view (g.S.Store.pairs l.initial.store)) (numbers (held l.self.marks)) (done_list l.self.done) (view (g.S.Store.pairs l.store))
    × (g.S.Store.rows l.store ≡ g.S.Store.rows l.initial.store)
    × (length (held l.self.marks) ≤ l.place-index)
    × (length (done_list l.self.done) ≤ l.place-index)
    × (g.T.Translator.asked l.translator ≡ raised (g.T.Translator.asked l.initial.translator) (translations (numbers (held l.self.marks))))
