use Rattle.std.proofs.Common.{◌≡◌, None, sym, ap, ◌∙◌}
use Rattle.artifact.specs.Art.{art}
use Rattle.project.specs.Members.{member}
use Rattle.store.specs.Pairs.{lookup}
use Rattle.ledger.specs.Meaning.{meaning}
use Rattle.ledger.specs.Fresh.{interfaces}
use Rattle.ledger.specs.Shelf.{current}
use Rattle.ledger.specs.Stored.{view, artifact_in}
use Rattle.names.specs.declared.name.Name.{Name}
use Rattle.building.specs.Finish.{done_list}
use Rattle.building.specs.Step.{current_to}
use Rattle.building.proofs.Found.{got_none}
use Rattle.building.proofs.Units.{current_is, from_here}
use Rattle.building.proofs.workshop.Workshop.build_unit.Goals as goal

pub returns-then-is_err-clause-built : goal.returns-then-is_err-clause-built
returns-then-is_err-clause-built g c = λ few.
    let m = meaning g.T.Translator.means g.T.Translator.same in
    let u = member c.args.unit.now in
    let ds = done_list c.args.self.now.done in
    let ps = g.S.Store.pairs c.args.store.now in
    let qs = g.S.Store.pairs c.recall.new.store in
    let none : current m u (interfaces ds u) (artifact_in (lookup qs u.name.bytes)) ≡ None =
    ap (λ xs. current m u (interfaces ds u) (artifact_in (lookup xs u.name.bytes))) c.recall.ensures.pairs
    ∙ current_is m u (interfaces ds u) (art c.prepare.new.self.fresh) (artifact_in (lookup ps u.name.bytes)) c.prepare.ensures.fresh
    ∙ ap (λ (n : Name). current_to g.T.Translator.same (art c.prepare.new.self.fresh) (artifact_in (lookup ps n.bytes))) (sym c.name-name.ensures)
    ∙ sym c.recall.ensures.finds
    ∙ got_none c.recall.result (art c.recall.new.self.kept) c.if-is_err.ensures.value in
    from_here m g.S.Store.LIMIT (g.S.Store.rows c.args.store.now) (g.S.Store.rows c.recall.new.store) u ds (done_list c.make_unit.new.self.done) ps qs (view (g.S.Store.pairs c.make_unit.new.store)) c.make_unit.result c.recall.ensures.rows c.recall.ensures.pairs
    (c.make_unit.ensures.built few u (sym c.name-name.ensures) (c.recall.ensures.fresh ∙ c.prepare.ensures.fresh) none)
