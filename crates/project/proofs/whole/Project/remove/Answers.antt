use Rattle.std.proofs.Common.{◌≡◌, map, Some, sym, ap, ◌∙◌, arith}
use Rattle.bounded.specs.Held.{used}
use Rattle.project.specs.Members.{member, members}
use Rattle.project.proofs.Rows.{map_removed, without_at}
use Rattle.project.proofs.whole.Project.remove.Goals as goal

pub returns-clause-after : goal.returns-clause-after
returns-clause-after c =
    let vs = members c.args.self.now in
    let found : c.find.result ≡ Some c.in_ok-i.i = grind arith in
    ap (map member) c.remove.ensures ∙ map_removed member (used c.args.self.now.units) c.in_ok-i.i ∙ sym (without_at c.args.name vs c.in_ok-i.i (sym c.find.ensures ∙ found)).1
