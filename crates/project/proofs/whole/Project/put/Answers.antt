use Rattle.std.proofs.Common.{map, set, is_ok, sym, ap, ◌∙◌}
use Rattle.std.proofs.lemmas.List.{map-set}
use Rattle.bounded.specs.Held.{used}
use Rattle.project.specs.Members.{Member, member, members}
use Rattle.project.proofs.Rows.{with_at, added}
use Rattle.project.proofs.whole.Project.put.Goals as goal

pub returns-in-Some-clause-after : goal.returns-in-Some-clause-after
returns-in-Some-clause-after c =
    let u : Member = record { name = c.args.name; imports = c.args.imports.now; source = c.args.source.now } in
    let vs = members c.args.self.now in
    ap (map member) c.replace.ensures.after
    ∙ map-set member (used c.args.self.now.units) c.in-Some.i c.fill.new.self
    ∙ ap (set vs c.in-Some.i) c.in_ok-fill.ensures.filled
    ∙ sym (with_at u vs c.in-Some.i (sym c.in-Some.ensures)).1

pub returns-in-None-clause-after : goal.returns-in-None-clause-after
returns-in-None-clause-after c =
    let u : Member = record { name = c.args.name; imports = c.args.imports.now; source = c.args.source.now } in
    let us = used c.args.self.now.units in
    added us (used c.add.new.self) c.fill.new.self u (is_ok c.add.result) (is_ok c.map_err.result) c.in_ok-fill.ensures.filled c.add.ensures.after c.map_err.ensures.variant (sym c.in-None.ensures)
