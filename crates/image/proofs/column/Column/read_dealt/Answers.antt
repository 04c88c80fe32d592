use Rattle.std.proofs.Common.{◌+◌, ◌-◌, map, ap, ◌∙◌}
use Rattle.std.proofs.lemmas.List.{map_push}
use Rattle.bounded.specs.Held.{held, used}
use Rattle.codec.specs.Format.{left}
use Rattle.codec.proofs.Many.{onto, one_more}
use Rattle.image.specs.Dealt.{undeal}
use Rattle.image.proofs.Deals.{deal_goes}
use Rattle.image.proofs.column.Column.read_dealt.Goals as goal

pub loop-unit-preserved : goal.loop-unit-preserved
loop-unit-preserved g c =
    let get = g.T.Field.format.get in
    let k = c.loop-unit.unit in
    let bs = used c.loop-unit.self.lists in
    let now = used c.add.new.self in
    let b = c.read_run.new.into in
    let others = c.in_ok-others-2.others in
    let rest = undeal get g.row.N (k + 1) (c.args.units - (k + 1)) others (left c.read_run.new.input) in (
      one_more bs now b k c.in_ok-add.ensures.after c.loop-unit.invariant.0,
      ap (λ ys. onto (map held ys) rest) c.in_ok-add.ensures.after
          ∙ ap (λ xs. onto xs rest) (map_push held bs b)
          ∙ deal_goes get g.row.N c.args.units k c.loop-unit.others (left c.loop-unit.input) (map held bs) _ c.loop-unit-test.true c.loop-unit.invariant.1 (held b) others (left c.read_run.new.input) c.in_ok-others-2.ensures,
    )
