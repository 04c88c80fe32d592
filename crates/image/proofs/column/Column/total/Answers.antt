use Rattle.std.proofs.Common.{◌+◌, map, length, take, ap, ◌∙◌, arith}
use Rattle.std.proofs.lemmas.List.{take_all}
use Rattle.bounded.specs.Held.{held}
use Rattle.bounded.proofs.Few.{held_few}
use Rattle.image.specs.Dealt.{flat}
use Rattle.image.proofs.Dealing.{flat-more}
use Rattle.image.proofs.column.Column.total.Goals as goal

pub overflow_add-sum : goal.overflow_add-sum
overflow_add-sum g c =
    record { fits = omega (arith, c.loop-list.invariant.1, c.loop-list-test.true, c.len-sum.ensures, held_few c.list-item.result, c.requires, ap length c.as_slice-list-items.ensures, c.args.self.now.lists.all, c.args.self.now.lists.used.ok.0) }

pub loop-list-preserved : goal.loop-list-preserved
loop-list-preserved g c =
    let xs = c.as_slice-list-items.result.now in
    let k = c.loop-list.list-index in (
      ap (λ n. n + c.len-sum.result) c.loop-list.invariant.0 ∙ ap (λ n. length (flat (map held (take k xs))) + n) c.len-sum.ensures ∙ flat-more held xs k c.list-item.result c.loop-list-test.true c.list-item.is,
      omega (arith, c.loop-list.invariant.1, c.len-sum.ensures, held_few c.list-item.result, c.requires),
    )

pub returns : goal.returns
returns g c =
    let xs = c.as_slice-list-items.result.now in
    record {
      value = c.loop-list.invariant.0 ∙ ap (λ ys. length (flat (map held ys))) (take_all c.loop-list.list-index xs c.loop-list-test.false ∙ c.as_slice-list-items.ensures);
      few = omega (arith, c.loop-list.invariant.1, c.loop-list.auto.list-index-end, ap length c.as_slice-list-items.ensures, c.args.self.now.lists.all, c.args.self.now.lists.used.ok.0);
    }
