use Rattle.std.proofs.Common.{◌≡◌, ◌≤◌, ◌++◌, length, ap, ◌∙◌, arith, length-append}
use Rattle.std.proofs.lemmas.List.{length-map}
use Rattle.bounded.specs.Held.{held}
use Rattle.bounded.proofs.Few.{held_few}
use Rattle.names.specs.declared.name.Name.{Name}
use Rattle.project.specs.Checked.{needs_for}
use Rattle.project.proofs.Standing.{used_few}
use Rattle.project.proofs.Listed.{needs-more}
use Rattle.project.proofs.check.list_needs.Goals as goal

pub add_needs-requires : goal.add_needs-requires
add_needs-requires c =
    let u = c.unit-item.result in
    let units = used_few c.args.project.now.units in
    let all = ap length c.as_slice-unit-items.ensures in
    let few = held_few u.imports in
    let listed = ap length c.imports.ensures in
    let so_far = c.loop-i.invariant.1 in
    omega arith

pub loop-i-preserved : goal.loop-i-preserved
loop-i-preserved c =
    let i = c.loop-i.i in
    let u = c.unit-item.result in
    let added = c.add_needs.ensures ∙ ap (λ xs. held c.loop-i.needs ++ needs_for i xs) c.imports.ensures in
    let size = length-append (held c.loop-i.needs) (needs_for i (held u.imports)) in
    let as_many : length (needs_for i (held u.imports)) ≡ length (held u.imports) = length-map (held u.imports) (λ (n : Name). record { item = i; key = n }) in
    let few : length (held u.imports) ≤ 4 = held_few u.imports in
    let now = ap length added in
    (added ∙ ap (λ xs. xs ++ needs_for i (held u.imports)) c.loop-i.invariant.0 ∙ needs-more c.as_slice-unit-items.result.now i u c.loop-i-test.true c.unit-item.is, omega arith)
