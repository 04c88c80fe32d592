use Rattle.std.proofs.Common.{rules, tests, cond, Some, None, count_by, take, sym, ap, ◌∙◌}
use Rattle.std.specs.Str.{bytes_eq}
use Rattle.std.proofs.lemmas.Iterator.{YieldsList-from_slice}
use Rattle.std.proofs.lemmas.Iterator.Search.{position_from_yields_List}
use Rattle.grammar.specs.declared.declaration.Kind.{Kind}
use Rattle.grammar.specs.Line.{is_function}
use Rattle.scope.proofs.Entries.{no_entry, entry_at}
use Rattle.scope.proofs.declared.entry_of.Goals as goal

pub returns-in_err-i : goal.returns-in_err-i
returns-in_err-i c =
    let at = position_from_yields_List (λ d. bytes_eq d.name.bytes c.args.name.now.bytes) _ _ c.position.result c.position.ensures.ran (YieldsList-from_slice _ c.iter.ensures.rest) (λ x b q k. search (rules, tests)) in
    c.from_residual.ensures ∙ sym (no_entry c.args.name.now.bytes c.args.declarations.now (sym c.in_err-i.was ∙ at))

pub returns-in-Constant : goal.returns-in-Constant
returns-in-Constant c =
    let at = position_from_yields_List (λ d. bytes_eq d.name.bytes c.args.name.now.bytes) _ _ c.position.result c.position.ensures.ran (YieldsList-from_slice _ c.iter.ensures.rest) (λ x b q k. search (rules, tests)) in
    let i = c.in_ok-i.i in
    let ds = c.args.declarations.now in
    sym (ap (λ (k : Kind). cond (is_function k) (Some (count_by (λ d. is_function d.kind) (take i ds))) None) c.in-Constant.is) ∙ sym (entry_at c.args.name.now.bytes ds i _ (sym c.in_ok-i.was ∙ at))

pub returns-in-Function : goal.returns-in-Function
returns-in-Function c =
    let at = position_from_yields_List (λ d. bytes_eq d.name.bytes c.args.name.now.bytes) _ _ c.position.result c.position.ensures.ran (YieldsList-from_slice _ c.iter.ensures.rest) (λ x b q k. search (rules, tests)) in
    let i = c.in_ok-i.i in
    let ds = c.args.declarations.now in
    ap Some c.functions_among.ensures ∙ sym (ap (λ (k : Kind). cond (is_function k) (Some (count_by (λ d. is_function d.kind) (take i ds))) None) c.in-Function.is) ∙ sym (entry_at c.args.name.now.bytes ds i _ (sym c.in_ok-i.was ∙ at))
