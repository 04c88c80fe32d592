use Rattle.std.proofs.Common.{ℕ, List, take, sym, ◌∙◌, subst}
use Rattle.store.specs.declared.call.Call.{Call}
use Rattle.store.specs.Runs.{Stands, told, told_all}
use Rattle.store.proofs.Leads.{told_step}
use Rattle.store.proofs.runs.run.Goals as goal

pub loop-call-preserved : goal.loop-call-preserved
loop-call-preserved g c =
    let limit = g.S.Store.LIMIT in
    let start = g.S.Store.rows c.args.store.now in
    let after = g.S.Store.pairs c.act.new.store in
    let inv = c.loop-call.invariant in
    let calls = c.args.calls.now in
    let at = c.loop-call.call-index in (
      (λ past st.
          let led = c.act.ensures.leads (told_all limit start past (take at calls)) (inv.0 past st) in
          let same = subst (λ (n : ℕ). Stands (told limit n (told_all limit start past (take at calls)) c.call-item.result) after) inv.1 led in
          subst (λ (x : List Call). Stands x after) (sym (told_step limit start past calls at c.call-item.result c.loop-call-test.true c.call-item.is)) same),
      c.act.ensures.rows ∙ inv.1,
    )
