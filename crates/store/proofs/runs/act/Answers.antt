use Rattle.std.proofs.Common.{ℕ, List, subst}
use Rattle.store.specs.Says.{PutSays}
use Rattle.store.proofs.Leads.{put_told, drop_told}
use Rattle.store.proofs.runs.act.Goals as goal

pub returns-in_ok-put-in-Put-clause-leads : goal.returns-in_ok-put-in-Put-clause-leads
returns-in_ok-put-in-Put-clause-leads g c =
    let rows = g.S.Store.rows c.args.store.now in
    let before = g.S.Store.pairs c.args.store.now in
    let after = g.S.Store.pairs c.put.new.self in
    λ past stands.
    put_told g.S.Store.LIMIT rows past c.args.call.now before after stands c.in-Put.name c.in-Put.bytes c.in-Put.is
    (subst (λ (x : List ℕ). PutSays g.S.Store.LIMIT rows before after c.in-Put.name.bytes x 0) c.as_slice.ensures.value c.in_ok-put-in-Put.ensures.says)

pub returns-then-held-clause-leads : goal.returns-then-held-clause-leads
returns-then-held-clause-leads g c =
    λ past stands.
    drop_told g.S.Store.LIMIT (g.S.Store.rows c.args.store.now) past c.args.call.now (g.S.Store.pairs c.args.store.now) (g.S.Store.pairs c.drop-held.new.self) stands
    c.in-Drop.name c.drop-held.result c.in-Drop.is c.drop-held.ensures.says (g.met.S.Store.apart c.args.store.now)

pub returns-else-held-clause-leads : goal.returns-else-held-clause-leads
returns-else-held-clause-leads g c =
    λ past stands.
    drop_told g.S.Store.LIMIT (g.S.Store.rows c.args.store.now) past c.args.call.now (g.S.Store.pairs c.args.store.now) (g.S.Store.pairs c.drop-held.new.self) stands
    c.in-Drop.name c.drop-held.result c.in-Drop.is c.drop-held.ensures.says (g.met.S.Store.apart c.args.store.now)
