use Rattle.std.proofs.Common.{◌∙◌, subst}
use Rattle.names.specs.Refusals.{answer}
use Rattle.store.specs.Says.{PutSays}
use Rattle.artifact.specs.Art.{art, artifact_bytes}
use Rattle.building.proofs.Viewed.{put_viewed}
use Rattle.building.proofs.desk.Desk.keep.Goals as goal

pub returns-clause-says : goal.returns-clause-says
returns-clause-says g c =
    let before = g.S.Store.pairs c.args.store.now in
    let after = g.S.Store.pairs c.put.new.self in
    let bytes = artifact_bytes (art c.args.self.now.fresh) in
    let says : PutSays g.S.Store.LIMIT (g.S.Store.rows c.args.store.now) before after c.args.name.bytes bytes (answer c.put.result) =
    subst (λ bs. PutSays g.S.Store.LIMIT (g.S.Store.rows c.args.store.now) before after c.args.name.bytes bs (answer c.put.result)) (c.as_slice.ensures ∙ c.write.ensures.bytes) c.put.ensures.says in
    record { outcome = says.outcome; view = put_viewed (answer c.put.result) before after c.args.name.bytes bytes says.pairs }
