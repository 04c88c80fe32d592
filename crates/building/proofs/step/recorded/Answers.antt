use Rattle.std.proofs.Common.{is_some, length, option_and_then, sym, ap, ◌∙◌}
use Rattle.store.specs.Pairs.{lookup}
use Rattle.artifact.specs.Art.{read}
use Rattle.artifact.proofs.Rounds.{round_trip}
use Rattle.building.proofs.Found.{refused}
use Rattle.building.proofs.step.recorded.Goals as goal

pub returns-in_err-ok-clause-reads : goal.returns-in_err-ok-clause-reads
returns-in_err-ok-clause-reads g c =
    ap (option_and_then (λ bs. read bs.now)) c.from_residual.ensures
    ∙ refused round_trip (lookup (g.S.Store.pairs c.args.store.now) c.args.name.bytes) c.get.result (length c.args.buffer.now) c.told-buffer c.get.ensures.says.outcome
    (sym c.ok.ensures.variant ∙ ap is_some c.in_err-ok.was)
