use Rattle.std.proofs.Common.{sym, ◌∙◌}
use lib.ListN.{length-map}
use Rattle.bounded.specs.Held.{held, used}
use Rattle.image.specs.Picture.{parts}
use Rattle.image.proofs.Rounds.{round_trip}
use Rattle.image.proofs.image.Image.read.Goals as goal

pub invariant_of-self : goal.invariant_of-self
invariant_of-self c =
    let s = c.read_whole.new.self in
    let within = round_trip.within c.args.bytes.now (parts s) (sym c.in-Ok.ensures) in
    record {
      coded = sym (length-map (used s.codes.lists) held) ∙ within.coded;
      entered = sym (length-map (used s.entries.lists) held) ∙ within.entered;
      referred = sym (length-map (used s.references.lists) held) ∙ within.referred;
    }

pub returns-in-Ok-clause-back : goal.returns-in-Ok-clause-back
returns-in-Ok-clause-back c =
    let u = parts c.read_whole.new.self in
    let bs = c.args.bytes.now in
    (round_trip.written_read bs u (sym c.in-Ok.ensures), round_trip.within bs u (sym c.in-Ok.ensures))
