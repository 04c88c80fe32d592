use Rattle.std.proofs.Common.{arith}
use lib.ListN.{length-map}
use Rattle.bounded.specs.Held.{held, used}
use Rattle.image.specs.Picture.{units}
use Rattle.image.proofs.Rounds.{image_long}
use Rattle.image.proofs.image.Image.size.Goals as goal

pub returns : goal.returns
returns c =
    let i = c.args.self.now in
    omega (arith, c.len-count.ensures, i.coded, c.total.ensures.value, c.total-2.ensures.value, c.total-3.ensures.value, length-map (used i.sections.codes.lists) held, image_long (units i))
