use Rattle.std.proofs.Common.{rules}
use Rattle.product.specs.Parts.{parts}
use Rattle.building.specs.Finish.{done_list}
use Rattle.linker.proofs.Listing.{offered_by}
use Rattle.linker.proofs.assembly.offers.Goals as goal

pub returns : goal.returns
returns c = offered_by (λ p. parts p.now) (done_list c.args.done.now) c.args.i c.product.result c.map_or.result _ c.product.ensures c.map_or.ensures (λ x k. search rules)
