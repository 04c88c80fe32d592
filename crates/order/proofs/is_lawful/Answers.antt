use Rattle.order.proofs.Laws.{lawful}
use Rattle.order.proofs.is_lawful.Goals as goal

pub returns : goal.returns
returns g c = lawful g.met.K.Ord.total c.args._keys.now c.args._needs.now
