use Rattle.std.proofs.Common.{take, vec_items, sym, refl}
use Rattle.log_store.proofs.Chained.{records_bytes}
use Rattle.log_store.proofs.logs.LogStore.end.Goals as goal

pub returns : goal.returns
returns c = record { end = refl; lie = sym (records_bytes (take c.args.self.now.end (vec_items c.args.self.now.area))) }
