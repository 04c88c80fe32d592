use Rattle.std.proofs.Common.{◌≡◌, List, take}
use Rattle.store.specs.declared.call.Call.{Call}
use Rattle.store.specs.Runs.{Stands, told_all}
use Rattle.store.proofs.runs.run.Given as goal

abbrev pub invariant-loop-call : goal.invariant-loop-call
invariant-loop-call g l = ((past : List Call) → Stands past (g.S.Store.pairs l.initial.store) → Stands (told_all g.S.Store.LIMIT (g.S.Store.rows l.initial.store) past (take l.call-index l.calls)) (g.S.Store.pairs l.store)) × (g.S.Store.rows l.store ≡ g.S.Store.rows l.initial.store)
