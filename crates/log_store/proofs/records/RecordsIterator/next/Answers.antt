use Rattle.std.proofs.Common.{ℕ, ◌+◌, min, length, take, drop, ◌-◌, sym, ap, ◌∙◌, arith}
use Rattle.log_store.proofs.Walk.{walk_step}
use Rattle.log_store.proofs.records.RecordsIterator.next.Goals as goal

pub returns-clause-steps : goal.returns-clause-steps
returns-clause-steps c =
    let s = c.args.self.now in
    let xs = s.log.now in
    walk_step xs s.at c.min-size.result (sym c.is_empty.ensures ∙ c.if-is_empty.false)
    (c.min-size.ensures ∙ ap (λ (m : ℕ). min (length (take (length xs - s.at) (drop s.at xs))) (11 + m)) c.length_of.ensures)

pub returns-clause-goes : goal.returns-clause-goes
returns-clause-goes c = record { on = λ _. (tt, tt, omega (arith, ap length (returns-clause-steps c))); keeps = tt; rests = λ _. tt }
