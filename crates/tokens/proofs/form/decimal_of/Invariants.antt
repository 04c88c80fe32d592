use Rattle.std.proofs.Common.{◌≡◌, ◌^◌, ◌<◌, drop}
use Rattle.tokens.specs.Forms.{decimal}
use Rattle.tokens.proofs.form.decimal_of.Given as goal

abbrev pub invariant-loop-b : goal.invariant-loop-b
invariant-loop-b l = (decimal l.n (drop l.b-index l.digits) ≡ decimal 0 l.digits) × (l.n < 10 ^ l.b-index)
