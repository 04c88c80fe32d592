use Rattle.std.proofs.Common.{◌∙◌}
use Rattle.tokens.proofs.Words.{name_read}
use Rattle.tokens.proofs.form.name_of.Goals as goal

pub returns : goal.returns
returns c = c.ok.ensures.value ∙ name_read c.args.text.now c.from_text.result c.from_text.ensures
