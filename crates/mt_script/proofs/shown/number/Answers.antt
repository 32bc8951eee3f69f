-- The digits that are written.
use Rattle.std.proofs.Common.{◌∙◌, append-nil}
use Rattle.mt_script.proofs.TextLemmas.{decimal-number_text}
use Rattle.mt_script.proofs.shown.number.Goals as goal

pub returns : goal.returns
returns c = c.joined.ensures ∙ append-nil c.as_bytes.result.now ∙ c.as_bytes.ensures.value ∙ c.format-digits.ensures.text ∙ decimal-number_text c.args.n
