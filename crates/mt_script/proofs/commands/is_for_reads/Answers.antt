-- A name for reads ends in the last byte of its type.
use Rattle.mt_script.proofs.TypeLemmas.{not_for_reads}
use Rattle.std.proofs.Common.{ap, ◌∙◌, length, ◌-◌, unwrap_or}
use Rattle.std.specs.List.{slice_get}
use Rattle.mt_script.proofs.commands.is_for_reads.Goals as goal

pub returns-then-last-ne121 : goal.returns-then-last-ne121
returns-then-last-ne121 c =
    not_for_reads c.args.name.now c.unwrap_or-last.result
    (c.unwrap_or-last.ensures ∙ ap (λ o. unwrap_or o 0) (c.copied.ensures ∙ c.last.ensures.value ∙ ap (λ l. slice_get l (length l - 1)) c.as_bytes.ensures.value))
    c.if-last-ne97.true c.if-last-ne121.true
