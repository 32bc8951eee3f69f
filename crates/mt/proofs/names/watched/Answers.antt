-- The text's names are those of its bytes.
use Rattle.std.proofs.Common.{inl, subst, sym, ap, ◌∙◌}
use Rattle.mt.specs.Names.{Watches, watched_in}
use Rattle.mt.proofs.NameLemmas.{names_watched}
use Rattle.mt.proofs.names.watched.Goals as goal

pub returns-in_default : goal.returns-in_default
returns-in_default c = inl c.in_default.ensures.cases.0

pub returns : goal.returns
returns c =
    subst (Watches c.args.text.now) (sym c.ok.ensures.value) (names_watched c.args.text.now c.named.result (c.named.ensures ∙ ap watched_in c.in-Ok.ensures.cases.0))
