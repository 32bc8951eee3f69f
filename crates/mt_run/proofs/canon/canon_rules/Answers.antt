-- The document that was read is written, or its refusal.
use Rattle.std.proofs.Common.{subst}
use Rattle.mt_run.specs.Canon.{IsCanon, rules_canon}
use Rattle.mt_run.proofs.CanonLemmas.{read_and_written}
use Rattle.mt_run.proofs.canon.canon_rules.Goals as goal

pub returns : goal.returns
returns g c =
    read_and_written rules_canon _ _ _ _ c.in_ok-text.text.items c.write_canon.result c.in_ok-text.ensures
    (c.write_canon.ensures (rules_canon c.in_ok-text.text.items) (subst (λ text. IsCanon (rules_canon text) c.rules_canon.result) c.deref.ensures.value c.rules_canon.ensures))
