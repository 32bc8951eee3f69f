-- The document that was read is written, or its refusal.
use Rattle.std.proofs.Common.{subst}
use Rattle.mt_run.specs.Canon.{IsCanon, dump_canon}
use Rattle.mt_run.proofs.CanonLemmas.{read_and_written}
use Rattle.mt_run.proofs.canon.canon_dump.Goals as goal

pub returns : goal.returns
returns g c =
    read_and_written dump_canon _ _ _ _ c.in_ok-text.text.items c.write_canon.result c.in_ok-text.ensures
    (c.write_canon.ensures (dump_canon c.in_ok-text.text.items) (subst (λ text. IsCanon (dump_canon text) c.dump_canon.result) c.deref.ensures.value c.dump_canon.ensures))
