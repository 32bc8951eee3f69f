-- The answer is that of the site where the name leads, or the fault of the name.
use Rattle.std.proofs.Common.{◌++◌, ◌∙◌, Ok, ap, append_assoc, refl, sym}
use Rattle.mt_names.specs.Faults.{fault_text}
use Rattle.mt_names.specs.Results.{◌>>=◌}
use Rattle.mt_plain.specs.Output.{line_feed, refused_text}
use Rattle.mt_plain.specs.Script.{get, read_through, type_of}
use Rattle.mt_site.specs.ByHand.{read_from}
use Rattle.mt_run.specs.Runs.{through_text}
use Rattle.mt_run.proofs.RowLemmas.{fault_told, read_told}
use Rattle.mt_run.proofs.rows.read_by_key.Goals as goal

pub returns-in-Ok : goal.returns-in-Ok
returns-in-Ok g c = λ scopes p stands. (
  through_text read_from c.read_through.result,
  read_told scopes p c.args.cached.now.site.core c.args.cached.now.site.core stands c.args.name.now c.args.key c.in-Ok.name c.unwrap_or-tablet_type.result c.read_through.result refl (sym c.in-Ok.ensures.value) c.unwrap_or-tablet_type.ensures
      c.read_through.ensures,
  c.tell_read.ensures,
)

pub returns-in-Err : goal.returns-in-Err
returns-in-Err g c = λ scopes p stands. (
  refused_text (fault_text c.in-Err.fault) ++ line_feed,
  fault_told scopes p c.args.cached.now.site.core c.args.cached.now.site.core stands c.args.name.now (get c.args.name.now c.args.key) c.in-Err.fault (ap (λ r. r >>= λ k. Ok (read_through k c.args.key (type_of k))) (sym c.in-Err.ensures.value)),
  c.put_fault.ensures ∙ append_assoc c.args.waiting.now.items (refused_text (fault_text c.in-Err.fault)) line_feed,
)
