-- The answer is that of the site where the name leads, or the fault of the name.
use Rattle.std.proofs.Common.{◌++◌, ◌∙◌, Ok, ap, append_assoc, sym}
use Rattle.mt_event.specs.Reasons.{done_by}
use Rattle.mt_names.specs.Faults.{fault_text}
use Rattle.mt_names.specs.Results.{◌>>=◌}
use Rattle.mt_plain.specs.Output.{line_feed, refused_text}
use Rattle.mt_plain.specs.Script.{change, write_through}
use Rattle.mt_run.specs.Runs.{through_text}
use Rattle.mt_run.proofs.RowLemmas.{fault_told, write_told}
use Rattle.mt_run.proofs.rows.write_by_key.Goals as goal

pub returns-in-Ok-clause-told : goal.returns-in-Ok-clause-told
returns-in-Ok-clause-told g c = λ scopes p stands. (
  through_text done_by c.write_through.result,
  write_told scopes p c.args.cached.now.site.core c.write_through.new.self.site.core stands c.args.name.now c.args.op c.in-Ok.key c.write_through.result (sym c.in-Ok.ensures.value) c.write_through.ensures.told,
  c.tell_written.ensures,
)

pub returns-in-Err-clause-told : goal.returns-in-Err-clause-told
returns-in-Err-clause-told g c = λ scopes p stands. (
  refused_text (fault_text c.in-Err.fault) ++ line_feed,
  fault_told scopes p c.args.cached.now.site.core c.args.cached.now.site.core stands c.args.name.now (change c.args.name.now c.args.op) c.in-Err.fault (ap (λ r. r >>= λ k. Ok (write_through k c.args.op)) (sym c.in-Err.ensures.value)),
  c.put_fault.ensures ∙ append_assoc c.args.waiting.now.items (refused_text (fault_text c.in-Err.fault)) line_feed,
)
