-- The entries of the record that is pushed stand behind the others.
use Rattle.std.proofs.Common.{◌++◌, ap, ◌∙◌}
use Rattle.mt_steps.specs.Records.{entries_of}
use Rattle.mt_steps.proofs.SweepLemmas.{pushed}
use Rattle.mt_steps.proofs.records.push_at_rest.Goals as goal

pub returns-after-switched-clause-entries : goal.returns-after-switched-clause-entries
returns-after-switched-clause-entries c =
    let w = c.args.workflow.now in
    let old = c.args.records.now.items in
    ap (entries_of w.source w.target) c.push_reserved.ensures.items ∙ pushed w.source w.target old c.table_at_rest.result ∙ ap (λ es. entries_of w.source w.target old ++ es) c.table_at_rest.ensures

pub returns-else-keeps_nothing-clause-entries : goal.returns-else-keeps_nothing-clause-entries
returns-else-keeps_nothing-clause-entries c =
    let w = c.args.workflow.now in
    let old = c.args.records.now.items in
    ap (entries_of w.source w.target) c.push_reserved-else-keeps_nothing.ensures.items ∙ pushed w.source w.target old c.table_with_kept.result ∙ ap (λ es. entries_of w.source w.target old ++ es) c.table_with_kept.ensures
