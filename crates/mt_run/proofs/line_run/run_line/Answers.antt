-- What a line asks for is answered, and a fault of a name in it is told.
use Rattle.std.proofs.Common.{ap, refl, subst, sym}
use Rattle.mt_model.specs.Documents.{dump_text, rules_text}
use Rattle.mt_plain.specs.Output.{told_line}
use Rattle.mt_plain.specs.Script as language
use Rattle.mt_plain.specs.Serve.{served}
use Rattle.mt_script.specs.Lines.{asked_from, row_from}
use Rattle.mt_run.specs.Runs.{RunsLine}
use Rattle.mt_run.proofs.AskLemmas.{IsLineNamed, line_named, refused_waits}
use Rattle.mt_run.proofs.RunLemmas.{command_waits, document_made, line_silent, on_document}
use Rattle.mt_run.proofs.line_run.run_line.Goals.{in-Silent, in-Refused, in-Row, in-At, in-Workflow, in-Create, in-Keyspace, in-Table, in-Rule, in-Err, in_default}
use Rattle.mt_run.proofs.line_run.run_line.Goals as goal

pub returns-in-Rules-clause-runs : goal.returns-in-Rules-clause-runs
returns-in-Rules-clause-runs g c = λ p stands.
    let scopes = g.A.Asks.scopes c.args.cached.now.site.watchers in
    let line = c.args.line.now in
    let core = c.args.cached.now.site.core in
    subst (RunsLine scopes p line core c.args.waiting.now.items c.args.waiting.now.items) (sym c.document.ensures)
    (document_made scopes p line core c.args.waiting.now.items c.rules_json.result (rules_text (served p).rules) stands (sym (ap (told_line p) c.in-Rules.ensures)) (c.rules_json.ensures.served p scopes stands))

pub returns-in-Rules-clause-document : goal.returns-in-Rules-clause-document
returns-in-Rules-clause-document g c = on_document c.document.result (language.rules, refl, sym c.in-Rules.ensures)

pub returns-in-Dump-clause-runs : goal.returns-in-Dump-clause-runs
returns-in-Dump-clause-runs g c = λ p stands.
    let scopes = g.A.Asks.scopes c.args.cached.now.site.watchers in
    let line = c.args.line.now in
    let core = c.args.cached.now.site.core in
    subst (RunsLine scopes p line core c.args.waiting.now.items c.args.waiting.now.items) (sym c.document-in-Dump.ensures)
    (document_made scopes p line core c.args.waiting.now.items c.dump.result (dump_text (served p)) stands (sym (ap (told_line p) c.in-Dump.ensures)) (c.dump.ensures.served p scopes stands))

pub returns-in-Dump-clause-document : goal.returns-in-Dump-clause-document
returns-in-Dump-clause-document g c = on_document c.document-in-Dump.result (language.dump, refl, sym c.in-Dump.ensures)

pub returns-clause-runs : goal.returns-clause-runs
returns-clause-runs g c = λ p stands.
    let scopes = g.A.Asks.scopes c.args.cached.now.site.watchers in
    let line = c.args.line.now in
    let old = c.args.cached.now.site.core in
    let before = c.args.waiting.now.items in
    let said : IsLineNamed scopes p line c.match-read.cached.site.core before c.match-read.waiting.items c.match-read.named =
    elim c.match-read.branch [
      | in-Silent w ↦ rw (w.named-is, w.cached-is, w.waiting-is) (line_silent scopes p line old before before (sym (ap (told_line p) w.in-Silent.ensures)) stands refl)
      | in-Refused w ↦
          rw (w.named-is, w.cached-is, w.waiting-is)
          (refused_waits scopes p line old before w.put_refusal.new.text.items w.in-Refused.refusal w.in-Refused.ensures stands w.put_refusal.ensures)
      | in-Row w ↦
          rw (w.named-is, w.cached-is, w.waiting-is)
          (command_waits scopes p line w.row.new.cached.site.core before w.row.new.waiting.items (row_from language.change language.get w.in-Row.name.now w.in-Row.asked) (sym w.in-Row.ensures) (w.row.ensures.told scopes p stands))
      | in-At w ↦
          rw (w.named-is, w.cached-is, w.waiting-is)
          (line_named scopes p line old w.row_at-named.new.cached.site.core before w.row_at-named.new.waiting.items (row_from language.change_at language.get_at w.in-At.name w.in-At.asked) w.row_at-named.result w.in-At.ensures stands w.row_at-named.ensures.named)
      | in-Workflow w ↦
          rw (w.named-is, w.cached-is, w.waiting-is)
          (line_named scopes p line old w.workflow-named.new.cached.site.core before w.workflow-named.new.waiting.items (asked_from w.in-Workflow.name.now w.in-Workflow.asked) w.workflow-named.result w.in-Workflow.ensures stands w.workflow-named.ensures.named)
      | in-Create w ↦
          rw (w.named-is, w.cached-is, w.waiting-is)
          (line_named scopes p line old w.create-named.new.cached.site.core before w.create-named.new.waiting.items (language.create w.in-Create.words.workflow.now w.in-Create.words.source.now w.in-Create.words.target.now w.in-Create.words.tables.now) w.create-named.result w.in-Create.ensures stands w.create-named.ensures.named)
      | in-Keyspace w ↦
          rw (w.named-is, w.cached-is, w.waiting-is)
          (line_named scopes p line old w.add_keyspace-named.new.cached.site.core before w.add_keyspace-named.new.waiting.items (language.keyspace w.in-Keyspace.name.now w.in-Keyspace.shards.now) w.add_keyspace-named.result w.in-Keyspace.ensures stands w.add_keyspace-named.ensures.named)
      | in-Table w ↦
          rw (w.named-is, w.cached-is, w.waiting-is)
          (line_named scopes p line old w.add_table-named.new.cached.site.core before w.add_table-named.new.waiting.items (language.table w.in-Table.keyspace.now w.in-Table.name.now) w.add_table-named.result w.in-Table.ensures stands w.add_table-named.ensures.named)
      | in-Rule w ↦
          rw (w.named-is, w.cached-is, w.waiting-is)
          (line_named scopes p line old w.edit_rule-named.new.cached.site.core before w.edit_rule-named.new.waiting.items (language.rule w.in-Rule.key.now w.in-Rule.target.now) w.edit_rule-named.result w.in-Rule.ensures stands w.edit_rule-named.ensures.named)
    ] in
    let told = IsLineNamed scopes p line c.match-read.cached.site.core before c.match-read.waiting.items in
    elim c.match-named.branch [
      | in-Err w ↦ rw w.waiting-is (subst told w.in-Err.is said w.put_fault.new.text.items w.put_fault.ensures)
      | in_default w ↦ rw w.waiting-is (subst told w.in_default.is said)
    ]
