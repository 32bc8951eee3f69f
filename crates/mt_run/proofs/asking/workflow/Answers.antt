-- What is asked for of a workflow is answered, once its name is read, and its types are.
use Rattle.std.proofs.Common.{false, refl, true}
use Rattle.mt_names.specs.Shards.{KeyRange}
use Rattle.mt_plain.specs.Events as plain
use Rattle.mt_plain.specs.Script.{Request, advance_in, drive, event}
use Rattle.mt_script.specs.declared.lines.WorkflowAsked.TheVariants as asked
use Rattle.mt_workflow.specs.Workflows.{stream_name}
use Rattle.mt_run.proofs.AskLemmas.{range_read, types_read, workflow_read}
use Rattle.mt_run.proofs.asking.workflow.Goals as goal

pub returns-in_ok-range-in-Advance-clause-named : goal.returns-in_ok-range-in-Advance-clause-named
returns-in_ok-range-in-Advance-clause-named g c =
    let w = c.in_ok-workflow.field-0 in
    let words = c.in-Advance.words in
    let make : KeyRange → Request = λ r. advance_in w (stream_name words.stream) r words.at words.max in
    let range = c.in_ok-range-in-Advance.range in
    (make range, workflow_read c.args.name.now c.args.asked (asked.Advance words) w (make range) c.in-Advance.is c.in_ok-workflow.ensures.value (range_read make words.range.now range c.in_ok-range-in-Advance.ensures.value), c.advance.ensures.answered)

pub returns-in_ok-parse-in-BeginSwitch-clause-named : goal.returns-in_ok-parse-in-BeginSwitch-clause-named
returns-in_ok-parse-in-BeginSwitch-clause-named g c =
    let w = c.in_ok-workflow.field-0 in
    let request = event (plain.begin_switch w c.in_ok-parse-in-BeginSwitch.field-0) in
    (request, workflow_read c.args.name.now c.args.asked (asked.BeginSwitch c.in-BeginSwitch.types) w request c.in-BeginSwitch.is c.in_ok-workflow.ensures.value (types_read (λ t. event (plain.begin_switch w t)) c.in-BeginSwitch.types.now c.in_ok-parse-in-BeginSwitch.field-0 c.in_ok-parse-in-BeginSwitch.ensures.value), c.ask.ensures.answered)

pub returns-in_ok-parse-in-BeginReverse-clause-named : goal.returns-in_ok-parse-in-BeginReverse-clause-named
returns-in_ok-parse-in-BeginReverse-clause-named g c =
    let w = c.in_ok-workflow.field-0 in
    let request = event (plain.begin_reverse w c.in_ok-parse-in-BeginReverse.field-0) in
    (request, workflow_read c.args.name.now c.args.asked (asked.BeginReverse c.in-BeginReverse.types) w request c.in-BeginReverse.is c.in_ok-workflow.ensures.value (types_read (λ t. event (plain.begin_reverse w t)) c.in-BeginReverse.types.now c.in_ok-parse-in-BeginReverse.field-0 c.in_ok-parse-in-BeginReverse.ensures.value), c.ask-in-BeginReverse.ensures.answered)

pub returns-in-Step-clause-named : goal.returns-in-Step-clause-named
returns-in-Step-clause-named g c =
    let w = c.in_ok-workflow.field-0 in
    let request = event (plain.step w c.in-Step.at) in
    (request, workflow_read c.args.name.now c.args.asked (asked.Step c.in-Step.at) w request c.in-Step.is c.in_ok-workflow.ensures.value refl, c.ask-in-Step.ensures.answered)

pub returns-in-Undo-clause-named : goal.returns-in-Undo-clause-named
returns-in-Undo-clause-named g c =
    let w = c.in_ok-workflow.field-0 in
    let request = event (plain.undo w c.in-Undo.at) in
    (request, workflow_read c.args.name.now c.args.asked (asked.Undo c.in-Undo.at) w request c.in-Undo.is c.in_ok-workflow.ensures.value refl, c.ask-in-Undo.ensures.answered)

pub returns-in_ok-types-in-Switch-clause-named : goal.returns-in_ok-types-in-Switch-clause-named
returns-in_ok-types-in-Switch-clause-named g c =
    let w = c.in_ok-workflow.field-0 in
    let request = drive w c.in_ok-types-in-Switch.types false in
    (request, workflow_read c.args.name.now c.args.asked (asked.Switch c.in-Switch.types) w request c.in-Switch.is c.in_ok-workflow.ensures.value (types_read (λ t. drive w t false) c.in-Switch.types.now c.in_ok-types-in-Switch.types c.in_ok-types-in-Switch.ensures.value), c.drive_whole.ensures.answered)

pub returns-in_ok-types-in-Reverse-clause-named : goal.returns-in_ok-types-in-Reverse-clause-named
returns-in_ok-types-in-Reverse-clause-named g c =
    let w = c.in_ok-workflow.field-0 in
    let request = drive w c.in_ok-types-in-Reverse.types true in
    (request, workflow_read c.args.name.now c.args.asked (asked.Reverse c.in-Reverse.types) w request c.in-Reverse.is c.in_ok-workflow.ensures.value (types_read (λ t. drive w t true) c.in-Reverse.types.now c.in_ok-types-in-Reverse.types c.in_ok-types-in-Reverse.ensures.value), c.drive_whole-in-Reverse.ensures.answered)

pub returns-in-Cancel-clause-named : goal.returns-in-Cancel-clause-named
returns-in-Cancel-clause-named g c =
    let w = c.in_ok-workflow.field-0 in
    let request = event (plain.cancel w) in
    (request, workflow_read c.args.name.now c.args.asked (asked.Cancel) w request c.in-Cancel.is c.in_ok-workflow.ensures.value refl, c.ask-in-Cancel.ensures.answered)

pub returns-in-Complete-clause-named : goal.returns-in-Complete-clause-named
returns-in-Complete-clause-named g c =
    let w = c.in_ok-workflow.field-0 in
    let request = event (plain.complete w) in
    (request, workflow_read c.args.name.now c.args.asked (asked.Complete) w request c.in-Complete.is c.in_ok-workflow.ensures.value refl, c.ask-in-Complete.ensures.answered)

pub returns-in-Show-clause-named : goal.returns-in-Show-clause-named
returns-in-Show-clause-named g c =
    let w = c.in_ok-workflow.field-0 in
    let request = event (plain.show w) in
    (request, workflow_read c.args.name.now c.args.asked (asked.Show) w request c.in-Show.is c.in_ok-workflow.ensures.value refl, c.ask-in-Show.ensures.answered)
