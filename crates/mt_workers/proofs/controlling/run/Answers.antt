-- The event that was due is one call more.
use Rattle.std.proofs.Common.{◌∙◌, Ok, Err, ap, sym}
use Rattle.mt_desk.specs.Histories.{call}
use Rattle.mt_workers.specs.declared.turn.Heard.TheVariants.{Ends}
use Rattle.mt_workers.proofs.RunLemmas.{ends_here, goes_further, goes_on_less, refused_here}
use Rattle.mt_workers.proofs.controlling.run.Goals as goal

pub turns-preserved : goal.turns-preserved
turns-preserved g c =
    let now = c.turns.invariant in
    let less = goes_on_less c.turns.turn c.turns.course c.in-Ok.answer c.in-GoesOn.next c.in-GoesOn.further now.sound c.in-GoesOn.ensures in
    record {
      client = c.in-Ok.ensures.client ∙ now.client;
      sound = less.1;
      way = goes_further c.args.workflow.now c.args.course c.args.pass.calls.items c.turns.pass.calls.items c.ask.new.pass.calls.items c.turns.turn c.turns.course
          (call c.due-event.result c.in-Ok.answer) c.in-GoesOn.next c.in-GoesOn.further now.way c.due-event.ensures c.in-Ok.ensures.adds c.in-GoesOn.ensures;
    }

pub turns-smaller : goal.turns-smaller
turns-smaller g c =
    (goes_on_less c.turns.turn c.turns.course c.in-Ok.answer c.in-GoesOn.next c.in-GoesOn.further c.turns.invariant.sound c.in-GoesOn.ensures).0

pub returns-in-Err-clause-runs : goal.returns-in-Err-clause-runs
returns-in-Err-clause-runs g c =
    refused_here c.args.workflow.now c.args.course c.args.pass.calls.items c.turns.pass.calls.items c.ask.new.pass.calls.items c.turns.turn c.turns.course c.in-Err.fault
    c.turns.invariant.way c.in-Err.ensures.none

pub returns-in-Ends-Ok-clause-runs : goal.returns-in-Ends-Ok-clause-runs
returns-in-Ends-Ok-clause-runs g c =
    ends_here c.args.workflow.now c.args.course c.args.pass.calls.items c.turns.pass.calls.items c.ask.new.pass.calls.items c.turns.turn c.turns.course
    (call c.due-event.result c.in-Ok.answer) (Ok c.in-Ends-Ok.driven) c.turns.invariant.way c.due-event.ensures c.in-Ok.ensures.adds (ap Ends (sym c.in-Ends-Ok.field-0-is) ∙ c.in-Ends-Ok.ensures)

pub returns-in-Ends-Err-clause-runs : goal.returns-in-Ends-Err-clause-runs
returns-in-Ends-Err-clause-runs g c =
    ends_here c.args.workflow.now c.args.course c.args.pass.calls.items c.turns.pass.calls.items c.ask.new.pass.calls.items c.turns.turn c.turns.course
    (call c.due-event.result c.in-Ok.answer) (Err c.in-Ends-Err.refusal) c.turns.invariant.way c.due-event.ensures c.in-Ok.ensures.adds (ap Ends (sym c.in-Ends-Err.field-0-is) ∙ c.in-Ends-Err.ensures)
