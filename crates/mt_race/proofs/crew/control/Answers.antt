-- It switched the traffic, and reversed it if that was done.
use Rattle.std.proofs.Common.{◌≡◌, ◌∙◌, false, true, sym}
use Rattle.mt_race.specs.Agreements.{is_finished}
use Rattle.mt_race.proofs.RaceLemmas.{controls_once, controls_twice}
use Rattle.mt_race.proofs.crew.control.Goals as goal

pub invariant_of-result : goal.invariant_of-result
invariant_of-result g c =
    let pass = c.controller-pass.result in
    let isnt : c.is_finished.result ≡ false = search (c.if-not-is_finished.true) in
    let (calls, is, controls) = c.controller-pass.ensures.controls in
    record { controls = controls_once c.args.fresh.pass.calls.items pass.0.calls.items calls c.workflow-workflow.result pass.1 c.args.fresh.fresh is (sym c.is_finished.ensures ∙ isnt) c.workflow-workflow.ensures controls }

pub invariant_of-result-2 : goal.invariant_of-result-2
invariant_of-result-2 g c =
    let first = c.controller-pass.result in
    let second = c.controller-pass-2.result in
    let (calls, is, controls) = c.controller-pass.ensures.controls in
    let (more, further, again) = c.controller-pass-2.ensures.controls in
    record {
      controls = controls_twice c.args.fresh.pass.calls.items first.0.calls.items second.0.calls.items calls more c.workflow-workflow.result first.1 second.1 c.args.fresh.fresh is further
          (sym c.is_finished.ensures ∙ c.if-not-is_finished.false) c.workflow-workflow.ensures controls again;
    }
