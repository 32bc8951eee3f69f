-- The workflow, and what is kept of its way, take their places.
use Rattle.std.proofs.Common.{◌≡◌, Some, ap, option_map, sym, ◌∙◌, ℕ}
use Rattle.mt_event.specs.Reasons.{done_by, reason_from}
use Rattle.mt_stands.specs.Ways.{CoreState}
use Rattle.mt_workflow.specs.Workflows.{way_from}
use Rattle.mt_moves.proofs.StepLemmas.{has-stepped, kept-whole, not-stepping, step-refused, under-way}
use Rattle.mt_moves.proofs.stepping.step.Goals as goal

pub returns-in_default-way : goal.returns-in_default-way
returns-in_default-way g c = λ (begun : ℕ).
    let w = c.in-Some.workflow.now in
    let old : CoreState = record { base = record { topology = c.args.topology.now; primaries = c.args.primaries.now; workflows = c.args.workflows.now.entries }; ways = record { opened = c.args.opened.now.entries; journal = c.args.journal.now; begun = begun } } in
    not-stepping (g.W.Asks.scopes c.args.watchers.now) (g.W.Asks.may_answer c.args.watchers.now) old c.args.name.now c.args.at w (sym c.in-Some.ensures.value) _
    (sym c.way.ensures ∙ ap (option_map way_from) c.in_default-way.is)
    (kept-whole old c.args.name.now w (c.get_mut.follows.lender w).entries (sym c.in-Some.ensures.value) (c.get_mut.follows.holds w).0)

pub returns-in-Some-step_refusal : goal.returns-in-Some-step_refusal
returns-in-Some-step_refusal g c = λ (begun : ℕ).
    let w = c.in-Some.workflow.now in
    let old : CoreState = record { base = record { topology = c.args.topology.now; primaries = c.args.primaries.now; workflows = c.args.workflows.now.entries }; ways = record { opened = c.args.opened.now.entries; journal = c.args.journal.now; begun = begun } } in
    step-refused (g.W.Asks.scopes c.args.watchers.now) (g.W.Asks.may_answer c.args.watchers.now) old c.args.name.now c.args.at w (sym c.in-Some.ensures.value)
    (way_from c.in-Some-way.way) (reason_from c.in-Some-step_refusal.refusal) _
    (sym c.way.ensures ∙ ap (option_map way_from) c.in-Some-way.is)
    (sym c.step_refusal.ensures ∙ ap (option_map reason_from) c.in-Some-step_refusal.is)
    (kept-whole old c.args.name.now w (c.get_mut.follows.lender w).entries (sym c.in-Some.ensures.value) (c.get_mut.follows.holds w).0)

pub step_between-result-requires-clause-stands : goal.step_between-result-requires-clause-stands
step_between-result-requires-clause-stands g c =
    under-way c.args.topology.now c.args.primaries.now c.args.workflows.now.entries c.args.journal.now c.args.opened.now.entries c.args.name.now
    c.in-Some.workflow.now (way_from c.in-Some-way.way) c.in-Some-get_mut.kept.now c.requires (sym c.in-Some.ensures.value) (sym c.way.ensures ∙ ap (option_map way_from) c.in-Some-way.is)
    (sym c.in-Some-get_mut.ensures.value)

pub returns : goal.returns
returns g c = λ (begun : ℕ).
    let w = c.in-Some.workflow.now in
    let way = way_from c.in-Some-way.way in
    let kept = c.in-Some-get_mut.kept.now in
    let after = c.step_between-result.new in
    let found = sym c.in-Some.ensures.value in
    let has_way : w.way ≡ Some way = sym c.way.ensures ∙ ap (option_map way_from) c.in-Some-way.is in
    let old : CoreState = record { base = record { topology = c.args.topology.now; primaries = c.args.primaries.now; workflows = c.args.workflows.now.entries }; ways = record { opened = c.args.opened.now.entries; journal = c.args.journal.now; begun = begun } } in
    has-stepped (g.W.Asks.scopes c.args.watchers.now) (g.W.Asks.may_answer c.args.watchers.now) old c.args.name.now c.args.at w found
    way kept after.kept after.workflow c.step_between-result.result (done_by c.answer_by_step.result) after.topology after.primaries
    (c.get_mut.follows.lender after.workflow).entries (c.get_mut-2.follows.lender after.kept).entries c.close.new.opened.entries (option_map way_from c.way-2.result) after.journal
    (c.requires.each w way kept found has_way (sym c.in-Some-get_mut.ensures.value)).named has_way
    (sym c.step_refusal.ensures ∙ ap (option_map reason_from) c.in_default-step_refusal.is) (sym c.in-Some-get_mut.ensures.value) c.step_between-result.ensures
    (c.get_mut.follows.holds after.workflow).0 (c.get_mut-2.follows.holds after.kept).0 c.way-2.ensures c.close.ensures c.answer_by_step.ensures
