-- The tables are distinct, and no more than are named; what is kept says of each key what stood there.
use Rattle.std.proofs.Common.{rules, ◌≡◌, ◌≢◌, AllPairs, length, ap, sym, subst, arith, ◌∙◌}
use Rattle.std.proofs.lemmas.Map.Made.{AllPairs-from_IsDistinct}
use Rattle.mt_names.proofs.SameLemmas.{same_text_decides}
use Rattle.mt_model.specs.Topology.{cuts_at}
use Rattle.mt_plain.specs.Plain.{each_once}
use Rattle.mt_workflow.specs.Builds.{Agrees}
use Rattle.mt_workflow.specs.Workflows.{IsWorkflow, kept_of, ranges_in}
use Rattle.mt_workflow.proofs.AgreeLemmas.{agrees_itself, kept_same}
use Rattle.mt_workflow.proofs.LaneLemmas.{new-covers, new-cuts}
use Rattle.mt_workflow.proofs.OnceLemmas.{length-once}
use Rattle.mt_workflow.proofs.workflow.Workflow.new.Goals as goal

pub kept_rules-requires-clause-distinct : goal.kept_rules-requires-clause-distinct
kept_rules-requires-clause-distinct c =
    subst (AllPairs ◌≢◌) (sym c.as_slice.ensures.keys) (AllPairs-from_IsDistinct same_text_decides c.in_ok-tables.tables.keys c.as_slice.ensures.unique)

pub lanes_of-requires-clause-few : goal.lanes_of-requires-clause-few
lanes_of-requires-clause-few c =
    omega (arith, ap length c.as_slice-2.ensures.keys, ap length c.in_ok-tables.ensures.value, length-once c.args.tables.now, c.requires.few)

pub lanes_of-requires-clause-distinct : goal.lanes_of-requires-clause-distinct
lanes_of-requires-clause-distinct c =
    subst (AllPairs ◌≢◌) (sym c.as_slice-2.ensures.keys) (AllPairs-from_IsDistinct same_text_decides c.in_ok-tables.tables.keys c.as_slice-2.ensures.unique)

pub invariant_of-result : goal.invariant_of-result
invariant_of-result c =
    let es = c.in_ok-kept.kept.entries in
    let lanes = c.in_ok-lanes.lanes.items in
    let cuts = cuts_at c.args.topology.now.keyspaces c.args.target.now in
    let named = c.as_slice.result.now in
    let is : IsWorkflow c.copied-2.result c.copied-3.result c.in_ok-tables.tables.keys (ranges_in lanes) = record {
      distinct = AllPairs-from_IsDistinct same_text_decides c.in_ok-tables.tables.keys c.as_slice-2.ensures.unique;
      few = omega (arith, ap length c.in_ok-tables.ensures.value, length-once c.args.tables.now, c.requires.few);
      apart = λ same. c.requires.apart (sym c.copied-2.ensures ∙ same ∙ c.copied-3.ensures);
      covers = new-covers c.as_slice-2.result.now c.args.position cuts lanes c.in_ok-lanes.ensures.value;
      cuts = new-cuts c.as_slice-2.result.now c.args.position cuts lanes c.in_ok-lanes.ensures.value c.in_ok-lanes.ensures.cuts;
    } in (
      is,
      subst (λ tables. Agrees es (kept_of es c.copied-2.result c.copied-3.result tables)) c.as_slice.ensures.keys
          (subst (λ target. Agrees es (kept_of es c.copied-2.result target named)) (sym c.copied-3.ensures)
          (subst (λ source. Agrees es (kept_of es source c.args.target.now named)) (sym c.copied-2.ensures)
          (agrees_itself es c.rules.result.now c.args.source.now c.args.target.now named c.in_ok-kept.ensures.value))),
    )

pub returns-clause-value : goal.returns-clause-value
returns-clause-value c =
    let es = c.in_ok-kept.kept.entries in
    let named = c.as_slice.result.now in
    let kept : kept_of es c.copied-2.result c.copied-3.result c.in_ok-tables.tables.keys ≡ kept_of c.args.topology.now.rules c.args.source.now c.args.target.now (each_once c.args.tables.now) =
    ap (λ source. kept_of es source c.copied-3.result c.in_ok-tables.tables.keys) c.copied-2.ensures
    ∙ ap (λ target. kept_of es c.args.source.now target c.in_ok-tables.tables.keys) c.copied-3.ensures
    ∙ ap (kept_of es c.args.source.now c.args.target.now) (sym c.as_slice.ensures.keys)
    ∙ kept_same es c.rules.result.now c.args.source.now c.args.target.now named c.in_ok-kept.ensures.value
    ∙ ap (λ rules. kept_of rules c.args.source.now c.args.target.now named) c.rules.ensures
    ∙ ap (kept_of c.args.topology.now.rules c.args.source.now c.args.target.now) (c.as_slice.ensures.keys ∙ c.in_ok-tables.ensures.value) in
    search (kept, rules)
