-- One table more.
use Rattle.std.proofs.Common.{◌≡◌, ◌∷◌, ◌+◌, drop, ap, sym, List, ℕ, Option, None, option_map, ◌∙◌}
use Rattle.std.proofs.lemmas.List.{at_drop_more}
use Rattle.mt_event.specs.Events.{refusal_from}
use Rattle.mt_plain.specs.Events.{Refusal}
use Rattle.mt_plain.specs.Refuse.{or_else}
use Rattle.mt_stands.specs.Base.{BaseState}
use Rattle.mt_stands.specs.Workflows.{table_refusal, tables_refusal}
use Rattle.mt_moves.proofs.creating.tables_refusal.Goals as goal

pub returns-in-Some : goal.returns-in-Some
returns-in-Some c = λ primaries.
    let base : BaseState = record { topology = c.args.topology.now; primaries = primaries; workflows = c.args.workflows.now.entries } in
    let all : List (List ℕ) → Option Refusal = tables_refusal base c.args.source.now c.args.target.now in
    let rest = drop (c.loop-table.table-index + 1) c.args.tables.now in
    sym (c.loop-table.invariant primaries ∙ at_drop_more all c.args.tables.now c.loop-table.table-index c.table-item.result c.loop-table-test.true
    ∙ ap (λ t. all (t ∷ rest)) (sym c.table-item.is)
    ∙ ap (λ r. or_else r (all rest)) (sym (c.in-Some.ensures primaries)))

pub loop-table-preserved : goal.loop-table-preserved
loop-table-preserved c = λ primaries.
    let base : BaseState = record { topology = c.args.topology.now; primaries = primaries; workflows = c.args.workflows.now.entries } in
    let all : List (List ℕ) → Option Refusal = tables_refusal base c.args.source.now c.args.target.now in
    let rest = drop (c.loop-table.table-index + 1) c.args.tables.now in
    let none : table_refusal base c.args.source.now c.args.target.now c.table-item.result ≡ None = sym (c.table_refusal.ensures primaries) ∙ ap (option_map refusal_from) c.in_default.is in
    c.loop-table.invariant primaries ∙ at_drop_more all c.args.tables.now c.loop-table.table-index c.table-item.result c.loop-table-test.true
    ∙ ap (λ t. all (t ∷ rest)) (sym c.table-item.is)
    ∙ ap (λ r. or_else r (all rest)) none
