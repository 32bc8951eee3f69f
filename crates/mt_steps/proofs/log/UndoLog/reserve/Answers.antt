-- One table more.
use Rattle.std.proofs.Common.{◌≡◌, ◌<◌, ◌≤◌, ◌+◌, ◌++◌, List, ℕ, None, get_or, length, map, replicate, take, arith, rules, subst, sym, ap, ◌∙◌}
use Rattle.std.proofs.lemmas.List.{take_all}
use Rattle.mt_model.specs.Part.{part_keys, table_part_keys}
use Rattle.mt_workflow.specs.Workflows.{wanted}
use Rattle.mt_steps.specs.declared.log.Late.{Late}
use Rattle.mt_steps.specs.declared.log.PutAway.{PutAway}
use Rattle.mt_steps.specs.Records.{entries_of}
use Rattle.mt_steps.proofs.LaneLemmas.{each_of_same, seen}
use Rattle.mt_steps.proofs.SweepLemmas.{table_next}
use Rattle.mt_steps.proofs.log.UndoLog.reserve.Goals as goal

pub loop-table-preserved : goal.loop-table-preserved
loop-table-preserved c =
    let w = c.args.workflow.now in
    let i = c.loop-table.table-index in
    let x : List ℕ = c.table-item.result in
    let all : c.tables-table-items.result.now ≡ w.tables = c.tables-table-items.ensures in
    record {
      room = subst (λ n. length w.tables ≤ n) (sym c.push_at_rest.ensures.capacity) c.loop-table.invariant.room;
      len = c.push_at_rest.ensures.len ∙ ap (λ n. n + 1) c.loop-table.invariant.len;
      entries =
          c.push_at_rest.ensures.entries ∙ ap (λ es. es ++ map (wanted w w.switched) (table_part_keys w.source w.target x)) c.loop-table.invariant.entries
          ∙ table_next (wanted w w.switched) (table_part_keys w.source w.target) w.tables i x (subst (λ l. i < length l) all c.loop-table-test.true) (subst (λ l. x ≡ get_or l i x) all c.table-item.is);
    }

pub returns-in-Ok-new-clause-value : goal.returns-in-Ok-new-clause-value
returns-in-Ok-new-clause-value c =
    let w = c.args.workflow.now in
    let records = c.loop-table.records.items in
    let none : PutAway = record { listed = None; slot = None } in
    let all : c.loop-table.table-index ≡ length w.tables = search rules in
    let lanes : c.in_ok-room_for.field-0.items ≡ replicate (length w.lanes) none = c.in_ok-room_for.ensures.value ∙ ap (λ n. replicate n none) c.shards.ensures.value in
    let late : c.in-Ok-new.late.value ≡ record { source = w.source; target = w.target; lanes = c.in_ok-room_for.field-0 } =
    c.in-Ok-new.ensures.ok ∙ ap (λ (s : List ℕ). record { source = s; target = c.copied-2.result; lanes = c.in_ok-room_for.field-0 }) (c.copied.ensures ∙ c.source.ensures)
    ∙ ap (λ (s : List ℕ). record { source = w.source; target = s; lanes = c.in_ok-room_for.field-0 }) (c.copied-2.ensures ∙ c.target.ensures) in
    ap (λ (l : Late). seen l.source l.target records l.lanes.items) late ∙ ap (seen w.source w.target records) lanes
    ∙ ap (λ l. record { entries = entries_of w.source w.target records; listed = l; slots = map (λ (k : PutAway). k.slot) (replicate (length w.lanes) none) }) (each_of_same (λ (k : PutAway). k.listed) none w.lanes)
    ∙ ap (λ s. record { entries = entries_of w.source w.target records; listed = map (λ lane. None) w.lanes; slots = s }) (each_of_same (λ (k : PutAway). k.slot) none w.lanes)
    ∙ ap (λ es. record { entries = es; listed = map (λ lane. None) w.lanes; slots = map (λ lane. None) w.lanes })
    (c.loop-table.invariant.entries ∙ ap (λ ts. map (wanted w w.switched) (part_keys w.source w.target ts)) (ap (λ n. take n w.tables) all ∙ take_all (length w.tables) w.tables (omega arith)))
