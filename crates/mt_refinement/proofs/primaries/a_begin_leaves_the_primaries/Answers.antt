-- A way with no step done changes no own list.
use Rattle.std.proofs.Common.{true, false, refl}
use Rattle.mt_plain.specs.Events.{begin_reverse, begin_switch, done}
use Rattle.mt_plain.specs.Next.{next, types_and, types_without, with_way_to}
use Rattle.mt_plain.specs.Refuse.{begin_reverse_refusal, begin_switch_refusal}
use Rattle.mt_plain.specs.Plain.{live_at}
use Rattle.mt_plain.specs.Serve.{refuses_by}
use Rattle.mt_stands.proofs.BeginLemmas.{at_rest-none}
use Rattle.mt_laws.proofs.RefusalLemmas.{in_workflow-none}
use Rattle.mt_stands.proofs.KeepLemmas.{begun_sides}
use Rattle.mt_primary.specs.Primaries.{primary_of}
use Rattle.mt_refinement.proofs.WaysListLemmas.{IsNext, same_stand}
use Rattle.mt_refinement.proofs.PrimaryNextLemmas.{begun_list, tables_stay}
use Rattle.mt_refinement.proofs.primaries.a_begin_leaves_the_primaries.Goals as goal

pub returns : goal.returns
returns c = record {
  switch = λ p scopes base stands name types given.
      let w = in_workflow-none (live_at p name) (begin_switch_refusal p types) given.0 in
      let q = next p (begin_switch name types) done in
      let is_next : IsNext p q w.0 (refuses_by (with_way_to false (λ switched. types_and switched types) w.0)) = record {
        topology = refl;
        tables = tables_stay p name (with_way_to false (λ switched. types_and switched types)) (begun_sides false (λ switched. types_and switched types));
        refused = λ keyspace shard table.
            c.a_workflow_that_changes_changes_its_own_part.ensures.own_lists p stands.reached name w.0 w.1 (with_way_to false (λ switched. types_and switched types)) (begun_sides false (λ switched. types_and switched types)) keyspace shard table;
        moved = c.a_live_workflow_is_found_by_its_part.ensures.mover p stands.reached name w.0 w.1;
      } in
      same_stand p q w.0 (refuses_by (with_way_to false (λ switched. types_and switched types) w.0)) is_next base.primaries stands.primaries
      (c.events_that_change_no_row_keep_rows_and_logs.ensures.switch p stands.reached (primary_of base.primaries) stands.rows name types given)
      (begun_list w.0 false (λ switched. types_and switched types) (at_rest-none w.0 _ w.2));
  reverse = λ p scopes base stands name types given.
      let w = in_workflow-none (live_at p name) (begin_reverse_refusal p types) given.0 in
      let q = next p (begin_reverse name types) done in
      let is_next : IsNext p q w.0 (refuses_by (with_way_to true (λ switched. types_without switched types) w.0)) = record {
        topology = refl;
        tables = tables_stay p name (with_way_to true (λ switched. types_without switched types)) (begun_sides true (λ switched. types_without switched types));
        refused = λ keyspace shard table.
            c.a_workflow_that_changes_changes_its_own_part.ensures.own_lists p stands.reached name w.0 w.1 (with_way_to true (λ switched. types_without switched types)) (begun_sides true (λ switched. types_without switched types)) keyspace shard table;
        moved = c.a_live_workflow_is_found_by_its_part.ensures.mover p stands.reached name w.0 w.1;
      } in
      same_stand p q w.0 (refuses_by (with_way_to true (λ switched. types_without switched types) w.0)) is_next base.primaries stands.primaries
      (c.events_that_change_no_row_keep_rows_and_logs.ensures.reverse p stands.reached (primary_of base.primaries) stands.rows name types given)
      (begun_list w.0 true (λ switched. types_without switched types) (at_rest-none w.0 _ w.2));
}
