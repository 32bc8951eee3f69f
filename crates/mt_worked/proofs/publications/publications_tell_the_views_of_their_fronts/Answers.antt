-- Views by the test that computes; what is no view lacks an entry, has one twice, or has one that is not served.
use Rattle.std.proofs.Common.{◌≡◌, ◌≤◌, true, false, [], ◌∷◌, AllPairs, None, Some, is_some, unwrap_or, refl}
use Rattle.std.proofs.Common.{sym, ap, arith}
use Rattle.std.proofs.lemmas.Bool.{true≢false}
use Rattle.std.proofs.lemmas.List.Elements.{All-from_recursion, All-nil}
use Rattle.std.proofs.lemmas.List.Kept.{AllPairs-cons}
use Rattle.mt_model.specs.declared.entries.Entry.{Entry}
use Rattle.mt_model.specs.declared.entries.Entry.TheVariants as entry
use Rattle.mt_model.specs.Topology.{is_routed}
use Rattle.mt_plain.specs.Answers.{Publication, IsPublication, after_lines}
use Rattle.mt_plain.specs.Plain.{in_keyspace}
use Rattle.mt_worked.specs.Histories.{history, start}
use Rattle.mt_worked.specs.Publications.{c_entry, front, made_view, made_view_turned, moving, rules_at_create}
use Rattle.mt_worked.specs.Publications.{switched_view, table_entry, target_entry}
use Rattle.mt_worked.specs.States.{commerce, corder, customer, other, plain, switched, watched}
use Rattle.mt_worked.proofs.ViewLemmas.{has_none, lacks, view_from_test}
use Rattle.mt_worked.proofs.publications.publications_tell_the_views_of_their_fronts.Goals as goal

pub returns-clause-a_view_after_two_lines_is_empty : goal.returns-clause-a_view_after_two_lines_is_empty
returns-clause-a_view_after_two_lines_is_empty c = (omega arith, view_from_test (after_lines start history 2) [] refl)

pub returns-clause-a_view_after_three_lines_has_the_table : goal.returns-clause-a_view_after_three_lines_has_the_table
returns-clause-a_view_after_three_lines_has_the_table c = (omega arith, view_from_test (after_lines start history 3) (table_entry ∷ []) refl)

pub returns-clause-a_view_after_all_lines_has_the_rule : goal.returns-clause-a_view_after_all_lines_has_the_rule
returns-clause-a_view_after_all_lines_has_the_rule c = (omega arith, view_from_test (after_lines start history 5) (c_entry ∷ table_entry ∷ []) refl)

pub returns-clause-a_view_in_another_order_is_one : goal.returns-clause-a_view_in_another_order_is_one
returns-clause-a_view_in_another_order_is_one c = (omega arith, view_from_test (after_lines start history 5) (table_entry ∷ c_entry ∷ []) refl)

pub returns-clause-no_view_lacks_an_entry : goal.returns-clause-no_view_lacks_an_entry
returns-clause-no_view_lacks_an_entry c = λ publication. lacks (after_lines start history 5) (c_entry ∷ []) table_entry refl refl refl publication.1

pub returns-clause-no_view_has_an_entry_twice : goal.returns-clause-no_view_has_an_entry_twice
returns-clause-no_view_has_an_entry_twice c = λ publication. publication.1.once 0 2 c_entry (omega arith) (omega arith) refl

pub returns-clause-no_view_has_a_denial : goal.returns-clause-no_view_has_a_denial
returns-clause-no_view_has_a_denial c =
    λ publication. has_none (after_lines watched moving 4) (entry.Denied customer corder true ∷ made_view) (entry.Denied customer corder true) refl (0, omega arith, refl) publication.1

pub returns-clause-no_view_has_a_rule_without_a_target : goal.returns-clause-no_view_has_a_rule_without_a_target
returns-clause-no_view_has_a_rule_without_a_target c =
    λ publication. has_none (after_lines start history 5) (c_entry ∷ table_entry ∷ entry.Rule (plain corder) None ∷ []) (entry.Rule (plain corder) None) refl (2, omega arith, refl) publication.1

pub returns-clause-no_view_has_an_absent_table : goal.returns-clause-no_view_has_an_absent_table
returns-clause-no_view_has_an_absent_table c =
    λ publication. has_none (after_lines start history 5) (c_entry ∷ table_entry ∷ entry.Present commerce other false ∷ []) (entry.Present commerce other false)
    refl (2, omega arith, refl) publication.1

pub returns-clause-no_view_has_a_rule_that_is_not_served : goal.returns-clause-no_view_has_a_rule_that_is_not_served
returns-clause-no_view_has_a_rule_that_is_not_served c = λ publication.
    let own : Entry = entry.Rule (plain corder) (Some (in_keyspace commerce corder)) in
    let served = (publication.1.entries own).0 (2, omega arith, refl) in
    let wrong : false ≡ true = ap is_routed served.1 in true≢false (sym wrong)

pub returns-clause-no_view_is_of_another_front : goal.returns-clause-no_view_is_of_another_front
returns-clause-no_view_is_of_another_front c = λ publication. lacks (after_lines start history 3) [] table_entry refl refl refl publication.1

pub returns-clause-no_front_is_past_the_history : goal.returns-clause-no_front_is_past_the_history
returns-clause-no_front_is_past_the_history c = λ publication. let far : 6 ≤ 5 = publication.0 in absurd (omega (arith, far))

pub returns-clause-a_view_has_the_part_of_a_live_workflow : goal.returns-clause-a_view_has_the_part_of_a_live_workflow
returns-clause-a_view_has_the_part_of_a_live_workflow c = (omega arith, view_from_test (after_lines watched moving 4) made_view refl)

pub returns-clause-it_may_have_it_in_another_order : goal.returns-clause-it_may_have_it_in_another_order
returns-clause-it_may_have_it_in_another_order c = (omega arith, view_from_test (after_lines watched moving 4) made_view_turned refl)

pub returns-clause-no_view_lacks_the_table_at_the_target : goal.returns-clause-no_view_lacks_the_table_at_the_target
returns-clause-no_view_lacks_the_table_at_the_target c = λ publication. lacks (after_lines watched moving 4) (table_entry ∷ rules_at_create) target_entry refl refl refl publication.1

pub returns-clause-no_view_is_of_the_topology_without_the_workflow : goal.returns-clause-no_view_is_of_the_topology_without_the_workflow
returns-clause-no_view_is_of_the_topology_without_the_workflow c = λ publication. lacks (after_lines watched moving 4) (table_entry ∷ []) target_entry refl refl refl publication.1

pub returns-clause-a_view_behind_a_switch_leads_to_the_target : goal.returns-clause-a_view_behind_a_switch_leads_to_the_target
returns-clause-a_view_behind_a_switch_leads_to_the_target c = view_from_test switched switched_view refl

-- ---- lists of publications

abbrev goes_forward : Publication → Publication → Type 0
goes_forward earlier later = earlier.front ≤ later.front

pub returns-clause-publications_go_forward : goal.returns-clause-publications_go_forward
returns-clause-publications_go_forward c =
    record {
      begins = refl;
      each = All-from_recursion (IsPublication watched moving) (first ∷ second ∷ second ∷ third ∷ [])
          ((omega arith, view_from_test (after_lines watched moving 0) [] refl), (at_three, (at_three, ((omega arith, view_from_test (after_lines watched moving 4) made_view_turned refl), tt))));
      fronts =
          AllPairs-cons goes_forward first (second ∷ second ∷ third ∷ []) (All-from_recursion (goes_forward first) (second ∷ second ∷ third ∷ []) (omega arith, (omega arith, (omega arith, tt))))
          (AllPairs-cons goes_forward second (second ∷ third ∷ []) (All-from_recursion (goes_forward second) (second ∷ third ∷ []) (omega arith, (omega arith, tt)))
          (AllPairs-cons goes_forward second (third ∷ []) (All-from_recursion (goes_forward second) (third ∷ []) (omega arith, tt))
          (AllPairs-cons goes_forward third [] (All-nil (goes_forward third)) none)));
    }
  where
    first : Publication
    first = front 0 []

    second : Publication
    second = front 3 (table_entry ∷ [])

    third : Publication
    third = front 4 made_view_turned

    at_three : IsPublication watched moving (front 3 (table_entry ∷ []))
    at_three = (omega arith, view_from_test (after_lines watched moving 3) (table_entry ∷ []) refl)

    none : AllPairs goes_forward []
    none = λ i j d below inside. absurd (omega (arith, inside))

pub returns-clause-the_first_is_of_no_line : goal.returns-clause-the_first_is_of_no_line
returns-clause-the_first_is_of_no_line c = λ are. let wrong : 3 ≡ 0 = ap (λ o. unwrap_or o 0) are.begins in absurd (omega (arith, wrong))

pub returns-clause-fronts_never_fall : goal.returns-clause-fronts_never_fall
returns-clause-fronts_never_fall c = λ are. let falls : 4 ≤ 3 = are.fronts 1 2 (front 0 []) (omega arith) (omega arith) in absurd (omega (arith, falls))

pub returns-clause-no_desk_has_no_publication : goal.returns-clause-no_desk_has_no_publication
returns-clause-no_desk_has_no_publication c = λ are. let wrong : false ≡ true = ap is_some are.begins in true≢false (sym wrong)

pub returns-clause-each_of_them_is_the_view_of_its_front : goal.returns-clause-each_of_them_is_the_view_of_its_front
returns-clause-each_of_them_is_the_view_of_its_front c = λ are.
    let second : IsPublication watched moving (front 3 []) = are.each 1 (front 0 []) (omega arith) in
    lacks (after_lines watched moving 3) [] table_entry refl refl refl second.1
