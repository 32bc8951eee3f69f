-- The answers that an event may get.
use Rattle.std.proofs.Common.{◌≡◌, ◌⊎◌, inl, inr, ℕ, Bool, true, false, not, cond, eqb, List, [], ◌∷◌, Option, None, Some, Result, Ok, Err, refl, sym, ap, ◌∙◌, subst}
use Rattle.std.specs.List.{list_any}
use Rattle.std.specs.Prelude.{⊤, ◌&&◌, ◌||◌, leb, fold, map, option_map}
use Rattle.std.specs.Option.{option_map_or}
use Rattle.mt_names.specs.declared.keys.RuleKey.{RuleKey}
use Rattle.mt_names.specs.declared.keys.RuleTarget.{RuleTarget}
use Rattle.mt_names.specs.declared.types.TabletType.{TabletType}
use Rattle.mt_names.specs.declared.types.TabletType.TheVariants.{Primary, Replica, Rdonly}
use Rattle.mt_names.specs.declared.types.TypeSet.{TypeSet}
use Rattle.mt_model.specs.declared.faults.PrimaryFault.{PrimaryFault}
use Rattle.mt_model.specs.declared.faults.PrimaryFault.TheVariants as primary
use Rattle.mt_model.specs.Rows.{Row}
use Rattle.mt_plain.specs.Slots.{running_at, slot_of}
use Rattle.mt_plain.specs.Events.{Event, write, read, add_keyspace, add_table, edit_rule, create, advance, begin_switch, begin_reverse, step, undo, cancel, complete, show, StreamName, Refusal, memory, no_keyspace, no_table, denied, workflow_exists, table_in_workflow, rule_conflict, target_has_table, same_keyspace, no_tables, under_way, nothing_under_way, nothing_to_switch, nothing_to_reverse, copying, not_level, past_journal, traffic_switched, not_all_switched, rule_owned, watcher_refused, no_watcher, stale, full, undoing, exists, Way, Answer, done, row, advanced, shown, refused, sharded_source}
use Rattle.mt_plain.specs.Answers.{Answers, IsFree, Refuses, advanced_of, answer_of, answer_or, reply_of, show_of, lane_advanced_of}
use Rattle.mt_plain.specs.Plain.{Live, Plain, catch_up, each_once, has_keyspace, is_sharded, live_at, next_step, refresh_source, refresh_target, switch_reads, write_journal, Lane, lane_at}
use Rattle.mt_plain.specs.Refuse.{advance_at, advance_refusal, at_rest, begin_reverse_refusal, begin_switch_refusal, cancel_refusal, complete_refusal, create_is_full, create_refusal, in_workflow, is_behind, is_of_primary, most_journal_entries, moved_table_refusal, new_owner, old_owner, or_else, own_refusal, refusal_of, refuse_if, row_refusal, rule_refusal, denied_read, step_refusal, undo_refusal, unknown_table, will_read_other_side, in_lane_at}

-- ---- one answer at most

-- a refusal that isn't free stands in the state
refused_from_refuses : (p : Plain) (event : Event) (refusal : Refusal) → Refuses p event refusal → ¬ (IsFree p event (refused refusal)) → refused refusal ≡ answer_of p event
refused_from_refuses p event memory r other = absurd (other tt)
refused_from_refuses p event (watcher_refused index) r other = absurd (other tt)
refused_from_refuses p event refusal r other = sym (ap (λ o. answer_or o (reply_of p event)) r)

pub answer_from_answers : (p : Plain) (event : Event) (answer : Answer) → Answers p event answer → ¬ (IsFree p event answer) → answer ≡ answer_of p event
answer_from_answers p event (refused refusal) a other = refused_from_refuses p event refusal a other
answer_from_answers p event (advanced events rows) a other = by a.1
  where
    by : (advanced events rows ≡ reply_of p event) ⊎ IsFree p event (advanced events rows) → advanced events rows ≡ answer_of p event
    by (inl is) = is ∙ sym (ap (λ o. answer_or o (reply_of p event)) a.0)
    by (inr cut) = absurd (other cut)
answer_from_answers p event answer a other = a.1 ∙ sym (ap (λ o. answer_or o (reply_of p event)) a.0)

-- ---- one answer at least

-- no condition refuses for lack of memory, nor by a watcher
abbrev IsOwn : Refusal → Type 0
IsOwn memory = ⊥
IsOwn (watcher_refused index) = ⊥
IsOwn other = ⊤

abbrev OwnIfAny : Option Refusal → Type 0
OwnIfAny None = ⊤
OwnIfAny (Some refusal) = IsOwn refusal

pub record OwnOrNone (o : Option Refusal) : Type 0 where
  is : OwnIfAny o

or_else-own : (o next : Option Refusal) → OwnOrNone o → OwnOrNone next → OwnOrNone (or_else o next)
or_else-own (Some refusal) next first second = first
or_else-own None next first second = second

refuse_if-own : (test : Bool) (refusal : Refusal) → IsOwn refusal → OwnOrNone (refuse_if test refusal)
refuse_if-own true refusal is = record { is = is }
refuse_if-own false refusal is = record { is = tt }

none-own : OwnOrNone None
none-own = record { is = tt }

cond-own : (test : Bool) (a b : Option Refusal) → OwnOrNone a → OwnOrNone b → OwnOrNone (cond test a b)
cond-own true a b first second = first
cond-own false a b first second = second

row_refusal-own : (r : Result Row PrimaryFault) → OwnOrNone (row_refusal r)
row_refusal-own (Ok after) = record { is = tt }
row_refusal-own (Err primary.RowExists) = record { is = tt }
row_refusal-own (Err primary.NoRow) = record { is = tt }
row_refusal-own (Err primary.TooLong) = record { is = tt }
row_refusal-own (Err other) = record { is = tt }

unknown_table-own : (p : Plain) (keyspace table : List ℕ) → OwnOrNone (unknown_table p keyspace table)
unknown_table-own p keyspace table = or_else-own _ _ (refuse_if-own _ no_keyspace tt) (refuse_if-own _ no_table tt)

denied_read-own : (p : Plain) (keyspace table : List ℕ) (key : ℕ) (tablet_type : TabletType) → OwnOrNone (denied_read p keyspace table key tablet_type)
denied_read-own p keyspace table key Primary = refuse_if-own _ denied tt
denied_read-own p keyspace table key Replica = none-own
denied_read-own p keyspace table key Rdonly = none-own

rule_refusal-own : (p : Plain) (key : RuleKey) (target : Option RuleTarget) → OwnOrNone (rule_refusal p key target)
rule_refusal-own p key None = none-own
rule_refusal-own p key (Some target) = cond-own _ _ _ none-own (refuse_if-own _ full tt)

conflict-own : (o : Option RuleKey) → OwnOrNone (option_map rule_conflict o)
conflict-own None = none-own
conflict-own (Some key) = record { is = tt }

moved_table-own : (p : Plain) (source target table : List ℕ) → OwnOrNone (moved_table_refusal p source target table)
moved_table-own p source target table =
    or_else-own _ _ (refuse_if-own _ no_table tt) (or_else-own _ _ (refuse_if-own _ table_in_workflow tt)
    (or_else-own _ _ (refuse_if-own _ (target_has_table table) tt) (conflict-own _)))

moved_tables-own : (p : Plain) (source target : List ℕ) (tables : List (List ℕ)) (o : Option Refusal) → OwnOrNone o → OwnOrNone (fold or_else o (map (moved_table_refusal p source target) tables))
moved_tables-own p source target [] o own = own
moved_tables-own p source target (table ∷ tables) o own =
    moved_tables-own p source target tables (or_else o (moved_table_refusal p source target table)) (or_else-own _ _ own (moved_table-own p source target table))

in_workflow-own : (o : Option Live) (refusal : Live → Option Refusal) → ((w : Live) → OwnOrNone (refusal w)) → OwnOrNone (in_workflow o refusal)
in_workflow-own None refusal each = record { is = tt }
in_workflow-own (Some w) refusal each = each w

at_rest-own : (w : Live) (o : Option Refusal) → OwnOrNone o → OwnOrNone (at_rest w o)
at_rest-own w o own = or_else-own _ _ (refuse_if-own _ under_way tt) own

on_way-own : (o : Option Way) (refusal : Way → Option Refusal) → ((way : Way) → OwnOrNone (refusal way)) → OwnOrNone (option_map_or refusal o (Some nothing_under_way))
on_way-own None refusal each = record { is = tt }
on_way-own (Some way) refusal each = each way

advance_at-own : (p : Plain) (w : Live) (lane : Lane) (name : StreamName) (at at_most : ℕ) (o : Option ℕ) → OwnOrNone (advance_at p w lane name at at_most o)
advance_at-own p w lane name at at_most None = record { is = tt }
advance_at-own p w lane name at at_most (Some position) = or_else-own _ _ (refuse_if-own _ (stale position) tt) (refuse_if-own _ full tt)

in_lane-own : (o : Option Lane) (refusal : Lane → Option Refusal) → ((lane : Lane) → OwnOrNone (refusal lane)) → OwnOrNone (in_lane_at o refusal)
in_lane-own None refusal each = record { is = tt }
in_lane-own (Some lane) refusal each = each lane

begin_switch-own : (p : Plain) (types : TypeSet) (w : Live) → OwnOrNone (begin_switch_refusal p types w)
begin_switch-own p types w =
    at_rest-own w _ (or_else-own _ _ (refuse_if-own _ nothing_to_switch tt) (or_else-own _ _ (refuse_if-own _ copying tt) (refuse_if-own _ full tt)))

begin_reverse-own : (p : Plain) (types : TypeSet) (w : Live) → OwnOrNone (begin_reverse_refusal p types w)
begin_reverse-own p types w = at_rest-own w _ (or_else-own _ _ (refuse_if-own _ nothing_to_reverse tt) (refuse_if-own _ full tt))

own_refusal-own : (p : Plain) (w : Live) (way : Way) (number : ℕ) → OwnOrNone (own_refusal p w way number)
own_refusal-own p w way number =
    cond-own (eqb number switch_reads) _ _ (refuse_if-own (will_read_other_side w way && is_behind p w) not_level tt)
    (cond-own (eqb number refresh_source) _ _ (refuse_if-own (not (list_any (is_of_primary (old_owner w)) p.scopes)) no_watcher tt)
    (cond-own (eqb number catch_up) _ _ (refuse_if-own (is_behind p w) not_level tt)
    (cond-own (eqb number write_journal) _ _ (refuse_if-own (leb most_journal_entries p.journal) full tt)
    (cond-own (eqb number refresh_target) _ _ (refuse_if-own (not (list_any (is_of_primary (new_owner w)) p.scopes)) no_watcher tt) none-own))))

step-own : (p : Plain) (at : ℕ) (w : Live) → OwnOrNone (step_refusal p at w)
step-own p at w =
    on_way-own w.way _ (λ way. or_else-own _ _ (refuse_if-own way.undoing undoing tt)
    (or_else-own _ _ (refuse_if-own (not (eqb at way.done)) (stale way.done) tt) (own_refusal-own p w way (next_step way))))

undo-own : (at : ℕ) (w : Live) → OwnOrNone (undo_refusal at w)
undo-own at w = on_way-own w.way _ (λ way. or_else-own _ _ (refuse_if-own _ past_journal tt) (refuse_if-own _ (stale way.done) tt))

cancel-own : (w : Live) → OwnOrNone (cancel_refusal w)
cancel-own w = at_rest-own w _ (refuse_if-own (w.switched.primary || w.switched.replica || w.switched.rdonly) traffic_switched tt)

complete-own : (w : Live) → OwnOrNone (complete_refusal w)
complete-own w = at_rest-own w _ (refuse_if-own (not (w.switched.primary && w.switched.replica && w.switched.rdonly)) not_all_switched tt)

create-own : (p : Plain) (workflow source target : List ℕ) (tables : List (List ℕ)) → OwnOrNone (create_refusal p workflow source target tables)
create-own p workflow source target tables =
    or_else-own _ _ (refuse_if-own _ workflow_exists tt) (or_else-own _ _ (refuse_if-own _ no_tables tt) (or_else-own _ _ (refuse_if-own _ same_keyspace tt)
    (or_else-own _ _ (refuse_if-own (not (has_keyspace p source)) no_keyspace tt) (or_else-own _ _ (refuse_if-own (not (has_keyspace p target)) no_keyspace tt) (or_else-own _ _ (refuse_if-own (is_sharded p source) sharded_source tt) (or_else-own _ _ (moved_tables-own p source target tables None none-own)
    (or_else-own _ _ (refuse_if-own (not (list_any (is_of_primary target) p.scopes)) no_watcher tt) (refuse_if-own (create_is_full p source target tables) full tt))))))))

refusal_of-own : (p : Plain) (event : Event) → OwnOrNone (refusal_of p event)
refusal_of-own p (write keyspace table op) =
    or_else-own _ _ (unknown_table-own p keyspace table) (or_else-own _ _ (refuse_if-own _ denied tt) (or_else-own _ _ (row_refusal-own _) (refuse_if-own _ full tt)))
refusal_of-own p (read keyspace table key tablet_type) = or_else-own _ _ (unknown_table-own p keyspace table) (denied_read-own p keyspace table key tablet_type)
refusal_of-own p (add_keyspace keyspace cuts) = or_else-own _ _ (refuse_if-own _ exists tt) (refuse_if-own _ full tt)
refusal_of-own p (add_table keyspace table) =
    or_else-own _ _ (refuse_if-own _ no_keyspace tt) (or_else-own _ _ (refuse_if-own _ exists tt) (refuse_if-own _ full tt))
refusal_of-own p (edit_rule key target) = or_else-own _ _ (refuse_if-own _ rule_owned tt) (rule_refusal-own p key target)
refusal_of-own p (create workflow source target tables) = create-own p workflow source target (each_once tables)
refusal_of-own p (advance workflow name shard at at_most) = in_workflow-own (live_at p workflow) (advance_refusal p name shard at at_most) (λ w. in_lane-own (lane_at w shard) _ (λ lane. advance_at-own p w lane name at at_most (running_at (slot_of w lane name))))
refusal_of-own p (begin_switch workflow types) = in_workflow-own (live_at p workflow) (begin_switch_refusal p types) (begin_switch-own p types)
refusal_of-own p (begin_reverse workflow types) = in_workflow-own (live_at p workflow) (begin_reverse_refusal p types) (begin_reverse-own p types)
refusal_of-own p (step workflow at) = in_workflow-own (live_at p workflow) (step_refusal p at) (step-own p at)
refusal_of-own p (undo workflow at) = in_workflow-own (live_at p workflow) (undo_refusal at) (undo-own at)
refusal_of-own p (cancel workflow) = in_workflow-own (live_at p workflow) cancel_refusal cancel-own
refusal_of-own p (complete workflow) = in_workflow-own (live_at p workflow) complete_refusal complete-own
refusal_of-own p (show workflow) = in_workflow-own (live_at p workflow) (λ w. None) (λ w. none-own)

-- no reply is a refusal
abbrev IsTaken : Answer → Type 0
IsTaken (refused refusal) = ⊥
IsTaken other = ⊤

lane_advanced_of-taken : (p : Plain) (name : StreamName) (at at_most : ℕ) (w : Live) (o : Option Lane) → IsTaken (lane_advanced_of p name at at_most w o)
lane_advanced_of-taken p name at at_most w None = tt
lane_advanced_of-taken p name at at_most w (Some lane) = tt

advanced_of-taken : (p : Plain) (name : StreamName) (shard at at_most : ℕ) (o : Option Live) → IsTaken (advanced_of p name shard at at_most o)
advanced_of-taken p name shard at at_most None = tt
advanced_of-taken p name shard at at_most (Some w) = lane_advanced_of-taken p name at at_most w (lane_at w shard)

show_of-taken : (o : Option Live) → IsTaken (show_of o)
show_of-taken None = tt
show_of-taken (Some w) = tt

reply_of-taken : (p : Plain) (event : Event) → IsTaken (reply_of p event)
reply_of-taken p (read keyspace table key tablet_type) = tt
reply_of-taken p (advance workflow name shard at at_most) = advanced_of-taken p name shard at at_most (live_at p workflow)
reply_of-taken p (show workflow) = show_of-taken (live_at p workflow)
reply_of-taken p other = tt

refuses-own : (p : Plain) (event : Event) (refusal : Refusal) → refusal_of p event ≡ Some refusal → IsOwn refusal → Refuses p event refusal
refuses-own p event memory e own = absurd own
refuses-own p event (watcher_refused index) e own = absurd own
refuses-own p event refusal e own = e

-- the answer where nothing is free, by what refuses
answers-or : (p : Plain) (event : Event) → (o : Option Refusal) → refusal_of p event ≡ o → OwnIfAny o → Answers p event (answer_or o (reply_of p event))
answers-or p event (Some refusal) e own = refuses-own p event refusal e own
answers-or p event None e own = by (reply_of p event) refl
  where
    by : (answer : Answer) → reply_of p event ≡ answer → Answers p event answer
    by done is = (e, sym is)
    by (row r) is = (e, sym is)
    by (advanced events rows) is = (e, inl (sym is))
    by (shown s) is = (e, sym is)
    by (refused refusal) is = absurd (subst IsTaken is (reply_of-taken p event))

-- what the state refuses, it may refuse
pub refused_as_decided : (p : Plain) (event : Event) (refusal : Refusal) → refusal_of p event ≡ Some refusal → Refuses p event refusal
refused_as_decided p event refusal e = refuses-own p event refusal e (subst OwnIfAny e (refusal_of-own p event).is)

pub answers-answer_of : (p : Plain) (event : Event) → Answers p event (answer_of p event)
answers-answer_of p event = answers-or p event (refusal_of p event) refl (refusal_of-own p event).is
