-- No text that the core tells of a state has a line feed: documents, and answers.
use Rattle.std.proofs.Common.{ℕ, cond, List, [], ◌∷◌, ◌++◌, codes, Option, None, Some, refl, subst, sym, unwrap_or, zero, suc}
use Rattle.std.specs.List.{AllByRecursion, flat_map, join_with_byte, slice_get}
use Rattle.std.specs.Prelude.{⊤, flat_map, map}
use Rattle.std.specs.Option.{option_map_or}
use Rattle.mt_names.specs.Names.{dash}
use Rattle.mt_names.specs.Shards.{Cuts, KeyRange, range_text, ranges_from, ranges_of, whole}
use Rattle.mt_names.specs.declared.keys.RuleKey.{RuleKey}
use Rattle.mt_names.specs.declared.keys.RuleTarget.{RuleTarget}
use Rattle.mt_names.specs.declared.types.TabletType.{TabletType}
use Rattle.mt_names.specs.declared.types.TabletType.TheVariants.{Primary, Replica, Rdonly}
use Rattle.mt_names.specs.declared.types.TypeSet.{TypeSet}
use Rattle.mt_names.specs.Keys.{at_sign, dot, key_text, qualifier_text, suffix_text, target_text}
use Rattle.mt_names.specs.Tables.{table_list_text}
use Rattle.mt_names.specs.Types.{comma, members, type_set_text, type_text, written}
use Rattle.mt_model.specs.Documents.{array, denied_text, denied_texts, dump_text, entries_of, keyspace_text, marked, member, quoted, rule_text, rules_array, rules_text, shard_texts, sorted_by_text, sorted_texts}
use Rattle.mt_model.specs.Topology.{KeyspaceState, Marks, Rules, TopologyState}
use Rattle.mt_plain.specs.Events.{ShownLane, Event, read, advance, show, StreamName, Refusal, memory, no_shard, sharded_source, no_keyspace, no_table, denied, row_exists, no_row, workflow_exists, no_workflow, table_in_workflow, rule_conflict, target_has_table, same_keyspace, no_tables, under_way, nothing_under_way, nothing_to_switch, nothing_to_reverse, copying, not_level, past_journal, traffic_switched, not_all_switched, rule_owned, watcher_refused, no_watcher, stale, stream_stopped, full, undoing, too_long, exists, refusal_text, Way, StreamState, running, stopped, frozen, Slot, Shown, Answer, done, row, advanced, shown, refused}
use Rattle.mt_plain.specs.Output.{backs_text, copied_text, forward_text, forwards_text, lane_back_texts, none_or, answer_text, back_text, shown_text, slot_text, spaced, state_text, way_text}
use Rattle.mt_plain.specs.Answers.{lane_advanced_of, lane_shown, Answers, advanced_of, reply_of, show_of}
use Rattle.mt_plain.specs.Numbers.{number_text}
use Rattle.mt_plain.specs.Plain.{Lane, Live, Plain, changed_types, lane_at, live_at}
use Rattle.mt_laws.proofs.ListLemmas.{each-mapped, flat_map-all, map-all, OfSome, cond-either, sorted_by_text-all}
use Rattle.mt_laws.proofs.CleanLemmas.{CleanKey, CleanKeyspace, CleanLive, CleanMark, CleanRow, CleanRule, CleanTarget, CleanTopology, IsClean, live_at-clean, row_of-clean}
use Rattle.mt_laws.proofs.TextLemmas.{NoFeed, no_feed-append, no_feed-array, no_feed-cons, no_feed-join, no_feed-member, no_feed-nil, no_feed-number, no_feed-object, no_feed-quoted}

-- ---- keys and targets

type_text-no_feed : (t : TabletType) → NoFeed (type_text t)
type_text-no_feed Primary = record { all = refl }
type_text-no_feed Replica = record { all = refl }
type_text-no_feed Rdonly = record { all = refl }

qualifier-no_feed : (o : Option (List ℕ)) → OfSome NoFeed o → NoFeed (qualifier_text o)
qualifier-no_feed None is = no_feed-nil
qualifier-no_feed (Some keyspace) is = no_feed-append keyspace (dot ∷ []) is (record { all = refl })

suffix-no_feed : (o : Option TabletType) → NoFeed (suffix_text o)
suffix-no_feed None = no_feed-nil
suffix-no_feed (Some t) = no_feed-cons at_sign (type_text t) refl (type_text-no_feed t)

key_text-no_feed : (key : RuleKey) → CleanKey key → NoFeed (key_text key)
key_text-no_feed key is =
    no_feed-append (qualifier_text key.keyspace ++ key.table) (suffix_text key.tablet_type)
    (no_feed-append (qualifier_text key.keyspace) key.table (qualifier-no_feed key.keyspace is.keyspace) is.table) (suffix-no_feed key.tablet_type)

target_text-no_feed : (target : RuleTarget) → CleanTarget target → NoFeed (target_text target)
target_text-no_feed target is = no_feed-append target.keyspace (dot ∷ target.table) is.keyspace (no_feed-cons dot target.table refl is.table)

-- ---- the rules

abbrev CleanPair : RuleKey × RuleTarget → Type 0
CleanPair r = CleanKey r.0 × CleanTarget r.1

entries_of-clean : (rule : RuleKey × Option RuleTarget) → CleanRule rule → AllByRecursion CleanPair (entries_of rule)
entries_of-clean (key, None) is = tt
entries_of-clean (key, Some target) is = ((is.key, is.target), tt)

rule_text-no_feed : (r : RuleKey × RuleTarget) → CleanPair r → NoFeed (rule_text r)
rule_text-no_feed r is =
    let target = quoted (target_text r.1) in
    let target_is = no_feed-quoted (target_text r.1) (target_text-no_feed r.1 is.1) in
    no_feed-object (member (codes "from_table") (quoted (key_text r.0)) ∷ member (codes "to_tables") (array (target ∷ [])) ∷ []) (
      no_feed-member (codes "from_table") (quoted (key_text r.0)) (record { all = refl }) (no_feed-quoted (key_text r.0) (key_text-no_feed r.0 is.0)),
      (no_feed-member (codes "to_tables") (array (target ∷ [])) (record { all = refl }) (no_feed-array (target ∷ []) (target_is, tt)), tt),
    )

rules_array-no_feed : (rules : Rules) → AllByRecursion CleanRule rules → NoFeed (rules_array rules)
rules_array-no_feed rules all =
    let entries = flat_map entries_of rules in
    no_feed-array (map rule_text (sorted_by_text (λ r. key_text r.0) entries))
    (map-all CleanPair NoFeed rule_text (sorted_by_text (λ r. key_text r.0) entries) rule_text-no_feed
    (sorted_by_text-all CleanPair (λ r. key_text r.0) entries (flat_map-all CleanRule CleanPair entries_of rules entries_of-clean all)))

pub rules_text-no_feed : (t : TopologyState) → CleanTopology t → NoFeed (rules_text t.rules)
rules_text-no_feed t clean =
    no_feed-object (member (codes "rules") (rules_array t.rules) ∷ []) (no_feed-member (codes "rules") (rules_array t.rules) (record { all = refl }) (rules_array-no_feed t.rules clean.rules), tt)

-- ---- the dump

marked-clean : (marks : Marks) → AllByRecursion CleanMark marks → AllByRecursion NoFeed (marked marks)
marked-clean marks all =
    flat_map-all CleanMark NoFeed (λ mark. cond mark.1 (mark.0 ∷ []) []) marks (λ mark is. cond-either (AllByRecursion NoFeed) mark.1 (mark.0 ∷ []) [] (is, tt) tt) all

quoted_texts-no_feed : (texts : List (List ℕ)) → AllByRecursion NoFeed texts → NoFeed (array (map quoted (sorted_texts texts)))
quoted_texts-no_feed texts all =
    no_feed-array (map quoted (sorted_texts texts)) (map-all NoFeed NoFeed quoted (sorted_texts texts) no_feed-quoted (sorted_by_text-all NoFeed (λ t. t) texts all))

ranges-no_feed : (start : List ℕ) (cuts : Cuts) → NoFeed start → AllByRecursion NoFeed cuts → AllByRecursion NoFeed (map range_text (ranges_from start cuts))
ranges-no_feed start [] first all = (no_feed-append start (dash ∷ []) first (record { all = refl }), tt)
ranges-no_feed start (cut ∷ cuts) first all = (no_feed-append start (dash ∷ cut) first (no_feed-cons dash cut refl all.0), ranges-no_feed cut cuts all.0 all.1)

keyspace_text-no_feed : (k : List ℕ × KeyspaceState) → CleanKeyspace k → NoFeed (keyspace_text k)
keyspace_text-no_feed k is =
    let shards = array (map quoted (shard_texts k.1)) in
    let tables = array (map quoted (sorted_texts (marked k.1.tables))) in
    let shards_are : NoFeed shards = no_feed-array (map quoted (shard_texts k.1)) (map-all NoFeed NoFeed quoted (shard_texts k.1) no_feed-quoted (ranges-no_feed [] k.1.cuts no_feed-nil is.state.cuts)) in
    no_feed-object (member (codes "name") (quoted k.0) ∷ member (codes "shards") shards ∷ member (codes "tables") tables ∷ []) (
      no_feed-member (codes "name") (quoted k.0) (record { all = refl }) (no_feed-quoted k.0 is.name),
      (
        no_feed-member (codes "shards") shards (record { all = refl }) shards_are,
        (no_feed-member (codes "tables") tables (record { all = refl }) (quoted_texts-no_feed (marked k.1.tables) (marked-clean k.1.tables is.state.tables)), tt),
      ),
    )

denied_texts-no_feed : (k : List ℕ × KeyspaceState) → CleanKeyspace k → AllByRecursion NoFeed (denied_texts k)
denied_texts-no_feed k is =
    map-all NoFeed NoFeed (denied_text k.0) (marked k.1.denied)
    (λ table none. target_text-no_feed (record { keyspace = k.0; table = table }) (record { keyspace = is.name; table = none })) (marked-clean k.1.denied is.state.denied)

pub dump_text-no_feed : (t : TopologyState) → CleanTopology t → NoFeed (dump_text t)
dump_text-no_feed t clean =
    let denials = array (map quoted (sorted_texts (flat_map denied_texts t.keyspaces))) in
    let keyspaces = array (map keyspace_text (sorted_by_text (λ k. k.0) t.keyspaces)) in
    let denials_are : NoFeed denials = quoted_texts-no_feed (flat_map denied_texts t.keyspaces) (flat_map-all CleanKeyspace NoFeed denied_texts t.keyspaces denied_texts-no_feed clean.keyspaces) in
    let keyspaces_are : NoFeed keyspaces =
    no_feed-array (map keyspace_text (sorted_by_text (λ k. k.0) t.keyspaces))
    (map-all CleanKeyspace NoFeed keyspace_text (sorted_by_text (λ k. k.0) t.keyspaces) keyspace_text-no_feed (sorted_by_text-all CleanKeyspace (λ k. k.0) t.keyspaces clean.keyspaces)) in
    no_feed-object (member (codes "denied") denials ∷ member (codes "keyspaces") keyspaces ∷ member (codes "rules") (rules_array t.rules) ∷ member (codes "version") (codes "2") ∷ []) (
      no_feed-member (codes "denied") denials (record { all = refl }) denials_are,
      (
        no_feed-member (codes "keyspaces") keyspaces (record { all = refl }) keyspaces_are,
        (
          no_feed-member (codes "rules") (rules_array t.rules) (record { all = refl }) (rules_array-no_feed t.rules clean.rules),
          (no_feed-member (codes "version") (codes "2") (record { all = refl }) (record { all = refl }), tt),
        ),
      ),
    )

-- ---- answers

pub refusal-no_feed : (refusal : Refusal) → NoFeed (refusal_text refusal)
refusal-no_feed memory = record { all = refl }
refusal-no_feed no_shard = record { all = refl }
refusal-no_feed sharded_source = record { all = refl }
refusal-no_feed no_keyspace = record { all = refl }
refusal-no_feed no_table = record { all = refl }
refusal-no_feed denied = record { all = refl }
refusal-no_feed row_exists = record { all = refl }
refusal-no_feed no_row = record { all = refl }
refusal-no_feed workflow_exists = record { all = refl }
refusal-no_feed no_workflow = record { all = refl }
refusal-no_feed table_in_workflow = record { all = refl }
refusal-no_feed (rule_conflict key) = record { all = refl }
refusal-no_feed (target_has_table table) = record { all = refl }
refusal-no_feed same_keyspace = record { all = refl }
refusal-no_feed no_tables = record { all = refl }
refusal-no_feed under_way = record { all = refl }
refusal-no_feed nothing_under_way = record { all = refl }
refusal-no_feed nothing_to_switch = record { all = refl }
refusal-no_feed nothing_to_reverse = record { all = refl }
refusal-no_feed copying = record { all = refl }
refusal-no_feed not_level = record { all = refl }
refusal-no_feed past_journal = record { all = refl }
refusal-no_feed traffic_switched = record { all = refl }
refusal-no_feed not_all_switched = record { all = refl }
refusal-no_feed rule_owned = record { all = refl }
refusal-no_feed (watcher_refused index) = record { all = refl }
refusal-no_feed no_watcher = record { all = refl }
refusal-no_feed (stale current) = record { all = refl }
refusal-no_feed stream_stopped = record { all = refl }
refusal-no_feed full = record { all = refl }
refusal-no_feed undoing = record { all = refl }
refusal-no_feed too_long = record { all = refl }
refusal-no_feed exists = record { all = refl }

spaced-no_feed : (first others : List ℕ) → NoFeed first → NoFeed others → NoFeed (spaced first others)
spaced-no_feed first others one other =
    no_feed-append (first ++ codes " ") others (no_feed-append first (codes " ") one (record { all = refl })) other

state_text-no_feed : (s : StreamState) → NoFeed (state_text s)
state_text-no_feed running = record { all = refl }
state_text-no_feed stopped = record { all = refl }
state_text-no_feed frozen = record { all = refl }

slot_text-no_feed : (slot : Slot) → NoFeed (slot_text slot)
slot_text-no_feed slot = spaced-no_feed (state_text slot.state) (number_text slot.position) (state_text-no_feed slot.state) (no_feed-number slot.position)

back_text-no_feed : (o : Option Slot) → NoFeed (back_text o)
back_text-no_feed None = record { all = refl }
back_text-no_feed (Some slot) = slot_text-no_feed slot

type_set-no_feed : (types : TypeSet) → NoFeed (type_set_text types)
type_set-no_feed types = by (members types)
  where
    by : (ts : List TabletType) → NoFeed (written ts)
    by [] = record { all = refl }
    by (t ∷ ts) = no_feed-join comma (map type_text (t ∷ ts)) refl (each-mapped NoFeed type_text (t ∷ ts) type_text-no_feed)

way_text-no_feed : (o : Option Way) → NoFeed (way_text o)
way_text-no_feed None = record { all = refl }
way_text-no_feed (Some way) =
    let direction = cond way.back (codes "back") (codes "forward") in
    let types = type_set_text (changed_types way) in
    let undone = cond way.undoing (codes " undoing") [] in
    no_feed-append (spaced direction (spaced types (number_text way.done))) undone
    (spaced-no_feed direction (spaced types (number_text way.done)) (cond-either NoFeed way.back (codes "back") (codes "forward") (record { all = refl }) (record { all = refl }))
    (spaced-no_feed types (number_text way.done) (type_set-no_feed (changed_types way)) (no_feed-number way.done)))
    (cond-either NoFeed way.undoing (codes " undoing") [] (record { all = refl }) no_feed-nil)

table_list-no_feed : (tables : List (List ℕ)) → AllByRecursion NoFeed tables → NoFeed (table_list_text tables)
table_list-no_feed [] all = record { all = refl }
table_list-no_feed (name ∷ names) all = no_feed-join comma (name ∷ names) refl all

pub record CleanRangeOf (range : KeyRange) : Type 0 where
  pub start : NoFeed range.start
  pub end : NoFeed range.end

-- what is shown of a lane
pub record CleanShownLane (lane : ShownLane) : Type 0 where
  pub start : NoFeed lane.range.start
  pub end : NoFeed lane.range.end

-- what is shown of a workflow
pub record CleanShown (s : Shown) : Type 0 where
  pub workflow : NoFeed s.workflow
  pub source : NoFeed s.source
  pub target : NoFeed s.target
  pub tables : AllByRecursion NoFeed s.tables
  pub lanes : AllByRecursion CleanShownLane s.lanes

joined-no_feed : (texts : List (List ℕ)) → AllByRecursion NoFeed texts → NoFeed (join_with_byte 32 texts)
joined-no_feed [] all = no_feed-nil
joined-no_feed (t ∷ []) all = all.0
joined-no_feed (t ∷ u ∷ texts) all = no_feed-append t (32 ∷ join_with_byte 32 (u ∷ texts)) all.0 (no_feed-append (32 ∷ []) (join_with_byte 32 (u ∷ texts)) (record { all = refl }) (joined-no_feed (u ∷ texts) all.1))

range-no_feed : (lane : ShownLane) → CleanShownLane lane → NoFeed (range_text lane.range)
range-no_feed lane is = no_feed-append lane.range.start (dash ∷ lane.range.end) is.start (no_feed-append (dash ∷ []) lane.range.end (record { all = refl }) is.end)

forward-no_feed : (lane : ShownLane) → NoFeed (forward_text lane)
forward-no_feed lane =
    spaced-no_feed (slot_text lane.forward) (copied_text lane.copied) (slot_text-no_feed lane.forward)
    (cond-either NoFeed lane.copied (codes "copied") (codes "copying") (record { all = refl }) (record { all = refl }))

forwards-no_feed : (lanes : List ShownLane) → AllByRecursion CleanShownLane lanes → NoFeed (forwards_text lanes)
forwards-no_feed [] all = no_feed-nil
forwards-no_feed (lane ∷ []) all = forward-no_feed lane
forwards-no_feed (lane ∷ other ∷ lanes) all =
    joined-no_feed (map (λ l. spaced (range_text l.range) (forward_text l)) (lane ∷ other ∷ lanes))
    (map-all CleanShownLane NoFeed (λ l. spaced (range_text l.range) (forward_text l)) (lane ∷ other ∷ lanes) (λ l is. spaced-no_feed (range_text l.range) (forward_text l) (range-no_feed l is) (forward-no_feed l)) all)

back_texts-no_feed : (lane : ShownLane) → CleanShownLane lane → AllByRecursion NoFeed (lane_back_texts lane)
back_texts-no_feed lane is = by lane.back
  where
    by : (o : Option Slot) → AllByRecursion NoFeed (option_map_or (λ slot. spaced (range_text lane.range) (slot_text slot) ∷ []) o [])
    by None = tt
    by (Some slot) = (spaced-no_feed (range_text lane.range) (slot_text slot) (range-no_feed lane is) (slot_text-no_feed slot), tt)

none_or-no_feed : (texts : List (List ℕ)) → AllByRecursion NoFeed texts → NoFeed (none_or texts)
none_or-no_feed [] all = record { all = refl }
none_or-no_feed (t ∷ texts) all = joined-no_feed (t ∷ texts) all

backs-no_feed : (lanes : List ShownLane) → AllByRecursion CleanShownLane lanes → NoFeed (backs_text lanes)
backs-no_feed [] all = record { all = refl }
backs-no_feed (lane ∷ []) all = back_text-no_feed lane.back
backs-no_feed (lane ∷ other ∷ lanes) all =
    none_or-no_feed (flat_map lane_back_texts (lane ∷ other ∷ lanes)) (flat_map-all CleanShownLane NoFeed lane_back_texts (lane ∷ other ∷ lanes) (λ l is. back_texts-no_feed l is) all)

shown_text-no_feed : (s : Shown) → CleanShown s → NoFeed (shown_text s)
shown_text-no_feed s is =
    spaced-no_feed s.workflow _ is.workflow (spaced-no_feed s.source _ is.source (spaced-no_feed s.target _ is.target (spaced-no_feed (table_list_text s.tables) _ (table_list-no_feed s.tables is.tables)
    (spaced-no_feed (codes "switched") _ (record { all = refl }) (spaced-no_feed (type_set_text s.switched) _ (type_set-no_feed s.switched)
    (spaced-no_feed (codes "way") _ (record { all = refl }) (spaced-no_feed (way_text s.way) _ (way_text-no_feed s.way)
    (spaced-no_feed (codes "forward") _ (record { all = refl }) (spaced-no_feed (forwards_text s.lanes) _ (forwards-no_feed s.lanes is.lanes)
    (spaced-no_feed (codes "back") (backs_text s.lanes) (record { all = refl }) (backs-no_feed s.lanes is.lanes)))))))))))

abbrev CleanAnswer : Answer → Type 0
CleanAnswer (row r) = CleanRow r
CleanAnswer (shown s) = CleanShown s
CleanAnswer other = ⊤

answer_text-no_feed : (answer : Answer) → CleanAnswer answer → NoFeed (answer_text answer)
answer_text-no_feed done is = record { all = refl }
answer_text-no_feed (row None) is = record { all = refl }
answer_text-no_feed (row (Some value)) is = no_feed-append (codes "row ") value.items (record { all = refl }) is
answer_text-no_feed (advanced events rows) is =
    spaced-no_feed (codes "events") _ (record { all = refl }) (spaced-no_feed (number_text events) _ (no_feed-number events)
    (spaced-no_feed (codes "rows") (number_text rows) (record { all = refl }) (no_feed-number rows)))
answer_text-no_feed (shown s) is = shown_text-no_feed s is
answer_text-no_feed (refused refusal) is = no_feed-append (codes "refused ") (refusal_text refusal) (record { all = refl }) (refusal-no_feed refusal)

advanced_of-clean : (p : Plain) (name : StreamName) (shard at at_most : ℕ) (o : Option Live) → CleanAnswer (advanced_of p name shard at at_most o)
advanced_of-clean p name shard at at_most None = tt
advanced_of-clean p name shard at at_most (Some w) = by (lane_at w shard)
  where
    by : (o : Option Lane) → CleanAnswer (lane_advanced_of p name at at_most w o)
    by None = tt
    by (Some lane) = tt

ranges-clean : (cuts : Cuts) (start : List ℕ) → NoFeed start → AllByRecursion NoFeed cuts → AllByRecursion CleanRangeOf (ranges_from start cuts)
ranges-clean [] start first all = (record { start = first; end = no_feed-nil }, tt)
ranges-clean (cut ∷ cuts) start first all = (record { start = first; end = all.0 }, ranges-clean cuts cut all.0 all.1)

range_or-clean : (ranges : List KeyRange) (n : ℕ) → AllByRecursion CleanRangeOf ranges → CleanRangeOf (unwrap_or (slice_get ranges n) whole)
range_or-clean [] n all = record { start = no_feed-nil; end = no_feed-nil }
range_or-clean (range ∷ ranges) zero all = all.0
range_or-clean (range ∷ ranges) (suc n) all = range_or-clean ranges n all.1

lanes-clean : (w : Live) → CleanLive w → AllByRecursion CleanShownLane (map (lane_shown w) w.lanes)
lanes-clean w live =
    each-mapped CleanShownLane (lane_shown w) w.lanes
    (λ lane. let is = range_or-clean (ranges_of w.cuts) lane.shard (ranges-clean w.cuts [] no_feed-nil live.cuts) in record { start = is.start; end = is.end })

show_of-clean : (o : Option Live) → OfSome CleanLive o → CleanAnswer (show_of o)
show_of-clean None live = tt
show_of-clean (Some w) live = record { workflow = live.name; source = live.source; target = live.target; tables = live.tables; lanes = lanes-clean w live }

reply_of-clean : (p : Plain) (event : Event) → IsClean p → CleanAnswer (reply_of p event)
reply_of-clean p (read keyspace table key tablet_type) clean = row_of-clean p keyspace table key clean
reply_of-clean p (advance workflow name shard at at_most) clean = advanced_of-clean p name shard at at_most (live_at p workflow)
reply_of-clean p (show workflow) clean = show_of-clean (live_at p workflow) (live_at-clean p workflow clean)
reply_of-clean p other clean = tt

answers-clean : (p : Plain) (event : Event) (answer : Answer) → IsClean p → Answers p event answer → CleanAnswer answer
answers-clean p event done clean a = tt
answers-clean p event (row r) clean a = subst CleanAnswer (sym a.1) (reply_of-clean p event clean)
answers-clean p event (advanced events rows) clean a = tt
answers-clean p event (shown s) clean a = subst CleanAnswer (sym a.1) (reply_of-clean p event clean)
answers-clean p event (refused refusal) clean a = tt

pub answers-no_feed : (p : Plain) (event : Event) (answer : Answer) → IsClean p → Answers p event answer → NoFeed (answer_text answer)
answers-no_feed p event answer clean a = answer_text-no_feed answer (answers-clean p event answer clean a)
