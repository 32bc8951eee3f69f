-- States of which no text has a line feed: each event whose texts have none leaves such a state.
use Rattle.std.proofs.Common.{ℕ, ◌+◌, take, unwrap_or, subst, Bool, true, false, not, cond, eqb, List, [], ◌∷◌, ◌++◌, Option, None, Some, Ok, Err, refl, length}
use Rattle.std.specs.List.{AllByRecursion, fold}
use Rattle.std.specs.Map.{lookup, remove_entry, set_value}
use Rattle.std.specs.Option.{option_map_or}
use Rattle.std.specs.Prelude.{⊤, ◌&&◌, map, nat_lt}
use Rattle.mt_names.specs.declared.keys.RuleKey.{RuleKey}
use Rattle.mt_names.specs.declared.keys.RuleTarget.{RuleTarget}
use Rattle.mt_names.specs.declared.types.TabletType.{TabletType}
use Rattle.mt_names.specs.declared.types.TabletType.TheVariants.{Primary, Replica, Rdonly}
use Rattle.mt_names.specs.declared.types.TypeSet.{TypeSet}
use Rattle.mt_names.specs.Names.{same_text}
use Rattle.mt_names.specs.Same.{same_key}
use Rattle.mt_names.specs.Types.{has}
use Rattle.mt_model.specs.declared.faults.PrimaryFault.TheVariants.{TooLong}
use Rattle.mt_model.specs.declared.entries.EntryKey.TheVariants as about
use Rattle.mt_model.specs.declared.entries.Scope.{Scope}
use Rattle.mt_model.specs.declared.rows.Op.{Op}
use Rattle.mt_model.specs.declared.rows.Op.TheVariants.{Insert, Update, Append, Delete}
use Rattle.mt_model.specs.Limits.{longest_value}
use Rattle.mt_model.specs.Part.{keys_of_name}
use Rattle.mt_model.specs.Rows.{Row, RowValue, op_key, op_row}
use Rattle.mt_model.specs.Order.{key_before}
use Rattle.mt_model.proofs.OrderLemmas.{each-put_by}
use Rattle.mt_model.specs.Topology.{put_rule, KeyspaceState, Keyspaces, Marks, Rules, TopologyState, keyspace_at, new_keyspace, rule_at, with_keyspace_state, with_mark_place, with_new_table, with_rule, with_rule_place}
use Rattle.mt_plain.specs.Events.{Event, write, read, add_keyspace, add_table, edit_rule, create, advance, begin_switch, begin_reverse, step, undo, cancel, complete, show, StreamName, Answer, done, row, advanced, shown, refused}
use Rattle.mt_plain.specs.Next.{after_advance, all_fed, completed, created, live_stepped, live_undone, next, next_taken, on_way_of, row_left, with_advance, with_completed, with_live, with_tables, with_way_to, without_live, without_tables, types_and, types_without}
use Rattle.mt_plain.specs.Plain.{Lane, Live, Plain, Write, cuts_of, each_once, in_lane, lane_of, in_keyspace, is_side, live_at, mover, number_of, opening, owner, rule_keys, twelve_keys}
use Rattle.mt_plain.specs.Serve.{denials_over, mark_in, rule_in, rule_step, rules_over, serve_plain, serve_rule, types_by, served, served_by, with_part_at, with_workflow}
use Rattle.mt_plain.specs.Slots.{live_advanced, log_length}
use Rattle.mt_plain.specs.Writes.{client_number, client_row, in_range, is_write_to, lane_row, lane_writes, other_row, row_by_mover, writes_to, row_after_write, row_after_writes, row_of}
use Rattle.mt_laws.specs.Changes.{HasSides}
use Rattle.mt_laws.proofs.ListLemmas.{OfSome, append-all, cond-either, each-mapped, each_once-all, filter-all, find-of, flat_map-all, fold-holds, lookup-of, map-all, option_map_or-of, remove_entry-all, set_value-all, take-all}
use Rattle.mt_laws.proofs.TextLemmas.{NoFeed, no_feed-append}
use Rattle.mt_laws.proofs.ChangeLemmas.{sides-advanced, sides-live_stepped, sides-on_way, sides-undone}

-- ---- parts of a state

pub record CleanKey (key : RuleKey) : Type 0 where
  pub keyspace : OfSome NoFeed key.keyspace
  pub table : NoFeed key.table

pub record CleanTarget (target : RuleTarget) : Type 0 where
  pub keyspace : NoFeed target.keyspace
  pub table : NoFeed target.table

pub record CleanRule (rule : RuleKey × Option RuleTarget) : Type 0 where
  pub key : CleanKey rule.0
  pub target : OfSome CleanTarget rule.1

abbrev pub CleanMark : List ℕ × Bool → Type 0
CleanMark mark = NoFeed mark.0

pub record CleanState (state : KeyspaceState) : Type 0 where
  pub tables : AllByRecursion CleanMark state.tables
  pub denied : AllByRecursion CleanMark state.denied
  pub cuts : AllByRecursion NoFeed state.cuts

pub record CleanKeyspace (k : List ℕ × KeyspaceState) : Type 0 where
  pub name : NoFeed k.0
  pub state : CleanState k.1

pub record CleanTopology (t : TopologyState) : Type 0 where
  pub rules : AllByRecursion CleanRule t.rules
  pub keyspaces : AllByRecursion CleanKeyspace t.keyspaces

pub record CleanLive (w : Live) : Type 0 where
  pub name : NoFeed w.name
  pub source : NoFeed w.source
  pub target : NoFeed w.target
  pub tables : AllByRecursion NoFeed w.tables
  pub cuts : AllByRecursion NoFeed w.cuts

abbrev pub CleanValue : RowValue → Type 0
CleanValue value = NoFeed value.items

abbrev pub CleanRow : Row → Type 0
CleanRow r = OfSome CleanValue r

abbrev pub CleanWrite : Write → Type 0
CleanWrite w = CleanRow w.after

pub record IsClean (p : Plain) : Type 0 where
  pub topology : CleanTopology p.topology
  pub lives : AllByRecursion CleanLive p.lives
  pub writes : AllByRecursion CleanWrite p.writes

pub opening-clean : (scopes : List Scope) → IsClean (opening scopes)
opening-clean scopes = record { topology = record { rules = tt; keyspaces = tt }; lives = tt; writes = tt }

-- ---- events

abbrev pub CleanOp : Op → Type 0
CleanOp (Insert key value) = NoFeed value.items
CleanOp (Update key value) = NoFeed value.items
CleanOp (Append key value) = NoFeed value.items
CleanOp (Delete key) = ⊤

abbrev pub CleanEvent : Event → Type 0
CleanEvent (write keyspace table op) = CleanOp op
CleanEvent (add_keyspace keyspace cuts) = NoFeed keyspace × AllByRecursion NoFeed cuts
CleanEvent (add_table keyspace table) = NoFeed table
CleanEvent (edit_rule key target) = CleanKey key × OfSome CleanTarget target
CleanEvent (create workflow source target tables) = NoFeed workflow × NoFeed source × NoFeed target × AllByRecursion NoFeed tables
CleanEvent other = ⊤

-- ---- rows

op_row-clean : (op : Op) (r : Row) → CleanOp op → CleanRow r → CleanRow (row_left (op_row op r))
op_row-clean (Insert key value) None brought had = brought
op_row-clean (Insert key value) (Some old) brought had = tt
op_row-clean (Update key value) None brought had = tt
op_row-clean (Update key value) (Some old) brought had = brought
op_row-clean (Append key value) None brought had = tt
op_row-clean (Append key value) (Some old) brought had =
    cond-either (λ r. CleanRow (row_left r)) (nat_lt longest_value (length old.items + length value.items)) (Err TooLong) (Ok (Some (record { items = old.items ++ value.items }))) tt
    (no_feed-append old.items value.items had brought)
op_row-clean (Delete key) None brought had = tt
op_row-clean (Delete key) (Some old) brought had = tt

row_after_writes-clean : (writes : List Write) (number key : ℕ) → AllByRecursion CleanWrite writes → CleanRow (row_after_writes writes number key)
row_after_writes-clean writes number key all =
    fold-holds CleanWrite CleanRow (row_after_write number key) None writes
    (λ before w had is. cond-either CleanRow ((eqb w.table number) && (eqb w.key key)) w.after before is had) tt all

lane_row-clean : (p : Plain) (w : Live) (o : Option Lane) (table : List ℕ) (key : ℕ) → IsClean p → CleanRow (option_map_or (λ lane. lane_row p w lane table key) o None)
lane_row-clean p w None table key clean = tt
lane_row-clean p w (Some lane) table key clean =
    cond-either CleanRow (in_range w.tables lane.copied table key) (row_after_writes (take lane.fed (lane_writes p w lane)) (number_of p w.source table) key) None
    (row_after_writes-clean (take lane.fed (lane_writes p w lane)) (number_of p w.source table) key
    (take-all CleanWrite lane.fed (lane_writes p w lane) (filter-all CleanWrite (λ x. in_lane w lane x.key) (writes_to p w) (filter-all CleanWrite (is_write_to p w) p.writes clean.writes)))) tt

other_row-clean : (p : Plain) (w : Live) (table : List ℕ) (key : ℕ) → IsClean p → CleanRow (other_row p w table key)
other_row-clean p w table key clean = lane_row-clean p w (lane_of w key) table key clean

pub row_of-clean : (p : Plain) (keyspace table : List ℕ) (key : ℕ) → IsClean p → CleanRow (row_of p keyspace table key)
row_of-clean p keyspace table key clean = by (mover p table)
  where
    own : CleanRow (client_row p keyspace table key)
    own = row_after_writes-clean p.writes (client_number p keyspace table) key clean.writes

    by : (o : Option Live) → CleanRow (row_by_mover p o keyspace table key)
    by None = own
    by (Some w) =
        cond-either CleanRow (is_side w keyspace && not (same_text (owner w) keyspace)) (other_row p w table key) (client_row p keyspace table key)
        (other_row-clean p w table key clean) own

-- ---- topologies

with_keyspace_state-clean : (change : KeyspaceState → KeyspaceState) (keyspaces : Keyspaces) (name : List ℕ) → ((s : KeyspaceState) → CleanState s → CleanState (change s)) → AllByRecursion CleanKeyspace keyspaces → AllByRecursion CleanKeyspace (with_keyspace_state change keyspaces name)
with_keyspace_state-clean change keyspaces name each all =
    option_map_or-of CleanState (AllByRecursion CleanKeyspace) (λ state. set_value (same_text name) keyspaces (change state)) (keyspace_at keyspaces name) keyspaces
    (λ state is. set_value-all CleanKeyspace (same_text name) keyspaces (change state) (λ e was. record { name = was.name; state = each state is }) all)
    all (lookup-of CleanKeyspace (same_text name) CleanState keyspaces (λ e is. is.state) all)

with_mark_place-clean : (marks : Marks) (name : List ℕ) → NoFeed name → AllByRecursion CleanMark marks → AllByRecursion CleanMark (with_mark_place marks name)
with_mark_place-clean marks name none all = by (lookup (same_text name) marks)
  where
    by : (o : Option Bool) → AllByRecursion CleanMark (option_map_or (λ mark. marks) o (marks ++ (name, false) ∷ []))
    by None = append-all CleanMark marks ((name, false) ∷ []) all (none, tt)
    by (Some mark) = all

with_new_table-clean : (table : List ℕ) (s : KeyspaceState) → NoFeed table → CleanState s → CleanState (with_new_table table s)
with_new_table-clean table s none clean = record {
  tables = set_value-all CleanMark (same_text table) (with_mark_place s.tables table) true (λ e is. is) (with_mark_place-clean s.tables table none clean.tables);
  denied = clean.denied;
  cuts = clean.cuts;
}

rule_at-clean : (rules : Rules) (key : RuleKey) → AllByRecursion CleanRule rules → OfSome CleanTarget (rule_at rules key)
rule_at-clean rules key all = by (lookup (same_key key) rules) (lookup-of CleanRule (same_key key) (OfSome CleanTarget) rules (λ e is. is.target) all)
  where
    by : (o : Option (Option RuleTarget)) → OfSome (OfSome CleanTarget) o → OfSome CleanTarget (unwrap_or o None)
    by None is = tt
    by (Some target) is = is

with_rule-clean : (rules : Rules) (key : RuleKey) (target : Option RuleTarget) → CleanKey key → OfSome CleanTarget target → AllByRecursion CleanRule rules → AllByRecursion CleanRule (with_rule rules key target)
with_rule-clean rules key None is to all = remove_entry-all CleanRule (same_key key) rules all
with_rule-clean rules key (Some target) is to all =
    set_value-all CleanRule (same_key key) (with_rule_place rules key) (Some target) (λ e was. record { key = was.key; target = to }) (by (lookup (same_key key) rules))
  where
    by : (o : Option (Option RuleTarget)) → AllByRecursion CleanRule (option_map_or (λ rule. rules) o (put_rule rules (key, None)))
    by None = each-put_by key_before CleanRule rules (key, None) (record { key = is; target = tt }) all
    by (Some rule) = all

-- without the places of some keys, or of some tables
without_rules-clean : (rules : Rules) (keys : List RuleKey) → AllByRecursion CleanRule rules → AllByRecursion CleanRule (fold (λ rules key. remove_entry (same_key key) rules) rules keys)
without_rules-clean rules [] all = all
without_rules-clean rules (key ∷ keys) all = without_rules-clean (remove_entry (same_key key) rules) keys (remove_entry-all CleanRule (same_key key) rules all)

without_marks-clean : (marks : Marks) (tables : List (List ℕ)) → AllByRecursion CleanMark marks → AllByRecursion CleanMark (fold (λ marks table. remove_entry (same_text table) marks) marks tables)
without_marks-clean marks [] all = all
without_marks-clean marks (table ∷ tables) all = without_marks-clean (remove_entry (same_text table) marks) tables (remove_entry-all CleanMark (same_text table) marks all)

with_tables-clean : (tables : List (List ℕ)) (s : KeyspaceState) → AllByRecursion NoFeed tables → CleanState s → CleanState (with_tables tables s)
with_tables-clean tables s none clean =
    fold-holds NoFeed CleanState (λ s table. with_new_table table s) s tables (λ s table is none. with_new_table-clean table s none is) clean none

completed-clean : (u : TopologyState) (w : Live) → CleanTopology u → CleanLive w → CleanTopology (completed u w)
completed-clean u w clean live = record {
  rules = without_rules-clean u.rules (rule_keys w) clean.rules;
  keyspaces = with_keyspace_state-clean (with_tables w.tables) (with_keyspace_state (without_tables w.tables) u.keyspaces w.source) w.target (λ s is. with_tables-clean w.tables s live.tables is)
      (with_keyspace_state-clean (without_tables w.tables) u.keyspaces w.source (λ s is. record { tables = without_marks-clean s.tables w.tables is.tables; denied = is.denied; cuts = is.cuts }) clean.keyspaces);
}

-- ---- what is served

keys_of_name-clean : (keyspace : Option (List ℕ)) (table : List ℕ) → OfSome NoFeed keyspace → NoFeed table → AllByRecursion CleanKey (keys_of_name keyspace table)
keys_of_name-clean keyspace table first second =
    each-mapped CleanKey (λ type. record { keyspace = keyspace; table = table; tablet_type = type }) (None ∷ Some Primary ∷ Some Replica ∷ Some Rdonly ∷ []) (λ type. record { keyspace = first; table = second })

twelve_keys-clean : (source target table : List ℕ) → NoFeed source → NoFeed target → NoFeed table → AllByRecursion CleanKey (twelve_keys source target table)
twelve_keys-clean source target table at_source at_target none =
    append-all CleanKey (keys_of_name None table ++ keys_of_name (Some source) table) (keys_of_name (Some target) table)
    (append-all CleanKey (keys_of_name None table) (keys_of_name (Some source) table) (keys_of_name-clean None table tt none) (keys_of_name-clean (Some source) table at_source none))
    (keys_of_name-clean (Some target) table at_target none)

rule_keys-clean : (w : Live) → CleanLive w → AllByRecursion CleanKey (rule_keys w)
rule_keys-clean w live =
    flat_map-all NoFeed CleanKey (twelve_keys w.source w.target) w.tables (λ table none. twelve_keys-clean w.source w.target table live.source live.target none) live.tables

side-clean : (w : Live) (test : Bool) (table : List ℕ) → CleanLive w → NoFeed table → CleanTarget (in_keyspace (cond test w.target w.source) table)
side-clean w test table live none = record { keyspace = cond-either NoFeed test w.target w.source live.target live.source; table = none }

serve_plain-clean : (u : TopologyState) (w : Live) (types : TypeSet) (key : RuleKey) (o : Option (List ℕ)) → CleanTopology u → CleanLive w → CleanKey key → OfSome CleanTarget (serve_plain u w types key o)
serve_plain-clean u w types key None clean live is = side-clean w types.primary key.table live is.table
serve_plain-clean u w types key (Some keyspace) clean live is =
    let lead_back : CleanTarget (in_keyspace w.source key.table) = record { keyspace = live.source; table = is.table } in
    let lead_on : CleanTarget (in_keyspace w.target key.table) = record { keyspace = live.target; table = is.table } in
    cond-either (OfSome CleanTarget) (same_text w.source keyspace)
    (cond types.primary (Some (in_keyspace w.target key.table)) (rule_at u.rules key)) (cond types.primary None (Some (in_keyspace w.source key.table)))
    (cond-either (OfSome CleanTarget) types.primary (Some (in_keyspace w.target key.table)) (rule_at u.rules key) lead_on (rule_at-clean u.rules key clean.rules))
    (cond-either (OfSome CleanTarget) types.primary None (Some (in_keyspace w.source key.table)) tt lead_back)

serve_rule-clean : (u : TopologyState) (w : Live) (types : TypeSet) (key : RuleKey) (o : Option TabletType) → CleanTopology u → CleanLive w → CleanKey key → OfSome CleanTarget (serve_rule u w types key o)
serve_rule-clean u w types key None clean live is = serve_plain-clean u w types key key.keyspace clean live is
serve_rule-clean u w types key (Some Primary) clean live is = tt
serve_rule-clean u w types key (Some Replica) clean live is = side-clean w (has types Replica) key.table live is.table
serve_rule-clean u w types key (Some Rdonly) clean live is = side-clean w (has types Rdonly) key.table live is.table

rules_over-clean : (u : TopologyState) (w : Live) → CleanTopology u → CleanLive w → AllByRecursion CleanRule (rules_over u w)
rules_over-clean u w clean live =
    append-all CleanRule (map (λ key. (key, rule_in (served_by u w (about.Rule key)))) (rule_keys w)) (fold (λ rules key. remove_entry (same_key key) rules) u.rules (rule_keys w))
    (map-all CleanKey CleanRule (λ key. (key, rule_in (served_by u w (about.Rule key)))) (rule_keys w)
    (λ key is. record { key = is; target = serve_rule-clean u w (types_by w (rule_step key.tablet_type)) key key.tablet_type clean live is }) (rule_keys-clean w live))
    (without_rules-clean u.rules (rule_keys w) clean.rules)

with_part_at-clean : (u : TopologyState) (w : Live) (keyspace : List ℕ) (moved : Marks) (s : KeyspaceState) → CleanLive w → AllByRecursion CleanMark moved → CleanState s → CleanState (with_part_at u w keyspace moved s)
with_part_at-clean u w keyspace moved s live all is = record {
  tables = append-all CleanMark moved s.tables all is.tables;
  denied = append-all CleanMark (denials_over u w keyspace) s.denied (map-all NoFeed CleanMark (λ table. (table, mark_in (served_by u w (about.Denied keyspace table)))) w.tables (λ table none. none) live.tables) is.denied;
  cuts = is.cuts;
}

with_workflow-clean : (u : TopologyState) (w : Live) → CleanTopology u → CleanLive w → CleanTopology (with_workflow u w)
with_workflow-clean u w clean live = record {
  rules = rules_over-clean u w clean live;
  keyspaces =
      let moved = map (λ table. (table, true)) w.tables in
      with_keyspace_state-clean (with_part_at u w w.target moved) (with_keyspace_state (with_part_at u w w.source []) u.keyspaces w.source) w.target
      (λ s is. with_part_at-clean u w w.target moved s live (map-all NoFeed CleanMark (λ table. (table, true)) w.tables (λ table none. none) live.tables) is)
      (with_keyspace_state-clean (with_part_at u w w.source []) u.keyspaces w.source (λ s is. with_part_at-clean u w w.source [] s live tt is) clean.keyspaces);
}

pub served-clean : (p : Plain) → IsClean p → CleanTopology (served p)
served-clean p clean = fold-holds CleanLive CleanTopology with_workflow p.topology p.lives (λ u w is live. with_workflow-clean u w is live) clean.topology clean.lives

-- ---- live workflows

-- the names and the tables of a workflow stay
keeps-clean : (w v : Live) → HasSides w v → CleanLive w → CleanLive v
keeps-clean w v keeps live = record {
  name = subst NoFeed keeps.name live.name;
  source = subst NoFeed keeps.source live.source;
  target = subst NoFeed keeps.target live.target;
  tables = subst (AllByRecursion NoFeed) keeps.tables live.tables;
  cuts = subst (AllByRecursion NoFeed) keeps.cuts live.cuts;
}

with_live-clean : (change : Live → Live) (name : List ℕ) (lives : List Live) → ((w : Live) → HasSides w (change w)) → AllByRecursion CleanLive lives → AllByRecursion CleanLive (with_live change name lives)
with_live-clean change name lives keeps all =
    map-all CleanLive CleanLive (λ w. cond (same_text w.name name) (change w) w) lives
    (λ w live. cond-either CleanLive (same_text w.name name) (change w) w (keeps-clean w (change w) (keeps w) live) live) all

pub live_at-clean : (p : Plain) (name : List ℕ) → IsClean p → OfSome CleanLive (live_at p name)
live_at-clean p name clean = find-of CleanLive (λ w. same_text w.name name) p.lives clean.lives

cuts_of-clean : (p : Plain) (keyspace : List ℕ) → IsClean p → AllByRecursion NoFeed (cuts_of p keyspace)
cuts_of-clean p keyspace clean =
    option_map_or-of CleanState (AllByRecursion NoFeed) (λ state. state.cuts) (keyspace_at p.topology.keyspaces keyspace) [] (λ state is. is.cuts) tt
    (lookup-of CleanKeyspace (same_text keyspace) CleanState p.topology.keyspaces (λ e is. is.state) clean.topology.keyspaces)

-- ---- the next state

with_completed-clean : (p : Plain) (o : Option Live) → IsClean p → OfSome CleanLive o → IsClean (with_completed p o)
with_completed-clean p None clean live = clean
with_completed-clean p (Some w) clean live = record {
  topology = completed-clean p.topology w clean.topology live;
  lives = filter-all CleanLive (λ v. not (same_text v.name w.name)) p.lives clean.lives;
  writes = clean.writes;
}

with_advance-clean : (p : Plain) (name : StreamName) (shard position at_most events rows : ℕ) (o : Option Live) → IsClean p → IsClean (with_advance p name shard position at_most events rows o)
with_advance-clean p name shard position at_most events rows None clean = clean
with_advance-clean p name shard position at_most events rows (Some w) clean = record {
  topology = clean.topology;
  lives = with_live-clean (λ v. live_advanced p v name shard position at_most events rows) w.name p.lives (λ v. sides-advanced p v name shard position at_most events rows) clean.lives;
  writes = clean.writes;
}

after_advance-clean : (p : Plain) (event : Event) (events rows : ℕ) → IsClean p → IsClean (after_advance p event events rows)
after_advance-clean p (advance workflow name shard at at_most) events rows clean = with_advance-clean p name shard at at_most events rows (live_at p workflow) clean
after_advance-clean p other events rows clean = clean

with_lives-clean : (p : Plain) (lives : List Live) → IsClean p → AllByRecursion CleanLive lives → IsClean (record p { lives = lives })
with_lives-clean p lives clean all = record { topology = clean.topology; lives = all; writes = clean.writes }

next_taken-clean : (p : Plain) (event : Event) → IsClean p → CleanEvent event → IsClean (next_taken p event)
next_taken-clean p (write keyspace table op) clean is = record {
  topology = clean.topology;
  lives = clean.lives;
  writes =
      let after = row_left (op_row op (client_row p keyspace table (op_key op))) in
      append-all CleanWrite p.writes ((record { table = client_number p keyspace table; key = op_key op; after = after }) ∷ []) clean.writes
      (op_row-clean op (client_row p keyspace table (op_key op)) is (row_after_writes-clean p.writes (client_number p keyspace table) (op_key op) clean.writes), tt);
}
next_taken-clean p (read keyspace table key tablet_type) clean is = clean
next_taken-clean p (add_keyspace keyspace cuts) clean is = record {
  topology = record {
    rules = clean.topology.rules;
    keyspaces = append-all CleanKeyspace p.topology.keyspaces ((keyspace, new_keyspace cuts) ∷ []) clean.topology.keyspaces (record { name = is.0; state = record { tables = tt; denied = tt; cuts = is.1 } }, tt);
  };
  lives = clean.lives;
  writes = clean.writes;
}
next_taken-clean p (add_table keyspace table) clean is = record {
  topology = record {
    rules = clean.topology.rules;
    keyspaces = with_keyspace_state-clean (with_new_table table) p.topology.keyspaces keyspace (λ s state. with_new_table-clean table s is state) clean.topology.keyspaces;
  };
  lives = clean.lives;
  writes = clean.writes;
}
next_taken-clean p (edit_rule key target) clean is = record {
  topology = record { rules = with_rule-clean p.topology.rules key target is.0 is.1 clean.topology.rules; keyspaces = clean.topology.keyspaces };
  lives = clean.lives;
  writes = clean.writes;
}
next_taken-clean p (create workflow source target tables) clean is =
    let w = all_fed p (created workflow source target (each_once tables) (cuts_of p target) (log_length p source 0)) in
    let live : CleanLive w = record { name = is.0; source = is.1; target = is.2; tables = each_once-all NoFeed tables is.3; cuts = cuts_of-clean p target clean } in
    with_lives-clean p (p.lives ++ w ∷ []) clean (append-all CleanLive p.lives (w ∷ []) clean.lives (live, tt))
next_taken-clean p (advance workflow name shard at at_most) clean is = clean
next_taken-clean p (begin_switch workflow types) clean is = record {
  topology = clean.topology;
  lives = with_live-clean (with_way_to false (λ switched. types_and switched types)) workflow p.lives (λ w. record { name = refl; source = refl; target = refl; tables = refl; cuts = refl }) clean.lives;
  writes = clean.writes;
}
next_taken-clean p (begin_reverse workflow types) clean is = record {
  topology = clean.topology;
  lives = with_live-clean (with_way_to true (λ switched. types_without switched types)) workflow p.lives (λ w. record { name = refl; source = refl; target = refl; tables = refl; cuts = refl }) clean.lives;
  writes = clean.writes;
}
next_taken-clean p (step workflow at) clean is = record {
  topology = clean.topology;
  lives = with_live-clean (λ w. on_way_of (live_stepped p w) w) workflow p.lives (λ w. sides-on_way w (live_stepped p w) (sides-live_stepped p w) w.way) clean.lives;
  writes = clean.writes;
}
next_taken-clean p (undo workflow at) clean is =
    with_lives-clean p (with_live (λ w. on_way_of (live_undone w) w) workflow p.lives) clean (with_live-clean (λ w. on_way_of (live_undone w) w) workflow p.lives (λ w. sides-on_way w (live_undone w) (sides-undone w) w.way) clean.lives)
next_taken-clean p (cancel workflow) clean is =
    with_lives-clean p (without_live workflow p.lives) clean (filter-all CleanLive (λ w. not (same_text w.name workflow)) p.lives clean.lives)
next_taken-clean p (complete workflow) clean is = with_completed-clean p (live_at p workflow) clean (live_at-clean p workflow clean)
next_taken-clean p (show workflow) clean is = clean

pub next-clean : (p : Plain) (event : Event) (answer : Answer) → IsClean p → CleanEvent event → IsClean (next p event answer)
next-clean p event (refused refusal) clean is = clean
next-clean p event done clean is = next_taken-clean p event clean is
next-clean p event (row r) clean is = next_taken-clean p event clean is
next-clean p event (advanced events rows) clean is = after_advance-clean p event events rows clean
next-clean p event (shown s) clean is = clean
