-- What an advance leaves as it was, and where it writes.
use Rattle.std.proofs.Common.{◌≡◌, ℕ, Bool, true, false, cond, eqb, List, [], ◌∷◌, ◌++◌, map, filter, find, Option, None, Some, option_map, unwrap_or, refl, sym, ap, ◌∙◌, append-nil, eqb-true}
use Rattle.std.proofs.lemmas.List.Elements.{filter-append}
use Rattle.std.specs.List.{AllByRecursion, list_any}
use Rattle.std.specs.Map.{lookup}
use Rattle.std.specs.Option.{option_map_or}
use Rattle.std.specs.Prelude.{◌&&◌, ◌||◌, take}
use Rattle.std.proofs.lemmas.Bool.{and_from, and_parts, eq-eqb, false_from_ne_true}
use Rattle.mt_names.specs.Names.{same_text}
use Rattle.mt_names.specs.Same.{same_target}
use Rattle.mt_names.proofs.SameLemmas.{same_text_decides}
use Rattle.mt_model.specs.Topology.{is_present}
use Rattle.mt_plain.specs.Events.{Event, advance, StreamName, Answer, advanced}
use Rattle.mt_plain.specs.Next.{next, with_advance}
use Rattle.mt_plain.specs.Plain.{Lane, lane_at, Live, LogEntry, Plain, Write, has_part, in_keyspace, is_side, live_at, mover, moves, number_of}
use Rattle.mt_plain.specs.Serve.{has_table}
use Rattle.mt_plain.specs.Slots.{applies, entry_of_row, is_entry_at, live_advanced, log_advanced, log_of, logged, past, to_copy, written_shard, written_side}
use Rattle.mt_plain.specs.Writes.{client_number, client_row, is_write_to, row_after_writes, writes_to}
use Rattle.mt_laws.specs.Advances.{IsAfterAdvance, advanced_live, entries_written}
use Rattle.mt_laws.specs.Changes.{HasSides}
use Rattle.mt_laws.proofs.AllWritesLemmas.{any_same, filter_same}
use Rattle.mt_laws.proofs.ChangeLemmas.{lives-advance, sides-advanced}
use Rattle.mt_laws.proofs.EntriesLemmas.{same_entries}
use Rattle.mt_laws.proofs.ListLemmas.{append-all, cond-either, each-mapped}
use Rattle.mt_laws.proofs.LiveLemmas.{find-map, sides_same}
use Rattle.mt_laws.proofs.PlainWords.{refuses_moved}
use Rattle.mt_laws.proofs.UntouchedLemmas.{same_made, same_numbers, same_topology, same_writes, traffic-advanced}
use Rattle.mt_laws.proofs.WayBackLemmas.{has_part-same}

-- ---- lists

pub any-map : {X : Type 0} (test : X → Bool) (f : X → X) (xs : List X) → ((x : X) → test (f x) ≡ test x) → list_any test (map f xs) ≡ list_any test xs
any-map test f [] same = refl
any-map test f (x ∷ xs) same = rw (same x) (ap (λ b. test x || b) (any-map test f xs same))

filter-kept : {X : Type 0} (test : X → Bool) (xs : List X) → AllByRecursion (λ x. test x ≡ true) xs → filter test xs ≡ xs
filter-kept test [] all = refl
filter-kept test (x ∷ xs) all = rw all.0 (ap (λ l. x ∷ l) (filter-kept test xs all.1))

filter-gone : {X : Type 0} (test : X → Bool) (xs : List X) → AllByRecursion (λ x. test x ≡ false) xs → filter test xs ≡ []
filter-gone test [] all = refl
filter-gone test (x ∷ xs) all = rw all.0 (filter-gone test xs all.1)

-- what is written is written at one side
written-all : (P : LogEntry → Type 0) (w : Live) (lane : Lane) (stream : StreamName) (entries : List LogEntry) (rows : List (List ℕ × ℕ)) → ((row : List ℕ × ℕ) → P (entry_of_row (written_side w stream) (written_shard lane stream) row)) → AllByRecursion P (logged w lane stream entries rows)
written-all P w lane stream entries rows each =
    append-all P (map (λ e. entry_of_row (written_side w stream) (written_shard lane stream) (e.table, e.key)) (filter (applies w lane) entries)) (map (entry_of_row (written_side w stream) (written_shard lane stream)) rows)
    (each-mapped P (λ e. entry_of_row (written_side w stream) (written_shard lane stream) (e.table, e.key)) (filter (applies w lane) entries) (λ e. each (e.table, e.key)))
    (each-mapped P (entry_of_row (written_side w stream) (written_shard lane stream)) rows each)

-- ---- what is refused, by sides and traffic

refused-same : (v w : Live) → HasSides v w → v.switched ≡ w.switched → v.way ≡ w.way → (keyspace : List ℕ) (shard : ℕ) → refuses_moved (Some v) keyspace shard ≡ refuses_moved (Some w) keyspace shard
refused-same v w same switched way keyspace shard = rw (same.source, same.target, switched, way) refl

module _ (p : Plain) (workflow : List ℕ) (w : Live) (live : live_at p workflow ≡ Some w) (lane : Lane) (stream : StreamName) (shard at at_most events rows : ℕ) (here : lane_at w shard ≡ Some lane) where
  abbrev event : Event
  event = advance workflow stream shard at at_most

  abbrev answer : Answer
  answer = advanced events rows

  abbrev q : Plain
  q = next p event answer

  abbrev change : Live → Live
  change v = advanced_live p workflow stream shard at at_most events rows v

  lives : q.lives ≡ map change p.lives
  lives = lives-advance p workflow stream shard at at_most events rows (live_at p workflow) refl

  sides : (v : Live) → HasSides v (change v)
  sides v = cond-either (HasSides v) (same_text v.name workflow) (live_advanced p v stream shard at at_most events rows) v (sides-advanced p v stream shard at at_most events rows) (sides_same v)

  switched : (v : Live) → (change v).switched ≡ v.switched
  switched v =
      cond-either (λ u. u.switched ≡ v.switched) (same_text v.name workflow) (live_advanced p v stream shard at at_most events rows) v
      (ap (λ t. t.0) (traffic-advanced p v stream shard at at_most events rows)) refl

  way : (v : Live) → (change v).way ≡ v.way
  way v =
      cond-either (λ u. u.way ≡ v.way) (same_text v.name workflow) (live_advanced p v stream shard at at_most events rows) v
      (ap (λ t. t.1) (traffic-advanced p v stream shard at at_most events rows)) refl

  numbers : q.numbers ≡ p.numbers
  numbers = same_numbers p event answer (λ h. h)

  made : q.made ≡ p.made
  made = same_made p event answer (λ h. h)

  writes : q.writes ≡ p.writes
  writes = same_writes p event answer (λ h. h)

  -- a workflow is found as before
  found : (test : Live → Bool) → ((v : Live) → test (change v) ≡ test v) → find test q.lives ≡ option_map change (find test p.lives)
  found test same = ap (find test) lives ∙ find-map test change p.lives same

  movers : (table : List ℕ) → mover q table ≡ option_map change (mover p table)
  movers table = found (λ v. moves v table) (λ v. ap (list_any (λ t. same_text t table)) (sym (sides v).tables))

  present : (keyspace table : List ℕ) → has_table q keyspace table ≡ has_table p keyspace table
  present keyspace table =
      ap (λ b. cond b true (is_present q.topology.keyspaces keyspace table))
      (ap (list_any test) lives
      ∙ any-map test change p.lives
      (λ v. ap (λ ts. list_any (λ t. same_text t table) ts && same_text (change v).target keyspace) (sym (sides v).tables) ∙ ap (λ k. moves v table && same_text k keyspace) (sym (sides v).target)))
      ∙ ap (λ u. cond (list_any test p.lives) true (is_present u.keyspaces keyspace table)) (same_topology p event answer (λ h. h))
    where
      test : Live → Bool
      test v = moves v table && same_text v.target keyspace

  refused-by : (o : Option Live) (keyspace : List ℕ) (at_shard : ℕ) → refuses_moved (option_map change o) keyspace at_shard ≡ refuses_moved o keyspace at_shard
  refused-by None keyspace at_shard = refl
  refused-by (Some v) keyspace at_shard = sym (refused-same v (change v) (sides v) (sym (switched v)) (sym (way v)) keyspace at_shard)

  -- numbers, writes and rows
  number : (keyspace table : List ℕ) → number_of q keyspace table ≡ number_of p keyspace table
  number keyspace table = ap (λ ns. unwrap_or (lookup (same_target (in_keyspace keyspace table)) ns) q.made) numbers ∙ ap (unwrap_or (lookup (same_target (in_keyspace keyspace table)) p.numbers)) made

  home-same : (v u : Live) → HasSides v u → (keyspace : List ℕ) → cond (is_side u keyspace) u.source keyspace ≡ cond (is_side v keyspace) v.source keyspace
  home-same v u same keyspace = rw (same.source, same.target) refl

  home : (o : Option Live) (keyspace : List ℕ) → option_map_or (λ v. cond (is_side v keyspace) v.source keyspace) (option_map change o) keyspace ≡ option_map_or (λ v. cond (is_side v keyspace) v.source keyspace) o keyspace
  home None keyspace = refl
  home (Some v) keyspace = home-same v (change v) (sides v) keyspace

  clients : (keyspace table : List ℕ) → client_number q keyspace table ≡ client_number p keyspace table
  clients keyspace table =
      ap (λ o. number_of q (option_map_or (λ v. cond (is_side v keyspace) v.source keyspace) o keyspace) table) (movers table)
      ∙ ap (λ k. number_of q k table) (home (mover p table) keyspace) ∙ number _ table

  rows-same : (keyspace table : List ℕ) (key : ℕ) → client_row q keyspace table key ≡ client_row p keyspace table key
  rows-same keyspace table key = ap (λ l. row_after_writes l (client_number q keyspace table) key) writes ∙ ap (λ n. row_after_writes p.writes n key) (clients keyspace table)

  written-same : (v : Live) (x : Write) → is_write_to q (change v) x ≡ is_write_to p v x
  written-same v x =
      ap (λ k. list_any (λ table. eqb (number_of q k table) x.table) (change v).tables) (sym (sides v).source)
      ∙ ap (list_any (λ table. eqb (number_of q v.source table) x.table)) (sym (sides v).tables)
      ∙ any_same (λ table. eqb (number_of q v.source table) x.table) (λ table. eqb (number_of p v.source table) x.table) v.tables (λ table is. ap (λ n. eqb n x.table) (number v.source table))

  all_writes : (v : Live) → writes_to q (change v) ≡ writes_to p v
  all_writes v = ap (filter (is_write_to q (change v))) writes ∙ filter_same (is_write_to q (change v)) (is_write_to p v) p.writes (written-same v)

  -- logs
  abbrev more : List LogEntry
  more = entries_written p w lane stream at events rows

  logs : q.log ≡ p.log ++ more
  logs =
      ap (λ o. (with_advance p stream shard at at_most events rows o).log) live
      ∙ ap (λ o. option_map_or (λ l. log_advanced p w l stream at events rows) o p.log) here

  log_of-more : (keyspace : List ℕ) (at_shard : ℕ) → log_of q keyspace at_shard ≡ log_of p keyspace at_shard ++ filter (is_entry_at keyspace at_shard) more
  log_of-more keyspace at_shard = ap (filter (is_entry_at keyspace at_shard)) logs ∙ filter-append (is_entry_at keyspace at_shard) p.log more

  abbrev of_side : Bool → List ℕ → ℕ → Type 0
  of_side t keyspace at_shard = AllByRecursion (λ e. is_entry_at keyspace at_shard e ≡ t) more

  written_here : of_side true (written_side w stream) (written_shard lane stream)
  written_here =
      written-all (λ e. is_entry_at (written_side w stream) (written_shard lane stream) e ≡ true) w lane stream (take events (past p w lane stream at)) (take rows (to_copy p w lane (past p w lane stream at)))
      (λ row. and_from _ _ ((same_text_decides (written_side w stream) (written_side w stream)).1 refl) (eq-eqb (written_shard lane stream) (written_shard lane stream) refl))

  written_not : (keyspace : List ℕ) (at_shard : ℕ) → (written_side w stream ≡ keyspace → written_shard lane stream ≡ at_shard → ⊥) → of_side false keyspace at_shard
  written_not keyspace at_shard other =
      written-all (λ e. is_entry_at keyspace at_shard e ≡ false) w lane stream (take events (past p w lane stream at)) (take rows (to_copy p w lane (past p w lane stream at)))
      (λ row. false_from_ne_true (is_entry_at keyspace at_shard (entry_of_row (written_side w stream) (written_shard lane stream) row))
      (λ t. let r = and_parts (same_text (written_side w stream) keyspace) (eqb (written_shard lane stream) at_shard) t in
      other ((same_text_decides (written_side w stream) keyspace).0 r.0) (eqb-true (written_shard lane stream) at_shard r.1)))

  pub after_advance : IsAfterAdvance p q workflow w lane stream shard at at_most events rows
  after_advance = record {
    topology = same_topology p event answer (λ h. h);
    numbers = numbers;
    made = made;
    writes = writes;
    live = λ name. found (λ v. same_text v.name name) (λ v. ap (λ n. same_text n name) (sym (sides v).name));
    movers = movers;
    owners = λ key. found (λ v. has_part v key) (λ v. sym (has_part-same v (change v) (sides v) key));
    sides = sides;
    switched = switched;
    way = way;
    present = present;
    refused = λ keyspace at_shard table. ap (λ o. refuses_moved o keyspace at_shard) (movers table) ∙ refused-by (mover p table) keyspace at_shard;
    served = same_entries p event answer tt;
    clients = clients;
    client_rows = rows-same;
    all_writes = all_writes;
    log =
        log_of-more (written_side w stream) (written_shard lane stream)
        ∙ ap (λ l. log_of p (written_side w stream) (written_shard lane stream) ++ l) (filter-kept (is_entry_at (written_side w stream) (written_shard lane stream)) more written_here);
    other_logs = λ keyspace at_shard other.
        log_of-more keyspace at_shard ∙ ap (λ l. log_of p keyspace at_shard ++ l) (filter-gone (is_entry_at keyspace at_shard) more (written_not keyspace at_shard other)) ∙ append-nil (log_of p keyspace at_shard);
  }
