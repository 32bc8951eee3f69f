-- The entries of a workflow's tables past a position of a log are the acknowledged writes that are not fed: a write to one of them there
-- is one more of either, an advance that reads them takes them off both, and no other event changes them.
use Rattle.std.proofs.Common.{◌≡◌, ◌≢◌, ℕ, suc, zero, ◌+◌, ◌≤◌, Bool, true, false, cond, eqb, List, [], ◌∷◌, ◌++◌, drop, take, length, filter, map, Option, None, Some, refl, sym, ap, ◌∙◌, subst, arith, append-nil}
use Rattle.std.proofs.Math.Bool.{and-false}
use Rattle.std.proofs.lemmas.Bool.{true≢false, and_from, and_parts, eq-eqb}
use Rattle.std.specs.Option.{option_map_or}
use Rattle.std.proofs.lemmas.List.{length-append, drop-append-le, drop-map, drop_all, length-drop, length-map, map-append, take-append-drop}
use Rattle.std.proofs.lemmas.List.Elements.{filter-append}
use Rattle.std.proofs.lemmas.List.Sums.{length-filter, sum_by-cons}
use Rattle.std.specs.List.{AllByRecursion, count_by, list_any}
use Rattle.std.specs.Prelude.{◌&&◌}
use Rattle.mt_names.specs.Names.{same_text}
use Rattle.mt_names.specs.Shards.{Cuts, shard_of}
use Rattle.mt_names.proofs.SameLemmas.{same_text_decides}
use Rattle.mt_model.specs.declared.rows.Op.{Op}
use Rattle.mt_model.specs.Rows.{op_key, op_row}
use Rattle.mt_plain.specs.Answers.{Answers}
use Rattle.mt_plain.specs.Events.{Event, write, advance, StreamName, Answer, done, row, advanced, shown, refused}
use Rattle.mt_plain.specs.Next.{next, row_left, with_advance}
use Rattle.mt_plain.specs.Plain.{Lane, Live, LogEntry, Plain, Write, in_lane, is_side, lane_at, live_at, moves, number_of, shard_at}
use Rattle.mt_plain.specs.Slots.{is_entry_at, is_for, log_advanced, log_length, log_of, logged, past, to_copy, written_side}
use Rattle.mt_plain.specs.Writes.{client_number, client_row, is_write_to, lane_writes, writes_to}
use Rattle.mt_laws.specs.Changes.{HasSides}
use Rattle.mt_laws.specs.Pending.{ClientRow, row_of_entry, row_of_write}
use Rattle.mt_laws.specs.WayBack.{IsReached, ends_workflow}
use Rattle.mt_laws.proofs.AllWritesLemmas.{all_by, found, is_to, number_stays, write_there}
use Rattle.mt_laws.proofs.CopyLemmas.{client_number-side}
use Rattle.mt_laws.proofs.ListLemmas.{filter-all, take-all}
use Rattle.mt_laws.proofs.LiveLemmas.{IsIn, sides_same, text_differs}
use Rattle.mt_laws.proofs.PastLemmas.{IsLaneWrittenAt, IsOther, all_at_side, all_filter, all_map, all_of_moved, all_to_copy, count_append, drop_twice, filter_none}
use Rattle.mt_laws.proofs.UntouchedLemmas.{same_logs, same_writes}

-- the entries of its tables with a key in the shard of a lane that a log has past a position
abbrev pub pending_at : Plain → Live → Lane → (keyspace : List ℕ) → (shard at : ℕ) → List LogEntry
pending_at p w lane keyspace shard at = filter (is_for w lane) (drop at (log_of p keyspace shard))

-- they are the acknowledged writes with a key in that shard behind the first ones, one for one
abbrev pub ArePending : Plain → Live → Lane → (fed : ℕ) → (keyspace : List ℕ) → (shard at : ℕ) → Type 0
ArePending p w lane fed keyspace shard at = map (row_of_entry p w) (pending_at p w lane keyspace shard at) ≡ map row_of_write (drop fed (lane_writes p w lane))

-- ---- lists

filter_drop : {X : Type 0} (test : X → Bool) (n : ℕ) (xs : List X) → filter test (drop n xs) ≡ drop (count_by test (take n xs)) (filter test xs)
filter_drop test zero xs = refl
filter_drop {X} test (suc n) [] = ap (filter test) (drop_all {X = X} (suc n) [] (omega arith)) ∙ sym (drop_all {X = X} (count_by test (take (suc n) [])) [] (omega arith))
filter_drop {X} test (suc n) (x ∷ xs) =
    filter_drop test n xs ∙ by (test x) refl
  where
    more : ℕ
    more = count_by test (take n xs)

    by : (b : Bool) → test x ≡ b → drop more (filter test xs) ≡ drop (count_by test (x ∷ take n xs)) (cond (test x) (x ∷ filter test xs) (filter test xs))
    by true b =
        let e : count_by test (x ∷ take n xs) ≡ 1 + more = sum_by-cons (λ y. cond (test y) 1 0) x (take n xs) ∙ ap (λ c. cond c 1 0 + more) b in
        let f : count_by test (x ∷ take n xs) ≡ suc more = omega arith in
        sym (ap (λ k. drop k (cond (test x) (x ∷ filter test xs) (filter test xs))) f ∙ ap (λ c. drop (suc more) (cond c (x ∷ filter test xs) (filter test xs))) b)
    by false b =
        let e : count_by test (x ∷ take n xs) ≡ 0 + more = sum_by-cons (λ y. cond (test y) 1 0) x (take n xs) ∙ ap (λ c. cond c 1 0 + more) b in
        let f : count_by test (x ∷ take n xs) ≡ more = omega arith in
        sym (ap (λ k. drop k (cond (test x) (x ∷ filter test xs) (filter test xs))) f ∙ ap (λ c. drop more (cond c (x ∷ filter test xs) (filter test xs))) b)

pub map_same : {X Y : Type 0} (f g : X → Y) (xs : List X) → AllByRecursion (λ x. f x ≡ g x) xs → map f xs ≡ map g xs
map_same f g [] all = refl
map_same f g (x ∷ xs) all = ap (λ y. y ∷ map f xs) all.0 ∙ ap (λ ys. g x ∷ ys) (map_same f g xs all.1)

-- ---- a workflow of the same sides and tables, and a lane of the same shard

-- by the source, the tables, the shards of the target and the lane's own
abbrev lane_writes_by : Plain → (source : List ℕ) → (tables : List (List ℕ)) → Cuts → (own : ℕ) → List Write
lane_writes_by p source tables cuts own =
    filter (λ x. eqb (shard_of cuts x.key) own) (filter (λ x. list_any (λ table. eqb (number_of p source table) x.table) tables) p.writes)

abbrev PendingBy : Plain → (source : List ℕ) → (tables : List (List ℕ)) → Cuts → (own fed : ℕ) → (keyspace : List ℕ) → (shard at : ℕ) → Type 0
PendingBy p source tables cuts own fed keyspace shard at =
    map (λ (e : LogEntry). let row : ClientRow = record { table = number_of p source e.table; key = e.key } in row)
    (filter (λ e. eqb (shard_of cuts e.key) own && list_any (λ t. same_text t e.table) tables) (drop at (log_of p keyspace shard)))
    ≡ map row_of_write (drop fed (lane_writes_by p source tables cuts own))

pub lane_writes_same : (p : Plain) (w v : Live) (lane other : Lane) → HasSides w v → other.shard ≡ lane.shard → lane_writes p v other ≡ lane_writes p w lane
lane_writes_same p w v lane other same own =
    ap (λ s. lane_writes_by p s v.tables v.cuts other.shard) (sym same.source) ∙ ap (λ ts. lane_writes_by p w.source ts v.cuts other.shard) (sym same.tables)
    ∙ ap (λ c. lane_writes_by p w.source w.tables c other.shard) (sym same.cuts) ∙ ap (lane_writes_by p w.source w.tables w.cuts) own

pub pending_same : (p : Plain) (w v : Live) (lane other : Lane) → HasSides w v → other.shard ≡ lane.shard → (n m : ℕ) → m ≡ n → (keyspace : List ℕ) (shard at : ℕ) → ArePending p w lane n keyspace shard at → ArePending p v other m keyspace shard at
pending_same p w v lane other same own n m is keyspace shard at pending =
    subst (λ s. PendingBy p s v.tables v.cuts other.shard m keyspace shard at) same.source
    (subst (λ ts. PendingBy p w.source ts v.cuts other.shard m keyspace shard at) same.tables
    (subst (λ c. PendingBy p w.source w.tables c other.shard m keyspace shard at) same.cuts
    (subst (λ h. PendingBy p w.source w.tables w.cuts h m keyspace shard at) (sym own)
    (subst (λ k. PendingBy p w.source w.tables w.cuts lane.shard k keyspace shard at) (sym is) pending))))

-- how many they are
pub pending_count : (p : Plain) (w : Live) (lane : Lane) (fed : ℕ) (keyspace : List ℕ) (shard at : ℕ) → fed ≤ length (lane_writes p w lane) → ArePending p w lane fed keyspace shard at → fed + length (pending_at p w lane keyspace shard at) ≡ length (lane_writes p w lane)
pending_count p w lane fed keyspace shard at le pending =
    let a = length-map (pending_at p w lane keyspace shard at) (row_of_entry p w) in
    let b = length-map (drop fed (lane_writes p w lane)) row_of_write in
    let c = ap length pending in
    let d = length-drop fed (lane_writes p w lane) in
    omega arith

-- past the end there is nothing
pub pending_end : (p : Plain) (w : Live) (lane : Lane) (fed : ℕ) (keyspace : List ℕ) (shard : ℕ) → length (lane_writes p w lane) ≤ fed → ArePending p w lane fed keyspace shard (log_length p keyspace shard)
pending_end p w lane fed keyspace shard all =
    let e : log_length p keyspace shard ≡ length (log_of p keyspace shard) = sym (length-filter (is_entry_at keyspace shard) p.log) in
    ap (λ l. map (row_of_entry p w) (filter (is_for w lane) l)) (drop_all (log_length p keyspace shard) (log_of p keyspace shard) (omega arith))
    ∙ ap (map row_of_write) (sym (drop_all fed (lane_writes p w lane) all))

-- ---- an advance of one of the workflow's own streams

-- it reads no more of them than there are
pub read-le : (p : Plain) (w : Live) (lane : Lane) (fed : ℕ) (keyspace : List ℕ) (shard at events : ℕ) → fed ≤ length (lane_writes p w lane) → ArePending p w lane fed keyspace shard at
    → fed + count_by (is_for w lane) (take events (drop at (log_of p keyspace shard))) ≤ length (lane_writes p w lane)
read-le p w lane fed keyspace shard at events le pending =
    let entries = drop at (log_of p keyspace shard) in
    let a = pending_count p w lane fed keyspace shard at le pending in
    let b : length (pending_at p w lane keyspace shard at) ≡ count_by (is_for w lane) entries = length-filter (is_for w lane) entries in
    let c = ap (count_by (is_for w lane)) (take-append-drop events entries) in
    let d = count_append (is_for w lane) (take events entries) (drop events entries) in
    omega arith

-- it writes nothing in the log that it, or another stream of its direction, reads
pub log_read : (p : Plain) (w : Live) (name : StreamName) (shard position at_most events rows : ℕ) (keyspace : List ℕ) (of : ℕ) → written_side w name ≢ keyspace
    → log_of (with_advance p name shard position at_most events rows (Some w)) keyspace of ≡ log_of p keyspace of
log_read p w name shard position at_most events rows keyspace of apart = by (lane_at w shard)
  where
    extra : Lane → List LogEntry
    extra x = logged w x name (take events (past p w x name position)) (take rows (to_copy p w x (past p w x name position)))

    none : (x : Lane) → filter (is_entry_at keyspace of) (extra x) ≡ []
    none x = filter_none (is_entry_at keyspace of) (extra x)
        (all_map (λ e. e.keyspace ≡ written_side w name) (λ e. is_entry_at keyspace of e ≡ false) (extra x) (λ e is. ap (λ t. t && eqb e.shard of) (text_differs e.keyspace keyspace (λ f. apart (sym is ∙ f))))
        (all_at_side w x name (take events (past p w x name position)) (take rows (to_copy p w x (past p w x name position)))))

    by : (o : Option Lane) → filter (is_entry_at keyspace of) (option_map_or (λ x. log_advanced p w x name position events rows) o p.log) ≡ log_of p keyspace of
    by None = refl
    by (Some x) = filter-append (is_entry_at keyspace of) p.log (extra x) ∙ ap (λ l. log_of p keyspace of ++ l) (none x) ∙ append-nil (log_of p keyspace of)

-- so what is pending of a lane in the log that its stream reads is less by what it has read
pub pending_own : (p : Plain) (w : Live) (lane : Lane) (name : StreamName) (own : ℕ) (keyspace : List ℕ) (shard position at_most events rows fed : ℕ) → written_side w name ≢ keyspace
    → ArePending p w lane fed keyspace shard position
    → ArePending (with_advance p name own position at_most events rows (Some w)) w lane (fed + count_by (is_for w lane) (take events (drop position (log_of p keyspace shard)))) keyspace shard (position + events)
pending_own p w lane name own keyspace shard position at_most events rows fed apart pending =
    ap (λ l. map (row_of_entry p w) (filter (is_for w lane) (drop (position + events) l))) (log_read p w name own position at_most events rows keyspace shard apart)
    ∙ ap (λ l. map (row_of_entry p w) (filter (is_for w lane) l)) (sym (drop_twice position events (log_of p keyspace shard)))
    ∙ ap (map (row_of_entry p w)) (filter_drop (is_for w lane) events (drop position (log_of p keyspace shard)))
    ∙ sym (drop-map (row_of_entry p w) read (pending_at p w lane keyspace shard position))
    ∙ ap (drop read) pending
    ∙ drop-map row_of_write read (drop fed (lane_writes p w lane))
    ∙ ap (map row_of_write) (drop_twice fed read (lane_writes p w lane))
  where
    read : ℕ
    read = count_by (is_for w lane) (take events (drop position (log_of p keyspace shard)))

-- and of another lane it is as it was
pub pending_beside : (p : Plain) (w : Live) (lane : Lane) (name : StreamName) (own at at_most events rows : ℕ) (keyspace : List ℕ) (shard position fed : ℕ) → written_side w name ≢ keyspace
    → ArePending p w lane fed keyspace shard position → ArePending (with_advance p name own at at_most events rows (Some w)) w lane fed keyspace shard position
pending_beside p w lane name own at at_most events rows keyspace shard position fed apart pending =
    ap (λ l. map (row_of_entry p w) (filter (is_for w lane) (drop position l))) (log_read p w name own at at_most events rows keyspace shard apart) ∙ pending

-- ---- any other event

module _ (p : Plain) (reached : IsReached p) (w : Live) (in_it : IsIn w p.lives) (lane : Lane) (fed : ℕ) (keyspace : List ℕ) (shard : ℕ) (at : ℕ) (inside : at ≤ log_length p keyspace shard) where
  abbrev here : LogEntry → Bool
  here e = is_entry_at keyspace shard e

  abbrev own_key : Write → Bool
  own_key x = in_lane w lane x.key

  -- some entries more
  pending_more : (extra : List LogEntry) → filter (is_for w lane) (drop at (filter here (p.log ++ extra))) ≡ pending_at p w lane keyspace shard at ++ filter (is_for w lane) (filter here extra)
  pending_more extra =
      ap (λ l. filter (is_for w lane) (drop at l)) (filter-append here p.log extra)
      ∙ ap (filter (is_for w lane)) (let e : length (filter here p.log) ≡ log_length p keyspace shard = length-filter here p.log in drop-append-le at (log_of p keyspace shard) (filter here extra) (omega arith))
      ∙ filter-append (is_for w lane) (drop at (log_of p keyspace shard)) (filter here extra)

  module _ (event : Event) (answer : Answer) (given : Answers p event answer) (lives : ends_workflow w.name event answer ≡ false) where
    abbrev q : Plain
    q = next p event answer

    -- the numbers of its tables stay
    same_rows : map (row_of_entry q w) (pending_at q w lane keyspace shard at) ≡ map (row_of_entry p w) (pending_at q w lane keyspace shard at)
    same_rows =
        map_same (row_of_entry q w) (row_of_entry p w) (pending_at q w lane keyspace shard at)
        (all_filter (λ e. row_of_entry q w e ≡ row_of_entry p w e) (is_for w lane) (drop at (log_of q keyspace shard))
        (λ e is. ap (λ n. let row : ClientRow = record { table = n; key = e.key } in row) (number_stays p reached w in_it event answer given lives e.table (and_parts (in_lane w lane e.key) (moves w e.table) is).1)))

    pub lane_now : lane_writes q w lane ≡ filter own_key (filter (is_write_to p w) q.writes)
    lane_now = ap (filter own_key) (all_by p reached w w in_it event answer given lives (sides_same w))

    -- an event that adds no write, and no entry of its tables there
    stays : q.writes ≡ p.writes → pending_at q w lane keyspace shard at ≡ pending_at p w lane keyspace shard at → ArePending p w lane fed keyspace shard at → ArePending q w lane fed keyspace shard at
    stays writes entries pending =
        same_rows ∙ ap (map (row_of_entry p w)) entries ∙ pending
        ∙ ap (λ ws. map row_of_write (drop fed ws)) (sym (lane_now ∙ ap (λ l. filter own_key (filter (is_write_to p w) l)) writes))

  -- the log is as it was
  same_log : (event : Event) (answer : Answer) (given : Answers p event answer) (lives : ends_workflow w.name event answer ≡ false) → (next p event answer).writes ≡ p.writes → (next p event answer).log ≡ p.log
      → ArePending p w lane fed keyspace shard at → ArePending (next p event answer) w lane fed keyspace shard at
  same_log event answer given lives writes logs = stays event answer given lives writes (ap (λ l. filter (is_for w lane) (drop at (filter here l))) logs)

  -- a write
  module _ (k t : List ℕ) (op : Op) (given : Answers p (write k t op) done) (one : in_lane w lane (op_key op) ≡ true → moves w t ≡ true → is_side w k ≡ true → k ≡ keyspace)
      (side : is_side w keyspace ≡ true) (placed : in_lane w lane (op_key op) ≡ true → shard_at p keyspace (op_key op) ≡ shard) where
    abbrev entry : LogEntry
    entry = record { keyspace = k; shard = shard_at p k (op_key op); table = t; key = op_key op }

    abbrev written : Write
    written = record { table = client_number p k t; key = op_key op; after = row_left (op_row op (client_row p k t (op_key op))) }

    abbrev Same : (entries : List LogEntry) (writes : List Write) → Type 0
    Same entries writes = map (row_of_entry p w) entries ≡ map row_of_write writes

    -- an entry that is there and is for the lane is of a side
    here_side : here entry ≡ true → is_side w k ≡ true
    here_side c = ap (is_side w) ((same_text_decides k keyspace).0 (and_parts (same_text k keyspace) (eqb (shard_at p k (op_key op)) shard) c).0) ∙ side

    -- a write to a table of the workflow, at a side and with a key of the lane, is there
    there : in_lane w lane (op_key op) ≡ true → moves w t ≡ true → is_side w k ≡ true → here entry ≡ true
    there l a b =
        let is = one l a b in
        and_from (same_text k keyspace) (eqb (shard_at p k (op_key op)) shard) ((same_text_decides k keyspace).1 is)
        (eq-eqb (shard_at p k (op_key op)) shard (ap (λ x. shard_at p x (op_key op)) is ∙ placed l))

    by_tests : (l : Bool) → in_lane w lane (op_key op) ≡ l → (a : Bool) → moves w t ≡ a → (b : Bool) → is_side w k ≡ b → (c : Bool) → here entry ≡ c
        → Same (cond c (cond (l && a) (entry ∷ []) []) []) (cond (a && b) (cond l (written ∷ []) []) [])
    by_tests false l true a true b true c = refl
    by_tests false l true a true b false c = refl
    by_tests false l true a false b true c = refl
    by_tests false l true a false b false c = refl
    by_tests false l false a b e true c = refl
    by_tests false l false a b e false c = refl
    by_tests true l false a b e true c = refl
    by_tests true l false a b e false c = refl
    by_tests true l true a true b true c =
        ap (λ n. let row : ClientRow = record { table = n; key = op_key op } in row ∷ []) (sym (client_number-side p w t a 0 (found p reached w in_it t a) k b))
    by_tests true l true a true b false c = absurd (true≢false (sym (there l a b) ∙ c))
    by_tests true l true a false b true c = absurd (true≢false (sym (here_side c) ∙ b))
    by_tests true l true a false b false c = refl

    entries_by : filter (is_for w lane) (filter here (entry ∷ [])) ≡ cond (here entry) (cond (in_lane w lane (op_key op) && moves w t) (entry ∷ []) []) []
    entries_by = by (here entry)
      where
        by : (c : Bool) → filter (is_for w lane) (cond c (entry ∷ []) []) ≡ cond c (cond (in_lane w lane (op_key op) && moves w t) (entry ∷ []) []) []
        by true = refl
        by false = refl

    writes_by : filter own_key (filter (is_write_to p w) (written ∷ [])) ≡ cond (moves w t && is_side w k) (cond (in_lane w lane (op_key op)) (written ∷ []) []) []
    writes_by = ap (λ b. filter own_key (cond b (written ∷ []) [])) (is_to p reached w in_it k t (write_there p k t op given.0)) ∙ by (moves w t && is_side w k)
      where
        by : (c : Bool) → filter own_key (cond c (written ∷ []) []) ≡ cond c (cond (in_lane w lane (op_key op)) (written ∷ []) []) []
        by true = refl
        by false = refl

    one_more : Same (filter (is_for w lane) (filter here (entry ∷ []))) (filter own_key (filter (is_write_to p w) (written ∷ [])))
    one_more =
        ap (map (row_of_entry p w)) entries_by
        ∙ by_tests (in_lane w lane (op_key op)) refl (moves w t) refl (is_side w k) refl (here entry) refl
        ∙ ap (map row_of_write) (sym writes_by)

    lane_more : lane_writes (next p (write k t op) done) w lane ≡ lane_writes p w lane ++ filter own_key (filter (is_write_to p w) (written ∷ []))
    lane_more =
        lane_now (write k t op) done given refl ∙ ap (filter own_key) (filter-append (is_write_to p w) p.writes (written ∷ []))
        ∙ filter-append own_key (writes_to p w) (filter (is_write_to p w) (written ∷ []))

    after_write : fed ≤ length (lane_writes p w lane) → ArePending p w lane fed keyspace shard at → ArePending (next p (write k t op) done) w lane fed keyspace shard at
    after_write le pending =
        same_rows (write k t op) done given refl
        ∙ ap (map (row_of_entry p w)) (pending_more (entry ∷ []))
        ∙ map-append (row_of_entry p w) (pending_at p w lane keyspace shard at) (filter (is_for w lane) (filter here (entry ∷ [])))
        ∙ ap (λ l. l ++ map (row_of_entry p w) (filter (is_for w lane) (filter here (entry ∷ [])))) pending
        ∙ ap (λ l. map row_of_write (drop fed (lane_writes p w lane)) ++ l) one_more
        ∙ sym (map-append row_of_write (drop fed (lane_writes p w lane)) (filter own_key (filter (is_write_to p w) (written ∷ []))))
        ∙ ap (map row_of_write) (sym (drop-append-le fed (lane_writes p w lane) (filter own_key (filter (is_write_to p w) (written ∷ []))) le))
        ∙ ap (λ ws. map row_of_write (drop fed ws)) (sym lane_more)

  -- an advance of another workflow
  none_of : (u : Live) → ((table : List ℕ) → moves u table ≡ true → moves w table ≡ false) → (other : Lane) (name : StreamName) (entries : List LogEntry) (rows : List (List ℕ × ℕ)) → AllByRecursion (λ r. moves u r.0 ≡ true) rows
      → filter (is_for w lane) (filter here (logged u other name entries rows)) ≡ []
  none_of u apart other name entries rows all =
      filter_none (is_for w lane) (filter here (logged u other name entries rows))
      (filter-all (λ e. is_for w lane e ≡ false) here (logged u other name entries rows)
      (all_map (λ e. moves u e.table ≡ true) (λ e. is_for w lane e ≡ false) (logged u other name entries rows)
      (λ e moved. ap (λ b. in_lane w lane e.key && b) (apart e.table moved) ∙ and-false (in_lane w lane e.key)) (all_of_moved u other name entries rows all)))

  after_advance : (u : Live) → ((table : List ℕ) → moves u table ≡ true → moves w table ≡ false) → (name : StreamName) (own position at_most events rows : ℕ)
      → pending_at (with_advance p name own position at_most events rows (Some u)) w lane keyspace shard at ≡ pending_at p w lane keyspace shard at
  after_advance u apart name own position at_most events rows = by (lane_at u own)
    where
      by : (o : Option Lane) → filter (is_for w lane) (drop at (filter here (option_map_or (λ x. log_advanced p u x name position events rows) o p.log))) ≡ pending_at p w lane keyspace shard at
      by None = refl
      by (Some x) =
          let entries = past p u x name position in
          let copied = take rows (to_copy p u x entries) in
          pending_more (logged u x name (take events entries) copied)
          ∙ ap (λ l. pending_at p w lane keyspace shard at ++ l) (none_of u apart x name (take events entries) copied (take-all (λ r. moves u r.0 ≡ true) rows (to_copy p u x entries) (all_to_copy p u x entries)))
          ∙ append-nil (pending_at p w lane keyspace shard at)

  advance_entries : (workflow : List ℕ) (name : StreamName) (own position at_most events rows : ℕ) → IsOther p w (advance workflow name own position at_most)
      → pending_at (with_advance p name own position at_most events rows (live_at p workflow)) w lane keyspace shard at ≡ pending_at p w lane keyspace shard at
  advance_entries workflow name own position at_most events rows other = by (live_at p workflow) refl
    where
      by : (o : Option Live) → live_at p workflow ≡ o → pending_at (with_advance p name own position at_most events rows o) w lane keyspace shard at ≡ pending_at p w lane keyspace shard at
      by None f = refl
      by (Some u) f = after_advance u (other workflow name own position at_most refl u f) name own position at_most events rows

  pub pending_after : (event : Event) (answer : Answer) → Answers p event answer → ends_workflow w.name event answer ≡ false → is_side w keyspace ≡ true → IsLaneWrittenAt p w lane keyspace
      → ((key : ℕ) → in_lane w lane key ≡ true → shard_at p keyspace key ≡ shard) → IsOther p w event
      → fed ≤ length (lane_writes p w lane) → ArePending p w lane fed keyspace shard at → ArePending (next p event answer) w lane fed keyspace shard at
  pending_after (write k t op) done given lives side one placed other le = after_write k t op given (one k t op given) side (placed (op_key op)) le
  pending_after (write k t op) (row r) given lives side one placed other le = let h : row r ≡ done = given.1 in absurd cc
  pending_after (write k t op) (advanced events rows) given lives side one placed other le = same_log (write k t op) (advanced events rows) given lives refl refl
  pending_after (write k t op) (shown s) given lives side one placed other le = same_log (write k t op) (shown s) given lives refl refl
  pending_after (write k t op) (refused refusal) given lives side one placed other le = same_log (write k t op) (refused refusal) given lives refl refl
  pending_after (advance workflow name own position at_most) (advanced events rows) given lives side one placed other le =
      let event = advance workflow name own position at_most in
      stays event (advanced events rows) given lives (same_writes p event (advanced events rows) (λ h. h)) (advance_entries workflow name own position at_most events rows other)
  pending_after (advance workflow name own position at_most) done given lives side one placed other le = same_log (advance workflow name own position at_most) done given lives refl refl
  pending_after (advance workflow name own position at_most) (row r) given lives side one placed other le = same_log (advance workflow name own position at_most) (row r) given lives refl refl
  pending_after (advance workflow name own position at_most) (shown s) given lives side one placed other le = same_log (advance workflow name own position at_most) (shown s) given lives refl refl
  pending_after (advance workflow name own position at_most) (refused refusal) given lives side one placed other le = same_log (advance workflow name own position at_most) (refused refusal) given lives refl refl
  pending_after event answer given lives side one placed other le =
      same_log event answer given lives (same_writes p event answer (λ h. h)) (same_logs p event answer (λ h. h))

  -- how many writes of the lane there are: never fewer, and as many where none with a key of the lane is acknowledged
  lane_push : (k t : List ℕ) (op : Op) (given : Answers p (write k t op) done) → lane_writes (next p (write k t op) done) w lane
      ≡ lane_writes p w lane ++ cond (moves w t && is_side w k) (cond (in_lane w lane (op_key op)) (record { table = client_number p k t; key = op_key op; after = row_left (op_row op (client_row p k t (op_key op))) } ∷ []) []) []
  lane_push k t op given =
      lane_now (write k t op) done given refl ∙ ap (filter own_key) (filter-append (is_write_to p w) p.writes (put ∷ []))
      ∙ filter-append own_key (writes_to p w) (filter (is_write_to p w) (put ∷ []))
      ∙ ap (λ l. lane_writes p w lane ++ l) (ap (λ b. filter own_key (cond b (put ∷ []) [])) (is_to p reached w in_it k t (write_there p k t op given.0)) ∙ by (moves w t && is_side w k))
    where
      put : Write
      put = record { table = client_number p k t; key = op_key op; after = row_left (op_row op (client_row p k t (op_key op))) }

      by : (c : Bool) → filter own_key (cond c (put ∷ []) []) ≡ cond c (cond (in_lane w lane (op_key op)) (put ∷ []) []) []
      by true = refl
      by false = refl

  lane_same : (event : Event) (answer : Answer) (given : Answers p event answer) (lives : ends_workflow w.name event answer ≡ false) → (next p event answer).writes ≡ p.writes → length (lane_writes (next p event answer) w lane) ≡ length (lane_writes p w lane)
  lane_same event answer given lives writes = ap length (lane_now event answer given lives ∙ ap (λ l. filter own_key (filter (is_write_to p w) l)) writes)

  pub lanes_grow : (event : Event) (answer : Answer) → Answers p event answer → ends_workflow w.name event answer ≡ false → length (lane_writes p w lane) ≤ length (lane_writes (next p event answer) w lane)
  lanes_grow (write k t op) done given lives =
      let e = ap length (lane_push k t op given) ∙ length-append (lane_writes p w lane) _ in
      omega arith
  lanes_grow (write k t op) (row r) given lives = let h : row r ≡ done = given.1 in absurd cc
  lanes_grow (write k t op) (advanced events rows) given lives = let e = lane_same (write k t op) (advanced events rows) given lives refl in omega arith
  lanes_grow (write k t op) (shown s) given lives = let e = lane_same (write k t op) (shown s) given lives refl in omega arith
  lanes_grow (write k t op) (refused refusal) given lives = let e = lane_same (write k t op) (refused refusal) given lives refl in omega arith
  lanes_grow event answer given lives = let e = lane_same event answer given lives (same_writes p event answer (λ h. h)) in omega arith

  -- no write to its tables with a key of the lane is acknowledged
  abbrev pub NoWrite : Event → Type 0
  NoWrite event = (k t : List ℕ) (op : Op) → event ≡ write k t op → Answers p (write k t op) done → in_lane w lane (op_key op) ≡ true → moves w t ≡ true → is_side w k ≡ true → ⊥

  none_put : (k t : List ℕ) (op : Op) → NoWrite (write k t op) → Answers p (write k t op) done → (put : Write) → cond (moves w t && is_side w k) (cond (in_lane w lane (op_key op)) (put ∷ []) []) [] ≡ []
  none_put k t op none given put = by (moves w t) refl (is_side w k) refl (in_lane w lane (op_key op)) refl
    where
      by : (a : Bool) → moves w t ≡ a → (b : Bool) → is_side w k ≡ b → (l : Bool) → in_lane w lane (op_key op) ≡ l → cond (a && b) (cond l (put ∷ []) []) [] ≡ []
      by false a b e l f = refl
      by true a false e l f = refl
      by true a true e false f = refl
      by true a true e true f = absurd (none k t op refl given f a e)

  pub lanes_stay : (event : Event) (answer : Answer) → Answers p event answer → ends_workflow w.name event answer ≡ false → NoWrite event → length (lane_writes (next p event answer) w lane) ≡ length (lane_writes p w lane)
  lanes_stay (write k t op) done given lives none =
      ap length (lane_push k t op given ∙ ap (λ l. lane_writes p w lane ++ l) (none_put k t op none given _) ∙ append-nil (lane_writes p w lane))
  lanes_stay (write k t op) (row r) given lives none = let h : row r ≡ done = given.1 in absurd cc
  lanes_stay (write k t op) (advanced events rows) given lives none = lane_same (write k t op) (advanced events rows) given lives refl
  lanes_stay (write k t op) (shown s) given lives none = lane_same (write k t op) (shown s) given lives refl
  lanes_stay (write k t op) (refused refusal) given lives none = lane_same (write k t op) (refused refusal) given lives refl
  lanes_stay event answer given lives none = lane_same event answer given lives (same_writes p event answer (λ h. h))
