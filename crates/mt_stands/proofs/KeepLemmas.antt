-- Events that change no row and no log: those by hand, and those that change the way of a workflow.
use Rattle.std.proofs.Common.{◌≡◌, ◌≢◌, ℕ, ◌⊎◌, Bool, true, false, not, cond, eqb, List, [], ◌∷◌, ◌++◌, drop, take, filter, length, map, Option, None, Some, refl, sym, ap, ◌∙◌, subst, arith, inl, inr, ⊎_elim, append-nil}
use Rattle.std.proofs.lemmas.List.{drop_all}
use Rattle.std.specs.List.{find, list_any, range_with_len}
use Rattle.std.proofs.lemmas.Bool.{and_parts, true≢false}
use Rattle.std.specs.Map.{lookup}
use Rattle.std.specs.Option.{option_map, option_map_or}
use Rattle.std.specs.Prelude.{◌&&◌, ◌||◌, is_some, unwrap_or}
use Rattle.mt_names.specs.Names.{same_text}
use Rattle.mt_names.specs.Same.{same_target}
use Rattle.mt_model.specs.declared.rows.RowChange.{RowChange}
use Rattle.mt_model.specs.Topology.{KeyspaceState, Keyspaces, is_marked, is_present, keyspace_at, new_keyspace, with_keyspace}
use Rattle.mt_model.specs.Rows.{Row}
use Rattle.mt_names.specs.declared.types.TypeSet.{TypeSet}
use Rattle.mt_primary.specs.Primary.{row_at}
use Rattle.mt_names.proofs.EntryLemmas.{some_from}
use Rattle.mt_plain.specs.Events.{Way}
use Rattle.mt_plain.specs.Next.{live_undone, on_way_of, with_live, with_way_to}
use Rattle.mt_names.specs.Shards.{Cuts, shard_count, shard_of}
use Rattle.mt_names.proofs.SameLemmas.{same_text_decides}
use Rattle.mt_plain.specs.Plain.{Copied, Lane, Live, Plain, Write, has_keyspace, in_keyspace, is_side, lane_at, lane_of, live_at, mover, moves, number_of, owner, shard_at}
use Rattle.mt_plain.specs.Slots.{is_entry_at}
use Rattle.mt_laws.proofs.LiveLemmas.{IsIn}
use Rattle.mt_plain.specs.Serve.{has_table}
use Rattle.mt_plain.specs.Writes.{client_number, client_row, in_range, is_write_to, lane_row, lane_writes, other_row, row_after_writes, row_by_mover, row_of, writes_to}
use Rattle.mt_laws.specs.Changes.{HasSides, fed_and_copied}
use Rattle.mt_laws.specs.Numbers.{Numbers}
use Rattle.mt_stands.specs.Rows.{KeepsEndOf, IsPending, Primaries, RowsStand, is_moved, owner_shard, rows_before, write_of}
use Rattle.mt_stands.proofs.BeforeLemmas.{rows_before-length}
use Rattle.mt_stands.proofs.UnreadLemmas.{StreamsGoOn, unread_next}
use Rattle.mt_stands.proofs.KnownLemmas.{Known, client_at_side, numbered, owner_is_side, row_at_other, row_at_owner, row_elsewhere, row_free, same_or, some_is}
use Rattle.mt_laws.proofs.AdvanceLemmas.{any-map}

-- the other side is level with the owner: all was fed, and it has the owner's rows
pub record IsLevel (p : Plain) (w : Live) : Type 0 where
  pub fed : (n : ℕ) (lane : Lane) → lane_at w n ≡ Some lane → lane.fed ≡ length (lane_writes p w lane)
  pub rows : (table : List ℕ) → moves w table ≡ true → (key : ℕ) → other_row p w table key ≡ client_row p (owner w) table key

-- a workflow as it was, but for its way and its streams; what was fed to its lanes and copied there is as it was; the owner is the one that it was, or the other side is level
pub record IsAsBefore (p : Plain) (w v : Live) : Type 0 where
  pub sides : HasSides w v
  pub lanes : (n : ℕ) → option_map fed_and_copied (lane_at v n) ≡ option_map fed_and_copied (lane_at w n)
  pub owners : (v.switched.primary ≡ w.switched.primary) ⊎ IsLevel p w

abbrev pub Before : Plain → List ℕ → Live → Type 0
Before p name v = (w : Live) × ((live_at p name ≡ Some w) × IsAsBefore p w v)

-- a next state with the same numbers, writes and logs, and the same workflows but for their ways
pub record IsAlike (p q : Plain) : Type 0 where
  pub numbers : q.numbers ≡ p.numbers
  pub made : q.made ≡ p.made
  pub writes : q.writes ≡ p.writes
  pub log : q.log ≡ p.log
  pub tables : (keyspace table : List ℕ) → has_table q keyspace table ≡ true → has_table p keyspace table ≡ true
  pub lives : (name : List ℕ) (v : Live) → live_at q name ≡ Some v → Before p name v
  pub stay : (name : List ℕ) (w : Live) → live_at p name ≡ Some w → (v : Live) × (live_at q name ≡ Some v)
  pub shards : (keyspace table : List ℕ) → has_table p keyspace table ≡ true → (key : ℕ) → shard_at q keyspace key ≡ shard_at p keyspace key

-- ---- lanes

-- lanes with the same numbers, and as much fed and copied, are found alike
pub lanes_alike : (ls ms : List Lane) → map (λ (l : Lane). l.shard) ls ≡ map (λ (l : Lane). l.shard) ms → map fed_and_copied ls ≡ map fed_and_copied ms → (n : ℕ)
    → option_map fed_and_copied (find (λ l. eqb l.shard n) ls) ≡ option_map fed_and_copied (find (λ l. eqb l.shard n) ms)
lanes_alike [] [] s c n = refl
lanes_alike [] (m ∷ ms) s c n = absurd cc
lanes_alike (l ∷ ls) [] s c n = absurd cc
lanes_alike (l ∷ ls) (m ∷ ms) s c n =
    ap (λ (x : ℕ). option_map fed_and_copied (cond (eqb x n) (Some l) (find (λ l. eqb l.shard n) ls))) (heads s) ∙ by (eqb m.shard n) (lanes_alike ls ms (tails s) (tails c) n)
  where
    heads : {X : Type 0} {x y : X} {xs ys : List X} → x ∷ xs ≡ y ∷ ys → x ≡ y
    heads e = cc

    tails : {X : Type 0} {x y : X} {xs ys : List X} → x ∷ xs ≡ y ∷ ys → xs ≡ ys
    tails e = cc

    by : (b : Bool) → option_map fed_and_copied (find (λ l. eqb l.shard n) ls) ≡ option_map fed_and_copied (find (λ l. eqb l.shard n) ms)
        → option_map fed_and_copied (cond b (Some l) (find (λ l. eqb l.shard n) ls)) ≡ option_map fed_and_copied (cond b (Some m) (find (λ l. eqb l.shard n) ms))
    by true again = ap Some (heads c)
    by false again = again

-- the row of a lane by its number, and by what was fed and copied
abbrev row_by : (tables : List (List ℕ)) → List Write → (number : ℕ) → Cuts → (n : ℕ) → (table : List ℕ) → (key : ℕ) → ℕ × Copied → Row
row_by tables writes number cuts n table key fc =
    cond (in_range tables fc.1 table key) (row_after_writes (take fc.0 (filter (λ (write : Write). eqb (shard_of cuts write.key) n) writes)) number key) None

other_is : (p : Plain) (w : Live) (table : List ℕ) (key : ℕ) → other_row p w table key
    ≡ option_map_or (row_by w.tables (writes_to p w) (number_of p w.source table) w.cuts (shard_of w.cuts key) table key) (option_map fed_and_copied (lane_of w key)) None
other_is p w table key = by (lane_of w key) refl
  where
    by : (o : Option Lane) → lane_of w key ≡ o → option_map_or (λ l. lane_row p w l table key) o None
        ≡ option_map_or (row_by w.tables (writes_to p w) (number_of p w.source table) w.cuts (shard_of w.cuts key) table key) (option_map fed_and_copied o) None
    by None e = refl
    by (Some l) e = ap (λ n. row_by w.tables (writes_to p w) (number_of p w.source table) w.cuts n table key (l.fed, l.copied)) (numbered w (shard_of w.cuts key) l e)

pub owner_by_primary : (w v : Live) → HasSides w v → v.switched.primary ≡ w.switched.primary → owner v ≡ owner w
owner_by_primary w v same e =
    ap (λ b. cond b v.target v.source) e ∙ ap (λ x. cond w.switched.primary x v.source) (sym same.target) ∙ ap (λ x. cond w.switched.primary w.target x) (sym same.source)

module _ (p q : Plain) (known : Known p) (known_q : Known q) (alike : IsAlike p q) where
  number_stays : (keyspace table : List ℕ) → number_of q keyspace table ≡ number_of p keyspace table
  number_stays keyspace table =
      ap (λ ns. unwrap_or (lookup (same_target (in_keyspace keyspace table)) ns) q.made) alike.numbers
      ∙ ap (unwrap_or (lookup (same_target (in_keyspace keyspace table)) p.numbers)) alike.made

  moved_before : (w v : Live) → HasSides w v → (table : List ℕ) → moves v table ≡ moves w table
  moved_before w v same table = ap (λ ts. list_any (λ n. same_text n table) ts) (sym same.tables)

  side_before : (w v : Live) → HasSides w v → (keyspace : List ℕ) → is_side v keyspace ≡ is_side w keyspace
  side_before w v same keyspace = ap (λ s. same_text s keyspace || same_text v.target keyspace) (sym same.source) ∙ ap (λ s. same_text w.source keyspace || same_text s keyspace) (sym same.target)

  -- the mover of a table is the one that it was
  moved_by : (table : List ℕ) (v : Live) → mover q table ≡ Some v → (w : Live) × ((mover p table ≡ Some w) × ((live_at p w.name ≡ Some w) × IsAsBefore p w v))
  moved_by table v found =
      let live = known_q.moving table v found in
      let before = alike.lives v.name v live.1 in
      let m = known.found v.name before.0 before.1.0 table (sym (moved_before before.0 v before.1.1.sides table) ∙ live.0) in
      (before.0, (m, ((known.moving table before.0 m).1, before.1.1)))

  not_moved : (table : List ℕ) → mover q table ≡ None → mover p table ≡ None
  not_moved table none = by (mover p table) refl
    where
      by : (o : Option Live) → mover p table ≡ o → o ≡ None
      by None e = refl
      by (Some w) e =
          let live = known.moving table w e in
          let v = alike.stay w.name w live.1 in
          let before = alike.lives w.name v.0 v.1 in
          let same : before.0 ≡ w = some_is before.0 w (sym before.1.0 ∙ live.1) in
          let moved : moves v.0 table ≡ true = moved_before before.0 v.0 before.1.1.sides table ∙ ap (λ u. moves u table) same ∙ live.0 in
          absurd (let h : None ≡ Some v.0 = sym none ∙ known_q.found w.name v.0 v.1 table moved in cc)

  numbers_same : (keyspace table : List ℕ) → client_number p keyspace table ≡ client_number q keyspace table → (key : ℕ) → client_row q keyspace table key ≡ client_row p keyspace table key
  numbers_same keyspace table same key = ap (λ ws. row_after_writes ws (client_number q keyspace table) key) alike.writes ∙ ap (λ n. row_after_writes p.writes n key) (sym same)

  all_same : (w v : Live) → HasSides w v → writes_to q v ≡ writes_to p w
  all_same w v same =
      ap (filter (is_write_to q v)) alike.writes
      ∙ by v.source v.tables (sym same.source) (sym same.tables) q.numbers alike.numbers q.made alike.made
    where
      by : (source : List ℕ) (tables : List (List ℕ)) → source ≡ w.source → tables ≡ w.tables → (numbers : Numbers) → numbers ≡ p.numbers → (made : ℕ) → made ≡ p.made
          → filter (λ (x : Write). list_any (λ table. eqb (unwrap_or (lookup (same_target (in_keyspace source table)) numbers) made) x.table) tables) p.writes ≡ writes_to p w
      by source tables s t numbers n made m = rw (s, t, n, m) refl

  other_same : (w v : Live) → IsAsBefore p w v → (table : List ℕ) (key : ℕ) → other_row q v table key ≡ other_row p w table key
  other_same w v same table key =
      other_is q v table key
      ∙ ap (λ ts. option_map_or (row_by ts (writes_to q v) (number_of q v.source table) v.cuts (shard_of v.cuts key) table key) (option_map fed_and_copied (lane_of v key)) None) (sym same.sides.tables)
      ∙ ap (λ ws. option_map_or (row_by w.tables ws (number_of q v.source table) v.cuts (shard_of v.cuts key) table key) (option_map fed_and_copied (lane_of v key)) None) (all_same w v same.sides)
      ∙ ap (λ n. option_map_or (row_by w.tables (writes_to p w) n v.cuts (shard_of v.cuts key) table key) (option_map fed_and_copied (lane_of v key)) None) (number_stays v.source table ∙ ap (λ s. number_of p s table) (sym same.sides.source))
      ∙ ap (λ c. option_map_or (row_by w.tables (writes_to p w) (number_of p w.source table) c (shard_of c key) table key) (option_map fed_and_copied (lane_at v (shard_of c key))) None) (sym same.sides.cuts)
      ∙ ap (λ o. option_map_or (row_by w.tables (writes_to p w) (number_of p w.source table) w.cuts (shard_of w.cuts key) table key) o None) (same.lanes (shard_of w.cuts key))
      ∙ sym (other_is p w table key)

  module _ (keyspace table : List ℕ) (key : ℕ) where
    at_moved : (w v : Live) → mover p table ≡ Some w → mover q table ≡ Some v → IsAsBefore p w v → row_of q keyspace table key ≡ row_of p keyspace table key
    at_moved w v was found same = by (is_side w keyspace) refl
      where
        side_now : (b : Bool) → is_side w keyspace ≡ b → is_side v keyspace ≡ b
        side_now b e = side_before w v same.sides keyspace ∙ e

        client_side : is_side w keyspace ≡ true → client_row q keyspace table key ≡ client_row p keyspace table key
        client_side side = numbers_same keyspace table
            (client_at_side p w table was keyspace side
            ∙ sym (client_at_side q v table found keyspace (side_now true side) ∙ number_stays v.source table ∙ ap (λ s. number_of p s table) (sym same.sides.source))) key

        client_none : is_side w keyspace ≡ false → client_row q keyspace table key ≡ client_row p keyspace table key
        client_none none = numbers_same keyspace table
            (ap (λ o. number_of p (option_map_or (λ (u : Live). cond (is_side u keyspace) u.source keyspace) o keyspace) table) was ∙ ap (λ b. number_of p (cond b w.source keyspace) table) none
            ∙ sym (ap (λ o. number_of q (option_map_or (λ (u : Live). cond (is_side u keyspace) u.source keyspace) o keyspace) table) found ∙ ap (λ b. number_of q (cond b v.source keyspace) table) (side_now false none)
            ∙ number_stays keyspace table)) key

        -- at a level side all rows are the clients'
        level_row : IsLevel p w → is_side w keyspace ≡ true → (b : Bool) → cond b (other_row p w table key) (client_row p keyspace table key) ≡ client_row p keyspace table key
        level_row level side false = refl
        level_row level side true =
            level.rows table (known.moving table w was).0 key
            ∙ ap (λ n. row_after_writes p.writes n key) (client_at_side p w table was (owner w) (owner_is_side w) ∙ sym (client_at_side p w table was keyspace side))

        same_side : is_side w keyspace ≡ true → (v.switched.primary ≡ w.switched.primary) ⊎ IsLevel p w → row_of q keyspace table key ≡ row_of p keyspace table key
        same_side side (inl primary) = ⊎_elim
            (λ (at : keyspace ≡ owner w). row_at_owner q keyspace table v found key (at ∙ sym (owner_by_primary w v same.sides primary)) ∙ client_side side ∙ sym (row_at_owner p keyspace table w was key at))
            (λ (other : keyspace ≢ owner w).
            row_at_other q keyspace table v found key (side_now true side) (λ e. other (e ∙ owner_by_primary w v same.sides primary)) ∙ other_same w v same table key ∙ sym (row_at_other p keyspace table w was key side other))
            (same_or keyspace (owner w))
        same_side side (inr level) =
            ap (λ o. row_by_mover q o keyspace table key) found
            ∙ ap (λ b. cond (b && not (same_text (owner v) keyspace)) (other_row q v table key) (client_row q keyspace table key)) (side_now true side)
            ∙ ap (λ r. cond (not (same_text (owner v) keyspace)) r (client_row q keyspace table key)) (other_same w v same table key)
            ∙ ap (λ r. cond (not (same_text (owner v) keyspace)) (other_row p w table key) r) (client_side side)
            ∙ level_row level side (not (same_text (owner v) keyspace))
            ∙ sym (level_row level side (not (same_text (owner w) keyspace)))
            ∙ sym (ap (λ b. cond (b && not (same_text (owner w) keyspace)) (other_row p w table key) (client_row p keyspace table key)) side)
            ∙ sym (ap (λ o. row_by_mover p o keyspace table key) was)

        by : (b : Bool) → is_side w keyspace ≡ b → row_of q keyspace table key ≡ row_of p keyspace table key
        by true side = same_side side same.owners
        by false none = row_elsewhere q keyspace table v found key (side_now false none) ∙ client_none none ∙ sym (row_elsewhere p keyspace table w was key none)

    row_stays : row_of q keyspace table key ≡ row_of p keyspace table key
    row_stays = by (mover q table) refl
      where
        by : (o : Option Live) → mover q table ≡ o → row_of q keyspace table key ≡ row_of p keyspace table key
        by None none =
            row_free q keyspace table none key
            ∙ numbers_same keyspace table
            (ap (λ o. number_of p (option_map_or (λ (u : Live). cond (is_side u keyspace) u.source keyspace) o keyspace) table) (not_moved table none)
            ∙ sym (ap (λ o. number_of q (option_map_or (λ (u : Live). cond (is_side u keyspace) u.source keyspace) o keyspace) table) none ∙ number_stays keyspace table)) key
            ∙ sym (row_free p keyspace table (not_moved table none) key)
        by (Some v) found = let r = moved_by table v found in at_moved r.0 v r.1.0 found r.1.1.1

  -- what was not fed

  is_moved_same : (w v : Live) → HasSides w v → (l k : Lane) → k.shard ≡ l.shard → (log : List RowChange) → filter (is_moved v k) log ≡ filter (is_moved w l) log
  is_moved_same w v same l k number log =
      ap (λ n. filter (λ (c : RowChange). eqb (shard_of v.cuts c.key) n && moves v c.table) log) number
      ∙ ap (λ cuts. filter (λ (c : RowChange). eqb (shard_of cuts c.key) l.shard && moves v c.table) log) (sym same.cuts)
      ∙ ap (λ ts. filter (λ (c : RowChange). eqb (shard_of w.cuts c.key) l.shard && list_any (λ n. same_text n c.table) ts) log) (sym same.tables)

  lane_writes_same : (w v : Live) → HasSides w v → (l k : Lane) → k.shard ≡ l.shard → lane_writes q v k ≡ lane_writes p w l
  lane_writes_same w v same l k number =
      ap (λ n. filter (λ (write : Write). eqb (shard_of v.cuts write.key) n) (writes_to q v)) number
      ∙ ap (λ cuts. filter (λ (write : Write). eqb (shard_of cuts write.key) l.shard) (writes_to q v)) (sym same.cuts)
      ∙ ap (filter (λ (write : Write). eqb (shard_of w.cuts write.key) l.shard)) (all_same w v same)

  write_same : (w v : Live) → HasSides w v → (cs : List RowChange) → map (write_of q v) cs ≡ map (write_of p w) cs
  write_same w v same cs = by v.source (sym same.source) q.numbers alike.numbers q.made alike.made
    where
      by : (source : List ℕ) → source ≡ w.source → (numbers : Numbers) → numbers ≡ p.numbers → (made : ℕ) → made ≡ p.made
          → map (λ (c : RowChange). let x : Write = record { table = unwrap_or (lookup (same_target (in_keyspace source c.table)) numbers) made; key = c.key; after = c.after } in x) cs ≡ map (write_of p w) cs
      by source s numbers n made m = rw (s, n, m) refl

  pending_same : (at : Primaries) → RowsStand p at → (name : List ℕ) (v : Live) → live_at q name ≡ Some v → (n : ℕ) (k : Lane) → lane_at v n ≡ Some k → IsPending q v k (at (owner v) (owner_shard v k)).log.entries
  pending_same at stands name v live n k laned = found (lane_at w n) refl
    where
      w : Live
      w = (alike.lives name v live).0

      same : IsAsBefore p w v
      same = (alike.lives name v live).1.1

      of : (l : Lane) → lane_at w n ≡ Some l → IsPending q v k (at (owner v) (owner_shard v k)).log.entries
      of l was_laned = by same.owners
        where
          number : k.shard ≡ l.shard
          number = numbered v n k laned ∙ sym (numbered w n l was_laned)

          fed : k.fed ≡ l.fed
          fed = let e : Some (fed_and_copied k) ≡ Some (fed_and_copied l) = sym (ap (option_map fed_and_copied) laned) ∙ same.lanes n ∙ ap (option_map fed_and_copied) was_laned in
              ap (λ (x : ℕ × Copied). x.0) (some_is (fed_and_copied k) (fed_and_copied l) e)

          left_same : drop l.fed (lane_writes p w l) ≡ drop k.fed (lane_writes q v k)
          left_same = ap (λ m. drop m (lane_writes p w l)) (sym fed) ∙ ap (drop k.fed) (sym (lane_writes_same w v same.sides l k number))

          rows_same : drop l.fed (rows_before [] (lane_writes p w l)) ≡ drop k.fed (rows_before [] (lane_writes q v k))
          rows_same = ap (λ m. drop m (rows_before [] (lane_writes p w l))) (sym fed) ∙ ap (λ ws. drop k.fed (rows_before [] ws)) (sym (lane_writes_same w v same.sides l k number))

          by : (v.switched.primary ≡ w.switched.primary) ⊎ IsLevel p w → IsPending q v k (at (owner v) (owner_shard v k)).log.entries
          by (inl primary) = subst (λ x. IsPending q v k (at x (owner_shard v k)).log.entries) (sym (owner_by_primary w v same.sides primary))
              (subst (λ m. IsPending q v k (at (owner w) m).log.entries) (sym (ap (λ b. cond b k.shard 0) primary ∙ ap (λ m. cond w.switched.primary m 0) number))
              (let was = stands.pending name w (alike.lives name v live).1.0 n l was_laned in
              record {
                before = was.before;
                left = was.left;
                entries = is_moved_same w v same.sides l k number (at (owner w) (owner_shard w l)).log.entries ∙ was.entries;
                writes = write_same w v same.sides was.left ∙ was.writes ∙ left_same;
                rows = was.rows ∙ rows_same;
              }))
          -- the owner is another one: each lane's own log there, or the one log of the source, has nothing that is still to be fed
          by (inr level) = record {
            before = filter (is_moved v k) (at (owner v) (owner_shard v k)).log.entries;
            left = [];
            entries = sym (append-nil (filter (is_moved v k) (at (owner v) (owner_shard v k)).log.entries));
            writes = sym (drop_all l.fed (lane_writes p w l) (let e = level.fed n l was_laned in omega (arith, e))) ∙ left_same;
            rows = sym (drop_all l.fed (rows_before [] (lane_writes p w l)) (let e = level.fed n l was_laned in let r = rows_before-length [] (lane_writes p w l) in omega (arith, e, r))) ∙ rows_same;
          }

      found : (o : Option Lane) → lane_at w n ≡ o → IsPending q v k (at (owner v) (owner_shard v k)).log.entries
      found None e = absurd (let h : Some (fed_and_copied k) ≡ None = sym (ap (option_map fed_and_copied) laned) ∙ same.lanes n ∙ ap (option_map fed_and_copied) e in cc)
      found (Some l) e = of l e

  pub rows_stay : (at : Primaries) → RowsStand p at → StreamsGoOn p q → RowsStand q at
  rows_stay at stands goes = record {
    log = λ keyspace n. subst (λ es. KeepsEndOf es keyspace n (at keyspace n).log) (ap (filter (is_entry_at keyspace n)) (sym alike.log)) (stands.log keyspace n);
    rows = λ keyspace table has key.
        ap (λ n. row_at (at keyspace n) table key) (alike.shards keyspace table (alike.tables keyspace table has) key)
        ∙ stands.rows keyspace table (alike.tables keyspace table has) key ∙ sym (row_stays keyspace table key);
    apart = λ keyspace table has key n other.
        stands.apart keyspace table (alike.tables keyspace table has) key n (λ e. other (alike.shards keyspace table (alike.tables keyspace table has) key ∙ e));
    pending = pending_same at stands;
    unread = unread_next p q at at stands (λ k n. refl) goes;
  }

-- ---- a next state by what stays of its workflows

module _ (p q : Plain) (numbers : q.numbers ≡ p.numbers) (made : q.made ≡ p.made) (writes : q.writes ≡ p.writes) (log : q.log ≡ p.log)
    (tables : (keyspace table : List ℕ) → has_table q keyspace table ≡ true → has_table p keyspace table ≡ true)
    (shards : (keyspace table : List ℕ) → has_table p keyspace table ≡ true → (key : ℕ) → shard_at q keyspace key ≡ shard_at p keyspace key)
    (live : (name : List ℕ) → is_some (live_at q name) ≡ is_some (live_at p name))
    (sides : (name : List ℕ) (w v : Live) → live_at p name ≡ Some w → live_at q name ≡ Some v → HasSides w v)
    (laned_p : (name : List ℕ) (w : Live) → live_at p name ≡ Some w → map (λ (l : Lane). l.shard) w.lanes ≡ range_with_len 0 (shard_count w.cuts))
    (laned_q : (name : List ℕ) (w : Live) → live_at q name ≡ Some w → map (λ (l : Lane). l.shard) w.lanes ≡ range_with_len 0 (shard_count w.cuts))
    (counts : (name : List ℕ) (w v : Live) → live_at p name ≡ Some w → live_at q name ≡ Some v → map fed_and_copied v.lanes ≡ map fed_and_copied w.lanes) where
  pub alike_by : ((name : List ℕ) (w v : Live) → live_at p name ≡ Some w → live_at q name ≡ Some v → (v.switched.primary ≡ w.switched.primary) ⊎ IsLevel p w) → IsAlike p q
  alike_by owners = record {
    numbers = numbers;
    made = made;
    writes = writes;
    log = log;
    tables = tables;
    lives = λ name v is.
        let w = some_from (live_at p name) (sym (live name) ∙ ap is_some is) in
        let same = sides name w.0 v w.1 is in (
          w.0,
          (
            w.1,
            record {
              sides = same;
              lanes = lanes_alike v.lanes w.0.lanes (laned_q name v is ∙ ap (λ cuts. range_with_len 0 (shard_count cuts)) (sym same.cuts) ∙ sym (laned_p name w.0 w.1)) (counts name w.0 v w.1 is);
              owners = owners name w.0 v w.1 is;
            },
          ),
        );
    stay = λ name w is. some_from (live_at q name) (live name ∙ ap is_some is);
    shards = shards;
  }

  -- where nothing is switched the owners are the same
  pub alike_at_rest : ((name : List ℕ) (w v : Live) → live_at p name ≡ Some w → live_at q name ≡ Some v → v.switched ≡ w.switched) → IsAlike p q
  alike_at_rest switched = alike_by (λ name w v was is. inl (ap (λ (t : TypeSet). t.primary) (switched name w v was is)))

-- ---- the tables that are there

-- a workflow changes and keeps its sides and tables
pub any_changed : (lives : List Live) (name : List ℕ) (f : Live → Live) → ((w : Live) → HasSides w (f w)) → (keyspace table : List ℕ)
    → list_any (λ w. moves w table && same_text w.target keyspace) (with_live f name lives) ≡ list_any (λ w. moves w table && same_text w.target keyspace) lives
any_changed lives name f same keyspace table =
    any-map (λ (w : Live). moves w table && same_text w.target keyspace) (λ (w : Live). cond (same_text w.name name) (f w) w) lives
    (λ w. by w (same_text w.name name))
  where
    by : (w : Live) (b : Bool) → (moves (cond b (f w) w) table && same_text (cond b (f w) w).target keyspace) ≡ (moves w table && same_text w.target keyspace)
    by w true =
        ap (λ ts. list_any (λ n. same_text n table) ts && same_text (f w).target keyspace) (sym (same w).tables)
        ∙ ap (λ s. moves w table && same_text s keyspace) (sym (same w).target)
    by w false = refl

pub there_changed : (p : Plain) (name : List ℕ) (f : Live → Live) → ((w : Live) → HasSides w (f w)) → (keyspace table : List ℕ)
    → cond (list_any (λ w. moves w table && same_text w.target keyspace) (with_live f name p.lives)) true (is_present p.topology.keyspaces keyspace table) ≡ true → has_table p keyspace table ≡ true
there_changed p name f same keyspace table h = ap (λ b. cond b true (is_present p.topology.keyspaces keyspace table)) (sym (any_changed p.lives name f same keyspace table)) ∙ h

pub begun_sides : (backward : Bool) (change : TypeSet → TypeSet) (w : Live) → HasSides w (with_way_to backward change w)
begun_sides backward change w = record { name = refl; source = refl; target = refl; tables = refl; cuts = refl }

pub undone_sides : (w : Live) → HasSides w (on_way_of (live_undone w) w)
undone_sides w = by w.way
  where
    by : (o : Option Way) → HasSides w (option_map_or (live_undone w) o w)
    by None = record { name = refl; source = refl; target = refl; tables = refl; cuts = refl }
    by (Some way) = record { name = refl; source = refl; target = refl; tables = refl; cuts = refl }

-- a new keyspace has no tables
present_pushed : (ks : Keyspaces) (name : List ℕ) (cuts : Cuts) (keyspace table : List ℕ) → is_present (ks ++ (name, new_keyspace cuts) ∷ []) keyspace table ≡ is_present ks keyspace table
present_pushed [] name cuts keyspace table = by (same_text keyspace name)
  where
    by : (b : Bool) → option_map_or (λ (s : KeyspaceState). is_marked s.tables table) (cond b (Some (new_keyspace cuts)) None) false ≡ false
    by true = refl
    by false = refl
present_pushed (k ∷ ks) name cuts keyspace table = by (same_text keyspace k.0) (present_pushed ks name cuts keyspace table)
  where
    by : (b : Bool) → is_present (ks ++ (name, new_keyspace cuts) ∷ []) keyspace table ≡ is_present ks keyspace table
        → option_map_or (λ (s : KeyspaceState). is_marked s.tables table) (cond b (Some k.1) (keyspace_at (ks ++ (name, new_keyspace cuts) ∷ []) keyspace)) false
        ≡ option_map_or (λ (s : KeyspaceState). is_marked s.tables table) (cond b (Some k.1) (keyspace_at ks keyspace)) false
    by true again = refl
    by false again = again

pub there_pushed : (p : Plain) (name : List ℕ) (cuts : Cuts) (keyspace table : List ℕ) → cond (list_any (λ w. moves w table && same_text w.target keyspace) p.lives) true (is_present (with_keyspace p.topology name cuts).keyspaces keyspace table) ≡ true → has_table p keyspace table ≡ true
there_pushed p name cuts keyspace table h =
    ap (λ b. cond (list_any (λ w. moves w table && same_text w.target keyspace) p.lives) true b) (sym (present_pushed p.topology.keyspaces name cuts keyspace table)) ∙ h

-- a keyspace that has a table is there
pub there_by : (p : Plain) → ((w : Live) → IsIn w p.lives → has_keyspace p w.target ≡ true) → (keyspace table : List ℕ) → has_table p keyspace table ≡ true → has_keyspace p keyspace ≡ true
there_by p target_there keyspace table h = by (list_any (λ w. moves w table && same_text w.target keyspace) p.lives) refl h
  where
    present : (o : Option KeyspaceState) → option_map_or (λ (s : KeyspaceState). is_marked s.tables table) o false ≡ true → is_some o ≡ true
    present None e = absurd (true≢false (sym e))
    present (Some s) e = refl

    -- the one that moves it, with this keyspace as its target
    targets : (ws : List Live) → list_any (λ w. moves w table && same_text w.target keyspace) ws ≡ true → (w : Live) × IsIn w ws × (moves w table ≡ true) × (same_text w.target keyspace ≡ true)
    targets [] e = absurd (true≢false (sym e))
    targets (w ∷ ws) e = at (moves w table && same_text w.target keyspace) refl e (targets ws)
      where
        at : (b : Bool) → (moves w table && same_text w.target keyspace) ≡ b → (b || list_any (λ w. moves w table && same_text w.target keyspace) ws) ≡ true
            → (list_any (λ w. moves w table && same_text w.target keyspace) ws ≡ true → (v : Live) × IsIn v ws × (moves v table ≡ true) × (same_text v.target keyspace ≡ true))
            → (v : Live) × IsIn v (w ∷ ws) × (moves v table ≡ true) × (same_text v.target keyspace ≡ true)
        at true is e again = let both = and_parts (moves w table) (same_text w.target keyspace) is in (w, inl refl, both.0, both.1)
        at false is e again = let r = again e in (r.0, inr r.1, r.2, r.3)

    by : (b : Bool) → list_any (λ w. moves w table && same_text w.target keyspace) p.lives ≡ b → cond b true (is_present p.topology.keyspaces keyspace table) ≡ true → has_keyspace p keyspace ≡ true
    by false none e = present (keyspace_at p.topology.keyspaces keyspace) e
    by true some e =
        let r = targets p.lives some in
        subst (λ k. has_keyspace p k ≡ true) ((same_text_decides r.0.target keyspace).0 r.3) (target_there r.0 r.1)
