-- A new table: it has a number that no write has, and the numbers of the tables that are there stay.
use Rattle.mt_plain.specs.Slots.{log_of}
use Rattle.std.proofs.Common.{◌≡◌, ◌≢◌, ℕ, suc, ◌<◌, ◌≤◌, ◌⊎◌, Bool, true, false, not, cond, eqb, List, [], ◌∷◌, ◌++◌, drop, take, filter, map, Option, None, Some, refl, sym, ap, ◌∙◌, subst, arith, inl, inr, ⊎_elim}
use Rattle.std.proofs.lemmas.Bool.{and_parts, true≢false, or_right}
use Rattle.std.specs.List.{AllByRecursion, list_any}
use Rattle.std.specs.Map.{lookup}
use Rattle.std.specs.Option.{option_map_or}
use Rattle.std.specs.Prelude.{◌&&◌, ◌||◌, find, unwrap_or}
use Rattle.mt_store.specs.Log.{LogState}
use Rattle.mt_names.proofs.EntryLemmas.{lookup-push_here, lookup-push_stood}
use Rattle.mt_names.proofs.SameLemmas.{same_target_decides, same_text_decides}
use Rattle.mt_names.specs.Names.{same_text}
use Rattle.mt_names.specs.Same.{same_target}
use Rattle.mt_model.specs.declared.entries.EntryKey.TheVariants as about
use Rattle.mt_model.specs.declared.rows.RowChange.{RowChange}
use Rattle.mt_model.specs.Topology.{is_present, value_of, with_new_table, with_table}
use Rattle.mt_names.specs.Shards.{shard_of}
use Rattle.mt_laws.proofs.CutLemmas.{cuts_changed}
use Rattle.mt_primary.specs.Primary.{PrimaryState, row_at}
use Rattle.mt_plain.specs.Events.{add_table, done, Refusal, exists, no_keyspace}
use Rattle.mt_plain.specs.Next.{next}
use Rattle.mt_plain.specs.Plain.{Lane, Live, Plain, Write, in_lane, lane_at, lane_of, shard_at, among, in_keyspace, is_side, live_at, mover, moves, number_of, owner}
use Rattle.mt_plain.specs.Refuse.{or_else, refuse_if}
use Rattle.mt_plain.specs.Serve.{has_table}
use Rattle.mt_plain.specs.Writes.{client_number, client_row, in_range, lane_row, lane_writes, other_row, row_after_writes, row_by_mover, row_of, writes_to}
use Rattle.mt_stands.specs.Rows.{KeepsEndOf, IsPending, OtherKeyspacesStay, OtherTablesStay, Primaries, RowsStand, is_moved, owner_shard, rows_before, write_of}
use Rattle.mt_stands.proofs.UnreadLemmas.{StreamsGoOn, unread_next}
use Rattle.mt_stands.proofs.KnownLemmas.{Known, client_at_side, differs, has_at_source, itself, row_elsewhere, row_free, same_or, source_is_side}

-- ---- a new table is refused where it is there

pub free_table : (has_keyspace has_table : Bool) (full : Option Refusal) → or_else (refuse_if (not has_keyspace) no_keyspace) (or_else (refuse_if has_table exists) full) ≡ None → has_table ≡ false
free_table true false full e = refl
free_table true true full e = absurd cc
free_table false has full e = absurd cc

-- ---- lists

any_same : (f g : List ℕ → Bool) (names : List (List ℕ)) → ((name : List ℕ) → among names name ≡ true → f name ≡ g name) → list_any f names ≡ list_any g names
any_same f g [] same = refl
any_same f g (n ∷ names) same =
    ap (λ b. b || list_any f names) (same n (ap (λ b. b || among names n) (itself n)))
    ∙ ap (λ b. g n || b) (any_same f g names (λ name h. same name (or_right (same_text n name) (among names name) h)))

filter_same : {X : Type 0} (f g : X → Bool) → ((x : X) → f x ≡ g x) → (xs : List X) → filter f xs ≡ filter g xs
filter_same f g same [] = refl
filter_same f g same (x ∷ xs) = ap (λ b. cond b (x ∷ filter f xs) (filter f xs)) (same x) ∙ ap (λ l. cond (g x) (x ∷ l) l) (filter_same f g same xs)

all_kept : {X : Type 0} (test : X → Bool) (xs : List X) → AllByRecursion (λ x. test x ≡ true) (filter test xs)
all_kept test [] = tt
all_kept test (x ∷ xs) = by (all_kept test xs) (test x) refl
  where
    by : AllByRecursion (λ x. test x ≡ true) (filter test xs) → (b : Bool) → test x ≡ b → AllByRecursion (λ x. test x ≡ true) (cond b (x ∷ filter test xs) (filter test xs))
    by again true is = (is, again)
    by again false is = again

all_behind : {X : Type 0} (P : X → Type 0) (before left : List X) → AllByRecursion P (before ++ left) → AllByRecursion P left
all_behind P [] left all = all
all_behind P (x ∷ before) left all = all_behind P before left all.1

map_same : {X Y : Type 0} (P : X → Type 0) (f g : X → Y) → ((x : X) → P x → f x ≡ g x) → (xs : List X) → AllByRecursion P xs → map f xs ≡ map g xs
map_same P f g same [] all = refl
map_same P f g same (x ∷ xs) all = ap (λ y. y ∷ map f xs) (same x all.0) ∙ ap (λ l. g x ∷ l) (map_same P f g same xs all.1)

any_found : (first other : Live → Bool) (ws : List Live) (w : Live) → find first ws ≡ Some w → other w ≡ true → list_any (λ v. first v && other v) ws ≡ true
any_found first other [] w e is = absurd cc
any_found first other (v ∷ ws) w e is = by (any_found first other ws w) (first v) refl
  where
    by : (find first ws ≡ Some w → other w ≡ true → list_any (λ u. first u && other u) ws ≡ true) → (b : Bool) → first v ≡ b → list_any (λ u. first u && other u) (v ∷ ws) ≡ true
    by again true at =
        let one : Some v ≡ Some w = sym (ap (λ b. cond b (Some v) (find first ws)) at) ∙ e in
        let same : v ≡ w = cc in
        ap (λ b. (b && other v) || list_any (λ u. first u && other u) ws) at ∙ ap (λ b. b || list_any (λ u. first u && other u) ws) (ap other same ∙ is)
    by again false at =
        ap (λ b. (b && other v) || list_any (λ u. first u && other u) ws) at ∙ again (sym (ap (λ b. cond b (Some v) (find first ws)) at) ∙ e) is

-- ---- numbers

-- what the laws say of numbers in a state that a run reaches
pub record KnownNumbers (p : Plain) : Type 0 where
  pub present : (keyspace table : List ℕ) (n : ℕ) → lookup (same_target (in_keyspace keyspace table)) p.numbers ≡ Some n → is_present p.topology.keyspaces keyspace table ≡ true
  pub unwritten : (number key : ℕ) → p.made ≤ number → row_after_writes p.writes number key ≡ None
  pub clients : (keyspace table : List ℕ) → has_table p keyspace table ≡ true → client_number p keyspace table < p.made

-- which tables are there behind a new one
pub record IsThere (p : Plain) (keyspace table : List ℕ) : Type 0 where
  pub free : has_table p keyspace table ≡ false
  pub others : (k t : List ℕ) → about.Present keyspace table ≢ about.Present k t → is_present (with_table p.topology keyspace table).keyspaces k t ≡ is_present p.topology.keyspaces k t

module _ (p : Plain) (known : Known p) (numbers : KnownNumbers p) (keyspace table : List ℕ) (there : IsThere p keyspace table) where
  abbrev q : Plain
  q = next p (add_table keyspace table) done

  absent : is_present p.topology.keyspaces keyspace table ≡ false
  absent = by (list_any (λ w. moves w table && same_text w.target keyspace) p.lives) (is_present p.topology.keyspaces keyspace table) there.free
    where
      by : (moved present : Bool) → cond moved true present ≡ false → present ≡ false
      by true present e = absurd (true≢false e)
      by false present e = e

  -- a table that is there keeps its number
  number_kept : (k t : List ℕ) → number_of p k t < p.made → number_of q k t ≡ number_of p k t
  number_kept k t below = by (lookup (same_target (in_keyspace k t)) p.numbers) refl
    where
      by : (o : Option ℕ) → lookup (same_target (in_keyspace k t)) p.numbers ≡ o → number_of q k t ≡ number_of p k t
      by None e = absurd (let h : number_of p k t ≡ p.made = ap (λ o. unwrap_or o p.made) e in omega (arith, h, below))
      by (Some n) e =
          ap (λ o. unwrap_or o (suc p.made)) (lookup-push_stood same_target p.numbers (in_keyspace keyspace table, p.made) (in_keyspace k t) n e)
          ∙ sym (ap (λ o. unwrap_or o p.made) e)

  -- the new one gets the next number
  number_new : number_of q keyspace table ≡ p.made
  number_new = by (lookup (same_target (in_keyspace keyspace table)) p.numbers) refl
    where
      by : (o : Option ℕ) → lookup (same_target (in_keyspace keyspace table)) p.numbers ≡ o → number_of q keyspace table ≡ p.made
      by None e = ap (λ o. unwrap_or o (suc p.made)) (lookup-push_here same_target same_target_decides p.numbers (in_keyspace keyspace table) p.made e)
      by (Some n) e = absurd (true≢false (sym (numbers.present keyspace table n e) ∙ absent))

  client_kept : (k t : List ℕ) → has_table p k t ≡ true → client_number q k t ≡ client_number p k t
  client_kept k t has = number_kept (option_map_or (λ (w : Live). cond (is_side w k) w.source k) (mover p t) k) t (numbers.clients k t has)

  module _ (name : List ℕ) (w : Live) (live : live_at p name ≡ Some w) where
    -- the tables of a live workflow keep theirs
    source_kept : (t : List ℕ) → moves w t ≡ true → number_of q w.source t ≡ number_of p w.source t
    source_kept t moved =
        number_kept w.source t
        (subst (λ n. n < p.made) (client_at_side p w t (known.found name w live t moved) w.source (source_is_side w)) (numbers.clients w.source t (has_at_source p known name w live t moved)))

    writes_kept : writes_to q w ≡ writes_to p w
    writes_kept =
        filter_same (λ (x : Write). list_any (λ t. eqb (number_of q w.source t) x.table) w.tables) (λ (x : Write). list_any (λ t. eqb (number_of p w.source t) x.table) w.tables)
        (λ x. any_same (λ t. eqb (number_of q w.source t) x.table) (λ t. eqb (number_of p w.source t) x.table) w.tables (λ t moved. ap (λ n. eqb n x.table) (source_kept t moved)))
        p.writes

    lane_kept : (l : Lane) → lane_writes q w l ≡ lane_writes p w l
    lane_kept l = ap (filter (λ (write : Write). in_lane w l write.key)) writes_kept

    other_kept : (t : List ℕ) → moves w t ≡ true → (key : ℕ) → other_row q w t key ≡ other_row p w t key
    other_kept t moved key = by (lane_of w key)
      where
        by : (o : Option Lane) → option_map_or (λ l. lane_row q w l t key) o None ≡ option_map_or (λ l. lane_row p w l t key) o None
        by None = refl
        by (Some l) =
            ap (λ ws. cond (in_range w.tables l.copied t key) (row_after_writes (take l.fed ws) (number_of q w.source t) key) None) (lane_kept l)
            ∙ ap (λ n. cond (in_range w.tables l.copied t key) (row_after_writes (take l.fed (lane_writes p w l)) n key) None) (source_kept t moved)

    entries_kept : (l : Lane) (log : List RowChange) (before left : List RowChange) → filter (is_moved w l) log ≡ before ++ left → map (write_of q w) left ≡ map (write_of p w) left
    entries_kept l log before left e =
        map_same (λ c. is_moved w l c ≡ true) (write_of q w) (write_of p w)
        (λ c moved. ap (λ n. let x : Write = record { table = n; key = c.key; after = c.after } in x) (source_kept c.table (and_parts (in_lane w l c.key) (moves w c.table) moved).1))
        left (all_behind (λ c. is_moved w l c ≡ true) before left (subst (AllByRecursion (λ c. is_moved w l c ≡ true)) e (all_kept (is_moved w l) log)))

  -- ---- rows

  row_kept : (k t : List ℕ) → has_table p k t ≡ true → (key : ℕ) → row_of q k t key ≡ row_of p k t key
  row_kept k t has key = by (mover p t) refl
    where
      client : client_row q k t key ≡ client_row p k t key
      client = ap (λ n. row_after_writes p.writes n key) (client_kept k t has)

      by : (o : Option Live) → mover p t ≡ o → row_of q k t key ≡ row_of p k t key
      by None none = row_free q k t none key ∙ client ∙ sym (row_free p k t none key)
      by (Some w) found =
          ap (λ o. row_by_mover q o k t key) found
          ∙ ap (λ r. cond (is_side w k && not (same_text (owner w) k)) r (client_row q k t key)) (let m = known.moving t w found in other_kept w.name w m.1 t m.0 key)
          ∙ ap (λ r. cond (is_side w k && not (same_text (owner w) k)) (other_row p w t key) r) client
          ∙ sym (ap (λ o. row_by_mover p o k t key) found)

  -- no live workflow has the new table at one of its sides
  elsewhere : (w : Live) → mover p table ≡ Some w → is_side w keyspace ≡ false
  elsewhere w found = by (same_text w.source keyspace) (same_text w.target keyspace) refl refl
    where
      m : (moves w table ≡ true) × (live_at p w.name ≡ Some w)
      m = known.moving table w found

      has_not : has_table p keyspace table ≡ true → ⊥
      has_not has = true≢false (sym has ∙ there.free)

      by : (s t : Bool) → same_text w.source keyspace ≡ s → same_text w.target keyspace ≡ t → is_side w keyspace ≡ false
      by false false s t = ap (λ b. b || same_text w.target keyspace) s ∙ t
      by true t s e = absurd (true≢false (sym (subst (λ k. is_present p.topology.keyspaces k table ≡ true) (same_source s) ((known.placed w.name w m.1).at_source table m.0)) ∙ absent))
        where
          same_source : same_text w.source keyspace ≡ true → w.source ≡ keyspace
          same_source h = (same_text_decides w.source keyspace).0 h
      by false true s t =
          absurd (has_not (ap (λ b. cond b true (is_present p.topology.keyspaces keyspace table)) (any_found (λ v. moves v table) (λ v. same_text v.target keyspace) p.lives w found t)))

  row_new : (key : ℕ) → row_of q keyspace table key ≡ None
  row_new key = by (mover p table) refl
    where
      none_at : (n : ℕ) → n ≡ p.made → row_after_writes p.writes n key ≡ None
      none_at n e = numbers.unwritten n key (omega (arith, e))

      by : (o : Option Live) → mover p table ≡ o → row_of q keyspace table key ≡ None
      by None none =
          row_free q keyspace table none key
          ∙ none_at (client_number q keyspace table) (ap (λ o. number_of q (option_map_or (λ (w : Live). cond (is_side w keyspace) w.source keyspace) o keyspace) table) none ∙ number_new)
      by (Some w) found =
          row_elsewhere q keyspace table w found key (elsewhere w found)
          ∙ none_at (client_number q keyspace table)
          (ap (λ o. number_of q (option_map_or (λ (v : Live). cond (is_side v keyspace) v.source keyspace) o keyspace) table) found
          ∙ ap (λ b. number_of q (cond b w.source keyspace) table) (elsewhere w found) ∙ number_new)

  -- ---- the primaries

  -- the shards of keyspaces stay
  shard_kept : (k : List ℕ) (key : ℕ) → shard_at q k key ≡ shard_at p k key
  shard_kept k key = ap (λ cuts. shard_of cuts key) (cuts_changed (with_new_table table) (λ state. refl) p.topology.keyspaces keyspace k)

  module _ (old new : Primaries) (stands : RowsStand p old) (others : OtherKeyspacesStay keyspace old new) (stay : (n : ℕ) → OtherTablesStay (table ∷ []) (old keyspace n) (new keyspace n))
      (empty : (n key : ℕ) → row_at (new keyspace n) table key ≡ None) where
    log_same : (k : List ℕ) (n : ℕ) → (new k n).log ≡ (old k n).log
    log_same k n =
        ⊎_elim (λ (e : keyspace ≡ k). subst (λ x. (new x n).log ≡ (old x n).log) e (stay n).log) (λ (e : keyspace ≢ k). ap (λ (s : PrimaryState). s.log) (others k e n)) (same_or keyspace k)

    -- which of the tables it is: the new one, or another one, whose rows are as they were
    which : (k t : List ℕ) (n key : ℕ) → ((keyspace ≡ k) × (table ≡ t)) ⊎ ((about.Present keyspace table ≢ about.Present k t) × (row_at (new k n) t key ≡ row_at (old k n) t key))
    which k t n key = ⊎_elim here away (same_or keyspace k)
      where
        away : keyspace ≢ k → ((keyspace ≡ k) × (table ≡ t)) ⊎ ((about.Present keyspace table ≢ about.Present k t) × (row_at (new k n) t key ≡ row_at (old k n) t key))
        away e = inr ((λ h. e (let same : keyspace ≡ k = cc in same)), ap (λ s. row_at s t key) (others k e n))

        at : (table ≡ t) ⊎ (table ≢ t) → (keyspace ≡ k) → ((keyspace ≡ k) × (table ≡ t)) ⊎ ((about.Present keyspace table ≢ about.Present k t) × (row_at (new k n) t key ≡ row_at (old k n) t key))
        at (inl e) same = inl (same, e)
        at (inr e) same = inr ((λ h. e (let is : table ≡ t = cc in is)), subst (λ x. row_at (new x n) t key ≡ row_at (old x n) t key) same ((stay n).rows t (ap (λ b. b || false) (differs table t e)) key))

        here : keyspace ≡ k → ((keyspace ≡ k) × (table ≡ t)) ⊎ ((about.Present keyspace table ≢ about.Present k t) × (row_at (new k n) t key ≡ row_at (old k n) t key))
        here e = at (same_or table t) e

    had : (k t : List ℕ) → about.Present keyspace table ≢ about.Present k t → has_table q k t ≡ true → has_table p k t ≡ true
    had k t apart has = ap (cond (list_any (λ w. moves w t && same_text w.target k) p.lives) true) (sym (there.others k t apart)) ∙ has

    row_now : (k t : List ℕ) → has_table q k t ≡ true → (key : ℕ) → row_at (new k (shard_at q k key)) t key ≡ row_of q k t key
    row_now k t has key = ap (λ n. row_at (new k n) t key) (shard_kept k key) ∙ ⊎_elim
        (λ (e : (keyspace ≡ k) × (table ≡ t)). subst (λ x. row_at (new x (shard_at p x key)) t key ≡ row_of q x t key) e.0 (subst (λ u. row_at (new keyspace (shard_at p keyspace key)) u key ≡ row_of q keyspace u key) e.1 (empty (shard_at p keyspace key) key ∙ sym (row_new key))))
        (λ other. other.1 ∙ stands.rows k t (had k t other.0 has) key ∙ sym (row_kept k t (had k t other.0 has) key))
        (which k t (shard_at p k key) key)

    apart_now : (k t : List ℕ) → has_table q k t ≡ true → (key n : ℕ) → shard_at q k key ≢ n → row_at (new k n) t key ≡ None
    apart_now k t has key n elsewhere_ = ⊎_elim
        (λ (e : (keyspace ≡ k) × (table ≡ t)). subst (λ x. row_at (new x n) t key ≡ None) e.0 (subst (λ u. row_at (new keyspace n) u key ≡ None) e.1 (empty n key)))
        (λ other. other.1 ∙ stands.apart k t (had k t other.0 has) key n (λ h. elsewhere_ (shard_kept k key ∙ h)))
        (which k t n key)

    pending_now : (name : List ℕ) (w : Live) → live_at q name ≡ Some w → (n : ℕ) (l : Lane) → lane_at w n ≡ Some l → IsPending q w l (new (owner w) (owner_shard w l)).log.entries
    pending_now name w live n l laned = subst (IsPending q w l) (sym (ap (λ (log : LogState). log.entries) (log_same (owner w) (owner_shard w l))))
        (let was = stands.pending name w live n l laned in
        record {
          before = was.before;
          left = was.left;
          entries = was.entries;
          writes = entries_kept name w live l (old (owner w) (owner_shard w l)).log.entries was.before was.left was.entries ∙ was.writes ∙ ap (drop l.fed) (sym (lane_kept name w live l));
          rows = was.rows ∙ ap (λ ws. drop l.fed (rows_before [] ws)) (sym (lane_kept name w live l));
        })

    pub table_stands : StreamsGoOn p q → RowsStand q new
    table_stands goes = record {
      log = λ k n. subst (KeepsEndOf (log_of p k n) k n) (sym (log_same k n)) (stands.log k n);
      rows = row_now;
      apart = apart_now;
      pending = pending_now;
      unread = unread_next p q old new stands (λ k n. ap (λ (l : LogState). l.purged) (log_same k n)) goes;
    }

-- an entry of a table says whether it is there
pub present_by : (p : Plain) (keyspace table : List ℕ) (k t : List ℕ) → value_of (with_table p.topology keyspace table) (about.Present k t) ≡ value_of p.topology (about.Present k t)
    → is_present (with_table p.topology keyspace table).keyspaces k t ≡ is_present p.topology.keyspaces k t
present_by p keyspace table k t e = cc
