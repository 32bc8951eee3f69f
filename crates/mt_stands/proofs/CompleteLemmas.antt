-- Complete: the end is written over the part and the source's tables, and places that hold nothing are dropped.
use Rattle.std.proofs.Common.{All, slice_index_or, ◌≡◌, ◌≢◌, ℕ, Bool, true, false, not, cond, ◌&&◌, ◌||◌, List, [], ◌∷◌, Option, None, Some, is_some, refl, sym, ap, ◌∙◌}
use Rattle.std.proofs.Math.Bool.{and-false, and-true}
use Rattle.std.proofs.lemmas.List.Elements.{All-contains_itself}
use Rattle.std.proofs.lemmas.Bool.{and_from, and_parts, or_right}
use Rattle.std.specs.Option.{option_map_or}
use Rattle.mt_names.specs.Names.{same_text}
use Rattle.mt_names.proofs.SameLemmas.{same_text_decides}
use Rattle.mt_model.specs.declared.entries.Entry.{Entry}
use Rattle.mt_model.specs.declared.entries.EntryKey.{EntryKey}
use Rattle.mt_model.specs.declared.entries.EntryKey.TheVariants as about
use Rattle.mt_model.specs.Part.{with_entries, without_places}
use Rattle.mt_model.specs.Topology.{HasDistinctPlaces, KeyspaceState, TopologyState, cuts_at, has_place, is_denied, is_present, keyspace_at, value_of, with_new_table}
use Rattle.mt_model.proofs.PlaceLemmas.{keyspace_at-stays, same-without_places}
use Rattle.mt_model.proofs.TopologyLemmas.{read_at-unchanged}
use Rattle.mt_plain.specs.Next.{completed, with_tables, without_live, without_tables}
use Rattle.mt_plain.specs.Plain.{Live, Plain, has_part, is_side, live_at, mover, moves, part_owner}
use Rattle.mt_plain.specs.Serve.{served_by, served_entry, step_of_entry, types_by}
use Rattle.mt_laws.specs.Reached.{IsInPlace}
use Rattle.mt_stands.specs.Keys.{end_entries, end_entry, end_keys, keys_of_part, lists, same_about}
use Rattle.mt_stands.specs.Topologies.{TopologyStands}
use Rattle.mt_stands.proofs.CancelLemmas.{none_named, was_owner}
use Rattle.mt_stands.proofs.EndLemmas.{end_keyed, ends, listed_ends, value_ended}
use Rattle.mt_model.proofs.AboutLemmas.{same_about_decides}
use Rattle.mt_workflow.proofs.MemberLemmas.{all_counted, moved, table_of}
use Rattle.mt_stands.proofs.KeyLemmas.{any_there}
use Rattle.mt_stands.proofs.PartLemmas.{part_place, serve_same}
use Rattle.mt_stands.proofs.PlaceLemmas.{distinct_dropped, holds, places_dropped}
use Rattle.mt_stands.proofs.StandLemmas.{IsFound, IsOwned}
use Rattle.mt_stands.proofs.WriteLemmas.{cuts_written, distinct_written, keyspaces_written, places_written, values_written}

-- what ends is about a table that moves
pub ends_moved : (w : Live) (key : EntryKey) → ends w key ≡ true → moves w (table_of key) ≡ true
ends_moved w (about.Rule key) is = moved w (about.Rule key) is
ends_moved w (about.Denied k n) is = moved w (about.Denied k n) is
ends_moved w (about.Present k n) is = (and_parts (moves w n) (is_side w k) is).0

-- and the part ends
part_ends : (w : Live) (key : EntryKey) → has_part w key ≡ true → ends w key ≡ true
part_ends w (about.Rule key) is = is
part_ends w (about.Denied k n) is = is
part_ends w (about.Present k n) is =
    let (m, t) = and_parts (moves w n) (same_text w.target k) is in
    and_from (moves w n) (is_side w k) m (or_right (same_text w.source k) (same_text w.target k) t)

-- what holds something at the end lies in the part
end_holds : (w : Live) (key : EntryKey) → ends w key ≡ true → holds (end_entry w.target key) ≡ true → has_part w key ≡ true
end_holds w (about.Rule key) is held = is
end_holds w (about.Denied k n) is held = is
end_holds w (about.Present k n) is held = and_from (moves w n) (same_text w.target k) (and_parts (moves w n) (is_side w k) is).0 held

-- ---- who owns an entry then

abbrev pub MovesAlone : Plain → Type 0
MovesAlone p = (name : List ℕ) (w : Live) → live_at p name ≡ Some w → (table : List ℕ) → moves w table ≡ true → mover p table ≡ Some w

module _ (p q : Plain) (name : List ℕ) (w : Live) (live : live_at p name ≡ Some w) (lives : q.lives ≡ without_live name p.lives)
    (named : w.name ≡ name) (owned : IsOwned p) (found : IsFound p) (owned_next : IsOwned q) (found_next : IsFound q)
    (elsewhere : (other : List ℕ) → (name ≢ other) → live_at q other ≡ live_at p other) (alone : MovesAlone p) where
  pub none_moved : (key : EntryKey) → moves w (table_of key) ≡ true → part_owner q key ≡ None
  none_moved key moving = by (part_owner q key) refl
    where
      by : (o : Option Live) → part_owner q key ≡ o → part_owner q key ≡ None
      by None is = is
      by (Some v) is =
          let (part, now) = found_next key v is in
          let (part_too, was) = found key v (was_owner p q name w live lives named owned found owned_next found_next elsewhere key v is) in
          let both : Some v ≡ Some w = sym (alone v.name v was (table_of key) (moved v key part)) ∙ alone name w live (table_of key) moving in
          let same : v ≡ w = cc in
          let at : live_at q name ≡ Some v = ap (live_at q) (sym (ap (λ x. x.name) same ∙ named)) ∙ now in
          let wrong : None ≡ Some v = sym (none_named p q name w live lives named owned found owned_next found_next elsewhere) ∙ at in
          absurd cc

-- ---- what is written has a place

module _ (p : Plain) (t : TopologyState) (w : Live) (stands : TopologyStands p t) (in_place : IsInPlace p.topology w)
    (owned : (key : EntryKey) → has_part w key ≡ true → part_owner p key ≡ Some w)
    (held : (key : EntryKey) → has_place p.topology key ≡ holds (value_of p.topology key)) where
  source_place : (key : EntryKey) → ends w key ≡ true → has_part w key ≡ false → has_place p.topology key ≡ true
  source_place (about.Rule key) is other = let wrong : true ≡ false = sym is ∙ other in absurd cc
  source_place (about.Denied k n) is other = let wrong : true ≡ false = sym is ∙ other in absurd cc
  source_place (about.Present k n) is other = held (about.Present k n) ∙ ap (λ x. is_present p.topology.keyspaces x n) (sym at) ∙ in_place.at_source n m
    where
      m : moves w n ≡ true
      m = (and_parts (moves w n) (is_side w k) is).0

      by : (s t : Bool) → (s || t) ≡ true → t ≡ false → s ≡ true
      by true t is not_t = refl
      by false true is not_t = absurd cc
      by false false is not_t = absurd cc

      at : w.source ≡ k
      at = (same_text_decides w.source k).0
          (by (same_text w.source k) (same_text w.target k) (and_parts (moves w n) (is_side w k) is).1 (sym (ap (λ b. b && same_text w.target k) m) ∙ other))

  pub end_place : (key : EntryKey) → lists (end_keys w) key ≡ true → has_place t key ≡ true
  end_place key is = by (has_part w key) refl
    where
      or_true : (b : Bool) → (b || true) ≡ true
      or_true true = refl
      or_true false = refl

      by : (b : Bool) → has_part w key ≡ b → has_place t key ≡ true
      by true b = part_place p t w stands owned key b
      by false b =
          stands.places key ∙ ap (λ x. is_some (part_owner p key) || x) (source_place key (sym (listed_ends w key) ∙ is) b) ∙ or_true (is_some (part_owner p key))

pub part_has_places : (p : Plain) (t : TopologyState) (w : Live) → TopologyStands p t → ((key : EntryKey) → has_part w key ≡ true → part_owner p key ≡ Some w)
    → All (λ key. has_place t key ≡ true) (keys_of_part w)
part_has_places p t w stands owned i d inside = part_place p t w stands owned (slice_index_or (keys_of_part w) i d) (all_counted w i d inside)

pub ends_have_places : (p : Plain) (t : TopologyState) (w : Live) → TopologyStands p t → IsInPlace p.topology w → ((key : EntryKey) → has_part w key ≡ true → part_owner p key ≡ Some w)
    → ((key : EntryKey) → has_place p.topology key ≡ holds (value_of p.topology key)) → All (λ key. has_place t key ≡ true) (end_keys w)
ends_have_places p t w stands in_place owned held i d inside =
    let itself = All-contains_itself (end_keys w) i d inside in
    end_place p t w stands in_place owned held (slice_index_or (end_keys w) i d)
    (any_there same_about same_about_decides (end_keys w) (slice_index_or (end_keys w) i d) itself.0 itself.1 itself.2)

-- ---- the topology

module _ (p q : Plain) (t : TopologyState) (w : Live) (same : q.topology ≡ completed p.topology w) (stands : TopologyStands p t)
    (in_place : IsInPlace p.topology w) (distinct_there : HasDistinctPlaces p.topology)
    (allowed : (k n : List ℕ) → is_denied p.topology.keyspaces k n ≡ false) (allowed_next : (k n : List ℕ) → is_denied q.topology.keyspaces k n ≡ false)
    (owned : (key : EntryKey) → has_part w key ≡ true → part_owner p key ≡ Some w)
    (not_owned : (key : EntryKey) → ends w key ≡ true → part_owner q key ≡ None)
    (owned_still : (key : EntryKey) → has_part w key ≡ false → part_owner q key ≡ part_owner p key)
    (held : (key : EntryKey) → has_place p.topology key ≡ holds (value_of p.topology key))
    (held_next : (key : EntryKey) → has_place q.topology key ≡ holds (value_of q.topology key)) where
  abbrev written : TopologyState
  written = with_entries t (end_entries w)

  distinct : HasDistinctPlaces written
  distinct = distinct_written t (end_entries w) stands.served.places

  now : (key : EntryKey) → value_of q.topology key ≡ cond (ends w key) (end_entry w.target key) (value_of p.topology key)
  now key =
      ap (λ u. value_of u key) same
      ∙ value_ended p.topology w in_place.sides.apart in_place.sides.target distinct_there allowed (λ k n. ap (λ (u : TopologyState). is_denied u.keyspaces k n) (sym same) ∙ allowed_next k n) key

  said : (key : EntryKey) → value_of written key ≡ cond (ends w key) (end_entry w.target key) (served_entry p key)
  said key =
      values_written (end_entry w.target) (end_keyed w.target) t (end_keys w) key (end_place p t w stands in_place owned held)
      ∙ ap (λ b. cond b (end_entry w.target key) (value_of t key)) (listed_ends w key)
      ∙ ap (λ v. cond (ends w key) (end_entry w.target key) v) (stands.served.entries key)

  not_part : (key : EntryKey) → ends w key ≡ false → has_part w key ≡ false
  not_part key other = by (has_part w key) refl
    where
      by : (b : Bool) → has_part w key ≡ b → has_part w key ≡ false
      by true b = let wrong : true ≡ false = sym (part_ends w key b) ∙ other in absurd cc
      by false b = b

  values : (key : EntryKey) → value_of (without_places written (end_keys w)) key ≡ served_entry q key
  values key = (same-without_places written (end_keys w) distinct).values key ∙ said key ∙ by (ends w key) refl
    where
      serves : Option Live → TopologyState → Entry
      serves o u = option_map_or (λ v. served_by u v key) o (value_of u key)

      still : (o : Option Live) → value_of q.topology key ≡ value_of p.topology key → serves o q.topology ≡ serves o p.topology
      still None e = e
      still (Some v) e = serve_same p.topology q.topology v (types_by v (step_of_entry v key)) key e

      by : (b : Bool) → ends w key ≡ b → cond b (end_entry w.target key) (served_entry p key) ≡ served_entry q key
      by true b =
          sym (ap (λ o. serves o q.topology) (not_owned key b) ∙ now key ∙ ap (λ x. cond x (end_entry w.target key) (value_of p.topology key)) b)
      by false b =
          sym (ap (λ o. serves o q.topology) (owned_still key (not_part key b))
          ∙ still (part_owner p key) (now key ∙ ap (λ x. cond x (end_entry w.target key) (value_of p.topology key)) b))

  places : (key : EntryKey) → has_place (without_places written (end_keys w)) key ≡ (is_some (part_owner q key) || has_place q.topology key)
  places key =
      places_dropped written (end_keys w) key distinct
      ∙ ap (λ x. x && (not (lists (end_keys w) key) || holds (value_of written key))) (places_written t (end_entries w) key)
      ∙ ap (λ x. has_place t key && (not x || holds (value_of written key))) (listed_ends w key)
      ∙ by (ends w key) refl
    where
      kept : ends w key ≡ true → (h : Bool) → holds (end_entry w.target key) ≡ h → (has_place t key && h) ≡ h
      kept is true h = and-true (has_place t key) ∙ part_place p t w stands owned key (end_holds w key is h)
      kept is false h = and-false (has_place t key)

      by : (b : Bool) → ends w key ≡ b → (has_place t key && (not b || holds (value_of written key))) ≡ (is_some (part_owner q key) || has_place q.topology key)
      by true b =
          ap (λ v. has_place t key && holds v) (said key ∙ ap (λ x. cond x (end_entry w.target key) (served_entry p key)) b)
          ∙ kept b (holds (end_entry w.target key)) refl
          ∙ sym (ap (λ (o : Option Live). is_some o || has_place q.topology key) (not_owned key b) ∙ held_next key ∙ ap holds (now key ∙ ap (λ x. cond x (end_entry w.target key) (value_of p.topology key)) b))
      by false b =
          and-true (has_place t key) ∙ stands.places key
          ∙ ap (λ x. is_some (part_owner p key) || x) (held key ∙ sym (held_next key ∙ ap holds (now key ∙ ap (λ x. cond x (end_entry w.target key) (value_of p.topology key)) b)))
          ∙ sym (ap (λ (o : Option Live). is_some o || has_place q.topology key) (owned_still key (not_part key b)))

  same_keyspaces : (name : List ℕ) → is_some (keyspace_at q.topology.keyspaces name) ≡ is_some (keyspace_at p.topology.keyspaces name)
  same_keyspaces name =
      ap (λ (u : TopologyState). is_some (keyspace_at u.keyspaces name)) same
      ∙ keyspace_at-stays (with_tables w.tables) _ w.target name ∙ keyspace_at-stays (without_tables w.tables) p.topology.keyspaces w.source name

  cuts_with_tables : (tables : List (List ℕ)) (state : KeyspaceState) → (with_tables tables state).cuts ≡ state.cuts
  cuts_with_tables [] state = refl
  cuts_with_tables (table ∷ tables) state = cuts_with_tables tables (with_new_table table state)

  same_shards : (name : List ℕ) → cuts_at q.topology.keyspaces name ≡ cuts_at p.topology.keyspaces name
  same_shards name =
      ap (λ (u : TopologyState). cuts_at u.keyspaces name) same
      ∙ read_at-unchanged (λ s. s.cuts) [] (with_tables w.tables) _ w.target name (λ state found is. cuts_with_tables w.tables state)
      ∙ read_at-unchanged (λ s. s.cuts) [] (without_tables w.tables) p.topology.keyspaces w.source name (λ state found is. refl)

  pub complete_stands : TopologyStands q (without_places (with_entries t (end_entries w)) (end_keys w))
  complete_stands = record {
    served = record {
      keyspaces = λ n. (same-without_places written (end_keys w) distinct).keyspaces n ∙ keyspaces_written t (end_entries w) n ∙ stands.served.keyspaces n ∙ sym (same_keyspaces n);
      shards = λ n. (same-without_places written (end_keys w) distinct).shards n ∙ cuts_written t (end_entries w) n ∙ stands.served.shards n ∙ sym (same_shards n);
      entries = values;
      places = distinct_dropped written (end_keys w) distinct;
    };
    places = places;
  }
