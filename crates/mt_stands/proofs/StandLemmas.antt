-- A topology that stands for a state stands for the next one, where that has the same parts, and where it says what that serves.
use Rattle.std.proofs.Common.{◌≡◌, ℕ, true, ◌||◌, List, Some, is_some, refl, sym, ap, ◌∙◌}
use Rattle.std.specs.Cmp.{both_ways}
use Rattle.mt_names.proofs.EntryLemmas.{some_from}
use Rattle.mt_model.specs.declared.entries.EntryKey.{EntryKey}
use Rattle.mt_model.specs.declared.entries.EntryKey.TheVariants as about
use Rattle.mt_model.specs.declared.entries.Entry.{Entry}
use Rattle.mt_model.specs.Part.{with_entries}
use Rattle.mt_model.specs.Topology.{HasDistinctPlaces, TopologyState, cuts_at, has_place, keyspace_at, value_of}
use Rattle.mt_plain.specs.Answers.{Answers}
use Rattle.mt_plain.specs.Events.{Event, Answer, write, read, advance, show}
use Rattle.mt_plain.specs.Next.{next}
use Rattle.mt_plain.specs.Plain.{Live, Plain, has_part, live_at, part_owner}
use Rattle.mt_plain.specs.Serve.{served_entry}
use Rattle.mt_laws.specs.Changes.{ChangesLives, ChangesTopology, HasSides, IsOfRows}
use Rattle.mt_laws.specs.WayBack.{IsReached}
use Rattle.mt_stands.specs.Topologies.{TopologyStands}
use Rattle.mt_stands.proofs.WriteLemmas.{cuts_written, distinct_written, keyspaces_written, places_written}

-- ---- the same parts

pub same_part : (w v : Live) → HasSides w v → (key : EntryKey) → has_part w key ≡ has_part v key
same_part w v same (about.Rule key) = let (s, t, n) : (w.source ≡ v.source) × (w.target ≡ v.target) × (w.tables ≡ v.tables) = (same.source, same.target, same.tables) in rw (s, t, n) refl
same_part w v same (about.Denied keyspace table) = let (s, t, n) : (w.source ≡ v.source) × (w.target ≡ v.target) × (w.tables ≡ v.tables) = (same.source, same.target, same.tables) in rw (s, t, n) refl
same_part w v same (about.Present keyspace table) = let (t, n) : (w.target ≡ v.target) × (w.tables ≡ v.tables) = (same.target, same.tables) in rw (t, n) refl

-- who owns an entry of a part, in a state
abbrev pub IsOwned : Plain → Type 0
IsOwned p = (name : List ℕ) (w : Live) → live_at p name ≡ Some w → (key : EntryKey) → has_part w key ≡ true → part_owner p key ≡ Some w

abbrev pub IsFound : Plain → Type 0
IsFound p = (key : EntryKey) (w : Live) → part_owner p key ≡ Some w → (has_part w key ≡ true) × (live_at p w.name ≡ Some w)

module _ (p q : Plain) (owned : IsOwned p) (owned_next : IsOwned q) (found : IsFound p) (found_next : IsFound q)
    (live : (name : List ℕ) → is_some (live_at q name) ≡ is_some (live_at p name))
    (sides : (name : List ℕ) (w v : Live) → live_at p name ≡ Some w → live_at q name ≡ Some v → HasSides w v) where
  pub same_owners : (key : EntryKey) → is_some (part_owner q key) ≡ is_some (part_owner p key)
  same_owners key = both_ways (is_some (part_owner q key)) (is_some (part_owner p key)) from to
    where
      from : is_some (part_owner q key) ≡ true → is_some (part_owner p key) ≡ true
      from is =
          let (v, owns) = some_from (part_owner q key) is in
          let (part, at) = found_next key v owns in
          let (w, was) = some_from (live_at p v.name) (sym (live v.name) ∙ ap is_some at) in
          ap is_some (owned v.name w was key (same_part w v (sides v.name w v was at) key ∙ part))

      to : is_some (part_owner p key) ≡ true → is_some (part_owner q key) ≡ true
      to is =
          let (w, owns) = some_from (part_owner p key) is in
          let (part, at) = found key w owns in
          let (v, now) = some_from (live_at q w.name) (live w.name ∙ ap is_some at) in
          ap is_some (owned_next w.name v now key (sym (same_part w v (sides w.name w v at now) key) ∙ part))

-- ---- the same topology as if no workflow were live

pub stands_on : (p q : Plain) (t u : TopologyState) → TopologyStands p t → q.topology ≡ p.topology → ((key : EntryKey) → is_some (part_owner q key) ≡ is_some (part_owner p key))
    → ((name : List ℕ) → is_some (keyspace_at u.keyspaces name) ≡ is_some (keyspace_at t.keyspaces name)) → ((name : List ℕ) → cuts_at u.keyspaces name ≡ cuts_at t.keyspaces name) → ((key : EntryKey) → value_of u key ≡ served_entry q key)
    → HasDistinctPlaces u → ((key : EntryKey) → has_place u key ≡ has_place t key) → TopologyStands q u
stands_on p q t u stands same owners keyspaces shards values distinct places = record {
  served = record {
    keyspaces = λ name. keyspaces name ∙ stands.served.keyspaces name ∙ sym (ap (λ (x : TopologyState). is_some (keyspace_at x.keyspaces name)) same);
    shards = λ name. shards name ∙ stands.served.shards name ∙ sym (ap (λ (x : TopologyState). cuts_at x.keyspaces name) same);
    entries = values;
    places = distinct;
  };
  places = λ key.
      places key ∙ stands.places key ∙ ap (λ b. b || has_place p.topology key) (sym (owners key))
      ∙ ap (λ x. is_some (part_owner q key) || has_place x key) (sym same);
}

-- ---- what the laws of mt_laws say of the next state

pub record Laws : Type 0 where
  pub owned : (p : Plain) → IsReached p → IsOwned p
  pub found : (p : Plain) → IsReached p → IsFound p
  pub reached : (p : Plain) → IsReached p → (event : Event) (answer : Answer) → Answers p event answer → IsReached (next p event answer)
  pub live : (p : Plain) (event : Event) (answer : Answer) (name : List ℕ) → ¬ (ChangesLives event) → is_some (live_at (next p event answer) name) ≡ is_some (live_at p name)
  pub sides : (p : Plain) (event : Event) (answer : Answer) (name : List ℕ) (w v : Live) → live_at p name ≡ Some w → live_at (next p event answer) name ≡ Some v → HasSides w v
  pub topology : (p : Plain) (event : Event) (answer : Answer) → ¬ (ChangesTopology event) → (next p event answer).topology ≡ p.topology

module _ (laws : Laws) (p : Plain) (event : Event) (answer : Answer) (reached : IsReached p) (given : Answers p event answer) (lives : ¬ (ChangesLives event)) where
  pub owners_next : (key : EntryKey) → is_some (part_owner (next p event answer) key) ≡ is_some (part_owner p key)
  owners_next =
      let after = laws.reached p reached event answer given in
      same_owners p (next p event answer) (laws.owned p reached) (laws.owned (next p event answer) after) (laws.found p reached) (laws.found (next p event answer) after)
      (λ name. laws.live p event answer name lives) (laws.sides p event answer)

  -- nothing is written
  pub stays : (t : TopologyState) → TopologyStands p t → ¬ (ChangesTopology event) → ((key : EntryKey) → value_of t key ≡ served_entry (next p event answer) key) → TopologyStands (next p event answer) t
  stays t stands kept values = stands_on p (next p event answer) t t stands (laws.topology p event answer kept) owners_next (λ name. refl) (λ name. refl) values stands.served.places (λ key. refl)

  -- entries are written
  pub writes : (t : TopologyState) (entries : List Entry) → TopologyStands p t → ¬ (ChangesTopology event) → ((key : EntryKey) → value_of (with_entries t entries) key ≡ served_entry (next p event answer) key)
      → TopologyStands (next p event answer) (with_entries t entries)
  writes t entries stands kept values =
      stands_on p (next p event answer) t (with_entries t entries) stands (laws.topology p event answer kept) owners_next (keyspaces_written t entries) (cuts_written t entries) values
      (distinct_written t entries stands.served.places) (places_written t entries)

-- the events on rows and streams
pub rows_change : (event : Event) → IsOfRows event → (¬ (ChangesLives event)) × (¬ (ChangesTopology event))
rows_change (write keyspace table op) is = (λ h. h, λ h. h)
rows_change (read keyspace table key tablet_type) is = (λ h. h, λ h. h)
rows_change (advance workflow name shard at at_most) is = (λ h. h, λ h. h)
rows_change (show workflow) is = (λ h. h, λ h. h)
rows_change other is = absurd is
