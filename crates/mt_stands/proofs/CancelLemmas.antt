-- Cancel: what was kept is written back, and places that hold nothing are dropped.
use Rattle.std.proofs.Common.{◌≡◌, ◌≢◌, ℕ, Bool, true, false, not, cond, ◌&&◌, ◌||◌, List, [], ◌∷◌, find, Option, None, Some, is_some, refl, sym, ap, ◌∙◌}
use Rattle.std.proofs.lemmas.Bool.{true≢false}
use Rattle.std.proofs.Math.Bool.{and-true}
use Rattle.std.specs.Option.{option_map_or}
use Rattle.mt_names.specs.declared.keys.RuleKey.{RuleKey}
use Rattle.mt_names.specs.Names.{same_text}
use Rattle.mt_model.specs.declared.entries.Entry.{Entry}
use Rattle.mt_model.specs.declared.entries.EntryKey.{EntryKey}
use Rattle.mt_model.specs.declared.entries.EntryKey.TheVariants as about
use Rattle.mt_model.specs.Part.{with_entries, without_places}
use Rattle.mt_model.specs.Topology.{HasDistinctPlaces, Rules, TopologyState, cuts_at, has_place, is_denied, is_present, key_of, keyspace_at, rule_at, value_of}
use Rattle.mt_model.proofs.PlaceLemmas.{same-without_places}
use Rattle.mt_plain.specs.Next.{without_live}
use Rattle.mt_plain.specs.Plain.{Live, Plain, has_part, live_at, part_owner}
use Rattle.mt_plain.specs.Serve.{served_by, served_entry}
use Rattle.mt_stands.specs.Keys.{IsKept, kept_entries, keys_of_part, lists, rules_only}
use Rattle.mt_stands.specs.Topologies.{TopologyStands}
use Rattle.mt_stands.proofs.KeyLemmas.{listed_part}
use Rattle.mt_stands.proofs.PartLemmas.{part_place}
use Rattle.mt_stands.proofs.PlaceLemmas.{distinct_dropped, holds, places_dropped}
use Rattle.mt_stands.proofs.StandLemmas.{IsFound, IsOwned}
use Rattle.mt_stands.proofs.WriteLemmas.{cuts_written, distinct_written, keyspaces_written, places_written, values_written}

keyed : (u : TopologyState) (key : EntryKey) → key_of (value_of u key) ≡ key
keyed u (about.Rule key) = refl
keyed u (about.Denied keyspace table) = refl
keyed u (about.Present keyspace table) = refl

-- as if no workflow were live, what has a place holds something
pub held_by : (p : Plain) → ((key : RuleKey) → has_place p.topology (about.Rule key) ≡ is_some (rule_at p.topology.rules key))
    → ((keyspace table : List ℕ) → has_place p.topology (about.Present keyspace table) ≡ is_present p.topology.keyspaces keyspace table)
    → ((keyspace table : List ℕ) → has_place p.topology (about.Denied keyspace table) ≡ false)
    → ((keyspace table : List ℕ) → is_denied p.topology.keyspaces keyspace table ≡ false) → (key : EntryKey) → has_place p.topology key ≡ holds (value_of p.topology key)
held_by p rules tables denials allowed (about.Rule key) = rules key
held_by p rules tables denials allowed (about.Denied keyspace table) = denials keyspace table ∙ sym (allowed keyspace table)
held_by p rules tables denials allowed (about.Present keyspace table) = tables keyspace table

-- ---- a workflow less

pub gone : (name : List ℕ) (ws : List Live) → find (λ w. same_text w.name name) (without_live name ws) ≡ None
gone name [] = refl
gone name (w ∷ ws) = by (gone name ws) (same_text w.name name) refl
  where
    by : find (λ v. same_text v.name name) (without_live name ws) ≡ None → (b : Bool) → same_text w.name name ≡ b
        → find (λ v. same_text v.name name) (cond (not (same_text w.name name)) (w ∷ without_live name ws) (without_live name ws)) ≡ None
    by again true b = ap (λ x. find (λ v. same_text v.name name) (cond (not x) (w ∷ without_live name ws) (without_live name ws))) b ∙ again
    by again false b =
        ap (λ x. find (λ v. same_text v.name name) (cond (not x) (w ∷ without_live name ws) (without_live name ws))) b
        ∙ ap (λ x. cond x (Some w) (find (λ v. same_text v.name name) (without_live name ws))) b ∙ again

module _ (p q : Plain) (name : List ℕ) (w : Live) (live : live_at p name ≡ Some w) (lives : q.lives ≡ without_live name p.lives)
    (named : w.name ≡ name) (owned : IsOwned p) (found : IsFound p) (owned_next : IsOwned q) (found_next : IsFound q)
    (elsewhere : (other : List ℕ) → (name ≢ other) → live_at q other ≡ live_at p other) where
  pub none_named : live_at q name ≡ None
  none_named = ap (find (λ v. same_text v.name name)) lives ∙ gone name p.lives

  -- who owns an entry now, owned it before, and has another name
  pub was_owner : (key : EntryKey) (v : Live) → part_owner q key ≡ Some v → part_owner p key ≡ Some v
  was_owner key v owns =
      let (part, at) = found_next key v owns in
      owned v.name v (sym (elsewhere v.name (λ e. by (live_at q name) none_named (ap (live_at q) e ∙ at))) ∙ at) key part
    where
      by : (o : Option Live) → o ≡ None → o ≡ Some v → ⊥
      by None none some = absurd cc
      by (Some x) none some = absurd cc

  pub not_owned : (key : EntryKey) → has_part w key ≡ true → part_owner q key ≡ None
  not_owned key part = by (part_owner q key) refl
    where
      by : (o : Option Live) → part_owner q key ≡ o → part_owner q key ≡ None
      by None is = is
      by (Some v) is =
          let both : Some v ≡ Some w = sym (was_owner key v is) ∙ owned name w live key part in
          let same : v ≡ w = cc in
          let at : live_at q name ≡ Some v = ap (live_at q) (sym (ap (λ x. x.name) same ∙ named)) ∙ (found_next key v is).1 in
          let wrong : None ≡ Some v = sym none_named ∙ at in
          absurd cc

  pub owned_still : (key : EntryKey) → has_part w key ≡ false → part_owner q key ≡ part_owner p key
  owned_still key other = by (part_owner p key) refl (part_owner q key) refl
    where
      by : (o : Option Live) → part_owner p key ≡ o → (r : Option Live) → part_owner q key ≡ r → part_owner q key ≡ part_owner p key
      by None is None now = now ∙ sym is
      by None is (Some v) now = now ∙ sym (was_owner key v now)
      by (Some v) is r now =
          let (part, at) = found key v is in
          owned_next v.name v (elsewhere v.name (λ e. apart part at e) ∙ at) key part ∙ sym is
        where
          apart : has_part v key ≡ true → live_at p v.name ≡ Some v → name ≡ v.name → ⊥
          apart part at e =
              let both : Some w ≡ Some v = sym live ∙ ap (live_at p) e ∙ at in
              let same : w ≡ v = cc in
              true≢false (sym part ∙ ap (λ x. has_part x key) (sym same) ∙ other)

-- ---- the topology

module _ (p q : Plain) (t : TopologyState) (w : Live) (kept : Rules) (same : q.topology ≡ p.topology) (stands : TopologyStands p t) (is_kept : IsKept p.topology w kept)
    (owned : (key : EntryKey) → has_part w key ≡ true → part_owner p key ≡ Some w)
    (not_owned : (key : EntryKey) → has_part w key ≡ true → part_owner q key ≡ None)
    (owned_still : (key : EntryKey) → has_part w key ≡ false → part_owner q key ≡ part_owner p key)
    (held : (key : EntryKey) → has_place p.topology key ≡ holds (value_of p.topology key)) where
  abbrev written : TopologyState
  written = with_entries t (kept_entries kept w)

  distinct : HasDistinctPlaces written
  distinct = distinct_written t (kept_entries kept w) stands.served.places

  said : (key : EntryKey) → value_of written key ≡ cond (has_part w key) (value_of p.topology key) (served_entry p key)
  said key =
      values_written (value_of (rules_only kept)) (keyed (rules_only kept)) t (keys_of_part w) key (λ k is. part_place p t w stands owned k (sym (listed_part w k) ∙ is))
      ∙ ap (λ b. cond b (value_of (rules_only kept) key) (value_of t key)) (listed_part w key)
      ∙ by (has_part w key) refl
    where
      by : (b : Bool) → has_part w key ≡ b → cond b (value_of (rules_only kept) key) (value_of t key) ≡ cond b (value_of p.topology key) (served_entry p key)
      by true b = is_kept key b
      by false b = stands.served.entries key

  values : (key : EntryKey) → value_of (without_places written (keys_of_part w)) key ≡ served_entry q key
  values key = (same-without_places written (keys_of_part w) distinct).values key ∙ said key ∙ by (has_part w key) refl
    where
      serves : Option Live → TopologyState → Entry
      serves o u = option_map_or (λ v. served_by u v key) o (value_of u key)

      by : (b : Bool) → has_part w key ≡ b → cond b (value_of p.topology key) (served_entry p key) ≡ served_entry q key
      by true b = sym (ap (λ o. serves o q.topology) (not_owned key b) ∙ ap (λ u. value_of u key) same)
      by false b = sym (ap (λ o. serves o q.topology) (owned_still key b) ∙ ap (serves (part_owner p key)) same)

  places : (key : EntryKey) → has_place (without_places written (keys_of_part w)) key ≡ (is_some (part_owner q key) || has_place q.topology key)
  places key =
      places_dropped written (keys_of_part w) key distinct
      ∙ ap (λ x. x && (not (lists (keys_of_part w) key) || holds (value_of written key))) (places_written t (kept_entries kept w) key)
      ∙ ap (λ x. has_place t key && (not x || holds (value_of written key))) (listed_part w key)
      ∙ by (has_part w key) refl
    where
      by : (b : Bool) → has_part w key ≡ b → (has_place t key && (not b || holds (value_of written key))) ≡ (is_some (part_owner q key) || has_place q.topology key)
      by true b =
          ap (λ x. x && holds (value_of written key)) (part_place p t w stands owned key b)
          ∙ ap holds (said key ∙ ap (λ x. cond x (value_of p.topology key) (served_entry p key)) b)
          ∙ sym (held key)
          ∙ sym (ap (λ (o : Option Live). is_some o || has_place q.topology key) (not_owned key b) ∙ ap (λ u. has_place u key) same)
      by false b =
          and-true (has_place t key) ∙ stands.places key
          ∙ sym (ap (λ (o : Option Live). is_some o || has_place q.topology key) (owned_still key b) ∙ ap (λ u. is_some (part_owner p key) || has_place u key) same)

  pub cancel_stands : TopologyStands q (without_places (with_entries t (kept_entries kept w)) (keys_of_part w))
  cancel_stands = record {
    served = record {
      keyspaces = λ n.
          (same-without_places written (keys_of_part w) distinct).keyspaces n ∙ keyspaces_written t (kept_entries kept w) n ∙ stands.served.keyspaces n
          ∙ sym (ap (λ (u : TopologyState). is_some (keyspace_at u.keyspaces n)) same);
      shards = λ n.
          (same-without_places written (keys_of_part w) distinct).shards n ∙ cuts_written t (kept_entries kept w) n ∙ stands.served.shards n
          ∙ sym (ap (λ (u : TopologyState). cuts_at u.keyspaces n) same);
      entries = values;
      places = distinct_dropped written (keys_of_part w) distinct;
    };
    places = places;
  }
