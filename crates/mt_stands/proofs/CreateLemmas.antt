-- Create: places for the part of a new workflow, and its entries.
use Rattle.std.proofs.Common.{◌≡◌, ℕ, zero, suc, ◌<◌, Bool, true, false, cond, ◌||◌, List, [], ◌∷◌, ◌++◌, find, map, length, slice_index_or, Option, None, Some, is_some, refl, sym, ap, ◌∙◌, arith}
use Rattle.std.proofs.lemmas.Bool.{true≢false, and_parts}
use Rattle.std.proofs.lemmas.List.Folds.{find-append}
use Rattle.std.specs.Map.{lookup}
use Rattle.std.specs.Option.{option_map_or, option_or}
use Rattle.std.specs.Prelude.{unwrap_or}
use Rattle.mt_names.specs.declared.keys.RuleKey.{RuleKey}
use Rattle.mt_names.specs.declared.keys.RuleTarget.{RuleTarget}
use Rattle.mt_names.specs.Names.{same_text}
use Rattle.mt_names.specs.Same.{same_key}
use Rattle.mt_names.specs.Types.{no_types}
use Rattle.mt_names.proofs.SameLemmas.{same_key_decides, same_text_decides}
use Rattle.mt_model.specs.declared.entries.Entry.TheVariants as entry
use Rattle.mt_model.specs.declared.entries.EntryKey.{EntryKey}
use Rattle.mt_model.specs.declared.entries.EntryKey.TheVariants as about
use Rattle.mt_model.specs.Part.{with_entries, with_places}
use Rattle.mt_model.specs.Topology.{Rules, TopologyState, has_place, is_denied, is_present, keyspace_at, rule_at, value_of}
use Rattle.mt_model.proofs.PartLemmas.{part_places}
use Rattle.mt_model.proofs.PlaceLemmas.{same-with_places}
use Rattle.mt_plain.specs.Events.{Way}
use Rattle.mt_plain.specs.Plain.{Live, Plain, has_part, live_at, moves, part_owner, rule_keys, stands_done}
use Rattle.mt_plain.specs.Serve.{serve, served_by, served_entry, step_of_entry, types_by}
use Rattle.mt_laws.specs.Reached.{IsInPlace}
use Rattle.mt_stands.specs.Keys.{IsKept, kept_of, keys_of_part, lists, part_entries, rules_only}
use Rattle.mt_stands.specs.Topologies.{TopologyStands}
use Rattle.mt_workflow.proofs.MemberLemmas.{rule_in_part}
use Rattle.mt_stands.proofs.KeyLemmas.{from_listed, listed_part}
use Rattle.mt_stands.proofs.PartLemmas.{keyed, serve_same}
use Rattle.mt_stands.proofs.PlaceLemmas.{distinct_placed, places_elsewhere}
use Rattle.mt_stands.proofs.StandLemmas.{IsFound, IsOwned}
use Rattle.mt_stands.proofs.WriteLemmas.{cuts_written, distinct_written, keyspaces_written, places_written, values_written}

-- ---- what is kept

kept_there : (f : RuleKey → Option RuleTarget) (keys : List RuleKey) (key : RuleKey) (i : ℕ) → i < length keys → slice_index_or keys i key ≡ key
    → lookup (same_key key) (map (λ k. (k, f k)) keys) ≡ Some (f key)
kept_there f [] key i below is = absurd (omega (arith, below))
kept_there f (k ∷ keys) key i below is = by (kept_there f keys key) (same_key key k) refl i below is
  where
    by : ((i : ℕ) → i < length keys → slice_index_or keys i key ≡ key → lookup (same_key key) (map (λ j. (j, f j)) keys) ≡ Some (f key)) → (b : Bool) → same_key key k ≡ b → (i : ℕ) → i < length (k ∷ keys) → slice_index_or (k ∷ keys) i key ≡ key → cond (same_key key k) (Some (f k)) (lookup (same_key key) (map (λ j. (j, f j)) keys)) ≡ Some (f key)
    by again true b i below is = ap (λ x. cond x (Some (f k)) (lookup (same_key key) (map (λ j. (j, f j)) keys))) b ∙ ap (λ x. Some (f x)) (sym ((same_key_decides key k).0 b))
    by again false b zero below is = absurd (true≢false (sym ((same_key_decides key k).1 (sym is)) ∙ b))
    by again false b (suc i) below is =
        ap (λ x. cond x (Some (f k)) (lookup (same_key key) (map (λ j. (j, f j)) keys))) b ∙ again i (omega (arith, below)) is

pub kept_rule : (rules : Rules) (w : Live) (key : RuleKey) → has_part w (about.Rule key) ≡ true → rule_at (kept_of rules w) key ≡ rule_at rules key
kept_rule rules w key part =
    let there = rule_in_part w key part in
    ap (λ o. unwrap_or o None) (kept_there (rule_at rules) (rule_keys w) key there.0 there.1 there.2)

-- ---- a workflow more

find_more : {A : Type 0} (test : A → Bool) (xs : List A) (x : A) (o : Option A) → find test xs ≡ o → find test (xs ++ x ∷ []) ≡ option_or o (cond (test x) (Some x) None)
find_more test xs x o is = find-append test xs (x ∷ []) ∙ ap (λ r. option_or r (cond (test x) (Some x) None)) is

module _ (p : Plain) (w : Live) where
  abbrev pub with_one : Plain
  with_one = record p { lives = p.lives ++ w ∷ [] }

  pub live_next : live_at p w.name ≡ None → live_at with_one w.name ≡ Some w
  live_next fresh =
      find_more (λ v. same_text v.name w.name) p.lives w None fresh
      ∙ ap (λ b. option_or None (cond b (Some w) None)) ((same_text_decides w.name w.name).1 refl)

  module _ (t : TopologyState) (fresh : live_at p w.name ≡ None) (found : IsFound p) (owned_next : IsOwned with_one)
      (in_place : IsInPlace p.topology w) (allowed : (keyspace table : List ℕ) → is_denied p.topology.keyspaces keyspace table ≡ false)
      (rests : w.way ≡ None) (none : w.switched ≡ no_types) (stands : TopologyStands p t) where
    -- no other workflow has an entry of its part
    pub free : (key : EntryKey) → has_part w key ≡ true → part_owner p key ≡ None
    free key part = by (part_owner p key) refl
      where
        by : (o : Option Live) → part_owner p key ≡ o → part_owner p key ≡ None
        by None is = is
        by (Some v) is =
            let both : Some v ≡ Some w = sym (find_more (λ x. has_part x key) p.lives w (Some v) is) ∙ owned_next w.name w (live_next fresh) key part in
            let same : v ≡ w = cc in
            let at : live_at p w.name ≡ Some v = ap (λ x. live_at p x.name) (sym same) ∙ (found key v is).1 in
            let wrong : None ≡ Some v = sym fresh ∙ at in
            absurd cc

    owner_next : (key : EntryKey) → part_owner with_one key ≡ cond (has_part w key) (Some w) (part_owner p key)
    owner_next key = by (has_part w key) refl (part_owner p key) refl
      where
        by : (b : Bool) → has_part w key ≡ b → (o : Option Live) → part_owner p key ≡ o → part_owner with_one key ≡ cond b (Some w) (part_owner p key)
        by true b o is = owned_next w.name w (live_next fresh) key b
        by false b None is =
            find_more (λ x. has_part x key) p.lives w None is ∙ ap (λ x. option_or None (cond x (Some w) None)) b ∙ sym is
        by false b (Some v) is = find_more (λ x. has_part x key) p.lives w (Some v) is ∙ sym is

    abbrev kept : Rules
    kept = kept_of t.rules w

    pub is_kept : IsKept p.topology w (kept_of t.rules w)
    is_kept (about.Rule key) part =
        ap (entry.Rule key) (kept_rule t.rules w key part) ∙ stands.served.entries (about.Rule key)
        ∙ ap (λ o. option_map_or (λ v. served_by p.topology v (about.Rule key)) o (value_of p.topology (about.Rule key))) (free (about.Rule key) part)
    is_kept (about.Denied keyspace table) part = ap (entry.Denied keyspace table) (sym (allowed keyspace table))
    is_kept (about.Present keyspace table) part =
        let (moved, at) = and_parts (moves w table) (same_text w.target keyspace) part in
        let is : w.target ≡ keyspace = (same_text_decides w.target keyspace).0 at in
        ap (entry.Present keyspace table) (sym (ap (λ k. is_present p.topology.keyspaces k table) (sym is) ∙ in_place.at_target table moved))

    -- the new places
    side_there : (side : List ℕ) → is_some (keyspace_at p.topology.keyspaces side) ≡ true → is_some (keyspace_at t.keyspaces side) ≡ true
    side_there side there = stands.served.keyspaces side ∙ there

    placed : (key : EntryKey) → lists (keys_of_part w) key ≡ true → has_place (with_places t (keys_of_part w)) key ≡ true
    placed key =
        from_listed (λ k. has_place (with_places t (keys_of_part w)) k ≡ true) (keys_of_part w) key
        (part_places t w.source w.target w.tables (side_there w.source in_place.sides.source) (side_there w.target in_place.sides.target))

    -- the values
    types : (n : ℕ) → types_by w n ≡ no_types
    types n = ap (λ (o : Option Way). option_map_or (λ way. cond (stands_done way n) way.after way.before) o w.switched) rests ∙ none

    values : (key : EntryKey) → value_of (with_entries (with_places t (keys_of_part w)) (part_entries (kept_of t.rules w) w no_types)) key ≡ served_entry with_one key
    values key =
        values_written (serve (rules_only kept) w no_types) (keyed (rules_only kept) w no_types) (with_places t (keys_of_part w)) (keys_of_part w) key placed
        ∙ ap (λ b. cond b (serve (rules_only kept) w no_types key) (value_of (with_places t (keys_of_part w)) key)) (listed_part w key)
        ∙ by (has_part w key) refl
        ∙ sym (ap (λ o. option_map_or (λ v. served_by p.topology v key) o (value_of p.topology key)) (owner_next key))
      where
        by : (b : Bool) → has_part w key ≡ b → cond b (serve (rules_only kept) w no_types key) (value_of (with_places t (keys_of_part w)) key)
            ≡ option_map_or (λ v. served_by p.topology v key) (cond (has_part w key) (Some w) (part_owner p key)) (value_of p.topology key)
        by true b =
            serve_same p.topology (rules_only kept) w no_types key (is_kept key b)
            ∙ ap (λ s. serve p.topology w s key) (sym (types (step_of_entry w key)))
            ∙ sym (ap (λ x. option_map_or (λ v. served_by p.topology v key) (cond x (Some w) (part_owner p key)) (value_of p.topology key)) b)
        by false b =
            (same-with_places t (keys_of_part w)).values key ∙ stands.served.entries key
            ∙ sym (ap (λ x. option_map_or (λ v. served_by p.topology v key) (cond x (Some w) (part_owner p key)) (value_of p.topology key)) b)

    places : (key : EntryKey) → has_place (with_places t (keys_of_part w)) key ≡ (is_some (part_owner with_one key) || has_place p.topology key)
    places key = by (has_part w key) refl ∙ sym (ap (λ o. is_some o || has_place p.topology key) (owner_next key))
      where
        by : (b : Bool) → has_part w key ≡ b → has_place (with_places t (keys_of_part w)) key ≡ (is_some (cond (has_part w key) (Some w) (part_owner p key)) || has_place p.topology key)
        by true b = placed key (listed_part w key ∙ b) ∙ sym (ap (λ x. is_some (cond x (Some w) (part_owner p key)) || has_place p.topology key) b)
        by false b =
            places_elsewhere t (keys_of_part w) key (listed_part w key ∙ b) ∙ stands.places key
            ∙ sym (ap (λ x. is_some (cond x (Some w) (part_owner p key)) || has_place p.topology key) b)

    pub create_stands : TopologyStands with_one (with_entries (with_places t (keys_of_part w)) (part_entries (kept_of t.rules w) w no_types))
    create_stands = record {
      served = record {
        keyspaces = λ name. keyspaces_written (with_places t (keys_of_part w)) (part_entries kept w no_types) name ∙ (same-with_places t (keys_of_part w)).keyspaces name ∙ stands.served.keyspaces name;
        shards = λ name. cuts_written (with_places t (keys_of_part w)) (part_entries kept w no_types) name ∙ (same-with_places t (keys_of_part w)).shards name ∙ stands.served.shards name;
        entries = values;
        places = distinct_written (with_places t (keys_of_part w)) (part_entries kept w no_types) (distinct_placed t (keys_of_part w) stands.served.places);
      };
      places = λ key. places_written (with_places t (keys_of_part w)) (part_entries kept w no_types) key ∙ places key;
    }
