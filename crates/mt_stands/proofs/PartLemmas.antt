-- What a part serves, and what is written there step by step.
use Rattle.std.proofs.Common.{◌≡◌, ℕ, Bool, true, false, cond, eqb, ◌&&◌, List, Option, None, Some, is_some, refl, sym, ap, ◌∙◌}
use Rattle.std.proofs.lemmas.Bool.{and_parts}
use Rattle.std.specs.Option.{option_map_or}
use Rattle.std.specs.Prelude.{◌||◌}
use Rattle.mt_names.specs.declared.keys.RuleKey.{RuleKey}
use Rattle.mt_names.specs.declared.types.TabletType.{TabletType}
use Rattle.mt_names.specs.declared.types.TabletType.TheVariants.{Primary, Replica, Rdonly}
use Rattle.mt_names.specs.declared.types.TypeSet.{TypeSet}
use Rattle.mt_model.specs.declared.entries.Entry.TheVariants as entry
use Rattle.mt_model.specs.declared.entries.EntryKey.{EntryKey}
use Rattle.mt_model.specs.declared.entries.EntryKey.TheVariants as about
use Rattle.mt_model.specs.Part.{with_entries}
use Rattle.mt_model.specs.Topology.{Rules, TopologyState, has_place, key_of, rule_at, value_of}
use Rattle.mt_plain.specs.Plain.{Live, Plain, has_part, part_owner}
use Rattle.mt_plain.specs.Serve.{serve, serve_plain, serve_rule, served_by, served_entry, step_of_entry}
use Rattle.mt_stands.specs.Keys.{IsKept, keys_of_part, lists, rules_only, step_entries, step_keys}
use Rattle.mt_stands.specs.Topologies.{TopologyStands}
use Rattle.mt_stands.proofs.KeyLemmas.{listed_part, listed_some}
use Rattle.mt_stands.proofs.WriteLemmas.{values_written}

-- ---- what a part serves

pub keyed : (u : TopologyState) (w : Live) (types : TypeSet) (key : EntryKey) → key_of (serve u w types key) ≡ key
keyed u w types (about.Rule key) = refl
keyed u w types (about.Denied keyspace table) = refl
keyed u w types (about.Present keyspace table) = refl

serve_rule-same : (u v : TopologyState) (w : Live) (types : TypeSet) (key : RuleKey) (type : Option TabletType) → rule_at v.rules key ≡ rule_at u.rules key → serve_rule v w types key type ≡ serve_rule u w types key type
serve_rule-same u v w types key None same = by key.keyspace
  where
    by : (o : Option (List ℕ)) → serve_plain v w types key o ≡ serve_plain u w types key o
    by None = refl
    by (Some keyspace) = rw same refl
serve_rule-same u v w types key (Some Primary) same = refl
serve_rule-same u v w types key (Some Replica) same = refl
serve_rule-same u v w types key (Some Rdonly) same = refl

-- it looks no further than at the entry itself
pub serve_same : (u v : TopologyState) (w : Live) (types : TypeSet) (key : EntryKey) → value_of v key ≡ value_of u key → serve v w types key ≡ serve u w types key
serve_same u v w types (about.Rule key) same = ap (entry.Rule key) (serve_rule-same u v w types key key.tablet_type (let h : rule_at v.rules key ≡ rule_at u.rules key = cc in h))
serve_same u v w types (about.Denied keyspace table) same = refl
serve_same u v w types (about.Present keyspace table) same = refl

-- ---- a part that a topology serves

module _ (p : Plain) (t : TopologyState) (w : Live) (stands : TopologyStands p t) (owned : (key : EntryKey) → has_part w key ≡ true → part_owner p key ≡ Some w) where
  pub part_place : (key : EntryKey) → has_part w key ≡ true → has_place t key ≡ true
  part_place key is = stands.places key ∙ ap (λ (o : Option Live). is_some o || has_place p.topology key) (owned key is)

  pub part_entry : (key : EntryKey) → has_part w key ≡ true → served_entry p key ≡ served_by p.topology w key
  part_entry key is = ap (λ o. option_map_or (λ v. served_by p.topology v key) o (value_of p.topology key)) (owned key is)

  -- the entries of a step
  pub step_written : (kept : Rules) → IsKept p.topology w kept → (types : TypeSet) (n : ℕ) (key : EntryKey)
      → value_of (with_entries t (step_entries kept w types n)) key ≡ cond (has_part w key) (cond (eqb n (step_of_entry w key)) (serve p.topology w types key) (served_by p.topology w key)) (served_entry p key)
  step_written kept is_kept types n key =
      values_written (serve (rules_only kept) w types) (keyed (rules_only kept) w types) t (step_keys w n) key placed
      ∙ ap (λ b. cond b (serve (rules_only kept) w types key) (value_of t key)) (listed_some (λ k. eqb n (step_of_entry w k)) (keys_of_part w) key)
      ∙ ap (λ b. cond (b && eqb n (step_of_entry w key)) (serve (rules_only kept) w types key) (value_of t key)) (listed_part w key)
      ∙ by (has_part w key) refl (eqb n (step_of_entry w key))
    where
      placed : (k : EntryKey) → lists (step_keys w n) k ≡ true → has_place t k ≡ true
      placed k is =
          let there : (lists (keys_of_part w) k && eqb n (step_of_entry w k)) ≡ true = sym (listed_some (λ k. eqb n (step_of_entry w k)) (keys_of_part w) k) ∙ is in
          part_place k (sym (listed_part w k) ∙ (and_parts (lists (keys_of_part w) k) (eqb n (step_of_entry w k)) there).0)

      by : (h : Bool) → has_part w key ≡ h → (s : Bool) → cond (h && s) (serve (rules_only kept) w types key) (value_of t key)
          ≡ cond h (cond s (serve p.topology w types key) (served_by p.topology w key)) (served_entry p key)
      by true h true = serve_same p.topology (rules_only kept) w types key (is_kept key h)
      by true h false = stands.served.entries key ∙ part_entry key h
      by false h s = stands.served.entries key
