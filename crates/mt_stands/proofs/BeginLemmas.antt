-- A begin changes no entry.
use Rattle.std.proofs.Common.{◌≡◌, ℕ, Bool, true, false, cond, List, Option, None, Some, is_some, refl, sym, ap, ◌∙◌}
use Rattle.mt_laws.proofs.StepUndoneLemmas.{nothing_done}
use Rattle.std.specs.Option.{option_map_or}
use Rattle.mt_names.proofs.EntryLemmas.{none_from}
use Rattle.mt_names.specs.declared.types.TabletType.{TabletType}
use Rattle.mt_names.specs.declared.types.TabletType.TheVariants.{Primary, Replica, Rdonly}
use Rattle.mt_names.specs.Names.{same_text}
use Rattle.mt_names.specs.Shards.{shard_count}
use Rattle.mt_names.specs.declared.types.TypeSet.{TypeSet}
use Rattle.mt_model.specs.declared.entries.Entry.TheVariants as entry
use Rattle.mt_model.specs.declared.entries.EntryKey.{EntryKey}
use Rattle.mt_model.specs.declared.entries.EntryKey.TheVariants as about
use Rattle.mt_model.specs.Topology.{TopologyState, value_of}
use Rattle.mt_plain.specs.Events.{Refusal, under_way, Way}
use Rattle.mt_plain.specs.Next.{with_way_to}
use Rattle.mt_plain.specs.Plain.{Live, Plain, allow_target, deny_source, has_part, owner_by, part_owner, stands_done}
use Rattle.mt_plain.specs.Refuse.{at_rest, in_workflow, or_else, refuse_if}
use Rattle.mt_plain.specs.Serve.{serve, serve_plain, serve_rule, served_by, served_entry, step_of_entry, types_by}
use Rattle.mt_stands.specs.Topologies.{TopologyStands}
use Rattle.mt_stands.proofs.PartLemmas.{part_entry}
use Rattle.mt_laws.proofs.RefusalLemmas.{in_workflow-none, or_else-none, refuse_if-none}

-- ---- what stands where an event is not refused

pub at_rest-none : (w : Live) (o : Option Refusal) → at_rest w o ≡ None → w.way ≡ None
at_rest-none w o e = none_from w.way (refuse_if-none (is_some w.way) under_way (or_else-none (refuse_if (is_some w.way) under_way) o e).0)

-- ---- a way with no step done

pub serve_turned : (u : TopologyState) (w v : Live) (types : TypeSet) (key : EntryKey) → w.source ≡ v.source → w.target ≡ v.target → serve u w types key ≡ serve u v types key
serve_turned u w v types (about.Rule key) s t = ap (entry.Rule key) (by key.tablet_type)
  where
    plain : (o : Option (List ℕ)) → serve_plain u w types key o ≡ serve_plain u v types key o
    plain None = rw (s, t) refl
    plain (Some keyspace) = rw (s, t) refl

    by : (o : Option TabletType) → serve_rule u w types key o ≡ serve_rule u v types key o
    by None = plain key.keyspace
    by (Some Primary) = refl
    by (Some Replica) = rw (s, t) refl
    by (Some Rdonly) = rw (s, t) refl
serve_turned u w v types (about.Denied keyspace table) s t = rw s refl
serve_turned u w v types (about.Present keyspace table) s t = refl

module _ (u : TopologyState) (w : Live) (back : Bool) (change : TypeSet → TypeSet) (rests : w.way ≡ None) where
  abbrev fresh : Way
  fresh = record { back = back; shards = shard_count w.cuts; before = w.switched; after = change w.switched; done = 0; undoing = false }

  types_stay : (n : ℕ) → types_by (with_way_to back change w) n ≡ types_by w n
  types_stay n =
      ap (λ b. cond b (change w.switched) w.switched) (nothing_done fresh n refl)
      ∙ sym (ap (λ (o : Option Way). option_map_or (λ way. cond (stands_done way n) way.after way.before) o w.switched) rests)

  step_stays : (key : EntryKey) → step_of_entry (with_way_to back change w) key ≡ step_of_entry w key
  step_stays (about.Rule key) = refl
  step_stays (about.Denied keyspace table) =
      sym (ap (λ (o : Option Way). cond (same_text (owner_by w (option_map_or (λ way. way.before) o w.switched)) keyspace) deny_source allow_target) rests)
  step_stays (about.Present keyspace table) = refl

  pub begun_serves : (key : EntryKey) → served_by u (with_way_to back change w) key ≡ served_by u w key
  begun_serves key =
      serve_turned u (with_way_to back change w) w (types_by (with_way_to back change w) (step_of_entry (with_way_to back change w) key)) key refl refl
      ∙ ap (λ types. serve u w types key) (types_stay (step_of_entry (with_way_to back change w) key) ∙ ap (types_by w) (step_stays key))

-- ---- a topology that stands

module _ (p q : Plain) (t : TopologyState) (w : Live) (back : Bool) (change : TypeSet → TypeSet) (rests : w.way ≡ None) (stands : TopologyStands p t)
    (owned : (key : EntryKey) → has_part w key ≡ true → part_owner p key ≡ Some w) where
  pub begun_entry : (key : EntryKey) → served_entry q key ≡ cond (has_part w key) (served_by p.topology (with_way_to back change w) key) (served_entry p key) → value_of t key ≡ served_entry q key
  begun_entry key law = stands.served.entries key ∙ by (has_part w key) refl ∙ sym law
    where
      by : (h : Bool) → has_part w key ≡ h → served_entry p key ≡ cond h (served_by p.topology (with_way_to back change w) key) (served_entry p key)
      by true h = part_entry p t w stands owned key h ∙ sym (begun_serves p.topology w back change rests key)
      by false h = refl
