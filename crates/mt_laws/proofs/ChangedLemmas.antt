-- A live workflow that changes, and keeps its name, sides and tables: what is served and refused changes in its own part alone.
use Rattle.std.proofs.Common.{◌≡◌, Bool, true, false, cond, ℕ, List, find, Option, None, Some, option_map, refl, sym, ap, ◌∙◌}
use Rattle.std.proofs.lemmas.Bool.{true≢false}
use Rattle.std.specs.List.{list_any}
use Rattle.std.specs.Option.{option_map_or}
use Rattle.mt_names.specs.Names.{same_text}
use Rattle.mt_model.specs.declared.entries.EntryKey.{EntryKey}
use Rattle.mt_model.specs.Topology.{value_of}
use Rattle.mt_plain.specs.Answers.{Answers}
use Rattle.mt_plain.specs.Events.{step, undo, done, Way}
use Rattle.mt_plain.specs.Next.{change_live, live_stepped, live_undone, next, on_way_of}
use Rattle.mt_plain.specs.Plain.{Live, Plain, has_part, live_at, mover, moves, part_owner}
use Rattle.mt_plain.specs.Refuse.{in_workflow, undo_refusal}
use Rattle.mt_plain.specs.Serve.{refuses, refuses_by, served_by, served_entry}
use Rattle.mt_laws.specs.Changes.{HasSides}
use Rattle.mt_laws.specs.Effects.{entry_stepped, entry_undone, list_stepped, list_undone}
use Rattle.mt_laws.specs.WayBack.{IsReached}
use Rattle.mt_laws.proofs.AllWritesLemmas.{found}
use Rattle.mt_laws.proofs.ChangeLemmas.{sides-live_stepped, sides-on_way, sides-undone}
use Rattle.mt_laws.proofs.EffectLemmas.{refused-stepped, refused-undone, served-stepped, served-undone}
use Rattle.mt_laws.proofs.LiveLemmas.{IsIn, changed, find-map, find_some, sides_changed}
use Rattle.mt_laws.proofs.PartLemmas.{HasParts}
use Rattle.mt_laws.proofs.ReachLemmas.{live_by_name, reached_has_parts}
use Rattle.mt_laws.proofs.WayBackLemmas.{has_part-same, owner_of_part}
use Rattle.mt_laws.proofs.WayLemmas.{undo_before_journal}

module _ (p : Plain) (reached : IsReached p) (name : List ℕ) (w : Live) (live : live_at p name ≡ Some w) (f : Live → Live) (keeps : (v : Live) → HasSides v (f v)) where
  has : HasParts p
  has = reached_has_parts p reached

  in_w : IsIn w p.lives × (same_text w.name name ≡ true)
  in_w = find_some (λ v. same_text v.name name) p.lives w live

  here : changed f name w ≡ f w
  here = ap (λ t. cond t (f w) w) in_w.1

  -- another one stays
  elsewhere : (x : Live) → IsIn x p.lives → (test : Live → Bool) → test x ≡ true → test w ≡ false → changed f name x ≡ x
  elsewhere x is test passes fails = by (same_text x.name name) refl
    where
      by : (t : Bool) → same_text x.name name ≡ t → changed f name x ≡ x
      by false t = ap (λ b. cond b (f x) x) t
      by true t =
          let same : Some x ≡ Some w = sym (live_by_name p has.apart x is name t) ∙ live in
          let one : x ≡ w = cc in
          absurd (true≢false (sym passes ∙ ap test one ∙ fails))

  abbrev q : Plain
  q = change_live p name f

  -- the one that passes a test, before and behind the change
  finds : (test : Live → Bool) → ((v : Live) → test (changed f name v) ≡ test v) → find test q.lives ≡ option_map (changed f name) (find test p.lives)
  finds test same = find-map test (changed f name) p.lives same

  pub served-changed : (key : EntryKey) → served_entry q key ≡ cond (has_part w key) (served_by p.topology (f w) key) (served_entry p key)
  served-changed key =
      ap (λ o. option_map_or (λ v. served_by p.topology v key) o (value_of p.topology key))
      (finds (λ v. has_part v key) (λ v. sym (has_part-same v (changed f name v) (sides_changed f name v (keeps v)) key)))
      ∙ by (has_part w key) refl (part_owner p key) refl
    where
      by : (t : Bool) → has_part w key ≡ t → (o : Option Live) → part_owner p key ≡ o
          → option_map_or (λ v. served_by p.topology v key) (option_map (changed f name) (part_owner p key)) (value_of p.topology key)
          ≡ cond (has_part w key) (served_by p.topology (f w) key) (served_entry p key)
      by true t o is =
          ap (λ x. option_map_or (λ v. served_by p.topology v key) (option_map (changed f name) x) (value_of p.topology key)) (owner_of_part p name w key has live t)
          ∙ ap (λ v. served_by p.topology v key) here
          ∙ sym (ap (λ b. cond b (served_by p.topology (f w) key) (served_entry p key)) t)
      by false t None is =
          ap (λ x. option_map_or (λ v. served_by p.topology v key) (option_map (changed f name) x) (value_of p.topology key)) is
          ∙ sym (ap (λ b. cond b (served_by p.topology (f w) key) (served_entry p key)) t ∙ ap (λ x. option_map_or (λ v. served_by p.topology v key) x (value_of p.topology key)) is)
      by false t (Some x) is =
          let r = find_some (λ v. has_part v key) p.lives x is in
          ap (λ y. option_map_or (λ v. served_by p.topology v key) (option_map (changed f name) y) (value_of p.topology key)) is
          ∙ ap (λ v. served_by p.topology v key) (elsewhere x r.0 (λ v. has_part v key) r.1 t)
          ∙ sym (ap (λ b. cond b (served_by p.topology (f w) key) (served_entry p key)) t ∙ ap (λ y. option_map_or (λ v. served_by p.topology v key) y (value_of p.topology key)) is)

  pub refuses-changed : (keyspace : List ℕ) (shard : ℕ) (table : List ℕ) → refuses q keyspace shard table ≡ cond (moves w table) (refuses_by (f w) keyspace shard) (refuses p keyspace shard table)
  refuses-changed keyspace shard table =
      ap (λ o. option_map_or (λ v. refuses_by v keyspace shard) o false)
      (finds (λ v. moves v table) (λ v. ap (list_any (λ t. same_text t table)) (sym (sides_changed f name v (keeps v)).tables)))
      ∙ by (moves w table) refl (mover p table) refl
    where
      by : (t : Bool) → moves w table ≡ t → (o : Option Live) → mover p table ≡ o
          → option_map_or (λ v. refuses_by v keyspace shard) (option_map (changed f name) (mover p table)) false
          ≡ cond (moves w table) (refuses_by (f w) keyspace shard) (refuses p keyspace shard table)
      by true t o is =
          ap (λ x. option_map_or (λ v. refuses_by v keyspace shard) (option_map (changed f name) x) false) (found p reached w in_w.0 table t)
          ∙ ap (λ v. refuses_by v keyspace shard) here
          ∙ sym (ap (λ b. cond b (refuses_by (f w) keyspace shard) (refuses p keyspace shard table)) t)
      by false t None is =
          ap (λ x. option_map_or (λ v. refuses_by v keyspace shard) (option_map (changed f name) x) false) is
          ∙ sym (ap (λ b. cond b (refuses_by (f w) keyspace shard) (refuses p keyspace shard table)) t ∙ ap (λ x. option_map_or (λ v. refuses_by v keyspace shard) x false) is)
      by false t (Some x) is =
          let r = find_some (λ v. moves v table) p.lives x is in
          ap (λ y. option_map_or (λ v. refuses_by v keyspace shard) (option_map (changed f name) y) false) is
          ∙ ap (λ v. refuses_by v keyspace shard) (elsewhere x r.0 (λ v. moves v table) r.1 t)
          ∙ sym (ap (λ b. cond b (refuses_by (f w) keyspace shard) (refuses p keyspace shard table)) t ∙ ap (λ y. option_map_or (λ v. refuses_by v keyspace shard) y false) is)

-- ---- a step and an undo of a whole state

module _ (p : Plain) (reached : IsReached p) (name : List ℕ) (w : Live) (way : Way) (live : live_at p name ≡ Some w) (opens : w.way ≡ Some way) (at : ℕ) where
  abbrev on_step : Live → Live
  on_step v = on_way_of (live_stepped p v) v

  abbrev on_undo : Live → Live
  on_undo v = on_way_of (live_undone v) v

  step_keeps : (v : Live) → HasSides v (on_step v)
  step_keeps v = sides-on_way v (live_stepped p v) (sides-live_stepped p v) v.way

  undo_keeps : (v : Live) → HasSides v (on_undo v)
  undo_keeps v = sides-on_way v (live_undone v) (sides-undone v) v.way

  is_stepped : on_step w ≡ live_stepped p w way
  is_stepped = ap (λ o. option_map_or (live_stepped p w) o w) opens

  is_undone : on_undo w ≡ live_undone w way
  is_undone = ap (λ o. option_map_or (live_undone w) o w) opens

  pub state-stepped : (key : EntryKey) → served_entry (next p (step name at) done) key ≡ cond (has_part w key) (entry_stepped p.topology w way key) (served_entry p key)
  state-stepped key =
      served-changed p reached name w live on_step step_keeps key
      ∙ ap (λ e. cond (has_part w key) e (served_entry p key)) (ap (λ v. served_by p.topology v key) is_stepped ∙ served-stepped p w way opens p.topology key)

  pub lists-stepped : (keyspace : List ℕ) (shard : ℕ) (table : List ℕ) → refuses (next p (step name at) done) keyspace shard table ≡ cond (moves w table) (list_stepped w way keyspace shard) (refuses p keyspace shard table)
  lists-stepped keyspace shard table =
      refuses-changed p reached name w live on_step step_keeps keyspace shard table
      ∙ ap (λ b. cond (moves w table) b (refuses p keyspace shard table)) (ap (λ v. refuses_by v keyspace shard) is_stepped ∙ refused-stepped p w way opens keyspace shard)

  module _ (given : Answers p (undo name at) done) where
    settled : w.switched ≡ way.before
    settled =
        (reached_has_parts p reached).settled w (find_some (λ v. same_text v.name name) p.lives w live).0 way opens
        (undo_before_journal at w way opens (sym (ap (λ o. in_workflow o (undo_refusal at)) live) ∙ given.0))

    pub state-undone : (key : EntryKey) → served_entry (next p (undo name at) done) key ≡ cond (has_part w key) (entry_undone p.topology w way key) (served_entry p key)
    state-undone key =
        served-changed p reached name w live on_undo undo_keeps key
        ∙ ap (λ e. cond (has_part w key) e (served_entry p key)) (ap (λ v. served_by p.topology v key) is_undone ∙ served-undone w way opens settled p.topology key)

    pub lists-undone : (keyspace : List ℕ) (shard : ℕ) (table : List ℕ) → refuses (next p (undo name at) done) keyspace shard table ≡ cond (moves w table) (list_undone w way keyspace shard) (refuses p keyspace shard table)
    lists-undone keyspace shard table =
        refuses-changed p reached name w live on_undo undo_keeps keyspace shard table
        ∙ ap (λ b. cond (moves w table) b (refuses p keyspace shard table)) (ap (λ v. refuses_by v keyspace shard) is_undone ∙ refused-undone w way opens settled keyspace shard)
