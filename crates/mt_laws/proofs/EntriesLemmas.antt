-- Events on rows and streams leave what is served.
use Rattle.std.proofs.Common.{◌≡◌, inl, inr, ℕ, true, false, List, find, Option, None, Some, option_map, refl, sym, ap, ◌∙◌, subst}
use Rattle.std.proofs.lemmas.Bool.{true≢false}
use Rattle.std.specs.Option.{option_map_or}
use Rattle.mt_names.proofs.SameLemmas.{same_text_decides}
use Rattle.mt_model.specs.declared.entries.Entry.{Entry}
use Rattle.mt_model.specs.declared.entries.EntryKey.{EntryKey}
use Rattle.mt_model.specs.declared.entries.EntryKey.TheVariants as about
use Rattle.mt_model.specs.Topology.{TopologyState, value_of}
use Rattle.mt_plain.specs.Events.{Event, write, read, advance, begin_switch, begin_reverse, step, undo, show, Answer}
use Rattle.mt_plain.specs.Next.{next}
use Rattle.mt_plain.specs.Plain.{Live, Plain, has_part, part_owner}
use Rattle.mt_plain.specs.Serve.{serve, served_by, served_entry, step_of_entry, types_by}
use Rattle.mt_laws.specs.Changes.{ChangesLives, ChangesTopology, ChangesWay, HasSides, IsOf, IsOfRows}
use Rattle.mt_laws.specs.WayBack.{IsReached, in_part}
use Rattle.mt_laws.proofs.ChangeLemmas.{LivesAfter, ended, live_next, lives_after, made, mapped, sides-next}
use Rattle.mt_laws.proofs.LiveLemmas.{IsIn, find-map, find_some}
use Rattle.mt_laws.proofs.PartLemmas.{HasParts}
use Rattle.mt_laws.proofs.ReachLemmas.{live_by_name, reached_has_parts}
use Rattle.mt_laws.proofs.TrafficLemmas.{serve-same}
use Rattle.mt_laws.proofs.UntouchedLemmas.{map-same, next_elsewhere, same_topology, same_traffic}
use Rattle.mt_laws.proofs.WayBackLemmas.{has_part-same, in_part-of}
use Rattle.mt_laws.proofs.PlainWords.{types_by_way}

step-same : (v w : Live) → HasSides v w → v.switched ≡ w.switched → v.way ≡ w.way → (key : EntryKey) → step_of_entry v key ≡ step_of_entry w key
step-same v w same switched way (about.Rule key) = refl
step-same v w same switched way (about.Denied keyspace table) = rw (same.source, same.target, switched, way) refl
step-same v w same switched way (about.Present keyspace table) = refl

served_by-same : (u : TopologyState) (v w : Live) → HasSides v w → v.switched ≡ w.switched → v.way ≡ w.way → (key : EntryKey) → served_by u v key ≡ served_by u w key
served_by-same u v w same switched way key =
    ap (λ n. serve u v (types_by v n) key) (step-same v w same switched way key)
    ∙ ap (λ s. serve u v (types_by_way s v.way (step_of_entry w key)) key) switched
    ∙ ap (λ o. serve u v (types_by_way w.switched o (step_of_entry w key)) key) way
    ∙ serve-same u u v w (types_by w (step_of_entry w key)) key same refl

served-map : (u : TopologyState) (key : EntryKey) (f : Live → Live) (d : Entry) → ((w : Live) → served_by u (f w) key ≡ served_by u w key) → (o : Option Live) → option_map_or (λ w. served_by u w key) (option_map f o) d ≡ option_map_or (λ w. served_by u w key) o d
served-map u key f d each None = refl
served-map u key f d each (Some w) = each w

-- an event on rows or streams changes neither
rows_only : (event : Event) → IsOfRows event → (¬ (ChangesTopology event)) × (¬ (ChangesWay event)) × (¬ (ChangesLives event))
rows_only (write keyspace table op) is = (λ h. h, λ h. h, λ h. h)
rows_only (read keyspace table key tablet_type) is = (λ h. h, λ h. h, λ h. h)
rows_only (advance workflow name shard at at_most) is = (λ h. h, λ h. h, λ h. h)
rows_only (show workflow) is = (λ h. h, λ h. h, λ h. h)
rows_only event is = absurd is

pub same_entries : (p : Plain) (event : Event) (answer : Answer) → IsOfRows event → (key : EntryKey) → served_entry (next p event answer) key ≡ served_entry p key
same_entries p event answer is key = by (lives_after p event answer)
  where
    each : (w : Live) → served_by p.topology (live_next p event answer w) key ≡ served_by p.topology w key
    each w =
        let same = same_traffic p event answer w (rows_only event is).1 in
        sym (served_by-same p.topology w (live_next p event answer w) (sides-next p event answer w) (sym (ap (λ t. t.0) same)) (sym (ap (λ t. t.1) same)) key)

    by : LivesAfter p (next p event answer) event answer → served_entry (next p event answer) key ≡ served_entry p key
    by (mapped lives) =
        ap (λ u. option_map_or (λ w. served_by u w key) (part_owner (next p event answer) key) (value_of u key)) (same_topology p event answer (rows_only event is).0)
        ∙ ap (λ l. option_map_or (λ w. served_by p.topology w key) (find (λ w. has_part w key) l) (value_of p.topology key)) lives
        ∙ ap (λ o. option_map_or (λ w. served_by p.topology w key) o (value_of p.topology key))
        (find-map (λ w. has_part w key) (live_next p event answer) p.lives (λ w. sym (has_part-same w (live_next p event answer w) (sides-next p event answer w) key)))
        ∙ served-map p.topology key (live_next p event answer) (value_of p.topology key) each (part_owner p key)
    by (made name source target tables e lives same) = absurd ((rows_only event is).2 (subst ChangesLives (sym e) tt))
    by (ended name (inl e) lives same) = absurd ((rows_only event is).2 (subst ChangesLives (sym e) tt))
    by (ended name (inr e) lives same) = absurd ((rows_only event is).2 (subst ChangesLives (sym e) tt))

-- ---- traffic commands, outside of the part of their workflow

one_name : (event : Event) (a b : List ℕ) → ChangesWay event → IsOf a event → IsOf b event → a ≡ b
one_name (begin_switch workflow types) a b way is other = sym is ∙ other
one_name (begin_reverse workflow types) a b way is other = sym is ∙ other
one_name (step workflow at) a b way is other = sym is ∙ other
one_name (undo workflow at) a b way is other = sym is ∙ other
one_name event a b way is other = absurd way

way_no_topology : (event : Event) → ChangesWay event → ¬ (ChangesTopology event)
way_no_topology (begin_switch workflow types) way = λ h. h
way_no_topology (begin_reverse workflow types) way = λ h. h
way_no_topology (step workflow at) way = λ h. h
way_no_topology (undo workflow at) way = λ h. h
way_no_topology event way = absurd way

module _ (p : Plain) (event : Event) (answer : Answer) (name : List ℕ) (has : HasParts p) (way : ChangesWay event) (is : IsOf name event) (key : EntryKey) (outside : in_part p name key ≡ false) where
  -- the owner of the entry is another workflow, which stays as it is
  owner_stays : (w : Live) → part_owner p key ≡ Some w → live_next p event answer w ≡ w
  owner_stays w found = next_elsewhere p event answer w.name w refl other
    where
      owns : IsIn w p.lives × (has_part w key ≡ true)
      owns = find_some (λ v. has_part v key) p.lives w found

      other : ¬ (IsOf w.name event)
      other of_it =
          let live = live_by_name p has.apart w owns.0 name ((same_text_decides w.name name).1 (one_name event w.name name way of_it is)) in
          true≢false (sym owns.1 ∙ sym (in_part-of p name w key live) ∙ outside)

  pub outside_stays : served_entry (next p event answer) key ≡ served_entry p key
  outside_stays = by (lives_after p event answer)
    where
      by : LivesAfter p (next p event answer) event answer → served_entry (next p event answer) key ≡ served_entry p key
      by (mapped lives) =
          ap (λ u. option_map_or (λ w. served_by u w key) (part_owner (next p event answer) key) (value_of u key)) (same_topology p event answer (way_no_topology event way))
          ∙ ap (λ l. option_map_or (λ w. served_by p.topology w key) (find (λ w. has_part w key) l) (value_of p.topology key)) lives
          ∙ ap (λ o. option_map_or (λ w. served_by p.topology w key) o (value_of p.topology key))
          (find-map (λ w. has_part w key) (live_next p event answer) p.lives (λ w. sym (has_part-same w (live_next p event answer w) (sides-next p event answer w) key))
          ∙ map-same (live_next p event answer) (part_owner p key) owner_stays)
      by (made n source target tables e lives same) = absurd (subst ChangesWay e way)
      by (ended n (inl e) lives same) = absurd (subst ChangesWay e way)
      by (ended n (inr e) lives same) = absurd (subst ChangesWay e way)

pub outside_of_the_part : (p : Plain) (event : Event) (answer : Answer) (name : List ℕ) → IsReached p → ChangesWay event → IsOf name event → (key : EntryKey) → in_part p name key ≡ false → served_entry (next p event answer) key ≡ served_entry p key
outside_of_the_part p event answer name reached way is key outside = outside_stays p event answer name (reached_has_parts p reached) way is key outside
