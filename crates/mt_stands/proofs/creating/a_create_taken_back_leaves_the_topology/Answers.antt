use Rattle.std.proofs.Common.{◌≡◌, None, true, is_some, refl, sym, ap, slice_index_or, ◌∙◌}
use Rattle.std.proofs.lemmas.Map.Made.{AllPairs-from_IsDistinct}
use Rattle.std.specs.Option.{option_map_or}
use Rattle.std.specs.Prelude.{◌||◌, Option}
use Rattle.mt_names.proofs.EntryLemmas.{none_from}
use Rattle.mt_names.proofs.SameLemmas.{same_text_decides}
use Rattle.mt_model.specs.declared.entries.EntryKey.{EntryKey}
use Rattle.mt_model.specs.Topology.{TopologyState, has_place, value_of}
use Rattle.mt_model.proofs.PartLemmas.{part_distinct}
use Rattle.mt_plain.specs.Events.{create, done, workflow_exists}
use Rattle.mt_plain.specs.Next.{next}
use Rattle.mt_plain.specs.Plain.{Live, Plain, each_once, live_at, part_owner}
use Rattle.mt_plain.specs.Refuse.{refuse_if}
use Rattle.mt_plain.specs.Serve.{served_by}
use Rattle.mt_stands.specs.Keys.{created_live, keys_of_part}
use Rattle.mt_stands.specs.Topologies.{TopologyStands}
use Rattle.mt_stands.proofs.BackLemmas.{places_back}
use Rattle.mt_laws.proofs.RefusalLemmas.{or_else-none, refuse_if-none}
use Rattle.mt_stands.proofs.CancelLemmas.{held_by}
use Rattle.mt_stands.proofs.CreateLemmas.{free, live_next}
use Rattle.mt_workflow.proofs.MemberLemmas.{all_counted}
use Rattle.mt_stands.proofs.PlaceLemmas.{holds}
use Rattle.mt_stands.proofs.creating.a_create_taken_back_leaves_the_topology.Goals as goal

-- a key of no live workflow's part that has a place holds something
holds_free : (p : Plain) (t : TopologyState) → TopologyStands p t → ((key : EntryKey) → has_place p.topology key ≡ holds (value_of p.topology key)) → (key : EntryKey) → part_owner p key ≡ None
    → has_place t key ≡ true → holds (value_of t key) ≡ true
holds_free p t stands held key none there =
    ap holds (stands.served.entries key ∙ ap (λ o. option_map_or (λ v. served_by p.topology v key) o (value_of p.topology key)) none)
    ∙ sym (held key) ∙ sym (stands.places key ∙ ap (λ (o : Option Live). is_some o || has_place p.topology key) none) ∙ there

pub returns : goal.returns
returns c = λ p t name source target tables reached none stands.
    let v = created_live p name source target (each_once tables) in
    let q = next p (create name source target tables) done in
    let is = none_from (live_at p name) (refuse_if-none (is_some (live_at p name)) workflow_exists (or_else-none (refuse_if (is_some (live_at p name)) workflow_exists) _ none).0) in
    let reached_next = c.each_next_state_is_reached.ensures.next p reached (create name source target tables) done (none, refl) in
    let in_place = c.live_workflows_stand_in_place.ensures.placed q reached_next name v (live_next p v is) in
    let allowed = c.live_workflows_stand_in_place.ensures.allowed p reached in
    let places = c.only_what_stands_has_a_place.ensures in
    let held = held_by p (places.rules p reached) (places.tables p reached) (places.denials p reached) allowed in
    let unowned = free p v t is (c.a_live_workflow_is_found_by_its_part.ensures.owner_is_live p reached) (c.a_live_workflow_is_found_by_its_part.ensures.owner q reached_next) in_place allowed refl refl stands in
    places_back t (keys_of_part v)
    (part_distinct source target (each_once tables) in_place.sides.apart (AllPairs-from_IsDistinct same_text_decides (each_once tables) (c.names_as_a_set_have_each_name_once.ensures.distinct tables)))
    (λ i d inside. holds_free p t stands held (slice_index_or (keys_of_part v) i d) (unowned (slice_index_or (keys_of_part v) i d) (all_counted v i d inside)))
