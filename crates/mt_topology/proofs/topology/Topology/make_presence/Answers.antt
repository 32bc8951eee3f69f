-- A place that is there, and one that is made and noted.
use Rattle.std.proofs.Common.{rules, ◌≡◌, true, false, [], ◌∷◌, ◌++◌, is_some, reverse, sym, ap, ◌∙◌}
use Rattle.std.specs.Map.{lookup}
use Rattle.mt_names.specs.Names.{same_text}
use Rattle.mt_model.specs.declared.entries.EntryKey.TheVariants as about
use Rattle.mt_model.specs.Part.{with_place, without_places}
use Rattle.mt_model.specs.Topology.{KeyspaceState, TopologyState, has_place, keyspace_at}
use Rattle.mt_keyspace.specs.Edits.{table_place_refusal}
use Rattle.mt_keyspace.specs.Room.{mark_place_refusal}
use Rattle.mt_topology.specs.Part.{all_made}
use Rattle.mt_topology.specs.declared.made.Made.TheVariants as together
use Rattle.mt_topology.proofs.MadeLemmas.{had_one, lacked, noted_back, place_made, refused_leaves}
use Rattle.mt_topology.proofs.ReserveLemmas.{with_place-there}
use Rattle.mt_topology.proofs.RoomLemmas.{is_there}
use Rattle.mt_topology.proofs.topology.Topology.make_presence.Goals.{in-Ok-true, in-Ok-false, in-Err}
use Rattle.mt_topology.proofs.topology.Topology.make_presence.Goals as goal

pub returns-clause-back : goal.returns-clause-back
returns-clause-back c =
    let old = c.args.self.now in
    let table = c.args.table.now in
    let key = about.Present c.args.keyspace.now table in
    let note = together.Present c.args.keyspace c.args.table in
    let found = keyspace_at c.self.inside.keyspaces c.args.keyspace.now in
    let has : KeyspaceState → _ = λ state. is_some (lookup (same_text table) state.tables) in
    let whole : _ → TopologyState = λ keyspaces. record { rules = c.self.inside.rules; keyspaces = keyspaces } in
    let items = c.match-make_place.made.items in
    elim c.match-make_place.branch [
      | in-Ok-true w ↦
          let lacks : has_place old key ≡ false = ap (λ t. has_place t key) (sym c.self.view_is) ∙ lacked has found (sym w.in-Ok-true.ensures.made ∙ w.in-Ok-true.field-0-test) in
          let made : whole c.make_place.new.self ≡ with_place old key = ap whole w.in-Ok-true.ensures.edits.1 ∙ ap (λ t. with_place t key) c.self.view_is in
          let noted : items ≡ c.args.made.now.items ++ note ∷ [] = search rules in
          noted_back old (whole c.make_place.new.self) c.args.made.now.items items note (place_made old (whole c.make_place.new.self) key lacks made) noted
      | in-Ok-false w ↦
          let free : table_place_refusal c.self.inside.keyspaces c.args.keyspace.now table ≡ _ = ap (λ t. table_place_refusal t.keyspaces c.args.keyspace.now table) c.self.view_is ∙ c.requires in
          let stands = is_there (λ state. mark_place_refusal state.tables table) c.self.inside.keyspaces c.args.keyspace.now free in
          let there : has_place old key ≡ true = ap (λ t. has_place t key) (sym c.self.view_is) ∙ had_one has found stands (sym w.in-Ok-false.ensures.made ∙ w.in-Ok-false.field-0-test) in
          let same : whole c.make_place.new.self ≡ old = ap whole w.in-Ok-false.ensures.edits.1 ∙ ap (λ t. with_place t key) c.self.view_is ∙ with_place-there old key there in
          let kept : items ≡ c.args.made.now.items = search rules in
          ap (λ t. without_places t (reverse (all_made items))) same ∙ ap (λ l. without_places old (reverse (all_made l))) kept
      | in-Err w ↦
          let same : whole c.make_place.new.self ≡ old = ap whole (refused_leaves _ _ _ _ _ w.in-Err.field-0 w.in-Err.ensures.edits) ∙ c.self.view_is in
          let kept : items ≡ c.args.made.now.items = search rules in
          ap (λ t. without_places t (reverse (all_made items))) same ∙ ap (λ l. without_places old (reverse (all_made l))) kept
    ]
