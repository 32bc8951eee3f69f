-- A workflow that changes, and keeps its name, its sides and its tables, among the others.
use Rattle.std.proofs.Common.{◌≡◌, ◌≢◌, ℕ, cond, List, [], ◌∷◌, find, map, Option, Some, option_map, refl, sym, ap, ◌∙◌, subst}
use Rattle.std.specs.Map.{set_value}
use Rattle.mt_names.specs.declared.types.TypeSet.{TypeSet}
use Rattle.mt_names.specs.Names.{same_text}
use Rattle.mt_names.specs.Shards.{cuts_between}
use Rattle.mt_plain.specs.Answers.{range_at}
use Rattle.mt_plain.specs.Events.{Way}
use Rattle.mt_plain.specs.Next.{with_live}
use Rattle.mt_plain.specs.Plain.{Lane, Live, Plain, live_at}
use Rattle.mt_laws.specs.Changes.{HasSides}
use Rattle.mt_laws.proofs.InPlaceLemmas.{live_named}
use Rattle.mt_laws.proofs.LiveLemmas.{changed, find-map, find_some, sides_changed}
use Rattle.mt_laws.proofs.WayBackLemmas.{has_part-same}
use Rattle.mt_refinement.proofs.MoveBaseLemmas.{workflows-set}
use Rattle.mt_stands.specs.Base.{Workflows, workflow_at}
use Rattle.mt_stands.specs.Stands.{AreWorkflows, StandsFor, StandsForAny, lane_state}
use Rattle.mt_stands.specs.Keys.{IsKept}
use Rattle.mt_workflow.specs.Workflows.{LaneState, WorkflowState, cuts_in, ranges_in}

-- the workflow of a name stands for the live one of that name
pub stands_for : (p : Plain) (workflows : Workflows) → AreWorkflows p workflows → (name : List ℕ) (live : Live) (w : WorkflowState) → live_at p name ≡ Some live
    → workflow_at workflows name ≡ Some w → StandsFor p live w
stands_for p workflows are name live w is_live found =
    subst (StandsForAny p (Some live)) found (subst (λ o. StandsForAny p o (workflow_at workflows name)) is_live (are.each name))

-- a workflow with another way, other types and other lanes
abbrev pub with_traffic : WorkflowState → Option Way → TypeSet → List LaneState → WorkflowState
with_traffic w way switched lanes = record w { way = way; switched = switched; lanes = lanes }

-- the names of live workflows of which one is changed
names_with : (change : Live → Live) (name : List ℕ) → ((v : Live) → HasSides v (change v)) → (ws : List Live) → map (λ (l : Live). l.name) (with_live change name ws) ≡ map (λ (l : Live). l.name) ws
names_with change name keeps [] = refl
names_with change name keeps (w ∷ ws) =
    ap (λ n. n ∷ map (λ (l : Live). l.name) (with_live change name ws)) (sym (sides_changed change name w (keeps w)).name)
    ∙ ap (λ ns. w.name ∷ ns) (names_with change name keeps ws)

-- the ranges of lanes are those of their shards
ranges-of : (v : Live) (lanes : List Lane) → ranges_in (map (lane_state v) lanes) ≡ map (range_at v.cuts) (map (λ lane. lane.shard) lanes)
ranges-of v [] = refl
ranges-of v (lane ∷ lanes) = ap (λ l. range_at v.cuts lane.shard ∷ l) (ranges-of v lanes)

-- the next state has one live workflow changed, and the topology as if none were live is the same
module _ (p q : Plain) (name : List ℕ) (change : Live → Live) (keeps : (v : Live) → HasSides v (change v)) (topology : q.topology ≡ p.topology) (lives : q.lives ≡ with_live change name p.lives)
    (elsewhere : (n : List ℕ) → name ≢ n → live_at q n ≡ live_at p n)
    (workflows : Workflows) (are : AreWorkflows p workflows) (live : Live) (w : WorkflowState) (is_live : live_at p name ≡ Some live) (found : workflow_at workflows name ≡ Some w)
    (now : Live) (is : change live ≡ now) (shards : map (λ lane. lane.shard) now.lanes ≡ map (λ lane. lane.shard) live.lanes) where
  abbrev pub for : StandsFor p live w
  for = stands_for p workflows are name live w is_live found

  sides : HasSides live now
  sides = subst (HasSides live) is (keeps live)

  -- its lanes have the ranges that they had
  same_cuts : now.cuts ≡ cuts_in (map (lane_state now) now.lanes)
  same_cuts =
      sym sides.cuts ∙ for.sides.cuts ∙ ap cuts_in for.lanes ∙ ap cuts_between (ranges-of live live.lanes)
      ∙ ap (λ cuts. cuts_between (map (range_at cuts) (map (λ lane. lane.shard) live.lanes))) sides.cuts ∙ ap (λ ns. cuts_between (map (range_at now.cuts) ns)) (sym shards)
      ∙ sym (ap cuts_between (ranges-of now now.lanes))

  is_now : live_at q name ≡ Some now
  is_now =
      ap (find (λ (x : Live). same_text x.name name)) lives
      ∙ find-map (λ (x : Live). same_text x.name name) (changed change name) p.lives (λ x. ap (λ n. same_text n name) (sym (sides_changed change name x (keeps x)).name))
      ∙ ap (option_map (changed change name)) is_live
      ∙ ap (λ t. Some (cond t (change live) live)) (find_some (λ (x : Live). same_text x.name name) p.lives live is_live).1
      ∙ ap Some is

  module _ (way : Option Way) (switched : TypeSet) (lanes : List LaneState) (same_way : way ≡ now.way) (same_types : switched ≡ now.switched)
      (same_lanes : lanes ≡ map (lane_state now) now.lanes) where
    stands_now : StandsFor q now (with_traffic w way switched lanes)
    stands_now = record {
      sides = record {
        name = sym sides.name ∙ for.sides.name;
        source = sym sides.source ∙ for.sides.source;
        target = sym sides.target ∙ for.sides.target;
        tables = sym sides.tables ∙ for.sides.tables;
        cuts = same_cuts ∙ sym (ap cuts_in same_lanes);
      };
      switched = same_types;
      way = same_way;
      kept = subst (λ u. IsKept u now w.kept) (sym topology) (λ key part. for.kept key (has_part-same live now sides key ∙ part));
      lanes = same_lanes;
    }

    -- the workflows with it in its place are those of the next state
    pub changed-workflows : AreWorkflows q (set_value (same_text w.name) workflows (with_traffic w way switched lanes))
    changed-workflows =
        subst (λ n. AreWorkflows q (set_value (same_text n) workflows (with_traffic w way switched lanes))) (sym (live_named p name live is_live) ∙ for.sides.name)
        (workflows-set p q topology workflows are name w (with_traffic w way switched lanes) found now is_now stands_now elsewhere
        (ap (map (λ (l : Live). l.name)) lives ∙ names_with change name keeps p.lives))
