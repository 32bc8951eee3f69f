-- What is known where a base stands for a state, and the next state of a way's events.
use Rattle.std.proofs.Common.{◌≡◌, ℕ, suc, ◌+◌, ◌<◌, Bool, true, false, cond, get_or, length, List, [], ◌∷◌, map, Option, None, Some, refl, sym, ap, ◌∙◌, subst, arith}
use Rattle.mt_laws.proofs.CutLemmas.{IsCut, reached_cut}
use Rattle.mt_laws.proofs.InPlaceLemmas.{live_in}
use Rattle.mt_laws.proofs.LaneLemmas.{reached_numbered}
use Rattle.mt_laws.proofs.StepUndoneLemmas.{nothing_done}
use Rattle.mt_laws.proofs.WayStepLemmas.{done_at_some}
use Rattle.std.proofs.lemmas.Bool.{false_from_ne_true, true≢false}
use Rattle.std.proofs.lemmas.List.Sums.{length-filter}
use Rattle.std.specs.List.{range_with_len}
use Rattle.std.specs.Option.{option_map_or}
use Rattle.mt_names.specs.declared.types.TypeSet.{TypeSet}
use Rattle.mt_names.specs.Shards.{shard_count}
use Rattle.mt_model.specs.declared.entries.EntryKey.{EntryKey}
use Rattle.mt_model.specs.declared.entries.Scope.{Scope}
use Rattle.mt_model.specs.Topology.{is_present}
use Rattle.mt_plain.specs.Events.{Way}
use Rattle.mt_plain.specs.Next.{with_live, with_way_to}
use Rattle.mt_plain.specs.Plain.{Lane, Live, Plain, before_way, changes_primary, cuts_of, has_keyspace, has_part, live_at, part_owner, refresh_source, refresh_target, stands_done_at}
use Rattle.mt_plain.specs.Refuse.{new_owner}
use Rattle.mt_plain.specs.Serve.{has_table, is_listed_at, owned_before, refuses_by, step_of_list}
use Rattle.mt_plain.specs.Slots.{is_entry_at, log_length, log_of}
use Rattle.mt_primary.specs.Primaries.{Primaries, count_of, primary_of, shards_of}
use Rattle.mt_primary.specs.Primary.{PrimaryState, empty_primary, end_of}
use Rattle.mt_laws.specs.Changes.{HasSides}
use Rattle.mt_laws.specs.Reached.{HandsOver, IsInPlace, IsOnCourse}
use Rattle.mt_laws.specs.WayBack.{IsReached}
use Rattle.mt_workflow.specs.Workflows.{WorkflowState}
use Rattle.mt_stands.specs.Rows.{RowsStand}
use Rattle.mt_stands.proofs.LogLemmas.{log-length}
use Rattle.mt_stands.proofs.KeepLemmas.{any_changed}
use Rattle.mt_stands.specs.Base.{BaseState, workflow_at}
use Rattle.mt_stands.specs.Stands.{ArePrimaries, StandsFor, StandsForAny, StandsWith}
use Rattle.mt_steps.specs.Streams.{log_ends}
use Rattle.mt_refinement.specs.Ends.{ends_of}
use Rattle.mt_refinement.proofs.ChangeLemmas.{IsAt}
use Rattle.mt_refinement.proofs.SlotLemmas.{map-map}

-- ---- the workflow of a name

pub stood : (p : Plain) (scopes : List Scope) (base : BaseState) → StandsWith p scopes base → (name : List ℕ) (live : Live) (w : WorkflowState)
    → live_at p name ≡ Some live → workflow_at base.workflows name ≡ Some w → StandsFor p live w
stood p scopes base stands name live w is_live found =
    subst (λ o. StandsForAny p o (Some w)) is_live (subst (StandsForAny p (live_at p name)) found (stands.workflows.each name))

-- the target has as many primaries as the live workflow knows shards
target_count : (p : Plain) (primaries : Primaries) → ArePrimaries p primaries → (live : Live) (w : WorkflowState) → StandsFor p live w → IsCut p live → IsInPlace p.topology live
    → count_of primaries w.target ≡ shard_count live.cuts
target_count p primaries are live w for cut placed =
    are.shards w.target (ap (has_keyspace p) (sym for.sides.target) ∙ placed.sides.target)
    ∙ ap (λ k. shard_count (cuts_of p k)) (sym for.sides.target) ∙ ap shard_count (sym cut.target)

pub on_way : (p : Plain) (primaries : Primaries) → ArePrimaries p primaries → (live : Live) (w : WorkflowState) → StandsFor p live w → (way : Way) → w.way ≡ Some way
    → IsReached p → (name : List ℕ) → live_at p name ≡ Some live → IsOnCourse live way → (changes_primary way ≡ true → HandsOver live way)
    → IsInPlace p.topology live → ((key : EntryKey) → has_part live key ≡ true → part_owner p key ≡ Some live) → IsAt p primaries live w way
on_way p primaries are live w for way opens reached name is_live course hands placed owned = record {
  are = are;
  sides = for.sides;
  opens = sym for.way ∙ opens;
  within = course.within;
  turns = λ changes. (hands changes).before;
  source_one =
      are.shards w.source (ap (has_keyspace p) (sym for.sides.source) ∙ placed.sides.source)
      ∙ ap (λ k. shard_count (cuts_of p k)) (sym for.sides.source) ∙ ap shard_count cut.source;
  target_all = target_count p primaries are live w for cut placed ∙ sym course.shards;
  some = let n = course.shards in omega (arith, n);
  placed = placed;
  owned = owned;
}
  where
    cut : IsCut p live
    cut = reached_cut p reached live (live_in p name live is_live)

-- ---- the tables of the next state

-- a workflow changes and keeps its sides and tables
pub tables_stay : (p : Plain) (name : List ℕ) (f : Live → Live) → ((w : Live) → HasSides w (f w)) → (keyspace table : List ℕ) → has_table (record p { lives = with_live f name p.lives }) keyspace table ≡ has_table p keyspace table
tables_stay p name f same keyspace table = ap (λ b. cond b true (is_present p.topology.keyspaces keyspace table)) (any_changed p.lives name f same keyspace table)

-- ---- a begin

-- no refresh stands done where no step does
pub none_refreshed : (way : Way) (b : Bool) (shard : ℕ) → way.done ≡ 0 → stands_done_at way (cond {A = ℕ} b refresh_source refresh_target) shard ≡ false
none_refreshed way b shard none =
    false_from_ne_true (stands_done_at way (cond {A = ℕ} b refresh_source refresh_target) shard)
    (λ t. true≢false (sym (done_at_some way (cond {A = ℕ} b refresh_source refresh_target) shard 0 t (late b)) ∙ nothing_done way 1 none))
  where
    late : (b : Bool) → 1 < cond {A = ℕ} b refresh_source refresh_target
    late true = omega arith
    late false = omega arith

-- a begin changes no own list
pub begun_list : (w : Live) (back : Bool) (change : TypeSet → TypeSet) → w.way ≡ None → (keyspace : List ℕ) (shard : ℕ) → refuses_by (with_way_to back change w) keyspace shard ≡ refuses_by w keyspace shard
begun_list w back change rests keyspace shard =
    ap (λ types. is_listed_at w types keyspace)
    (ap (λ b. cond b (change w.switched) w.switched)
    (none_refreshed (record { back = back; shards = shard_count w.cuts; before = w.switched; after = change w.switched; done = 0; undoing = false }) (owned_before (with_way_to back change w) keyspace) shard refl)
    ∙ sym (ap (λ (o : Option Way). option_map_or (λ way. cond (stands_done_at way (step_of_list w keyspace) shard) way.after way.before) o w.switched) rests))

-- ---- the ends of logs

-- what is computed of each item of a list, where it is what is computed of the item's number
by_number : (f : PrimaryState → ℕ) (g : ℕ → ℕ) (xs : List PrimaryState) (a : ℕ) → ((n : ℕ) → n < length xs → f (get_or xs n empty_primary) ≡ g (a + n)) → map f xs ≡ map g (range_with_len a (length xs))
by_number f g [] a same = refl
by_number f g (x ∷ xs) a same =
    ap (λ m. m ∷ map f xs) (same 0 (omega arith) ∙ ap g (let e : a + 0 ≡ a = omega arith in e))
    ∙ ap (λ l. g a ∷ l) (by_number f g xs (a + 1) (λ n within. same (suc n) (omega (arith, within)) ∙ ap g (let e : a + suc n ≡ (a + 1) + n = omega arith in e)))

module _ (p : Plain) (primaries : Primaries) (rows : RowsStand p (primary_of primaries)) where
  log_same : (keyspace : List ℕ) (shard : ℕ) → end_of (primary_of primaries keyspace shard) ≡ log_length p keyspace shard
  log_same keyspace shard =
      sym (log-length (log_of p keyspace shard) keyspace shard (primary_of primaries keyspace shard).log (rows.log keyspace shard))
      ∙ length-filter (is_entry_at keyspace shard) p.log

  -- the log that the new stream of a lane will read
  end_same : (live : Live) (way : Way) → live.way ≡ Some way → (source target : List ℕ) → live.source ≡ source → live.target ≡ target
      → (shard : ℕ) → end_of (cond way.before.primary (primary_of primaries source 0) (primary_of primaries target shard)) ≡ log_length p (new_owner live) (cond (before_way live).primary 0 shard)
  end_same live way opens source target is_source is_target shard =
      by way.before.primary
      ∙ sym (ap (λ (o : Option Way). let b = (option_map_or (λ x. x.before) o live.switched).primary in log_length p (cond b live.source live.target) (cond b 0 shard)) opens)
    where
      by : (b : Bool) → end_of (cond b (primary_of primaries source 0) (primary_of primaries target shard)) ≡ log_length p (cond b live.source live.target) (cond b 0 shard)
      by true = log_same source 0 ∙ ap (λ k. log_length p k 0) (sym is_source)
      by false = log_same target shard ∙ ap (λ k. log_length p k shard) (sym is_target)

  pub ends_same : ArePrimaries p primaries → IsReached p → (name : List ℕ) (live : Live) → live_at p name ≡ Some live → (w : WorkflowState) → StandsFor p live w → IsInPlace p.topology live
      → (way : Way) → live.way ≡ Some way → log_ends way (primary_of primaries w.source 0) (shards_of primaries w.target).each ≡ ends_of p live
  ends_same are reached name live is_live w for placed way opens =
      by_number (λ target. end_of (cond way.before.primary (primary_of primaries w.source 0) target)) end_at (shards_of primaries w.target).each 0
      (λ n within. end_same live way opens w.source w.target for.sides.source for.sides.target n ∙ ap end_at (let e : n ≡ 0 + n = omega arith in e))
      ∙ ap (map end_at) (ap (range_with_len 0) (target_count p primaries are live w for (reached_cut p reached live (live_in p name live is_live)) placed)
      ∙ sym (reached_numbered p reached live (live_in p name live is_live)))
      ∙ map-map end_at (λ (lane : Lane). lane.shard) live.lanes
    where
      end_at : ℕ → ℕ
      end_at n = log_length p (new_owner live) (cond (before_way live).primary 0 n)
