-- A turn that is taken, and a drive that is on its way.
use Rattle.std.proofs.Common.{◌≡◌, ℕ, suc, Bool, true, false, List, Option, None, Some, Result, Ok, Err, refl, sym, ap, subst, ◌∙◌}
use Rattle.std.specs.Option.{option_map_or}
use Rattle.std.specs.Prelude.{if◌then◌else◌, nat_lt, option_and_then, option_map}
use Rattle.mt_event.specs.declared.reason.Reason.{Reason}
use Rattle.mt_event.specs.declared.refusal.Refusal.{Refusal}
use Rattle.mt_event.specs.declared.reply.Told.{Told}
use Rattle.mt_event.specs.declared.reply.Told.TheVariants as what
use Rattle.mt_event.specs.Asks.{answer_told_by}
use Rattle.mt_event.specs.Events.{refusal_from}
use Rattle.mt_event.specs.Reasons.{reason_from}
use Rattle.mt_laws.specs.Turns.{Fits, FitsHeard}
use Rattle.mt_model.specs.declared.entries.Scope.{Scope}
use Rattle.mt_names.specs.declared.types.TypeSet.{TypeSet}
use Rattle.mt_names.specs.Shards.{shard_count}
use Rattle.mt_plain.specs.Answers.{Answers}
use Rattle.mt_plain.specs.Drive.{Drives, Driving, GoesOn, Heard, abandoned, begins, ends, event_of, feeding_stream, feeds, gives_up, goes_on, heard, lanes_of, most_at_once, most_tries, most_turns, position_of, steps, unless_closed, way_of}
use Rattle.mt_plain.specs.Drive.{done as plain_done}
use Rattle.mt_plain.specs.Events.{Answer, Event, Slot, StreamName, Way, advance, done}
use Rattle.mt_plain.specs.Next.{next}
use Rattle.mt_plain.specs.Plain.{Lane, Live, Plain, lane_at, live_at}
use Rattle.mt_plain.specs.Slots.{slot_of as plain_slot}
use Rattle.mt_stands.specs.Base.{workflow_at}
use Rattle.mt_stands.specs.Stands.{StandsForAny}
use Rattle.mt_stands.specs.Rows.{stream_of}
use Rattle.mt_stands.proofs.LaneLemmas.{slot_in}
use Rattle.mt_refinement.proofs.ShardLemmas.{lanes_numbered}
use Rattle.mt_stands.specs.Ways.{CoreStands, CoreState, CoreSteps}
use Rattle.mt_stream.specs.Streams.{StreamValue}
use Rattle.mt_workflow.specs.Workflows.{WorkflowState, live_of, slot_of}
use Rattle.mt_event.specs.declared.driven.Driven.{Driven}
use Rattle.mt_event.specs.Drives.{driven_from, ended_from}
use Rattle.mt_site.specs.Drives.{EndsFrom, IsOnItsWay, Turns}

-- ---- one turn

-- the event that is due is asked for, and what follows from its answer is said
pub turn_taken : (scopes : List Scope) (old new : CoreState) (driving : Driving) (said : Heard) (event : Event) (answer : Answer)
    → CoreSteps scopes old event answer new
    → ((p : Plain) → CoreStands p scopes old → event ≡ event_of p driving)
    → ((q : Plain) → CoreStands q scopes new → heard q driving answer ≡ said)
    → Turns scopes old driving said new
turn_taken scopes old new driving said event answer does due follows = λ p stands.
    let done : Answers p (event_of p driving) answer × CoreStands (next p (event_of p driving) answer) scopes new
    = subst (λ e. Answers p e answer × CoreStands (next p e answer) scopes new) (due p stands) (does p stands) in
    (answer, done.0, done.1, follows (next p (event_of p driving) answer) done.1)

-- what follows where it is taken, whatever is told
pub heard_begin : (q : Plain) (workflow : List ℕ) (types : TypeSet) (back : Bool) (told : Told) → heard q (begins workflow types back) (answer_told_by done (Ok told)) ≡ goes_on (steps workflow most_tries)
heard_begin q workflow types back what.Done = refl
heard_begin q workflow types back (what.Row row) = refl
heard_begin q workflow types back (what.Advanced counts) = refl
heard_begin q workflow types back what.Shown = refl

pub heard_step : (q : Plain) (workflow : List ℕ) (tries : ℕ) (told : Told) → heard q (steps workflow tries) (answer_told_by done (Ok told)) ≡ unless_closed (way_of q workflow) plain_done (steps workflow most_tries)
heard_step q workflow tries what.Done = refl
heard_step q workflow tries (what.Row row) = refl
heard_step q workflow tries (what.Advanced counts) = refl
heard_step q workflow tries what.Shown = refl

pub heard_feed : (q : Plain) (workflow : List ℕ) (shard tries : ℕ) (told : Told) → heard q (feeds workflow shard tries) (answer_told_by done (Ok told))
    ≡ (if nat_lt (suc shard) (lanes_of q workflow) then goes_on (feeds workflow (suc shard) tries) else goes_on (steps workflow tries))
heard_feed q workflow shard tries what.Done = refl
heard_feed q workflow shard tries (what.Row row) = refl
heard_feed q workflow shard tries (what.Advanced counts) = refl
heard_feed q workflow shard tries what.Shown = refl

-- the advance that is due
pub advance_due : (p : Plain) (workflow : List ℕ) (shard tries : ℕ) (name : StreamName) (at : ℕ) → name ≡ feeding_stream p workflow
    → at ≡ position_of p workflow (feeding_stream p workflow) shard → advance workflow name shard at most_at_once ≡ event_of p (feeds workflow shard tries)
advance_due p workflow shard tries name at same there =
    ap (λ n. advance workflow n shard at most_at_once) same ∙ ap (λ n. advance workflow (feeding_stream p workflow) shard n most_at_once) there

-- what goes on either way goes on
pub goes_on_either : (b : Bool) (x y : Driving) → (if b then goes_on x else goes_on y) ≡ goes_on (if b then x else y)
goes_on_either true x y = refl
goes_on_either false x y = refl

-- a workflow has as many lanes as the live one, and its streams stand where those of the live one do
module _ (q : Plain) (scopes : List Scope) (s : CoreState) (name : List ℕ) (stands : CoreStands q scopes s) where
  pub lanes_told : option_map_or (λ (w : WorkflowState). shard_count (live_of w).cuts) (workflow_at s.base.workflows name) 0 ≡ lanes_of q name
  lanes_told = by (live_at q name) (workflow_at s.base.workflows name) (stands.base.workflows.each name)
    where
      by : (o : Option Live) (found : Option WorkflowState) → StandsForAny q o found → option_map_or (λ (w : WorkflowState). shard_count (live_of w).cuts) found 0 ≡ option_map_or (λ (w : Live). shard_count w.cuts) o 0
      by None None is = refl
      by None (Some w) is = absurd is
      by (Some live) None is = absurd is
      by (Some live) (Some w) is = ap shard_count (sym is.sides.cuts)

  pub position_told : (shard : ℕ) (stream : StreamName)
      → option_map_or (λ (v : StreamValue). v.position) (option_and_then (λ w. slot_of w shard stream) (workflow_at s.base.workflows name)) 0 ≡ position_of q name stream shard
  position_told shard stream = by (live_at q name) refl (workflow_at s.base.workflows name) (stands.base.workflows.each name)
    where
      slots : (live : Live) (lane : Lane) (o : Option Slot) → option_map_or (λ (v : StreamValue). v.position) (option_map (stream_of live lane) o) 0 ≡ option_map_or (λ (slot : Slot). slot.position) o 0
      slots live lane None = refl
      slots live lane (Some slot) = refl

      each : (live : Live) (o : Option Lane) → option_map_or (λ (v : StreamValue). v.position) (option_and_then (λ lane. option_map (stream_of live lane) (plain_slot live lane stream)) o) 0
          ≡ option_map_or (λ (slot : Slot). slot.position) (option_and_then (λ lane. plain_slot live lane stream) o) 0
      each live None = refl
      each live (Some lane) = slots live lane (plain_slot live lane stream)

      by : (o : Option Live) → live_at q name ≡ o → (found : Option WorkflowState) → StandsForAny q o found
          → option_map_or (λ (v : StreamValue). v.position) (option_and_then (λ w. slot_of w shard stream) found) 0
          ≡ option_map_or (λ (slot : Slot). slot.position) (option_and_then (λ w. option_and_then (λ lane. plain_slot w lane stream) (lane_at w shard)) o) 0
      by None at None is = refl
      by None at (Some w) is = absurd is
      by (Some live) at None is = absurd is
      by (Some live) at (Some w) is =
          ap (λ o. option_map_or (λ (v : StreamValue). v.position) o 0) (slot_in q live w is (lanes_numbered q stands.base.reached name live at) shard stream)
          ∙ each live (lane_at live shard)

  pub way_told : option_and_then (λ (w : WorkflowState). w.way) (workflow_at s.base.workflows name) ≡ way_of q name
  way_told = by (live_at q name) (workflow_at s.base.workflows name) (stands.base.workflows.each name)
    where
      by : (o : Option Live) (found : Option WorkflowState) → StandsForAny q o found → option_and_then (λ (w : WorkflowState). w.way) found ≡ option_and_then (λ (w : Live). w.way) o
      by None None is = refl
      by None (Some w) is = absurd is
      by (Some live) None is = absurd is
      by (Some live) (Some w) is = is.way

-- what follows from any answer to an undo
pub undone : (q : Plain) (workflow : List ℕ) (why : Reason) (way : Option Way) (answer : Answer) (said : Heard) → way ≡ way_of q workflow
    → said ≡ unless_closed way (abandoned (reason_from why)) (gives_up workflow (reason_from why)) → heard q (gives_up workflow (reason_from why)) answer ≡ said
undone q workflow why way answer said same is = ap (λ w. unless_closed w (abandoned (reason_from why)) (gives_up workflow (reason_from why))) (sym same) ∙ sym is

-- ---- turn after turn

-- no answer leaves a drive that does not fit in one turn fewer
abbrev KeepsFitting : Type 0
KeepsFitting = (turns : ℕ) (p : Plain) (d : Driving) (answer : Answer) → Fits (suc turns) p d → Answers p (event_of p d) answer
    → FitsHeard turns (next p (event_of p d) answer) (heard (next p (event_of p d) answer) d answer)

-- a drive that begins is on its way
pub starts : (scopes : List Scope) (old : CoreState) (start : Driving) → ((p : Plain) → Fits most_turns p start) → IsOnItsWay scopes old start most_turns start old
starts scopes old start fits = λ p stands. (p, stands, fits p, λ result new ends. ends)

-- it stays so with each turn
pub goes_further : (scopes : List Scope) (old now new : CoreState) (start driving after : Driving) (left : ℕ) → KeepsFitting
    → IsOnItsWay scopes old start (suc left) driving now → Turns scopes now driving (goes_on after) new → IsOnItsWay scopes old start left after new
goes_further scopes old now new start driving after left keeps on turn = λ p stands.
    let way = on p stands in
    let q = way.0 in
    let taken = turn q way.1 in
    let r = next q (event_of q driving) taken.0 in (
      r,
      taken.2,
      subst (FitsHeard left r) taken.3 (keeps left q driving taken.0 way.2 taken.1),
      λ result final ended. way.3 result final
          (taken.0, taken.1, subst (GoesOn (Drives Answers left (λ e s. (e ≡ ended_from result) × CoreStands s scopes final)) (λ e s. (e ≡ ended_from result) × CoreStands s scopes final) r) (sym taken.3) ended),
    )

-- and as a turn ends, so ends the whole drive
pub ends_so : (scopes : List Scope) (old now new : CoreState) (start driving : Driving) (driven : Driven) (left : ℕ)
    → IsOnItsWay scopes old start (suc left) driving now → Turns scopes now driving (ends (Ok (driven_from driven))) new
    → (p : Plain) → CoreStands p scopes old → EndsFrom scopes most_turns start p (Ok driven) new
ends_so scopes old now new start driving driven left on turn = λ p stands.
    let way = on p stands in
    let q = way.0 in
    let taken = turn q way.1 in
    way.3 (Ok driven) new (
      taken.0,
      taken.1,
      subst (GoesOn (Drives Answers left (λ e s. (e ≡ ended_from (Ok driven)) × CoreStands s scopes new)) (λ e s. (e ≡ ended_from (Ok driven)) × CoreStands s scopes new) (next q (event_of q driving) taken.0)) (sym taken.3)
          (refl, taken.2),
    )

-- no turn is missing
pub never_out : (scopes : List Scope) (old now new : CoreState) (start driving : Driving) (result : Result Driven Refusal) → ((p : Plain) (d : Driving) → Fits 0 p d → ⊥)
    → IsOnItsWay scopes old start 0 driving now → (p : Plain) → CoreStands p scopes old → EndsFrom scopes most_turns start p result new
never_out scopes old now new start driving result never on = λ p stands. let way = on p stands in absurd (never way.0 driving way.2)

-- ---- the begin

-- one that is refused ends it
pub refused_begin : (scopes : List Scope) (old new : CoreState) (workflow : List ℕ) (types : TypeSet) (back : Bool) (refusal : Refusal) (turns : ℕ)
    → Turns scopes old (begins workflow types back) (ends (Err (refusal_from refusal))) new
    → (p : Plain) → CoreStands p scopes old → EndsFrom scopes (suc turns) (begins workflow types back) p (Err refusal) new
refused_begin scopes old new workflow types back refusal turns turn = λ p stands.
    let taken = turn p stands in (
      taken.0,
      taken.1,
      subst (GoesOn (Drives Answers turns (λ e s. (e ≡ ended_from (Err refusal)) × CoreStands s scopes new)) (λ e s. (e ≡ ended_from (Err refusal)) × CoreStands s scopes new) (next p (event_of p (begins workflow types back)) taken.0)) (sym taken.3)
          (refl, taken.2),
    )
