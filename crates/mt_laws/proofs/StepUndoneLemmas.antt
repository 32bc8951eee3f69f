-- A step, and the undo that comes next of the workflow's commands, leave what is served and refused as it was.
use Rattle.std.proofs.Common.{◌≡◌, ◌⊎◌, inl, inr, ℕ, suc, ◌+◌, ◌-◌, ◌≤◌, Bool, true, false, not, cond, eqb, leb, ltb, List, [], ◌∷◌, Option, None, Some, refl, sym, ap, ◌∙◌, subst, arith, eqb-true, ltb-true, find, map}
use Rattle.std.proofs.lemmas.Bool.{true≢false, and_parts, false_from_ne_true, leb-true}
use Rattle.std.specs.List.{list_any, range_with_len}
use Rattle.std.specs.Option.{option_map_or}
use Rattle.std.specs.Prelude.{◌&&◌, ◌||◌, option_and_then, option_map}
use Rattle.mt_names.specs.Names.{same_text}
use Rattle.mt_names.specs.Shards.{shard_count}
use Rattle.mt_names.proofs.SameLemmas.{same_text_decides}
use Rattle.mt_model.specs.declared.entries.EntryKey.{EntryKey}
use Rattle.mt_model.specs.declared.entries.EntryKey.TheVariants as about
use Rattle.mt_model.specs.Topology.{TopologyState, value_of}
use Rattle.mt_plain.specs.Next.{closes, after_advance, live_stepped, live_undone, next, on_way_of}
use Rattle.mt_plain.specs.Answers.{Answers, Run, after, reply_of}
use Rattle.mt_plain.specs.Events.{Event, begin_switch, begin_reverse, step, undo, cancel, complete, StreamName, forward, back, StreamState, running, stopped, Slot, Answer, done, row, advanced, shown, refused, Way, past_journal, stale, undoing}
use Rattle.mt_plain.specs.Plain.{Live, Plain, allow_target, before_way, changes_primary, create_back, deny_source, first_step, has_part, is_side, live_at, mover, moves, next_step, owner_by, refresh_source, refresh_target, stands_done, start_back, stop_feeding, write_journal, step_at_place, Lane, lane_at, next_place, place_of_refresh, stands_done_at}
use Rattle.mt_plain.specs.Refuse.{or_else, own_refusal, refuse_if, step_refusal, undo_refusal}
use Rattle.mt_plain.specs.Serve.{is_denied_at, owned_before, refuses, serve, served_by, served_entry, step_of_entry, list_types, types_by}
use Rattle.mt_plain.specs.Slots.{is_feeding, slot_at_rest, slot_before_way, slot_by_way, slot_of}
use Rattle.mt_laws.specs.Changes.{HasSides, IsOf}
use Rattle.mt_laws.specs.Steps.{IsLeftAlone, StepUndone, is_command, stream_state}
use Rattle.mt_laws.specs.WayBack.{IsReached, ends_workflow, in_part}
use Rattle.mt_laws.proofs.AllWritesLemmas.{reached_next}
use Rattle.mt_laws.proofs.EffectLemmas.{place-ge, step_of_list-in}
use Rattle.mt_laws.proofs.LaneLemmas.{reached_numbered}
use Rattle.mt_laws.proofs.ChangeLemmas.{live_after, lives_after}
use Rattle.mt_laws.proofs.LiveLemmas.{changed, find_some, find_the_one, sides_joined, sides_same}
use Rattle.mt_laws.proofs.PartLemmas.{HasParts, IsSettled}
use Rattle.mt_laws.proofs.PlainWords.{list_types_by_way, refuses_moved, types_by_way}
use Rattle.mt_laws.proofs.ReachLemmas.{next_has_parts, reached_has_parts, run_has_parts}
use Rattle.mt_laws.proofs.RefusalLemmas.{in_workflow-none, on_way-none}
use Rattle.mt_laws.proofs.TrafficLemmas.{serve-same}
use Rattle.mt_laws.proofs.UntouchedLemmas.{same_way, same_workflow}
use Rattle.mt_laws.proofs.WayBackLemmas.{has_part-same, in_part-of, one_event, owner_of_part}
use Rattle.mt_laws.proofs.WayLemmas.{undo_before_journal}
use Rattle.mt_laws.proofs.WayStepLemmas.{at_first, fewer, first_step-le, more, no_way, one_way, way-stepped}
use Rattle.mt_laws.proofs.WritableLemmas.{before_by}

-- ---- what is served and refused follows from the types from before the way, and those at each step

-- what a stream does
abbrev pub state_of_slot : Option Slot → Option StreamState
state_of_slot o = option_map (λ s. s.state) o

pub record SameTraffic (w v : Live) : Type 0 where
  pub before : before_way v ≡ before_way w
  pub types : (n : ℕ) → types_by v n ≡ types_by w n
  pub lists : (n shard : ℕ) → 2 ≤ n → list_types_by_way v.switched v.way n shard ≡ list_types_by_way w.switched w.way n shard
  pub streams : (one other : Lane) (stream : StreamName) → state_of_slot (slot_of v one stream) ≡ state_of_slot (slot_of w other stream)

module _ (w v : Live) (sides : HasSides w v) (same : SameTraffic w v) where
  owner_before : owner_by v (before_way v) ≡ owner_by w (before_way w)
  owner_before =
      ap (owner_by v) same.before
      ∙ ap (λ k. cond (before_way w).primary k v.source) (sym sides.target)
      ∙ ap (λ k. cond (before_way w).primary w.target k) (sym sides.source)

  same_step : (key : EntryKey) → step_of_entry v key ≡ step_of_entry w key
  same_step (about.Rule key) = refl
  same_step (about.Denied keyspace table) = ap (λ k. cond (same_text k keyspace) deny_source allow_target) owner_before
  same_step (about.Present keyspace table) = refl

  pub served_same : (t u : TopologyState) (key : EntryKey) → value_of t key ≡ value_of u key → served_by t v key ≡ served_by u w key
  served_same t u key value =
      ap (λ n. serve t v (types_by v n) key) (same_step key)
      ∙ ap (λ types. serve t v types key) (same.types (step_of_entry w key))
      ∙ sym (serve-same u t w v (types_by w (step_of_entry w key)) key sides (sym value))

  abbrev list_step : Live → List ℕ → ℕ
  list_step x keyspace = cond (owned_before x keyspace) refresh_source refresh_target

  same_types : (keyspace : List ℕ) (shard : ℕ) → list_types v keyspace shard ≡ list_types w keyspace shard
  same_types keyspace shard =
      ap (λ k. list_types_by_way v.switched v.way (cond (same_text k keyspace) refresh_source refresh_target) shard) owner_before ∙ same.lists (list_step w keyspace) shard (step_of_list-in w keyspace).0

  pub refuses_same : (keyspace : List ℕ) (shard : ℕ) → refuses_moved (Some v) keyspace shard ≡ refuses_moved (Some w) keyspace shard
  refuses_same keyspace shard =
      ap (λ types. is_side v keyspace && is_denied_at v types keyspace) (same_types keyspace shard)
      ∙ ap (λ s. (same_text s keyspace || same_text v.target keyspace) && cond (same_text s keyspace) (list_types w keyspace shard).primary (not (list_types w keyspace shard).primary)) (sym sides.source)
      ∙ ap (λ t. (same_text w.source keyspace || same_text t keyspace) && is_denied_at w (list_types w keyspace shard) keyspace) (sym sides.target)

-- ---- one step more, and one less

-- where no step is done, none stands done
pub nothing_done : (way : Way) (n : ℕ) → way.done ≡ 0 → stands_done way n ≡ false
nothing_done way n none =
    false_from_ne_true (stands_done way n)
    (λ t. let r = and_parts (leb (first_step way) n) (ltb n (next_step way)) t in
    let le = leb-true (first_step way) n r.0 in
    let lt = ltb-true n (next_step way) r.1 in
    let is = at_first way none in
    absurd (omega arith))

none_refreshed : (way : Way) (n shard : ℕ) → way.done ≡ 0 → 2 ≤ n → stands_done_at way n shard ≡ false
none_refreshed way n shard none le =
    false_from_ne_true (stands_done_at way n shard)
    (λ t. let lt = ltb-true (place_of_refresh way n shard) (next_place way) t in
    let low = first_step-le way in
    let ge = place-ge way n shard le in
    absurd (omega arith))

-- the same steps stand done
same_steps : (way : Way) (n : ℕ) → stands_done (fewer (more way)) n ≡ stands_done way n
same_steps way n = let e : suc way.done - 1 ≡ way.done = omega arith in ap (λ d. leb (first_step way) n && ltb n (step_at_place way (first_step way + d))) e

same_refreshes : (way : Way) (n shard : ℕ) → stands_done_at (fewer (more way)) n shard ≡ stands_done_at way n shard
same_refreshes way n shard = let e : suc way.done - 1 ≡ way.done = omega arith in ap (λ d. ltb (place_of_refresh way n shard) (first_step way + d)) e

-- what a stream does on a way, by whether the way changes writes and feeds by it, and whether its feeding is stopped, a new one made, and
-- that started
abbrev pub state_by : (changes feeds stopped_by made_by started : Bool) → Option StreamState → Option StreamState
state_by changes feeds stopped_by made_by started o =
    cond (not changes) o (cond feeds (option_map (λ s. cond stopped_by stopped s) o) (cond made_by (Some (cond started running stopped)) o))

state_on_way : (changes feeds stopped_by made_by started : Bool) (o : Option Slot) (fresh : ℕ)
    → state_of_slot (cond (not changes) o (cond feeds (option_map (λ s. cond stopped_by (record s { state = stopped }) s) o) (cond made_by (Some (record { state = cond started running stopped; position = fresh })) o)))
    ≡ state_by changes feeds stopped_by made_by started (state_of_slot o)
state_on_way false f d e g o fresh = refl
state_on_way true true d e g None fresh = refl
state_on_way true true true e g (Some s) fresh = refl
state_on_way true true false e g (Some s) fresh = refl
state_on_way true false d true g o fresh = refl
state_on_way true false d false g o fresh = refl

-- as at rest, where no step stands done
state_at_first : (changes feeds : Bool) (o : Option StreamState) → state_by changes feeds false false false o ≡ o
state_at_first false f o = refl
state_at_first true true None = refl
state_at_first true true (Some s) = refl
state_at_first true false o = refl

state_at_rest : (v w : Lane) (target_owns : Bool) (stream : StreamName) → state_of_slot (slot_at_rest v target_owns stream) ≡ state_of_slot (slot_at_rest w target_owns stream)
state_at_rest v w t forward = refl
state_at_rest v w true back = refl
state_at_rest v w false back = refl

pub state_before : (v w : Live) (one other : Lane) (stream : StreamName) → before_way v ≡ before_way w → state_of_slot (slot_before_way v one stream) ≡ state_of_slot (slot_before_way w other stream)
state_before v w one other stream same = state_at_rest one other (before_way v).primary stream ∙ ap (λ types. state_of_slot (slot_at_rest other types.primary stream)) same

-- of a workflow with that way open
abbrev pub state_of_way : Way → StreamName → Option StreamState → Option StreamState
state_of_way way stream o = state_by (changes_primary way) (is_feeding way stream) (stands_done way stop_feeding) (stands_done way create_back) (stands_done way start_back) o

pub state_of_open : (w : Live) (way : Way) (lane : Lane) (stream : StreamName) → w.way ≡ Some way → state_of_slot (slot_of w lane stream) ≡ state_of_way way stream (state_of_slot (slot_before_way w lane stream))
state_of_open w way lane stream opens =
    ap (λ o. state_of_slot (slot_by_way w lane o stream)) opens
    ∙ state_on_way (changes_primary way) (is_feeding way stream) (stands_done way stop_feeding) (stands_done way create_back) (stands_done way start_back) (slot_before_way w lane stream) lane.fresh_at

pub state_first : (way : Way) (stream : StreamName) (o : Option StreamState) → ((n : ℕ) → stands_done way n ≡ false) → state_of_way way stream o ≡ o
state_first way stream o none =
    ap (λ t. state_by (changes_primary way) (is_feeding way stream) t (stands_done way create_back) (stands_done way start_back) o) (none stop_feeding)
    ∙ ap (λ t. state_by (changes_primary way) (is_feeding way stream) false t (stands_done way start_back) o) (none create_back)
    ∙ ap (λ t. state_by (changes_primary way) (is_feeding way stream) false false t o) (none start_back)
    ∙ state_at_first (changes_primary way) (is_feeding way stream) o

same_feeding : (way : Way) (stream : StreamName) → is_feeding (fewer (more way)) stream ≡ is_feeding way stream
same_feeding way forward = refl
same_feeding way back = refl

state_again : (way : Way) (stream : StreamName) (o : Option StreamState) → state_of_way (fewer (more way)) stream o ≡ state_of_way way stream o
state_again way stream o =
    ap (λ f. state_by (changes_primary way) f (stands_done (fewer (more way)) stop_feeding) (stands_done (fewer (more way)) create_back) (stands_done (fewer (more way)) start_back) o) (same_feeding way stream)
    ∙ ap (λ t. state_by (changes_primary way) (is_feeding way stream) t (stands_done (fewer (more way)) create_back) (stands_done (fewer (more way)) start_back) o) (same_steps way stop_feeding)
    ∙ ap (λ t. state_by (changes_primary way) (is_feeding way stream) (stands_done way stop_feeding) t (stands_done (fewer (more way)) start_back) o) (same_steps way create_back)
    ∙ ap (λ t. state_by (changes_primary way) (is_feeding way stream) (stands_done way stop_feeding) (stands_done way create_back) t o) (same_steps way start_back)

undone_traffic : (w m : Live) (way : Way) → w.way ≡ Some way → m.way ≡ Some (more way) → IsSettled m → stands_done (more way) write_journal ≡ false → SameTraffic w (live_undone m (more way))
undone_traffic w m way opens opened settled before = by (eqb ((more way).done - 1) 0) refl
  where
    by : (t : Bool) → eqb ((more way).done - 1) 0 ≡ t → SameTraffic w (record m { way = cond t None (Some (fewer (more way))) })
    by true e =
        let zero_left : suc way.done - 1 ≡ 0 = eqb-true (suc way.done - 1) 0 e in
        let none : way.done ≡ 0 = omega arith in
        let same : m.switched ≡ before_way w = settled (more way) opened before ∙ sym (ap (before_by w.switched) opens) in
        record {
          before = same;
          types = λ n.
              settled (more way) opened before ∙ sym (ap (λ b. cond b way.after way.before) (nothing_done way n none))
              ∙ sym (ap (λ o. types_by_way w.switched o n) opens);
          lists = λ n shard le.
              settled (more way) opened before ∙ sym (ap (λ b. cond b way.after way.before) (none_refreshed way n shard none le))
              ∙ sym (ap (λ o. list_types_by_way w.switched o n shard) opens);
          streams = λ one other stream.
              state_before (record m { way = None }) w one other stream same
              ∙ sym (state_of_open w way other stream opens ∙ state_first way stream (state_of_slot (slot_before_way w other stream)) (λ n. nothing_done way n none));
        }
    by false e =
        let same : way.before ≡ before_way w = sym (ap (before_by w.switched) opens) in
        let v : Live = record m { way = Some (fewer (more way)) } in
        record {
          before = same;
          types = λ n. ap (λ b. cond b way.after way.before) (same_steps way n) ∙ sym (ap (λ o. types_by_way w.switched o n) opens);
          lists = λ n shard le. ap (λ b. cond b way.after way.before) (same_refreshes way n shard) ∙ sym (ap (λ o. list_types_by_way w.switched o n shard) opens);
          streams = λ one other stream.
              state_of_open v (fewer (more way)) one stream refl
              ∙ state_again way stream (state_of_slot (slot_before_way v one stream))
              ∙ ap (state_of_way way stream) (state_before v w one other stream same)
              ∙ sym (state_of_open w way other stream opens);
        }

-- ---- an event that is no command of the workflow

-- a command of another kind than a read, an advance or a Show is done, or changes nothing
done_or_same : (p : Plain) (event : Event) (answer : Answer) → reply_of p event ≡ done → ((events rows : ℕ) → after_advance p event events rows ≡ p) → Answers p event answer → (answer ≡ done) ⊎ (next p event answer ≡ p)
done_or_same p event done reply idle given = inl refl
done_or_same p event (row r) reply idle given = let h : row r ≡ done = given.1 ∙ reply in absurd cc
done_or_same p event (shown s) reply idle given = inr refl
done_or_same p event (advanced events rows) reply idle given = inr (idle events rows)
done_or_same p event (refused refusal) reply idle given = inr refl

module _ (p : Plain) (name : List ℕ) (w v : Live) (live : live_at p name ≡ Some w) where
  way_of_same : (q : Plain) → live_at q name ≡ Some v → live_at q name ≡ live_at p name → v.way ≡ w.way
  way_of_same q now same =
      let h : Some v ≡ Some w = sym now ∙ same ∙ live in
      let one : v ≡ w = cc in
      ap (λ x. x.way) one

  way_left : (event : Event) (answer : Answer) (workflow : List ℕ) → (IsOf name event → workflow ≡ name) → (answer ≡ done → same_text workflow name ≡ false) → (answer ≡ done) ⊎ (next p event answer ≡ p)
      → live_at (next p event answer) name ≡ Some v → v.way ≡ w.way
  way_left event answer workflow of other (inl is) now =
      way_of_same (next p event answer) now
      (same_workflow p event answer name (λ i. true≢false (sym ((same_text_decides workflow name).1 (of i)) ∙ other is)))
  way_left event answer workflow of other (inr same) now = way_of_same (next p event answer) now (ap (λ q. live_at q name) same)

  alone_way : (event : Event) (answer : Answer) → Answers p event answer → is_command name event answer ≡ false → live_at (next p event answer) name ≡ Some v → v.way ≡ w.way
  alone_way (begin_switch workflow types) answer given alone now =
      way_left (begin_switch workflow types) answer workflow (λ i. i) (λ is. sym (ap (is_command name (begin_switch workflow types)) is) ∙ alone)
      (done_or_same p (begin_switch workflow types) answer refl (λ events rows. refl) given) now
  alone_way (begin_reverse workflow types) answer given alone now =
      way_left (begin_reverse workflow types) answer workflow (λ i. i) (λ is. sym (ap (is_command name (begin_reverse workflow types)) is) ∙ alone)
      (done_or_same p (begin_reverse workflow types) answer refl (λ events rows. refl) given) now
  alone_way (step workflow at) answer given alone now =
      way_left (step workflow at) answer workflow (λ i. i) (λ is. sym (ap (is_command name (step workflow at)) is) ∙ alone)
      (done_or_same p (step workflow at) answer refl (λ events rows. refl) given) now
  alone_way (undo workflow at) answer given alone now =
      way_left (undo workflow at) answer workflow (λ i. i) (λ is. sym (ap (is_command name (undo workflow at)) is) ∙ alone)
      (done_or_same p (undo workflow at) answer refl (λ events rows. refl) given) now
  alone_way event answer given alone now = same_way p event answer name w v live now (λ h. h)

alone_lives : (name : List ℕ) (event : Event) (answer : Answer) → is_command name event answer ≡ false → ends_workflow name event answer ≡ false
alone_lives name (cancel workflow) done alone = alone
alone_lives name (complete workflow) done alone = alone
alone_lives name event answer alone = refl

-- ---- a run without one

pub record Stays (p q : Plain) (name : List ℕ) (w : Live) : Type 0 where
  pub later : Live
  pub live : live_at q name ≡ Some later
  pub sides : HasSides w later
  pub way : later.way ≡ w.way
  pub values : (key : EntryKey) → has_part w key ≡ true → value_of q.topology key ≡ value_of p.topology key

alone_run : (events : List Event) (answers : List Answer) (p : Plain) (name : List ℕ) (w : Live) → HasParts p → live_at p name ≡ Some w → Run p events answers → IsLeftAlone name events answers → Stays p (after p events answers) name w
alone_run [] answers p name w has live run alone = record { later = w; live = live; sides = sides_same w; way = refl; values = λ key part. refl }
alone_run (event ∷ events) [] p name w has live run alone = record { later = w; live = live; sides = sides_same w; way = refl; values = λ key part. refl }
alone_run (event ∷ events) (answer ∷ answers) p name w has live run alone =
    let one = one_event p event answer name w has live run.0 (alone_lives name event answer alone.0) in
    let rest = alone_run events answers (next p event answer) name one.later (next_has_parts p event answer has run.0) one.live run.1 alone.1 in
    record {
      later = rest.later;
      live = rest.live;
      sides = sides_joined w one.later rest.later one.sides rest.sides;
      way = rest.way ∙ alone_way p name w one.later live event answer run.0 alone.0 one.live;
      values = λ key part. rest.values key (sym (has_part-same w one.later one.sides key) ∙ part) ∙ one.values key part;
    }

-- ---- the workflow after a step, and after an undo

pub at_way_stepped : (p : Plain) (w : Live) (name : List ℕ) (way : Way) → same_text w.name name ≡ true → w.way ≡ Some way → changed (λ v. on_way_of (live_stepped p v) v) name w ≡ live_stepped p w way
at_way_stepped p w name way here opens =
    ap (λ t. cond t (on_way_of (live_stepped p w) w) w) here ∙ ap (λ o. option_map_or (live_stepped p w) o w) opens

pub at_way_undone : (w : Live) (name : List ℕ) (way : Way) → same_text w.name name ≡ true → w.way ≡ Some way → changed (λ v. on_way_of (live_undone v) v) name w ≡ live_undone w way
at_way_undone w name way here opens =
    ap (λ t. cond t (on_way_of (live_undone w) w) w) here ∙ ap (λ o. option_map_or (live_undone w) o w) opens

-- what is served at an entry of a live workflow's part
owned_entry : (p : Plain) (name : List ℕ) (w : Live) (key : EntryKey) → HasParts p → live_at p name ≡ Some w → has_part w key ≡ true → served_entry p key ≡ served_by p.topology w key
owned_entry p name w key has live part = ap (λ o. option_map_or (λ v. served_by p.topology v key) o (value_of p.topology key)) (owner_of_part p name w key has live part)

-- the way that a step of it was taken of
step_way : (p : Plain) (at : ℕ) (w : Live) → step_refusal p at w ≡ None → (way : Way) × (w.way ≡ Some way)
step_way p at w none =
    let r = on_way-none w.way (λ way. or_else (refuse_if way.undoing undoing) (or_else (refuse_if (not (eqb at way.done)) (stale way.done)) (own_refusal p w way (next_step way)))) none in
    (r.0, r.1)

pub undo_way : (at : ℕ) (w : Live) → undo_refusal at w ≡ None → (way : Way) × (w.way ≡ Some way)
undo_way at w none =
    let r = on_way-none w.way (λ way. or_else (refuse_if (stands_done way write_journal) past_journal) (refuse_if (not (eqb at way.done)) (stale way.done))) none in
    (r.0, r.1)

-- an open way behind a step is the way with one step more
pub one_more : (t : Bool) (o : Option Way) (way later : Way) → o ≡ cond t None (Some (more way)) → o ≡ Some later → later ≡ more way
one_more true o way later is opens = no_way o later is opens
one_more false o way later is opens = one_way o later (more way) opens is

moves_same : (w v : Live) → HasSides w v → (table : List ℕ) → moves w table ≡ true → moves v table ≡ true
moves_same w v sides table moved = ap (list_any (λ t. same_text t table)) (sym sides.tables) ∙ moved

mover_of : (p : Plain) (name : List ℕ) (w : Live) (table : List ℕ) → HasParts p → live_at p name ≡ Some w → moves w table ≡ true → mover p table ≡ Some w
mover_of p name w table has live moved =
    find_the_one (λ v. moves v table) p.lives w has.apart (λ v a apart. apart.tables table a moved) (find_some (λ x. same_text x.name name) p.lives w live).0 moved

-- runs go on
run_reached : (events : List Event) (answers : List Answer) (p : Plain) → IsReached p → Run p events answers → IsReached (after p events answers)
run_reached [] answers p reached run = reached
run_reached (event ∷ events) [] p reached run = reached
run_reached (event ∷ events) (answer ∷ answers) p reached run = run_reached events answers (next p event answer) (reached_next p event answer reached run.0) run.1

-- what streams of the lane of a number do, where the lanes have the same numbers
of_lanes : (shard : ℕ) (f g : Lane → Option Slot) → ((one other : Lane) → state_of_slot (f one) ≡ state_of_slot (g other)) → (xs ys : List Lane)
    → map (λ lane. lane.shard) ys ≡ map (λ lane. lane.shard) xs
    → state_of_slot (option_and_then f (find (λ lane. eqb lane.shard shard) xs)) ≡ state_of_slot (option_and_then g (find (λ lane. eqb lane.shard shard) ys))
of_lanes shard f g same [] [] e = refl
of_lanes shard f g same [] (y ∷ ys) e = absurd cc
of_lanes shard f g same (x ∷ xs) [] e = absurd cc
of_lanes shard f g same (x ∷ xs) (y ∷ ys) e =
    let first : y.shard ≡ x.shard = cc in
    let rest : map (λ lane. lane.shard) ys ≡ map (λ lane. lane.shard) xs = cc in
    by (eqb x.shard shard) (of_lanes shard f g same xs ys rest)
    ∙ sym (ap (λ n. state_of_slot (option_and_then g (cond (eqb n shard) (Some y) (find (λ lane. eqb lane.shard shard) ys)))) first)
  where
    by : (t : Bool) → state_of_slot (option_and_then f (find (λ lane. eqb lane.shard shard) xs)) ≡ state_of_slot (option_and_then g (find (λ lane. eqb lane.shard shard) ys))
        → state_of_slot (option_and_then f (cond t (Some x) (find (λ lane. eqb lane.shard shard) xs))) ≡ state_of_slot (option_and_then g (cond t (Some y) (find (λ lane. eqb lane.shard shard) ys)))
    by true rest = same x y
    by false rest = rest

pub record Undone (p q : Plain) (name : List ℕ) : Type 0 where
  pub first : Live
  pub live_first : live_at p name ≡ Some first
  pub final : Live
  pub live_final : live_at q name ≡ Some final
  pub sides : HasSides first final
  pub traffic : SameTraffic first final
  pub values : (key : EntryKey) → has_part first key ≡ true → value_of q.topology key ≡ value_of p.topology key
  pub parts : HasParts q
  pub lanes : map (λ lane. lane.shard) first.lanes ≡ map (λ lane. lane.shard) final.lanes

module _ (name : List ℕ) (at at_undo : ℕ) (p q : Plain) (reached : IsReached p) (u : StepUndone name at at_undo p q) where
  abbrev stepped_at : Plain
  stepped_at = next p (step name at) done

  abbrev undone_at : Plain
  undone_at = after stepped_at u.events u.answers

  reached_undone : IsReached (next undone_at (undo name at_undo) done)
  reached_undone =
      reached_next undone_at (undo name at_undo) done (run_reached u.events u.answers stepped_at (reached_next p (step name at) done reached u.stepped) u.run) u.undone

  pub undone : Undone p q name
  undone =
      let has = reached_has_parts p reached in
      let start = in_workflow-none (live_at p name) (step_refusal p at) u.stepped.0 in
      let w = start.0 in
      let open_way = step_way p at w start.2 in
      let way = open_way.0 in
      let here = (find_some (λ x. same_text x.name name) p.lives w start.1).1 in
      let one = one_event p (step name at) done name w has start.1 u.stepped refl in
      let is_stepped : one.later ≡ live_stepped p w way =
      live_after p stepped_at (step name at) done (lives_after p (step name at) done) name w one.later start.1 one.live
      ∙ at_way_stepped p w name way here open_way.1 in
      let has_stepped = next_has_parts p (step name at) done has u.stepped in
      let mid = alone_run u.events u.answers stepped_at name one.later has_stepped one.live u.run u.left_alone in
      let has_undone = run_has_parts u.events u.answers stepped_at u.run has_stepped in
      let m = mid.later in
      let stop = in_workflow-none (live_at undone_at name) (undo_refusal at_undo) u.undone.0 in
      let found : Some stop.0 ≡ Some m = sym stop.1 ∙ mid.live in
      let same : stop.0 ≡ m = cc in
      let none : undo_refusal at_undo m ≡ None = ap (undo_refusal at_undo) (sym same) ∙ stop.2 in
      let last_way = undo_way at_undo m none in
      let is_more : last_way.0 ≡ more way = one_more (closes way) m.way way last_way.0 (mid.way ∙ ap (λ x. x.way) is_stepped ∙ way-stepped p w way) last_way.1 in
      let opened : m.way ≡ Some (more way) = last_way.1 ∙ ap Some is_more in
      let before = undo_before_journal at_undo m (more way) opened none in
      let settled = has_undone.settled m (find_some (λ x. same_text x.name name) undone_at.lives m mid.live).0 in
      let here_again = (find_some (λ x. same_text x.name name) undone_at.lives m mid.live).1 in
      let two = one_event undone_at (undo name at_undo) done name m has_undone mid.live u.undone refl in
      let is_undone : two.later ≡ live_undone m (more way) =
      live_after undone_at (next undone_at (undo name at_undo) done) (undo name at_undo) done (lives_after undone_at (undo name at_undo) done) name m two.later mid.live two.live
      ∙ at_way_undone m name (more way) here_again opened in
      let to_undo = sides_joined w one.later m one.sides mid.sides in
      record {
        first = w;
        live_first = start.1;
        final = two.later;
        live_final = ap (λ r. live_at r name) (sym u.is) ∙ two.live;
        sides = sides_joined w m two.later to_undo two.sides;
        traffic = subst (SameTraffic w) (sym is_undone) (undone_traffic w m way open_way.1 opened settled before);
        values = λ key part.
            ap (λ r. value_of r.topology key) (sym u.is)
            ∙ two.values key (sym (has_part-same w m to_undo key) ∙ part)
            ∙ mid.values key (sym (has_part-same w one.later one.sides key) ∙ part)
            ∙ one.values key part;
        parts = subst HasParts u.is (next_has_parts undone_at (undo name at_undo) done has_undone u.undone);
        lanes =
            reached_numbered p reached w (find_some (λ x. same_text x.name name) p.lives w start.1).0
            ∙ ap (λ cuts. range_with_len 0 (shard_count cuts)) (sides_joined w m two.later to_undo two.sides).cuts
            ∙ sym (reached_numbered (next undone_at (undo name at_undo) done) reached_undone two.later (find_some (λ x. same_text x.name name) (next undone_at (undo name at_undo) done).lives two.later two.live).0);
      }

  pub undone_serves : (key : EntryKey) → in_part p name key ≡ true → served_entry q key ≡ served_entry p key
  undone_serves key part =
      let has = reached_has_parts p reached in
      let mine : has_part undone.first key ≡ true = sym (in_part-of p name undone.first key undone.live_first) ∙ part in
      let still : has_part undone.final key ≡ true = sym (has_part-same undone.first undone.final undone.sides key) ∙ mine in
      owned_entry q name undone.final key undone.parts undone.live_final still
      ∙ served_same undone.first undone.final undone.sides undone.traffic q.topology p.topology key (undone.values key mine)
      ∙ sym (owned_entry p name undone.first key has undone.live_first mine)

  pub undone_refuses : (w : Live) (keyspace : List ℕ) (shard : ℕ) (table : List ℕ) → live_at p name ≡ Some w → moves w table ≡ true → refuses q keyspace shard table ≡ refuses p keyspace shard table
  undone_refuses w keyspace shard table live moved =
      let has = reached_has_parts p reached in
      let found : Some w ≡ Some undone.first = sym live ∙ undone.live_first in
      let same : w ≡ undone.first = cc in
      let mine : moves undone.first table ≡ true = ap (λ x. moves x table) (sym same) ∙ moved in
      ap (λ o. refuses_moved o keyspace shard) (mover_of q name undone.final table undone.parts undone.live_final (moves_same undone.first undone.final undone.sides table mine))
      ∙ refuses_same undone.first undone.final undone.sides undone.traffic keyspace shard
      ∙ sym (ap (λ o. refuses_moved o keyspace shard) (mover_of p name undone.first table has undone.live_first mine))

  pub undone_streams : (shard : ℕ) (stream : StreamName) → stream_state q name shard stream ≡ stream_state p name shard stream
  undone_streams shard stream =
      ap (λ o. state_of_slot (option_and_then (λ w. option_and_then (λ lane. slot_of w lane stream) (lane_at w shard)) o)) undone.live_final
      ∙ of_lanes shard (λ lane. slot_of undone.final lane stream) (λ lane. slot_of undone.first lane stream) (λ one other. undone.traffic.streams one other stream)
      undone.final.lanes undone.first.lanes undone.lanes
      ∙ sym (ap (λ o. state_of_slot (option_and_then (λ w. option_and_then (λ lane. slot_of w lane stream) (lane_at w shard)) o)) undone.live_first)
