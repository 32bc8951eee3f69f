-- What each event leaves as it was.
use Rattle.std.proofs.Common.{◌≡◌, ◌⊎◌, inl, inr, ℕ, Bool, true, false, not, cond, eqb, List, [], ◌∷◌, map, find, Option, None, Some, option_map, is_some, refl, sym, ap, ◌∙◌, subst}
use Rattle.std.specs.Prelude.{◌&&◌}
use Rattle.std.specs.Option.{option_map_or}
use Rattle.mt_names.specs.declared.types.TypeSet.{TypeSet}
use Rattle.mt_names.specs.Names.{same_text}
use Rattle.mt_names.proofs.SameLemmas.{same_text_decides}
use Rattle.mt_plain.specs.Events.{Event, write, read, add_keyspace, add_table, edit_rule, advance, begin_switch, begin_reverse, step, undo, cancel, complete, show, StreamName, Answer, done, row, advanced, shown, refused, Way}
use Rattle.mt_plain.specs.Next.{closes, lane_made, lane_stepped, live_stepped, live_undone, next, next_taken, on_way_of, types_and, types_without, with_advance, with_completed, with_way_to}
use Rattle.mt_plain.specs.Plain.{Copied, Lane, Live, Plain, changes_primary, create_back, live_at, next_step, LogEntry}
use Rattle.mt_plain.specs.Slots.{live_advanced}
use Rattle.mt_laws.specs.Changes.{BeginsWay, ChangesLives, ChangesLogs, ChangesNumbers, ChangesTopology, ChangesWay, ChangesWrites, HasSides, IsAdvance, IsOf, IsStep, MovesStream, OnlyTells, fed_and_copied}
use Rattle.mt_laws.proofs.ChangeLemmas.{LivesAfter, ended, live_after, live_next, live_taken, lives_after, made, mapped, sides-next}
use Rattle.mt_laws.proofs.LiveLemmas.{changed, find-filter_kept, find-map, find-push_other, find_some, text_differs}

-- ---- the state apart from its workflows

advance_leaves : (p : Plain) (name : StreamName) (shard at at_most events rows : ℕ) (o : Option Live)
    → with_advance p name shard at at_most events rows o ≡ record p { lives = (with_advance p name shard at at_most events rows o).lives; log = (with_advance p name shard at at_most events rows o).log }
advance_leaves p name shard at at_most events rows None = refl
advance_leaves p name shard at at_most events rows (Some w) = refl

complete_leaves : (p : Plain) (o : Option Live)
    → with_completed p o ≡ record p { topology = (with_completed p o).topology; numbers = (with_completed p o).numbers; lives = (with_completed p o).lives }
complete_leaves p None = refl
complete_leaves p (Some w) = refl

module _ {A : Type 0} (field : Plain → A) where
  -- what holds after an event that is done, and after an advance, holds after each answer
  next_leaves : (p : Plain) (event : Event) (answer : Answer) → field (next_taken p event) ≡ field p
      → ((workflow : List ℕ) (name : StreamName) (shard at at_most events rows : ℕ) (o : Option Live) → event ≡ advance workflow name shard at at_most → field (with_advance p name shard at at_most events rows o) ≡ field p)
      → field (next p event answer) ≡ field p
  next_leaves p event done taken advancing = taken
  next_leaves p event (row r) taken advancing = taken
  next_leaves p (advance workflow name shard at at_most) (advanced events rows) taken advancing = advancing workflow name shard at at_most events rows (live_at p workflow) refl
  next_leaves p event (advanced events rows) taken advancing = refl
  next_leaves p event (shown s) taken advancing = refl
  next_leaves p event (refused refusal) taken advancing = refl

  -- of what an advance does not write
  leaves : ((p : Plain) (lives : List Live) (log : List LogEntry) → field (record p { lives = lives; log = log }) ≡ field p) → (p : Plain) (event : Event) (answer : Answer) → field (next_taken p event) ≡ field p → field (next p event answer) ≡ field p
  leaves keeps p event answer taken =
      next_leaves p event answer taken
      (λ workflow name shard at at_most events rows o is. let q = with_advance p name shard at at_most events rows o in ap field (advance_leaves p name shard at at_most events rows o) ∙ keeps p q.lives q.log)

taken-topology : (p : Plain) (event : Event) → ¬ (ChangesTopology event) → (next_taken p event).topology ≡ p.topology
taken-topology p (add_keyspace keyspace cuts) other = absurd (other tt)
taken-topology p (add_table keyspace table) other = absurd (other tt)
taken-topology p (edit_rule key target) other = absurd (other tt)
taken-topology p (complete workflow) other = absurd (other tt)
taken-topology p event other = refl

pub same_topology : (p : Plain) (event : Event) (answer : Answer) → ¬ (ChangesTopology event) → (next p event answer).topology ≡ p.topology
same_topology p event answer other = leaves (λ q. q.topology) (λ r lives log. refl) p event answer (taken-topology p event other)

taken-numbers : (p : Plain) (event : Event) → ¬ (ChangesNumbers event) → (next_taken p event).numbers ≡ p.numbers
taken-numbers p (add_table keyspace table) other = absurd (other tt)
taken-numbers p (complete workflow) other = absurd (other tt)
taken-numbers p event other = refl

pub same_numbers : (p : Plain) (event : Event) (answer : Answer) → ¬ (ChangesNumbers event) → (next p event answer).numbers ≡ p.numbers
same_numbers p event answer other = leaves (λ q. q.numbers) (λ r lives log. refl) p event answer (taken-numbers p event other)

taken-made : (p : Plain) (event : Event) → ¬ (ChangesNumbers event) → (next_taken p event).made ≡ p.made
taken-made p (add_table keyspace table) other = absurd (other tt)
taken-made p (complete workflow) other = absurd (other tt)
taken-made p event other = refl

pub same_made : (p : Plain) (event : Event) (answer : Answer) → ¬ (ChangesNumbers event) → (next p event answer).made ≡ p.made
same_made p event answer other = leaves (λ q. q.made) (λ r lives log. refl) p event answer (taken-made p event other)

taken-writes : (p : Plain) (event : Event) → ¬ (ChangesWrites event) → (next_taken p event).writes ≡ p.writes
taken-writes p (write keyspace table op) other = absurd (other tt)
taken-writes p (complete workflow) other = ap (λ q. q.writes) (complete_leaves p (live_at p workflow))
taken-writes p event other = refl

pub same_writes : (p : Plain) (event : Event) (answer : Answer) → ¬ (ChangesWrites event) → (next p event answer).writes ≡ p.writes
same_writes p event answer other = leaves (λ q. q.writes) (λ r lives log. refl) p event answer (taken-writes p event other)

taken-logs : (p : Plain) (event : Event) → ¬ (ChangesLogs event) → (next_taken p event).log ≡ p.log
taken-logs p (write keyspace table op) other = absurd (other tt)
taken-logs p (complete workflow) other = ap (λ q. q.log) (complete_leaves p (live_at p workflow))
taken-logs p event other = refl

pub same_logs : (p : Plain) (event : Event) (answer : Answer) → ¬ (ChangesLogs event) → (next p event answer).log ≡ p.log
same_logs p event answer other =
    next_leaves (λ q. q.log) p event answer (taken-logs p event other)
    (λ workflow name shard at at_most events rows o is. absurd (other (subst ChangesLogs (sym is) tt)))

taken-ways : (p : Plain) (event : Event) → ¬ (BeginsWay event) → (next_taken p event).ways ≡ p.ways
taken-ways p (begin_switch workflow types) other = absurd (other tt)
taken-ways p (begin_reverse workflow types) other = absurd (other tt)
taken-ways p (complete workflow) other = ap (λ q. q.ways) (complete_leaves p (live_at p workflow))
taken-ways p event other = refl

pub same_ways : (p : Plain) (event : Event) (answer : Answer) → ¬ (BeginsWay event) → (next p event answer).ways ≡ p.ways
same_ways p event answer other = leaves (λ q. q.ways) (λ r lives log. refl) p event answer (taken-ways p event other)

taken-journal : (p : Plain) (event : Event) → ¬ (IsStep event) → (next_taken p event).journal ≡ p.journal
taken-journal p (step workflow at) other = absurd (other tt)
taken-journal p (complete workflow) other = ap (λ q. q.journal) (complete_leaves p (live_at p workflow))
taken-journal p event other = refl

pub same_journal : (p : Plain) (event : Event) (answer : Answer) → ¬ (IsStep event) → (next p event answer).journal ≡ p.journal
same_journal p event answer other = leaves (λ q. q.journal) (λ r lives log. refl) p event answer (taken-journal p event other)

taken-scopes : (p : Plain) (event : Event) → (next_taken p event).scopes ≡ p.scopes
taken-scopes p (complete workflow) = ap (λ q. q.scopes) (complete_leaves p (live_at p workflow))
taken-scopes p event = refl

pub same_scopes : (p : Plain) (event : Event) (answer : Answer) → (next p event answer).scopes ≡ p.scopes
same_scopes p event answer = leaves (λ q. q.scopes) (λ r lives log. refl) p event answer (taken-scopes p event)

-- Read and Show
pub told : (p : Plain) (event : Event) (answer : Answer) → OnlyTells event → next p event answer ≡ p
told p event (refused refusal) tells = refl
told p event (shown s) tells = refl
told p (read keyspace table key tablet_type) done tells = refl
told p (read keyspace table key tablet_type) (row r) tells = refl
told p (read keyspace table key tablet_type) (advanced events rows) tells = refl
told p (show workflow) done tells = refl
told p (show workflow) (row r) tells = refl
told p (show workflow) (advanced events rows) tells = refl
told p event answer tells = absurd tells

-- ---- the workflow of a name

module _ {A : Type 0} (field : Live → A) where
  field-cond : (t : Bool) (a b : Live) (x : A) → field a ≡ x → field b ≡ x → field (cond t a b) ≡ x
  field-cond true a b x one two = one
  field-cond false a b x one two = two

  field-changed : (change : Live → Live) (name : List ℕ) (w : Live) → field (change w) ≡ field w → field (changed change name w) ≡ field w
  field-changed change name w same = field-cond (same_text w.name name) (change w) w (field w) same refl

  field-on_way : (w : Live) (change : Way → Live) → ((way : Way) → field (change way) ≡ field w) → (o : Option Way) → field (option_map_or change o w) ≡ field w
  field-on_way w change each None = refl
  field-on_way w change each (Some way) = each way

-- the traffic of a workflow
abbrev pub traffic : Live → TypeSet × Option Way
traffic w = (w.switched, w.way)

pub traffic-advanced : (p : Plain) (w : Live) (name : StreamName) (shard at at_most events rows : ℕ) → traffic (live_advanced p w name shard at at_most events rows) ≡ traffic w
traffic-advanced p w name shard at at_most events rows = refl

module _ {A : Type 0} (field : Live → A) where
  -- what an event that is done leaves, and what an advance leaves, each answer leaves
  live_leaves : (p : Plain) (event : Event) (answer : Answer) (w : Live) → field (live_taken p event w) ≡ field w
      → ((workflow : List ℕ) (name : StreamName) (shard at at_most events rows : ℕ) → event ≡ advance workflow name shard at at_most → field (live_advanced p w name shard at at_most events rows) ≡ field w)
      → field (live_next p event answer w) ≡ field w
  live_leaves p event done w taken advancing = taken
  live_leaves p event (row r) w taken advancing = taken
  live_leaves p (advance workflow name shard at at_most) (advanced events rows) w taken advancing =
      field-changed field (λ v. live_advanced p v name shard at at_most events rows) workflow w (advancing workflow name shard at at_most events rows refl)
  live_leaves p event (advanced events rows) w taken advancing = refl
  live_leaves p event (shown s) w taken advancing = refl
  live_leaves p event (refused refusal) w taken advancing = refl

taken-switched : (p : Plain) (event : Event) (w : Live) → ¬ (IsStep event) → (live_taken p event w).switched ≡ w.switched
taken-switched p (begin_switch workflow types) w other = field-changed (λ v. v.switched) (with_way_to false (λ switched. types_and switched types)) workflow w refl
taken-switched p (begin_reverse workflow types) w other = field-changed (λ v. v.switched) (with_way_to true (λ switched. types_without switched types)) workflow w refl
taken-switched p (step workflow at) w other = absurd (other tt)
taken-switched p (undo workflow at) w other =
    field-changed (λ v. v.switched) (λ v. on_way_of (live_undone v) v) workflow w (field-on_way (λ v. v.switched) w (live_undone w) (λ way. refl) w.way)
taken-switched p event w other = refl

taken-way : (p : Plain) (event : Event) (w : Live) → ¬ (ChangesWay event) → (live_taken p event w).way ≡ w.way
taken-way p (begin_switch workflow types) w other = absurd (other tt)
taken-way p (begin_reverse workflow types) w other = absurd (other tt)
taken-way p (step workflow at) w other = absurd (other tt)
taken-way p (undo workflow at) w other = absurd (other tt)
taken-way p event w other = refl

taken-lanes : (p : Plain) (event : Event) (w : Live) → ¬ (MovesStream event) → (live_taken p event w).lanes ≡ w.lanes
taken-lanes p (begin_switch workflow types) w other = field-changed (λ v. v.lanes) (with_way_to false (λ switched. types_and switched types)) workflow w refl
taken-lanes p (begin_reverse workflow types) w other = field-changed (λ v. v.lanes) (with_way_to true (λ switched. types_without switched types)) workflow w refl
taken-lanes p (step workflow at) w other = absurd (other tt)
taken-lanes p (undo workflow at) w other =
    field-changed (λ v. v.lanes) (λ v. on_way_of (live_undone v) v) workflow w (field-on_way (λ v. v.lanes) w (live_undone w) (λ way. refl) w.way)
taken-lanes p event w other = refl

-- what is fed and copied of each lane
abbrev counts : Live → List (ℕ × Copied)
counts v = map fed_and_copied v.lanes

lane_counts : (p : Plain) (w : Live) (way : Way) (lane : Lane) → fed_and_copied (lane_stepped p w way lane) ≡ fed_and_copied lane
lane_counts p w way lane = by (eqb (next_step way) create_back) (closes way && changes_primary way) way.back
  where
    shape : (a b c : Bool) → Lane
    shape a b c = cond a (lane_made p w lane) (cond b (cond c (record lane { forward_at = lane.fresh_at }) (record lane { back_at = lane.fresh_at })) lane)

    by : (a b c : Bool) → fed_and_copied (shape a b c) ≡ fed_and_copied lane
    by true b c = refl
    by false true true = refl
    by false true false = refl
    by false false c = refl

all_counts : (p : Plain) (w : Live) (way : Way) (lanes : List Lane) → map fed_and_copied (map (lane_stepped p w way) lanes) ≡ map fed_and_copied lanes
all_counts p w way [] = refl
all_counts p w way (lane ∷ lanes) =
    ap (λ y. y ∷ map fed_and_copied (map (lane_stepped p w way) lanes)) (lane_counts p w way lane) ∙ ap (λ ys. fed_and_copied lane ∷ ys) (all_counts p w way lanes)

taken-counts : (p : Plain) (event : Event) (w : Live) → ¬ (IsAdvance event) → counts (live_taken p event w) ≡ counts w
taken-counts p (begin_switch workflow types) w other = field-changed counts (with_way_to false (λ switched. types_and switched types)) workflow w refl
taken-counts p (begin_reverse workflow types) w other = field-changed counts (with_way_to true (λ switched. types_without switched types)) workflow w refl
taken-counts p (step workflow at) w other =
    field-changed counts (λ v. on_way_of (live_stepped p v) v) workflow w (field-on_way counts w (live_stepped p w) (λ way. all_counts p w way w.lanes) w.way)
taken-counts p (undo workflow at) w other =
    field-changed counts (λ v. on_way_of (live_undone v) v) workflow w (field-on_way counts w (live_undone w) (λ way. refl) w.way)
taken-counts p event w other = refl

-- a workflow that is live before and after an event
module _ (p : Plain) (event : Event) (answer : Answer) (name : List ℕ) (w v : Live) (before : live_at p name ≡ Some w) (now : live_at (next p event answer) name ≡ Some v) where
  is_next : v ≡ live_next p event answer w
  is_next = live_after p (next p event answer) event answer (lives_after p event answer) name w v before now

  pub same_sides : HasSides w v
  same_sides = subst (HasSides w) (sym is_next) (sides-next p event answer w)

  pub same_switched : ¬ (IsStep event) → v.switched ≡ w.switched
  same_switched other =
      ap (λ x. x.switched) is_next
      ∙ live_leaves (λ x. x.switched) p event answer w (taken-switched p event w other)
      (λ workflow stream shard at at_most events rows is. ap (λ t. t.0) (traffic-advanced p w stream shard at at_most events rows))

  pub same_way : ¬ (ChangesWay event) → v.way ≡ w.way
  same_way other =
      ap (λ x. x.way) is_next
      ∙ live_leaves (λ x. x.way) p event answer w (taken-way p event w other)
      (λ workflow stream shard at at_most events rows is. ap (λ t. t.1) (traffic-advanced p w stream shard at at_most events rows))

  pub same_lanes : ¬ (MovesStream event) → v.lanes ≡ w.lanes
  same_lanes other =
      ap (λ x. x.lanes) is_next
      ∙ live_leaves (λ x. x.lanes) p event answer w (taken-lanes p event w other)
      (λ workflow stream shard at at_most events rows is. absurd (other (subst MovesStream (sym is) tt)))

  pub same_counts : ¬ (IsAdvance event) → map fed_and_copied v.lanes ≡ map fed_and_copied w.lanes
  same_counts other =
      ap counts is_next
      ∙ live_leaves counts p event answer w (taken-counts p event w other)
      (λ workflow stream shard at at_most events rows is. absurd (other (subst IsAdvance (sym is) tt)))

-- ---- which workflows are live, and the others

is_some-map : (f : Live → Live) (o : Option Live) → is_some (option_map f o) ≡ is_some o
is_some-map f None = refl
is_some-map f (Some w) = refl

names-next : (p : Plain) (event : Event) (answer : Answer) (name : List ℕ) (w : Live) → same_text (live_next p event answer w).name name ≡ same_text w.name name
names-next p event answer name w = ap (λ n. same_text n name) (sym (sides-next p event answer w).name)

pub same_names : (p : Plain) (event : Event) (answer : Answer) (name : List ℕ) → ¬ (ChangesLives event) → is_some (live_at (next p event answer) name) ≡ is_some (live_at p name)
same_names p event answer name other = by (lives_after p event answer)
  where
    by : LivesAfter p (next p event answer) event answer → is_some (live_at (next p event answer) name) ≡ is_some (live_at p name)
    by (mapped lives) =
        ap is_some (ap (find (λ x. same_text x.name name)) lives ∙ find-map (λ x. same_text x.name name) (live_next p event answer) p.lives (names-next p event answer name))
        ∙ is_some-map (live_next p event answer) (live_at p name)
    by (made new source target tables is lives same) = absurd (other (subst ChangesLives (sym is) tt))
    by (ended gone (inl is) lives same) = absurd (other (subst ChangesLives (sym is) tt))
    by (ended gone (inr is) lives same) = absurd (other (subst ChangesLives (sym is) tt))

taken_elsewhere : (p : Plain) (event : Event) (name : List ℕ) (w : Live) → w.name ≡ name → ¬ (IsOf name event) → live_taken p event w ≡ w
taken_elsewhere p (begin_switch workflow types) name w is other = rw (text_differs w.name workflow (λ e. other (sym e ∙ is))) refl
taken_elsewhere p (begin_reverse workflow types) name w is other = rw (text_differs w.name workflow (λ e. other (sym e ∙ is))) refl
taken_elsewhere p (step workflow at) name w is other = rw (text_differs w.name workflow (λ e. other (sym e ∙ is))) refl
taken_elsewhere p (undo workflow at) name w is other = rw (text_differs w.name workflow (λ e. other (sym e ∙ is))) refl
taken_elsewhere p event name w is other = refl

pub next_elsewhere : (p : Plain) (event : Event) (answer : Answer) (name : List ℕ) (w : Live) → w.name ≡ name → ¬ (IsOf name event) → live_next p event answer w ≡ w
next_elsewhere p event done name w is other = taken_elsewhere p event name w is other
next_elsewhere p event (row r) name w is other = taken_elsewhere p event name w is other
next_elsewhere p (advance workflow stream shard at at_most) (advanced events rows) name w is other = rw (text_differs w.name workflow (λ e. other (sym e ∙ is))) refl
next_elsewhere p event (advanced events rows) name w is other = refl
next_elsewhere p event (shown s) name w is other = refl
next_elsewhere p event (refused refusal) name w is other = refl

pub map-same : (f : Live → Live) (o : Option Live) → ((w : Live) → o ≡ Some w → f w ≡ w) → option_map f o ≡ o
map-same f None same = refl
map-same f (Some w) same = ap Some (same w refl)

pub same_workflow : (p : Plain) (event : Event) (answer : Answer) (name : List ℕ) → ¬ (IsOf name event) → live_at (next p event answer) name ≡ live_at p name
same_workflow p event answer name other = by (lives_after p event answer)
  where
    test : Live → Bool
    test x = same_text x.name name

    by : LivesAfter p (next p event answer) event answer → live_at (next p event answer) name ≡ live_at p name
    by (mapped lives) =
        ap (find test) lives ∙ find-map test (live_next p event answer) p.lives (names-next p event answer name)
        ∙ map-same (live_next p event answer) (live_at p name)
        (λ w found. next_elsewhere p event answer name w ((same_text_decides w.name name).0 (find_some test p.lives w found).1) other)
    by (made new source target tables is lives same) =
        ap (find test) lives ∙ find-push_other test p.lives _ (text_differs new name (λ e. other (subst (IsOf name) (sym is) e)))
    by (ended gone is lives same) =
        ap (find test) lives
        ∙ find-filter_kept test (λ x. not (same_text x.name gone)) p.lives
        (λ x i e. ap not (text_differs x.name gone (λ g. of_it is (sym g ∙ (same_text_decides x.name name).0 e))))
      where
        of_it : (event ≡ cancel gone) ⊎ (event ≡ complete gone) → gone ≡ name → ⊥
        of_it (inl e) g = other (subst (IsOf name) (sym e) g)
        of_it (inr e) g = other (subst (IsOf name) (sym e) g)

pub same_traffic : (p : Plain) (event : Event) (answer : Answer) (w : Live) → ¬ (ChangesWay event) → traffic (live_next p event answer w) ≡ traffic w
same_traffic p event answer w other =
    live_leaves traffic p event answer w (by event other)
    (λ workflow stream shard at at_most events rows is. traffic-advanced p w stream shard at at_most events rows)
  where
    by : (e : Event) → ¬ (ChangesWay e) → traffic (live_taken p e w) ≡ traffic w
    by (begin_switch workflow types) n = absurd (n tt)
    by (begin_reverse workflow types) n = absurd (n tt)
    by (step workflow at) n = absurd (n tt)
    by (undo workflow at) n = absurd (n tt)
    by e n = refl
