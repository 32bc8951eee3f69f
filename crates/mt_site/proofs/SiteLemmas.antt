-- The whole controller as a value: its core beside what it keeps of the ways.
use Rattle.std.proofs.Common.{◌≡◌, ◌≢◌, ◌<◌, ℕ, Bool, true, List, [], ◌∷◌, length, map, Option, None, Some, Result, Ok, Err, is_ok, is_some, refl, sym, ap, subst, cond, arith, All, ◌∙◌}
use Rattle.std.proofs.lemmas.Bool.{or_right, true≢false}
use Rattle.std.proofs.lemmas.List.Elements.{All-append, All-from_recursion}
use Rattle.std.specs.List.{AllByRecursion}
use Rattle.std.specs.Prelude.{⊤, ◌||◌, false, not, IfOk}
use Rattle.std.specs.Result.{OnErr}
use Rattle.mt_event.specs.declared.reason.Reason as code
use Rattle.mt_event.specs.Reasons.{done_by, reason_from}
use Rattle.mt_journal.specs.declared.entry.JournalEntry.{JournalEntry}
use Rattle.mt_journal.specs.Journal.{entry_of}
use Rattle.mt_model.specs.declared.entries.EntryKey.TheVariants as about
use Rattle.mt_model.specs.declared.entries.Scope.{Scope}
use Rattle.mt_model.specs.Topology.{TopologyState, has_place, is_present}
use Rattle.mt_names.proofs.SameLemmas.{same_text_decides}
use Rattle.mt_names.specs.declared.types.TypeSet.{TypeSet}
use Rattle.mt_names.specs.Names.{same_text}
use Rattle.mt_plain.specs.Events.{Refusal, Way, copying, done, memory, nothing_to_reverse, nothing_to_switch, refused}
use Rattle.mt_plain.specs.Next.{types_and, types_without}
use Rattle.mt_plain.specs.Plain.{Plain, among, behind_last, changes_primary, next_step, stands_done, write_journal}
use Rattle.mt_plain.specs.Refuse.{at_rest, complete_refusal, has_more, or_else, refuse_if, share_type}
use Rattle.mt_primary.specs.Primary.{has_table}
use Rattle.mt_steps.specs.declared.fault.StepFault.{StepFault}
use Rattle.mt_steps.specs.declared.log.OpenWay.{OpenWay}
use Rattle.mt_steps.specs.Plans.{step_at}
use Rattle.mt_steps.specs.Steps.{SidesState, Steps}
use Rattle.mt_steps.specs.Streams.{KeepsToTest}
use Rattle.mt_steps.specs.Undo.{IsLogOf, UndoState}
use Rattle.mt_watch.specs.Asking.{Answering}
use Rattle.mt_workflow.specs.Workflows.{WorkflowState, keys_of_part, live_of}
use Rattle.mt_refinement.proofs.SameLemmas.{sides_same}
use Rattle.mt_refinement.proofs.AnswerUndoLemmas.{undo_same}
use Rattle.mt_primary.specs.Primaries.{Primaries, count_of, has_primaries, primary_of, shards_of}
use Rattle.mt_stands.specs.Base.{BaseState, Workflows, workflow_at}
use Rattle.mt_stands.specs.Stands.{Stands, StandsWith}
use Rattle.mt_stands.specs.Switching.{BeginsReverseAt, BeginsSwitchAt, CompletesAt, OrRefused, CoreDoes, StepsAt, StepsKept, StepsWay, StepsWorkflow, UndoesWorkflow, answer_by_step, completed, is_copying, no_number_left, sides_of, step_refusal, way_to, with_sides, with_way}
use Rattle.mt_stands.specs.Ways.{OpenWays, CoreStands, CoreState, WaysState, open_at}
use Rattle.mt_moves.specs.Ways.{CanComplete, CanStep}

-- the controller, of its parts
abbrev pub site : TopologyState → Primaries → Workflows → OpenWays → List JournalEntry → ℕ → CoreState
site t ps ws os journal begun = record { base = record { topology = t; primaries = ps; workflows = ws }; ways = record { opened = os; journal = journal; begun = begun } }

-- its core stands for what it stands for
pub stands_base : (p : Plain) (scopes : List Scope) (s : CoreState) → CoreStands p scopes s → Stands p s.base
stands_base p scopes s stands = subst (λ l. StandsWith p l s.base) (sym stands.base.scopes_are) stands.base

-- what leaves the ways as they are
pub joined : (old new : CoreState) → new.ways ≡ old.ways → record old { base = new.base } ≡ new
joined old new same = let by : WaysState → CoreState = λ ways. record { base = new.base; ways = ways } in ap by (sym same)

-- a core beside what is kept of the ways
abbrev pub whole : BaseState → WaysState → CoreState
whole core ways = record { base = core; ways = ways }

-- a refusal that leaves the core leaves the whole
pub lifted : {X E : Type 0} (r : Result X E) (ways : WaysState) (new old : BaseState) → OnErr r (new ≡ old) → OnErr r (whole new ways ≡ whole old ways)
lifted (Ok made) ways new old leaves = tt
lifted (Err refusal) ways new old leaves = ap (λ core. whole core ways) leaves

-- what a refusal leaves, another leaves that comes where it comes
pub refused_as : {X Y E F : Type 0} (P : Type 0) (r : Result X E) (s : Result Y F) → is_ok r ≡ is_ok s → OnErr s P → OnErr r P
refused_as P (Ok x) s same leaves = tt
refused_as P (Err e) (Ok y) same leaves = absurd (true≢false (sym same))
refused_as P (Err e) (Err f) same leaves = leaves

-- what stands is left by a refusal
pub refused_or_not : {X E : Type 0} (P : Type 0) (r : Result X E) → P → OnErr r P
refused_or_not P (Ok x) holds = tt
refused_or_not P (Err e) holds = holds

-- a text that is one is the other
pub text_served : {T F : Type 0} (bytes : T → List ℕ) (r : Result T F) (a b : List ℕ) → a ≡ b → IfOk r (λ t. bytes t ≡ a) → IfOk r (λ t. bytes t ≡ b)
text_served bytes (Ok t) a b same is = is ∙ same
text_served bytes (Err f) a b same is = is

-- what is decided by one test, and refused
refused_leaves : (old new : CoreState) (refusal : Option Refusal) (grows : Bool) (made : CoreState) (r : Refusal) → CoreDoes old refusal grows made (refused r) new → new ≡ old
refused_leaves old new refusal grows made memory is = is.2
refused_leaves old new refusal grows made other is = is.1

pub site_does_leave : (old new : CoreState) (refusal : Option Refusal) (grows : Bool) (made : CoreState) (result : Result ⊤ code.Reason) → CoreDoes old refusal grows made (done_by result) new → OnErr result (new ≡ old)
site_does_leave old new refusal grows made (Ok reply) is = tt
site_does_leave old new refusal grows made (Err r) is = refused_leaves old new refusal grows made (reason_from r) is

-- an open way has a next step, of twelve
few : (way : Way) → next_step way < behind_last way → next_step way < 12
few way less = by (changes_primary way) less
  where
    by : (c : Bool) → next_step way < cond c 12 1 → next_step way < 12
    by true is = is
    by false is = omega (arith, is)

-- what a step and an undo ask for
pub can_step : (s : CoreState) (name : List ℕ)
    → ((w : WorkflowState) → workflow_at s.base.workflows name ≡ Some w → w.name ≡ name)
    → ((w : WorkflowState) → workflow_at s.base.workflows name ≡ Some w → has_primaries s.base.primaries w.source ≡ true)
    → ((w : WorkflowState) → workflow_at s.base.workflows name ≡ Some w → has_primaries s.base.primaries w.target ≡ true)
    → ((w : WorkflowState) → workflow_at s.base.workflows name ≡ Some w → w.source ≢ w.target)
    → ((w : WorkflowState) → workflow_at s.base.workflows name ≡ Some w → All (λ key. has_place s.base.topology key ≡ true) (keys_of_part w))
    → ((w : WorkflowState) (way : Way) → workflow_at s.base.workflows name ≡ Some w → w.way ≡ Some way → is_some (open_at s.ways.opened name) ≡ true)
    → ((w : WorkflowState) (way : Way) (o : OpenWay) → workflow_at s.base.workflows name ≡ Some w → w.way ≡ Some way → open_at s.ways.opened name ≡ Some o → IsLogOf w o.log)
    → ((w : WorkflowState) (way : Way) → workflow_at s.base.workflows name ≡ Some w → w.way ≡ Some way → next_step way < behind_last way)
    → ((w : WorkflowState) (way : Way) (o : OpenWay) → workflow_at s.base.workflows name ≡ Some w → w.way ≡ Some way → open_at s.ways.opened name ≡ Some o
    → stands_done way write_journal ≡ false → entry_of s.ways.journal o.number ≡ None)
    → ((w : WorkflowState) (way : Way) → workflow_at s.base.workflows name ≡ Some w → w.way ≡ Some way
    → KeepsToTest w way (next_step way) (primary_of s.base.primaries w.source 0) (shards_of s.base.primaries w.target).each)
    → ((w : WorkflowState) → workflow_at s.base.workflows name ≡ Some w → count_of s.base.primaries w.source ≡ 1)
    → ((w : WorkflowState) → workflow_at s.base.workflows name ≡ Some w → length w.lanes ≡ count_of s.base.primaries w.target)
    → ((w : WorkflowState) (way : Way) → workflow_at s.base.workflows name ≡ Some w → w.way ≡ Some way → way.shards ≡ length w.lanes)
    → CanStep s.base.topology s.base.primaries s.base.workflows s.ways.journal s.ways.opened name
can_step s name named source target apart places there kept within unused unread single targets shards = record {
  there = there;
  each = λ w way o found on opened. record {
    named = named w found;
    source = source w found;
    target = target w found;
    apart = apart w found;
    places = places w found;
    within = few way (within w way found on);
    kept = kept w way o found on opened;
    unused = unused w way o found on opened;
    single = single w found;
    targets = sym (targets w found);
    shards = shards w way found on;
    unread = unread w way found on;
  };
}

-- ---- a step that is refused

module _ (mine : List Scope) (may_answer : Answering) (old new : CoreState) (workflow : List ℕ) (at : ℕ) (r : Refusal)
    (named : (w : WorkflowState) → workflow_at old.base.workflows workflow ≡ Some w → w.name ≡ workflow) where
  module _ (w : WorkflowState) (found : workflow_at old.base.workflows workflow ≡ Some w) (way : Way) (opens : w.way ≡ Some way) where
    failed : (o : OpenWay) → open_at old.ways.opened w.name ≡ Some o → (result : Result ⊤ StepFault) (sides : SidesState) (log : UndoState)
        → Steps mine may_answer o.number way (step_at (next_step way)) (sides_of old w) o.log result sides log → refused r ≡ answer_by_step result
        → new ≡ with_sides old w sides (record { number = o.number; log = log }) → new ≡ old
    failed o kept (Ok made) sides log steps is same = absurd (let never : refused r ≡ done = is in cc)
    failed o kept (Err f) sides log steps is same =
        same ∙ ap (λ x. with_sides old w x (record { number = o.number; log = log })) steps.1 ∙ ap (λ x. with_sides old w (sides_of old w) (record { number = o.number; log = x })) steps.2
        ∙ sides_same old w way o opens (subst (λ n. workflow_at old.base.workflows n ≡ Some w) (sym (named w found)) found) kept

    kept_same : (k : Option OpenWay) → open_at old.ways.opened w.name ≡ k → StepsKept k old mine may_answer w way (refused r) new → new ≡ old
    kept_same None kept is = absurd is
    kept_same (Some o) kept is = failed o kept is.0 is.1 is.2 is.3 is.4 is.5

    tested_same : (t : Option Refusal) → OrRefused t old (refused r) new (StepsKept (open_at old.ways.opened w.name) old mine may_answer w way (refused r) new) → new ≡ old
    tested_same None is = kept_same (open_at old.ways.opened w.name) refl is
    tested_same (Some s) is = is.1

  way_same : (w : WorkflowState) → workflow_at old.base.workflows workflow ≡ Some w → (o : Option Way) → w.way ≡ o → StepsWay o old mine may_answer w at (refused r) new → new ≡ old
  way_same w found None rests is = is.1
  way_same w found (Some way) opens is = tested_same w found way opens (step_refusal at way) is

  stepped_leaves : StepsWorkflow old mine may_answer workflow at (refused r) new → new ≡ old
  stepped_leaves = by (workflow_at old.base.workflows workflow) refl
    where
      by : (o : Option WorkflowState) → workflow_at old.base.workflows workflow ≡ o → StepsAt o old mine may_answer at (refused r) new → new ≡ old
      by None none is = is.1
      by (Some w) found is = way_same w found w.way refl is

-- ---- what is refused leaves all as it was

pub begin_switch_leaves : (old new : CoreState) (types : TypeSet) (result : Result ⊤ code.Reason) (o : Option WorkflowState) → BeginsSwitchAt o old types (done_by result) new → OnErr result (new ≡ old)
begin_switch_leaves old new types (Ok reply) o is = tt
begin_switch_leaves old new types (Err r) None is = is.1
begin_switch_leaves old new types (Err r) (Some w) is =
    refused_leaves old new
    (at_rest (live_of w) (or_else (refuse_if (not (has_more types w.switched)) nothing_to_switch) (or_else (refuse_if (is_copying w) copying) (no_number_left old))))
    true (with_way old w (way_to w false (types_and w.switched types))) (reason_from r) is

pub begin_reverse_leaves : (old new : CoreState) (types : TypeSet) (result : Result ⊤ code.Reason) (o : Option WorkflowState) → BeginsReverseAt o old types (done_by result) new → OnErr result (new ≡ old)
begin_reverse_leaves old new types (Ok reply) o is = tt
begin_reverse_leaves old new types (Err r) None is = is.1
begin_reverse_leaves old new types (Err r) (Some w) is =
    refused_leaves old new (at_rest (live_of w) (or_else (refuse_if (not (share_type types w.switched)) nothing_to_reverse) (no_number_left old)))
    true (with_way old w (way_to w true (types_without w.switched types))) (reason_from r) is

pub completes_leave : (old new : CoreState) (result : Result ⊤ code.Reason) (o : Option WorkflowState) → CompletesAt o old (done_by result) new → OnErr result (new ≡ old)
completes_leave old new (Ok reply) o is = tt
completes_leave old new (Err r) None is = is.1
completes_leave old new (Err r) (Some w) is = refused_leaves old new (complete_refusal (live_of w)) false (record old { base = completed old.base w }) (reason_from r) is

pub undoes_leave : (old new : CoreState) (workflow : List ℕ) (at : ℕ) (result : Result ⊤ code.Reason) → UndoesWorkflow old workflow at (done_by result) new → OnErr result (new ≡ old)
undoes_leave old new workflow at (Ok reply) is = tt
undoes_leave old new workflow at (Err r) is = undo_same old new at (reason_from r) (workflow_at old.base.workflows workflow) is

module _ (scopes : List Scope) (may_answer : Answering) (old new : CoreState) (workflow : List ℕ) (at : ℕ) where
  pub steps_leave : (result : Result ⊤ code.Reason)
      → ((w : WorkflowState) → workflow_at old.base.workflows workflow ≡ Some w → w.name ≡ workflow)
      → StepsWorkflow old scopes may_answer workflow at (done_by result) new → OnErr result (new ≡ old)
  steps_leave (Ok reply) named is = tt
  steps_leave (Err r) named is = stepped_leaves scopes may_answer old new workflow at (reason_from r) named is

-- ---- Complete

-- the tables of a list have places at a keyspace
tables-placed : (t : TopologyState) (keyspace : List ℕ) (tables : List (List ℕ)) → ((table : List ℕ) → among tables table ≡ true → has_place t (about.Present keyspace table) ≡ true)
    → AllByRecursion (λ key. has_place t key ≡ true) (map (about.Present keyspace) tables)
tables-placed t keyspace [] there = tt
tables-placed t keyspace (table ∷ tables) there =
    (there table (ap (λ b. b || among tables table) ((same_text_decides table table).1 refl)), tables-placed t keyspace tables (λ n among_n. there n (or_right (same_text table n) (among tables n) among_n)))

pub can_complete : (core : BaseState) (name : List ℕ)
    → ((w : WorkflowState) → workflow_at core.workflows name ≡ Some w → w.name ≡ name)
    → ((w : WorkflowState) → workflow_at core.workflows name ≡ Some w → has_primaries core.primaries w.source ≡ true)
    → ((w : WorkflowState) → workflow_at core.workflows name ≡ Some w → w.source ≢ w.target)
    → ((w : WorkflowState) → workflow_at core.workflows name ≡ Some w → All (λ key. has_place core.topology key ≡ true) (keys_of_part w))
    → ((w : WorkflowState) → workflow_at core.workflows name ≡ Some w → (table : List ℕ) → among w.tables table ≡ true → has_table (primary_of core.primaries w.source 0) table ≡ true)
    → ((w : WorkflowState) → workflow_at core.workflows name ≡ Some w → count_of core.primaries w.source ≡ 1)
    → ((keyspace : List ℕ) (shard : ℕ) → shard < count_of core.primaries keyspace → (table : List ℕ) → has_table (primary_of core.primaries keyspace shard) table ≡ is_present core.topology.keyspaces keyspace table)
    → ((keyspace table : List ℕ) → has_place core.topology (about.Present keyspace table) ≡ is_present core.topology.keyspaces keyspace table)
    → CanComplete core.topology core.primaries core.workflows name
can_complete core name named source apart places at_source single tables placed = record {
  named = named;
  source = source;
  apart = apart;
  places = λ w found. All-append (λ key. has_place core.topology key ≡ true) (keys_of_part w) (map (about.Present w.source) w.tables) (places w found)
      (All-from_recursion (λ key. has_place core.topology key ≡ true) (map (about.Present w.source) w.tables)
      (tables-placed core.topology w.source w.tables (λ table among_w. placed w.source table ∙ sym (tables w.source 0 (let one = single w found in omega (arith, one)) table) ∙ at_source w found table among_w)));
}
