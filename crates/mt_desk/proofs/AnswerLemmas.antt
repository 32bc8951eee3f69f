-- What may be given up is kept in place, and so is its answer.
use Rattle.std.proofs.Common.{◌≡◌, ℕ, Bool, true, false, not, List, Option, None, Some, is_some, Result, Ok, Err, refl, sym, ap, subst, ◌∙◌}
use Rattle.std.proofs.Math.Logic.{∥∥₁_elim}
use Rattle.std.proofs.Props.{props}
use Rattle.std.proofs.lemmas.Bool.{true≢false}
use Rattle.std.specs.Option.{option_map_or}
use Rattle.std.specs.Prelude.{◌==◌, ◌||◌, IsOk, OnErr, is_ok}
use Rattle.mt_event.specs.declared.refusal.Refusal as code_refusal
use Rattle.mt_event.specs.declared.refusal.Refusal.TheVariants as refusal
use Rattle.mt_event.specs.declared.reply.Reply.{Reply}
use Rattle.mt_event.specs.declared.reply.Reply.TheVariants as reply
use Rattle.mt_event.specs.Events.{answer_from, shown_from}
use Rattle.mt_event.specs.declared.ask.Ask.{Ask}
use Rattle.mt_event.specs.declared.reply.Told.{Told}
use Rattle.mt_event.specs.declared.reply.Told.TheVariants as told_by
use Rattle.mt_event.specs.Asks.{event_of_ask}
use Rattle.mt_event.specs.CompactAnswers.{may_stand_apart, said_by}
use Rattle.mt_model.specs.declared.entries.Scope.{Scope}
use Rattle.mt_model.specs.Rows.{RowValue}
use Rattle.mt_plain.specs.Answers.{Answers, advanced_of, lane_advanced_of}
use Rattle.mt_plain.specs.Events as plain
use Rattle.mt_plain.specs.Events.{Answer, Event, Refusal, StreamName, Way, add_keyspace, add_table, advance, begin_reverse, begin_switch, cancel, complete, create, edit_rule, read, row, show, step, undo, write, nothing_under_way, past_journal, rule_conflict, stale, target_has_table, traffic_switched, under_way}
use Rattle.mt_plain.specs.Plain.{Lane, Live, Plain, lane_at, live_at, stands_done, write_journal}
use Rattle.mt_plain.specs.Refuse.{cancel_refusal, in_workflow, or_else, refusal_of, refuse_if, undo_refusal}
use Rattle.mt_site.specs.Applied.{Applied}
use Rattle.mt_site.specs.Applies.{AppliesAndPurges}
use Rattle.mt_site.specs.Asks.{answer_of}
use Rattle.mt_site.specs.Stood.{IsCoreWith}
use Rattle.mt_stands.specs.Base.{BaseState}
use Rattle.mt_stands.specs.Ways.{CoreState, CoreSteps, WaysState}
use Rattle.mt_watch.specs.Asking.{Answering}
use Rattle.mt_desk.specs.Kept.{is_show, may_take_memory}
use Rattle.mt_desk.specs.Room.{gives_up, is_undo_or_cancel}

-- ---- refusals that tell a name

abbrev tells_name : Refusal → Bool
tells_name (rule_conflict key) = true
tells_name (target_has_table table) = true
tells_name other = false

abbrev tells : Option Refusal → Bool
tells o = option_map_or tells_name o false

either : (a b : Bool) (x y : Refusal) → tells_name x ≡ false → tells_name y ≡ false → tells (or_else (refuse_if a x) (refuse_if b y)) ≡ false
either true b x y one other = one
either false true x y one other = other
either false false x y one other = refl

undo_tells : (at : ℕ) (o : Option Live) → tells (in_workflow o (undo_refusal at)) ≡ false
undo_tells at None = refl
undo_tells at (Some w) = by w.way
  where
    by : (o : Option Way) → tells (option_map_or (λ way. or_else (refuse_if (stands_done way write_journal) past_journal) (refuse_if (not (at == way.done)) (stale way.done))) o (Some nothing_under_way)) ≡ false
    by None = refl
    by (Some way) = either (stands_done way write_journal) (not (at == way.done)) past_journal (stale way.done) refl refl

cancel_tells : (o : Option Live) → tells (in_workflow o cancel_refusal) ≡ false
cancel_tells None = refl
cancel_tells (Some w) = either (is_some w.way) (w.switched.primary || w.switched.replica || w.switched.rdonly) under_way traffic_switched refl refl

-- an undo and a Cancel tell none
none_told : (p : Plain) (e : Event) → is_undo_or_cancel e ≡ true → tells (refusal_of p e) ≡ false
none_told p (undo workflow at) is = undo_tells at (live_at p workflow)
none_told p (cancel workflow) is = cancel_tells (live_at p workflow)
none_told p other is = absurd (true≢false (sym is))

not_told : (p : Plain) (e : Event) (r : Refusal) → is_undo_or_cancel e ≡ true → refusal_of p e ≡ Some r → tells_name r ≡ true → ⊥
not_told p e r is refused told = true≢false (sym (ap tells refused ∙ told) ∙ none_told p e is)

-- ---- their answers

short_answer : (p : Plain) (e : Event) → is_undo_or_cancel e ≡ true → (a : Result Reply code_refusal.Refusal) → Answers p e (answer_from a) → may_stand_apart a ≡ false
short_answer p e is (Ok reply.Done) given = refl
short_answer p e is (Ok (reply.Row None)) given = refl
short_answer p (undo workflow at) is (Ok (reply.Row (Some value))) given = absurd (cc given.1)
short_answer p (cancel workflow) is (Ok (reply.Row (Some value))) given = absurd (cc given.1)
short_answer p other is (Ok (reply.Row (Some value))) given = absurd (true≢false (sym is))
short_answer p e is (Ok (reply.Advanced advanced)) given = refl
short_answer p (undo workflow at) is (Ok (reply.Shown shown)) given = absurd (cc given.1)
short_answer p (cancel workflow) is (Ok (reply.Shown shown)) given = absurd (cc given.1)
short_answer p other is (Ok (reply.Shown shown)) given = absurd (true≢false (sym is))
short_answer p e is (Err (refusal.RuleConflict key)) given = absurd (not_told p e (rule_conflict key) is given refl)
short_answer p e is (Err (refusal.TargetHasTable table)) given = absurd (not_told p e (target_has_table table) is given refl)
short_answer p e is (Err (refusal.Other reason)) given = refl

-- from whatever state the controller stands for
pub answer_in_place : (scopes : List Scope) (now later : CoreState) → IsCoreWith scopes now → (e : Event) (a : Result Reply code_refusal.Refusal) → CoreSteps scopes now e (answer_from a) later
    → is_undo_or_cancel e ≡ true → may_stand_apart a ≡ false
answer_in_place scopes now later stood e a steps is = ∥∥₁_elim stood (hlevel props) (λ (p, stands). short_answer p e is a ((steps p stands).0))

-- ---- what gives a move up

pub up_is_short : (s : CoreState) (e : Event) → gives_up s e ≡ true → is_undo_or_cancel e ≡ true
up_is_short s (undo workflow at) is = refl
up_is_short s (cancel workflow) is = refl
up_is_short s other is = absurd (true≢false (sym is))

-- ---- answers that may take memory

-- an event that changes nothing, whatever is answered
abbrev changes_nothing : Event → Bool
changes_nothing (read keyspace table key type) = true
changes_nothing (show workflow) = true
changes_nothing other = false

-- the same core
same_core : (old new : CoreState) → new.base ≡ old.base → new.ways ≡ old.ways → new ≡ old
same_core old new base ways = ap (λ (b : BaseState). record new { base = b }) base ∙ ap (λ (w : WaysState). record old { ways = w }) ways

no_row_advanced : (p : Plain) (name : StreamName) (at most : ℕ) (v : RowValue) (w : Live) (o : Option Lane) → row (Some v) ≡ lane_advanced_of p name at most w o → ⊥
no_row_advanced p name at most v w None is = absurd (cc is)
no_row_advanced p name at most v w (Some lane) is = absurd (cc is)

no_row_by : (p : Plain) (name : StreamName) (shard at most : ℕ) (v : RowValue) (o : Option Live) → row (Some v) ≡ advanced_of p name shard at most o → ⊥
no_row_by p name shard at most v None is = absurd (cc is)
no_row_by p name shard at most v (Some w) is = no_row_advanced p name at most v w (lane_at w shard) is

no_show_advanced : (p : Plain) (name : StreamName) (at most : ℕ) (s : plain.Shown) (w : Live) (o : Option Lane) → plain.shown s ≡ lane_advanced_of p name at most w o → ⊥
no_show_advanced p name at most s w None is = absurd (cc is)
no_show_advanced p name at most s w (Some lane) is = absurd (cc is)

no_show_by : (p : Plain) (name : StreamName) (shard at most : ℕ) (s : plain.Shown) (o : Option Live) → plain.shown s ≡ advanced_of p name shard at most o → ⊥
no_show_by p name shard at most s None is = absurd (cc is)
no_show_by p name shard at most s (Some w) is = no_show_advanced p name at most s w (lane_at w shard) is

-- of what is taken only a read and a Show have an answer that may take memory
looks_only : (p : Plain) (e : Event) (a : Result Reply code_refusal.Refusal) → Answers p e (answer_from a) → is_ok a ≡ true → may_stand_apart a ≡ true → changes_nothing e ≡ true
looks_only p e (Err r) given ok long = absurd (true≢false (sym ok))
looks_only p e (Ok reply.Done) given ok long = absurd (true≢false (sym long))
looks_only p e (Ok (reply.Row None)) given ok long = absurd (true≢false (sym long))
looks_only p e (Ok (reply.Advanced advanced)) given ok long = absurd (true≢false (sym long))
looks_only p (read k t q ty) (Ok (reply.Row (Some v))) given ok long = refl
looks_only p (show w) (Ok (reply.Row (Some v))) given ok long = refl
looks_only p (advance w n s at most) (Ok (reply.Row (Some v))) given ok long = absurd (no_row_by p n s at most v (live_at p w) given.1)
looks_only p (write k t o) (Ok (reply.Row (Some v))) given ok long = absurd (cc given.1)
looks_only p (add_keyspace k cuts) (Ok (reply.Row (Some v))) given ok long = absurd (cc given.1)
looks_only p (add_table k t) (Ok (reply.Row (Some v))) given ok long = absurd (cc given.1)
looks_only p (edit_rule key target) (Ok (reply.Row (Some v))) given ok long = absurd (cc given.1)
looks_only p (create w s t ts) (Ok (reply.Row (Some v))) given ok long = absurd (cc given.1)
looks_only p (begin_switch w ts) (Ok (reply.Row (Some v))) given ok long = absurd (cc given.1)
looks_only p (begin_reverse w ts) (Ok (reply.Row (Some v))) given ok long = absurd (cc given.1)
looks_only p (step w at) (Ok (reply.Row (Some v))) given ok long = absurd (cc given.1)
looks_only p (undo w at) (Ok (reply.Row (Some v))) given ok long = absurd (cc given.1)
looks_only p (cancel w) (Ok (reply.Row (Some v))) given ok long = absurd (cc given.1)
looks_only p (complete w) (Ok (reply.Row (Some v))) given ok long = absurd (cc given.1)
looks_only p (read k t q ty) (Ok (reply.Shown s)) given ok long = refl
looks_only p (show w) (Ok (reply.Shown s)) given ok long = refl
looks_only p (advance w n sh at most) (Ok (reply.Shown s)) given ok long = absurd (no_show_by p n sh at most (shown_from s) (live_at p w) given.1)
looks_only p (write k t o) (Ok (reply.Shown s)) given ok long = absurd (cc given.1)
looks_only p (add_keyspace k cuts) (Ok (reply.Shown s)) given ok long = absurd (cc given.1)
looks_only p (add_table k t) (Ok (reply.Shown s)) given ok long = absurd (cc given.1)
looks_only p (edit_rule key target) (Ok (reply.Shown s)) given ok long = absurd (cc given.1)
looks_only p (create w from t ts) (Ok (reply.Shown s)) given ok long = absurd (cc given.1)
looks_only p (begin_switch w ts) (Ok (reply.Shown s)) given ok long = absurd (cc given.1)
looks_only p (begin_reverse w ts) (Ok (reply.Shown s)) given ok long = absurd (cc given.1)
looks_only p (step w at) (Ok (reply.Shown s)) given ok long = absurd (cc given.1)
looks_only p (undo w at) (Ok (reply.Shown s)) given ok long = absurd (cc given.1)
looks_only p (cancel w) (Ok (reply.Shown s)) given ok long = absurd (cc given.1)
looks_only p (complete w) (Ok (reply.Shown s)) given ok long = absurd (cc given.1)

looked : (scopes : List Scope) (may_answer : Answering) (old new : CoreState) (e : Event) (a : Answer) → changes_nothing e ≡ true → AppliesAndPurges scopes may_answer old e a new → new ≡ old
looked scopes may_answer old new (read k t q ty) a is (made, (reads, ways), purges) = purges ∙ same_core old made reads.1 ways
looked scopes may_answer old new (show w) a is (made, (shows, ways), purges) = purges ∙ same_core old made shows.1 ways
looked scopes may_answer old new other a is does = absurd (true≢false (sym is))

-- so what is answered so has changed nothing
pub nothing_changed : (scopes : List Scope) (may_answer : Answering) (old new : CoreState) → IsCoreWith scopes old → (e : Event) (a : Result Reply code_refusal.Refusal)
    → Applied scopes may_answer old e (answer_from a) new → may_stand_apart a ≡ true → new ≡ old
nothing_changed scopes may_answer old new stood e (Err r) applied long = applied.unchanged refl
nothing_changed scopes may_answer old new stood e (Ok x) applied long =
    looked scopes may_answer old new e (answer_from (Ok x)) (∥∥₁_elim stood (hlevel props) (λ (p, stands). looks_only p e (Ok x) ((applied.steps p stands).0) refl long)) applied.applies

-- ---- what the core tells, before it is kept

-- what it tells of all but a workflow is an answer
said : (s : CoreState) (asked : Ask) (told : Result Told code_refusal.Refusal) (a : Result Reply code_refusal.Refusal) → said_by told ≡ Some a → answer_of s asked told ≡ answer_from a
said s asked (Ok told_by.Done) a is = let same : Ok reply.Done ≡ a = cc in ap answer_from same
said s asked (Ok (told_by.Row found)) a is = let same : Ok (reply.Row found) ≡ a = cc in ap answer_from same
said s asked (Ok (told_by.Advanced counts)) a is = let same : Ok (reply.Advanced counts) ≡ a = cc in ap answer_from same
said s asked (Ok told_by.Shown) a is = absurd (cc is)
said s asked (Err why) a is = let same : Err why ≡ a = cc in ap answer_from same

not_show : (e : Event) → is_undo_or_cancel e ≡ true → is_show e ≡ false
not_show (undo workflow at) is = refl
not_show (cancel workflow) is = refl
not_show other is = absurd (true≢false (sym is))

show_looks : (e : Event) → is_show e ≡ true → changes_nothing e ≡ true
show_looks (show workflow) is = refl
show_looks other is = absurd (true≢false (sym is))

-- of an undo and a Cancel it takes no memory to keep it
pub told_in_place : (scopes : List Scope) (now later : CoreState) → IsCoreWith scopes now → (asked : Ask) (told : Result Told code_refusal.Refusal)
    → CoreSteps scopes now (event_of_ask asked) (answer_of later asked told) later → is_undo_or_cancel (event_of_ask asked) ≡ true → may_take_memory (event_of_ask asked) told ≡ false
told_in_place scopes now later stood asked told steps is = by (said_by told) refl
  where
    by : (o : Option (Result Reply code_refusal.Refusal)) → said_by told ≡ o → option_map_or may_stand_apart o (is_show (event_of_ask asked)) ≡ false
    by None said_is = not_show (event_of_ask asked) is
    by (Some a) said_is = answer_in_place scopes now later stood (event_of_ask asked) a (subst (λ answer. CoreSteps scopes now (event_of_ask asked) answer later) (said later asked told a said_is) steps) is

-- where it may take some, nothing has changed
pub told_unchanged : (scopes : List Scope) (may_answer : Answering) (now later : CoreState) → IsCoreWith scopes now → (asked : Ask) (told : Result Told code_refusal.Refusal)
    → Applied scopes may_answer now (event_of_ask asked) (answer_of later asked told) later → may_take_memory (event_of_ask asked) told ≡ true → later ≡ now
told_unchanged scopes may_answer now later stood asked told applied long = by (said_by told) refl long
  where
    by : (o : Option (Result Reply code_refusal.Refusal)) → said_by told ≡ o → option_map_or may_stand_apart o (is_show (event_of_ask asked)) ≡ true → later ≡ now
    by None said_is is = looked scopes may_answer now later (event_of_ask asked) (answer_of later asked told) (show_looks (event_of_ask asked) is) applied.applies
    by (Some a) said_is is =
        nothing_changed scopes may_answer now later stood (event_of_ask asked) a (subst (λ answer. Applied scopes may_answer now (event_of_ask asked) answer later) (said later asked told a said_is) applied) is

-- ---- where an answer isn't kept

-- it may take memory
pub long_where_refused : {T E : Type 0} (b : Bool) (r : Result T E) → (b ≡ false → IsOk r) → ((x : T) → r ≡ Ok x → ⊥) → b ≡ true
long_where_refused true r short isnt = refl
long_where_refused false (Ok x) short isnt = absurd (isnt x refl)
long_where_refused false (Err e) short isnt = absurd (true≢false (sym (short refl)))

-- one that is always kept in place is kept
pub kept_where_short : {T E : Type 0} (b : Bool) (r : Result T E) → (b ≡ false → IsOk r) → ((x : T) → r ≡ Ok x → ⊥) → b ≡ false → ⊥
kept_where_short b r short isnt is = true≢false (sym (long_where_refused b r short isnt) ∙ is)

-- what is so of a refusal is so where it isn't taken
pub at_err : {T E P : Type 0} (r : Result T E) → ((x : T) → r ≡ Ok x → ⊥) → OnErr r P → P
at_err (Ok x) isnt said = absurd (isnt x refl)
at_err (Err e) isnt said = said
