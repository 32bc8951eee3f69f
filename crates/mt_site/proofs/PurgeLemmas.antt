-- Events, and the purge behind them.
use Rattle.std.proofs.Common.{◌≡◌, ℕ, List, true, Result, Ok, Err, refl, sym, ap, ◌∙◌}
use Rattle.std.proofs.lemmas.Bool.{true≢false}
use Rattle.std.specs.Prelude.{⊤}
use Rattle.std.specs.Result.{OnErr}
use Rattle.mt_event.specs.declared.ask.Ask.{Ask}
use Rattle.mt_event.specs.declared.ask.Ask.TheVariants as ask
use Rattle.mt_event.specs.declared.ask.Verb.{Verb}
use Rattle.mt_event.specs.declared.ask.Verb.TheVariants as verb
use Rattle.mt_event.specs.declared.reason.Reason as code
use Rattle.mt_event.specs.declared.reply.Told.{Told}
use Rattle.mt_event.specs.declared.reply.Told.TheVariants as what
use Rattle.mt_event.specs.Asks.{answer_told_by, event_of_ask, event_on}
use Rattle.mt_event.specs.Reasons.{done_by}
use Rattle.mt_plain.specs.Events.{Answer, done}
use Rattle.mt_stands.specs.Base.{BaseState}
use Rattle.mt_stands.specs.Purges.{PurgesAll, PurgesOne, with_purges}
use Rattle.mt_stands.specs.Ways.{CoreState, WaysState}
use Rattle.mt_site.specs.Applied.{is_refused}
use Rattle.mt_site.specs.Applies.{LeavesWays, Purges}
use Rattle.mt_site.specs.Asks.{asks_by_hand, may_change, shown_on}

-- after what is edited by hand, and after a Create, all logs are purged
pub hand_purges : (asked : Ask) → asks_by_hand asked ≡ true → (answer : Answer) (old new : CoreState) → PurgesAll answer old.base new.base → LeavesWays old new → Purges (event_of_ask asked) answer old new
hand_purges (ask.Write keyspace table op) by_hand answer old new is ways = absurd (true≢false (sym by_hand))
hand_purges (ask.Read keyspace table key type_of) by_hand answer old new is ways = absurd (true≢false (sym by_hand))
hand_purges (ask.AddKeyspace keyspace shards) by_hand answer old new is ways = (is, ways)
hand_purges (ask.AddTable keyspace table) by_hand answer old new is ways = (is, ways)
hand_purges (ask.EditRule key target) by_hand answer old new is ways = (is, ways)
hand_purges (ask.Create workflow source target tables) by_hand answer old new is ways = (is, ways)
hand_purges (ask.On workflow what) by_hand answer old new is ways = absurd (true≢false (sym by_hand))

-- and after what may change a workflow
pub change_purges : (workflow : List ℕ) (what : Verb) → may_change what ≡ true → (answer : Answer) (old new : CoreState) → PurgesAll answer old.base new.base → LeavesWays old new → Purges (event_on workflow what) answer old new
change_purges workflow (verb.Advance stream shard at max) may answer old new is ways = (is, ways)
change_purges workflow (verb.BeginSwitch types) may answer old new is ways = (is, ways)
change_purges workflow (verb.BeginReverse types) may answer old new is ways = (is, ways)
change_purges workflow (verb.Step at) may answer old new is ways = (is, ways)
change_purges workflow (verb.Undo at) may answer old new is ways = (is, ways)
change_purges workflow verb.Cancel may answer old new is ways = (is, ways)
change_purges workflow verb.Complete may answer old new is ways = (is, ways)
change_purges workflow verb.Show may answer old new is ways = absurd (true≢false (sym may))

-- of which nothing stands in the core
pub nothing_shown : (s : CoreState) (workflow : List ℕ) (what : Verb) → may_change what ≡ true → shown_on s workflow what ≡ done
nothing_shown s workflow (verb.Advance stream shard at max) may = refl
nothing_shown s workflow (verb.BeginSwitch types) may = refl
nothing_shown s workflow (verb.BeginReverse types) may = refl
nothing_shown s workflow (verb.Step at) may = refl
nothing_shown s workflow (verb.Undo at) may = refl
nothing_shown s workflow verb.Cancel may = refl
nothing_shown s workflow verb.Complete may = refl
nothing_shown s workflow verb.Show may = absurd (true≢false (sym may))

-- what is told is no refusal
pub told_purges : (told : Told) (old new : BaseState) → new ≡ with_purges old → PurgesAll (answer_told_by done (Ok told)) old new
told_purges what.Done old new is = is
told_purges (what.Row row) old new is = is
told_purges (what.Advanced counts) old new is = is
told_purges what.Shown old new is = is

pub told_taken : (told : Told) (P : Type 0) → is_refused (answer_told_by done (Ok told)) ≡ true → P
told_taken what.Done P is = absurd (true≢false (sym is))
told_taken (what.Row row) P is = absurd (true≢false (sym is))
told_taken (what.Advanced counts) P is = absurd (true≢false (sym is))
told_taken what.Shown P is = absurd (true≢false (sym is))

-- a state with its ways, and the core of another with the same
pub site_of : (made new : CoreState) → new.ways ≡ made.ways → (record made { base = new.base }) ≡ new
site_of made new ways = let with_ways : WaysState → CoreState = λ w. record { base = new.base; ways = w } in ap with_ways (sym ways)

-- a write that is refused purges nothing
pub write_unchanged : (keyspace : List ℕ) (shard : ℕ) (result : Result ⊤ code.Reason) (old made new : BaseState) → PurgesOne keyspace shard (done_by result) made new → OnErr result (made ≡ old) → OnErr result (new ≡ old)
write_unchanged keyspace shard (Ok is-done) old made new purges left = tt
write_unchanged keyspace shard (Err r) old made new purges left = purges ∙ left
