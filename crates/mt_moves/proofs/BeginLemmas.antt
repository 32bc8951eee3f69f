-- A way that begins: what is kept of it, and the workflow that takes its place again.
use Rattle.std.proofs.Common.{◌≡◌, ℕ, suc, Bool, true, false, not, ◌||◌, ◌&&◌, List, [], ◌∷◌, ◌++◌, length, Option, None, Some, refl, ap, sym, subst, ◌∙◌}
use Rattle.std.proofs.lemmas.Map.Steps.{set_value_same}
use Rattle.std.specs.Map.{lookup, set_value}
use Rattle.indexmap.proofs.CallerLemmas.{insert_entry-new}
use Rattle.indexmap.specs.IndexMap.{IndexMap, insert_entry}
use Rattle.mt_names.specs.declared.types.TabletType.{TabletType}
use Rattle.mt_names.specs.declared.types.TabletType.TheVariants.{Primary, Replica, Rdonly}
use Rattle.mt_names.specs.declared.types.TypeSet.{TypeSet}
use Rattle.mt_names.specs.Names.{same_text}
use Rattle.mt_names.specs.Types.{has}
use Rattle.mt_plain.specs.Events.{Answer, Refusal, Way, copying, done, full, memory, nothing_to_reverse, nothing_to_switch, refused, under_way}
use Rattle.mt_plain.specs.Next.{types_and, types_without}
use Rattle.mt_plain.specs.Refuse.{or_else, refuse_if}
use Rattle.mt_steps.specs.declared.log.OpenWay.{OpenWay}
use Rattle.mt_steps.specs.Undo.{UndoState, new_log}
use Rattle.mt_workflow.specs.Workflows.{WorkflowState}
use Rattle.mt_stands.specs.Base.{Workflows, workflow_at}
use Rattle.mt_stands.specs.Switching.{CoreDoes, way_to, with_way, with_workflow}
use Rattle.mt_stands.specs.Ways.{OpenWays, CoreState}
use Rattle.mt_moves.specs.Ways.{OpensWay}

-- ---- what is kept of the way

-- it goes last
pub way_pushed : {S : Type 0} (m : IndexMap (List ℕ) OpenWay S) (w : WorkflowState) (copy : List ℕ) (number : ℕ) (log : UndoState) → copy ≡ w.name → log ≡ new_log w → lookup (same_text w.name) m.entries ≡ None
    → insert_entry same_text m.entries copy (record { number = number; log = log }) ≡ m.entries ++ (w.name, record { number = number; log = new_log w }) ∷ []
way_pushed m w copy number log copied is none =
    let kept : UndoState → OpenWay = λ l. record { number = number; log = l } in
    ap (λ n. insert_entry same_text m.entries n (kept log)) copied ∙ ap (λ l. insert_entry same_text m.entries w.name (kept l)) is
    ∙ insert_entry-new same_text m w.name (kept (new_log w)) none

-- ---- the workflow takes its place again

-- the controller with other workflows
abbrev over_workflows : CoreState → Workflows → CoreState
over_workflows s workflows = record s { base = record s.base { workflows = workflows } }

-- the way is open on it
pub opened-way : (old : CoreState) (w after : WorkflowState) (name : List ℕ) (way : Way) (refusal : Option Refusal) (answer : Answer) (later : Workflows) (opened : OpenWays) (begun : ℕ)
    → w.name ≡ name → workflow_at old.base.workflows name ≡ Some w → later ≡ set_value (same_text name) old.base.workflows after → refusal ≡ None
    → OpensWay w way old.ways.opened old.ways.begun answer after opened begun
    → CoreDoes old refusal true (with_way old w way) answer (record { base = record old.base { workflows = later }; ways = record old.ways { opened = opened; begun = begun } })
opened-way old w after name way refusal done later opened begun named found put none (set, kept, number) =
    let there : WorkflowState = record w { way = Some way } in
    let here : later ≡ set_value (same_text w.name) old.base.workflows there =
    put ∙ ap (set_value (same_text name) old.base.workflows) set ∙ ap (λ n. set_value (same_text n) old.base.workflows there) (sym named) in
    let by_workflows : Workflows → CoreState = λ ws. record { base = record old.base { workflows = ws }; ways = record old.ways { opened = opened; begun = begun } } in
    let by_opened : OpenWays → CoreState = λ o. record { base = with_workflow old.base there; ways = record old.ways { opened = o; begun = begun } } in
    let by_begun : ℕ → CoreState = λ n. record { base = with_workflow old.base there; ways = record old.ways { opened = old.ways.opened ++ (w.name, record { number = suc old.ways.begun; log = new_log w }) ∷ []; begun = n } } in
    (none, ap by_workflows here ∙ ap by_opened kept ∙ ap by_begun number)
opened-way old w after name way refusal (refused memory) later opened begun named found put none (same, kept, number) =
    let here : later ≡ old.base.workflows = put ∙ ap (set_value (same_text name) old.base.workflows) same ∙ set_value_same (same_text name) old.base.workflows w found in
    let by_workflows : Workflows → CoreState = λ ws. record { base = record old.base { workflows = ws }; ways = record old.ways { opened = opened; begun = begun } } in
    let by_opened : OpenWays → CoreState = λ o. record { base = old.base; ways = record old.ways { opened = o; begun = begun } } in
    let by_begun : ℕ → CoreState = λ n. record { base = old.base; ways = record old.ways { begun = n } } in
    (none, refl, ap by_workflows here ∙ ap by_opened kept ∙ ap by_begun number)
opened-way old w after name way refusal other later opened begun named found put none opens = absurd opens

-- the same of a way that begins with the types that are switched then
pub begun-way : (old : CoreState) (w after : WorkflowState) (name : List ℕ) (backward : Bool) (shards : ℕ) (before types wanted : TypeSet) (refusal : Option Refusal) (answer : Answer) (later : Workflows) (opened : OpenWays) (begun : ℕ)
    → w.name ≡ name → workflow_at old.base.workflows name ≡ Some w → later ≡ set_value (same_text name) old.base.workflows after → refusal ≡ None
    → shards ≡ length w.lanes → before ≡ w.switched → types ≡ wanted
    → OpensWay w (record { back = backward; shards = shards; before = before; after = types; done = 0; undoing = false }) old.ways.opened old.ways.begun answer after opened begun
    → CoreDoes old refusal true (with_way old w (way_to w backward wanted)) answer (record { base = record old.base { workflows = later }; ways = record old.ways { opened = opened; begun = begun } })
begun-way old w after name backward shards before types wanted refusal answer later opened begun named found put none many switched same opens =
    opened-way old w after name (way_to w backward wanted) refusal answer later opened begun named found put none
    (subst (λ ts. OpensWay w (way_to w backward ts) old.ways.opened old.ways.begun answer after opened begun) same
    (subst (λ b. OpensWay w (record { back = backward; shards = length w.lanes; before = b; after = types; done = 0; undoing = false }) old.ways.opened old.ways.begun answer after opened begun) switched
    (subst (λ n. OpensWay w (record { back = backward; shards = n; before = before; after = types; done = 0; undoing = false }) old.ways.opened old.ways.begun answer after opened begun) many opens)))

-- what a test refuses leaves it as it was
pub refused-way : (old made : CoreState) (w : WorkflowState) (name : List ℕ) (refusal : Option Refusal) (r : Refusal) (later : Workflows)
    → workflow_at old.base.workflows name ≡ Some w → later ≡ set_value (same_text name) old.base.workflows w → (refusal ≡ Some memory → ⊥) → refusal ≡ Some r
    → CoreDoes old refusal true made (refused r) (over_workflows old later)
refused-way old made w name refusal r later found put differ is = by r is
  where
    kept : over_workflows old later ≡ old
    kept = ap (over_workflows old) (put ∙ set_value_same (same_text name) old.base.workflows w found)

    by : (r : Refusal) → refusal ≡ Some r → CoreDoes old refusal true made (refused r) (over_workflows old later)
    by memory is = absurd (differ is)
    by other is = (is, kept)

-- no test tells of memory
pub switch-tests : (a b c d : Bool) → or_else (refuse_if a under_way) (or_else (refuse_if b nothing_to_switch) (or_else (refuse_if c copying) (refuse_if d full))) ≡ Some memory → ⊥
switch-tests true b c d is = cc
switch-tests false true c d is = cc
switch-tests false false true d is = cc
switch-tests false false false true is = cc
switch-tests false false false false is = cc

pub reverse-tests : (a b c : Bool) → or_else (refuse_if a under_way) (or_else (refuse_if b nothing_to_reverse) (refuse_if c full)) ≡ Some memory → ⊥
reverse-tests true b c is = cc
reverse-tests false true c is = cc
reverse-tests false false true is = cc
reverse-tests false false false is = cc

-- ---- sets of types

-- the same three
three-types : (a b : TypeSet) → ((type : TabletType) → has a type ≡ has b type) → a ≡ b
three-types a b same =
    let by_primary : Bool → TypeSet = λ x. record { primary = x; replica = a.replica; rdonly = a.rdonly } in
    let by_replica : Bool → TypeSet = λ x. record { primary = b.primary; replica = x; rdonly = a.rdonly } in
    let by_rdonly : Bool → TypeSet = λ x. record { primary = b.primary; replica = b.replica; rdonly = x } in
    ap by_primary (same Primary) ∙ ap by_replica (same Replica) ∙ ap by_rdonly (same Rdonly)

pub union-is : (types a b : TypeSet) → ((type : TabletType) → has types type ≡ (has a type || has b type)) → types ≡ types_and a b
union-is types a b each = three-types types (types_and a b) (λ type. by type)
  where
    by : (type : TabletType) → has types type ≡ has (types_and a b) type
    by Primary = each Primary
    by Replica = each Replica
    by Rdonly = each Rdonly

pub without-is : (types a b : TypeSet) → ((type : TabletType) → has types type ≡ (has a type && not (has b type))) → types ≡ types_without a b
without-is types a b each = three-types types (types_without a b) (λ type. by type)
  where
    by : (type : TabletType) → has types type ≡ has (types_without a b) type
    by Primary = each Primary
    by Replica = each Replica
    by Rdonly = each Rdonly
