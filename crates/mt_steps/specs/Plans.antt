-- The twelve steps of a way, and the places at which a way has them.
use Rattle.std.specs.Prelude.{ℕ, ◌+◌, ◌-◌, ◌||◌, Bool, false, List, [], ◌∷◌, ◌++◌, map, if◌then◌else◌, slice_index_or}
use Rattle.std.specs.List.{range_with_len}
use Rattle.mt_names.specs.declared.types.TypeSet.{TypeSet}
use Rattle.mt_names.specs.Types.{no_types}
use Rattle.mt_plain.specs.Events.{Way}
use Rattle.mt_plain.specs.Plain.{allow_target, behind_last, catch_up, changes_primary, create_back, deny_source, first_step, freeze_old, refresh_source, refresh_target, shard_at_place, start_back, step_at_place, stop_feeding, switch_reads, switch_write_rules, write_journal}
use Rattle.mt_steps.specs.declared.plan.PlannedStep.{PlannedStep}
use Rattle.mt_steps.specs.declared.step.Step.{Step}
use Rattle.mt_steps.specs.declared.step.Step.TheVariants.{SwitchReads, DenySource, RefreshSource, CatchUp, StopFeeding, CreateBack, Journal, AllowTarget, RefreshTarget, SwitchWriteRules, StartBack, FreezeOld}

-- the number of a step (How traffic is switched; the numbers are this profile's own)
abbrev pub number : Step → ℕ
number SwitchReads = switch_reads
number DenySource = deny_source
number RefreshSource = refresh_source
number CatchUp = catch_up
number StopFeeding = stop_feeding
number CreateBack = create_back
number Journal = write_journal
number AllowTarget = allow_target
number RefreshTarget = refresh_target
number SwitchWriteRules = switch_write_rules
number StartBack = start_back
number FreezeOld = freeze_old

-- the steps that switch writes, in their order (How traffic is switched: writes)
abbrev pub steps_of_writes : List Step
steps_of_writes =
    DenySource ∷ RefreshSource ∷ CatchUp ∷ StopFeeding ∷ CreateBack ∷ Journal ∷ AllowTarget ∷ RefreshTarget ∷ SwitchWriteRules ∷ StartBack ∷ FreezeOld ∷ []

-- all steps, in their order (How traffic is switched: reads first, then writes)
abbrev pub all_steps : List Step
all_steps = SwitchReads ∷ steps_of_writes

-- the steps of a way that changes these types, in their order: without reads it begins with the second, without primary it ends with
-- the first (How traffic is switched)
abbrev pub steps_of : TypeSet → List Step
steps_of types = (if types.replica || types.rdonly then SwitchReads ∷ [] else []) ++ (if types.primary then steps_of_writes else [])

-- the step of a number (this profile's own)
abbrev pub step_at : ℕ → Step
step_at n = slice_index_or all_steps n SwitchReads

-- ---- plans

-- a way in a direction that changes these types, with a target of so many shards
abbrev pub way_of : (back : Bool) → TypeSet → (shards : ℕ) → Way
way_of back types shards = record { back = back; shards = shards; before = no_types; after = types; done = 0; undoing = false }

-- what is done at a place of a way's plan (this profile's own)
abbrev pub planned_at : Way → (place : ℕ) → PlannedStep
planned_at way place = record { step = step_at (step_at_place way place); shard = shard_at_place way place }

-- how many places a plan has more than steps: one for each shard of the target but the first, where it switches writes
abbrev pub later_shards : Way → ℕ
later_shards way = if changes_primary way then way.shards - 1 else 0

-- the places of the plan of a way, in their order (How traffic is switched)
abbrev pub plan_of : Way → List PlannedStep
plan_of way = map (planned_at way) (range_with_len (first_step way) (behind_last way + later_shards way - first_step way))
