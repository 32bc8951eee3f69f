-- States in which two refusals are due.
use Rattle.std.specs.Prelude.{◌∷◌, [], None, Some, codes, replicate}
use Rattle.mt_names.specs.declared.keys.RuleKey.{RuleKey}
use Rattle.mt_names.specs.declared.types.TabletType.TheVariants.{Replica}
use Rattle.mt_plain.specs.Events.{add_keyspace, add_table, edit_rule, undo}
use Rattle.mt_plain.specs.Next.{created}
use Rattle.mt_plain.specs.Output.{watchers_of}
use Rattle.mt_plain.specs.Plain.{Plain, in_keyspace}
use Rattle.mt_worked.specs.States.{after_events, at_source, commerce, corder, customer, live, mv, refreshed, ruled}
use Rattle.mt_worked.specs.States.{unwatched}

-- a third keyspace, without tables, beside a workflow
abbrev pub with_third : Plain
with_third = after_events live (add_keyspace (codes "third") [] ∷ [])

-- a rule that leads elsewhere, where the target has no watcher
abbrev pub ruled_unwatched : Plain
ruled_unwatched = record ruled { scopes = watchers_of (commerce ∷ []) }

-- two rules that lead elsewhere: of the name at the target, and of the name alone or at the source
abbrev pub replica_key : RuleKey
replica_key = record { keyspace = None; table = corder; tablet_type = Some Replica }

abbrev pub ruled_twice : Plain
ruled_twice = after_events ruled (edit_rule replica_key (Some (in_keyspace customer corder)) ∷ [])

abbrev pub ruled_at_both : Plain
ruled_at_both = after_events ruled (edit_rule (at_source corder) (Some (in_keyspace customer corder)) ∷ [])

-- the target has a table, and a rule leads elsewhere
abbrev pub full_and_ruled : Plain
full_and_ruled = after_events ruled (add_table customer corder ∷ [])

-- sixteen workflows, of which none moves the tables that are there
abbrev pub sixteen : Plain
sixteen = record unwatched { lives = replicate 16 (created (codes "w") customer commerce (codes "w" ∷ []) [] 0) }

-- all numbers of ways are used up
abbrev pub no_number_left : Plain → Plain
no_number_left p = record p { ways = 0x7fff_ffff_ffff_ffff }

-- the refresh of the source is undone, and the source's watcher is gone
abbrev pub refresh_undone : Plain
refresh_undone = record (after_events refreshed (undo mv 3 ∷ [])) { scopes = watchers_of (customer ∷ []) }
