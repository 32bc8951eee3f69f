-- States in which memory may run out, a watcher refuse, or an advance be cut.
use Rattle.std.specs.Prelude.{◌∷◌, [], Option, Some, codes, ℕ}
use Rattle.mt_names.specs.declared.keys.RuleTarget.{RuleTarget}
use Rattle.mt_model.specs.declared.rows.Op.TheVariants.{Update}
use Rattle.mt_plain.specs.Events.{write}
use Rattle.mt_plain.specs.Output.{watchers_of}
use Rattle.mt_plain.specs.Plain.{Plain, in_keyspace}
use Rattle.mt_worked.specs.States.{after_events, begun, commerce, copied, corder, customer, cut, live, opened, other}
use Rattle.mt_worked.specs.States.{put, steps_from, switched, value}

-- a write of a row that is not yet copied, and one of a row that is
abbrev pub behind_not_copied : Plain
behind_not_copied = after_events live (write commerce corder (Update 1 (value (codes "b"))) ∷ [])

abbrev pub behind_half_copied : Plain
behind_half_copied =
    after_events cut (write commerce corder (Update 2 (value (codes "d")))
    ∷ write commerce corder (Update 1 (value (codes "c"))) ∷ [])

-- an entry to apply, one to pass over, and one to apply
abbrev pub behind_around_another : Plain
behind_around_another =
    after_events copied (put commerce corder 2 (codes "b") ∷ put commerce other 2 (codes "b")
    ∷ put commerce corder 3 (codes "c") ∷ [])

-- behind a switch, a write that is to be fed back
abbrev pub behind_switch : Plain
behind_switch = after_events switched (put customer corder 2 (codes "b") ∷ [])

-- so many steps of a way of all types stand done
abbrev pub with_steps : ℕ → Plain
with_steps n = after_events opened (steps_from 0 n)

-- two watchers of the target
abbrev pub watched_twice : Plain
watched_twice = record begun { scopes = watchers_of (customer ∷ customer ∷ []) }

-- a rule that leads to the source
abbrev pub to_source : Option RuleTarget
to_source = Some (in_keyspace commerce corder)
