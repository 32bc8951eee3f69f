-- States of a move to a target of two shards.
use Rattle.std.specs.Prelude.{◌∷◌, ◌+◌, [], codes, ℕ}
use Rattle.mt_names.specs.Types.{all_types}
use Rattle.mt_plain.specs.Events.{add_keyspace, add_table, advance, begin_reverse, begin_switch, forward}
use Rattle.mt_plain.specs.Plain.{Plain}
use Rattle.mt_worked.specs.States.{after_events, commerce, corder, customer, made, mv, put, steps_from, watched}

-- the first key of the second half
abbrev pub half : ℕ
half = 9223372036854775808

-- a workflow with two shards, of which nothing is copied; the first, and both; with a write to the first behind that
abbrev pub halved : Plain
halved =
    after_events watched (add_keyspace commerce [] ∷ add_keyspace customer (codes "80" ∷ []) ∷ add_table commerce corder
    ∷ add_table customer (codes "t") ∷ put commerce corder 1 (codes "a") ∷ put commerce corder half (codes "b")
    ∷ made mv ∷ [])

abbrev pub half_copied : Plain
half_copied = after_events halved (advance mv forward 0 2 100 ∷ [])

abbrev pub all_copied : Plain
all_copied = after_events half_copied (advance mv forward 1 2 100 ∷ [])

abbrev pub one_behind : Plain
one_behind = after_events all_copied (put commerce corder 2 (codes "c") ∷ [])

-- the same on a way, where the second shard alone has read it; and where the first alone has
abbrev pub first_behind : Plain
first_behind = after_events one_behind (advance mv forward 1 2 100 ∷ begin_switch mv all_types ∷ [])

abbrev pub other_read_alone : Plain
other_read_alone = after_events one_behind (advance mv forward 0 2 100 ∷ begin_switch mv all_types ∷ [])

-- a write to the second, which the first alone has read
abbrev pub last_behind : Plain
last_behind =
    after_events all_copied (put commerce corder (half + 1) (codes "c") ∷ advance mv forward 0 2 100
    ∷ begin_switch mv all_types ∷ [])

-- a way of all types whose next step makes the streams back; and one whose refresh of the first shard stands done
abbrev pub before_streams : Plain
before_streams = after_events all_copied (begin_switch mv all_types ∷ steps_from 0 5)

abbrev pub half_opened : Plain
half_opened = after_events before_streams (steps_from 5 4)

-- all is switched, and a way back whose refresh of the first shard stands done, or that of both
abbrev pub half_closed : Plain
half_closed = after_events (after_events half_opened (steps_from 9 4)) (begin_reverse mv all_types ∷ steps_from 0 3)

abbrev pub both_closed : Plain
both_closed = after_events half_closed (steps_from 3 1)
