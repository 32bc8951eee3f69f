-- States of tables that are copied, and copied again.
use Rattle.std.specs.Prelude.{◌∷◌, [], List, codes, ℕ}
use Rattle.mt_model.specs.declared.rows.Op.TheVariants.{Delete, Update}
use Rattle.mt_plain.specs.Events.{Event, add_table, advance, cancel, complete, create, forward, write}
use Rattle.mt_plain.specs.Plain.{Plain}
use Rattle.mt_worked.specs.States.{after_events, begun, commerce, copied, corder, customer, cut, live_of_two, made}
use Rattle.mt_worked.specs.States.{mv, other, put, switched, value}

-- two tables move, in the other order than they were made; each has a row, the first one two, and one that was deleted
abbrev pub two_tables : Plain
two_tables =
    after_events begun (put commerce other 7 (codes "g") ∷ put commerce other 3 (codes "c")
    ∷ put commerce other 5 (codes "e") ∷ write commerce other (Delete 5)
    ∷ create mv commerce customer (other ∷ corder ∷ []) ∷ [])

-- after so many advances of one row each
abbrev pub one_copied : Plain
one_copied = after_events two_tables (advance mv forward 0 5 1 ∷ [])

abbrev pub two_copied : Plain
two_copied = after_events one_copied (advance mv forward 0 5 1 ∷ [])

abbrev pub three_copied : Plain
three_copied = after_events two_copied (advance mv forward 0 5 1 ∷ [])

-- a row of the first table is changed while the second is still to be copied; a row of the second one too
abbrev pub changed_first : Plain
changed_first =
    after_events two_copied (write commerce other (Update 3 (value (codes "C")))
    ∷ write commerce corder (Update 1 (value (codes "A"))) ∷ advance mv forward 0 5 100 ∷ [])

-- the second of two rows is changed before it is copied; then both are copied
abbrev pub changed_before_its_copy : Plain
changed_before_its_copy =
    after_events cut (write commerce corder (Update 2 (value (codes "z"))) ∷ advance mv forward 0 2 100
    ∷ advance mv forward 0 3 100 ∷ [])

-- two rows are to be copied, and so many are allowed
abbrev pub allowed_to_copy : ℕ → Plain
allowed_to_copy most = after_events live_of_two (advance mv forward 0 2 most ∷ [])

-- a Create of these tables; one that names the first table again behind the second
abbrev pub create_of : List (List ℕ) → Event
create_of tables = create mv commerce customer tables

abbrev pub named_twice : Plain
named_twice =
    after_events begun (put commerce other 3 (codes "c") ∷ put commerce other 7 (codes "g")
    ∷ create_of (corder ∷ other ∷ corder ∷ []) ∷ [])

-- a workflow is completed, and its source has a table of that name again; one is cancelled, and made again
abbrev pub made_anew : Plain
made_anew = after_events switched (complete mv ∷ add_table commerce corder ∷ [])

abbrev pub again : Plain
again = after_events copied (cancel mv ∷ put commerce corder 2 (codes "b") ∷ made mv ∷ [])
