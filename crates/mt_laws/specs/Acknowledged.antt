-- The operations that were acknowledged on a row, and the row that they make.
use Rattle.std.specs.Prelude.{ℕ, ◌&&◌, ◌==◌, List, [], ◌∷◌, ◌++◌, fold, if◌then◌else◌, None, Result, Ok, Err}
use Rattle.mt_model.specs.declared.faults.PrimaryFault.{PrimaryFault}
use Rattle.mt_model.specs.declared.rows.Op.{Op}
use Rattle.mt_model.specs.Rows.{Row, op_key, op_row}
use Rattle.mt_plain.specs.Events.{Event, write, Answer, done}
use Rattle.mt_plain.specs.Next.{next}
use Rattle.mt_plain.specs.Plain.{Plain}
use Rattle.mt_plain.specs.Writes.{client_number}

-- the operation of an event, if in this state it was done to the row at a key of the client table with a number
abbrev pub acknowledged_by : Plain → (number key : ℕ) → Event → Answer → List Op
acknowledged_by p number key (write keyspace table op) done =
    if (client_number p keyspace table == number) && (op_key op == key) then op ∷ [] else []
acknowledged_by p number key event answer = []

-- the operations that a run acknowledged on a row, in their order
abbrev pub acknowledged : Plain → (number key : ℕ) → List Event → List Answer → List Op
acknowledged p number key (event ∷ events) (answer ∷ answers) =
    acknowledged_by p number key event answer ++ acknowledged (next p event answer) number key events answers
acknowledged p number key events answers = []

-- a row after an operation, which stays where the operation is refused
abbrev pub row_or : Row → Result Row PrimaryFault → Row
row_or before (Ok after) = after
row_or before (Err fault) = before

abbrev pub row_with_op : Row → Op → Row
row_with_op before op = row_or before (op_row op before)

-- the row that operations make of none
abbrev pub row_by : List Op → Row
row_by ops = fold row_with_op None ops
