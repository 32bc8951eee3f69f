-- After any run, the row of a client table is what the operations acknowledged on it make.
use Rattle.std.proofs.Common.{◌≡◌, ℕ, ◌+◌, Bool, true, false, cond, eqb, List, [], ◌∷◌, ◌++◌, Option, None, Some, Ok, Err, refl, sym, ap, ◌∙◌, length}
use Rattle.std.proofs.lemmas.Bool.{eqb-true}
use Rattle.std.proofs.lemmas.List.Sums.{fold-append}
use Rattle.std.specs.List.{fold}
use Rattle.std.specs.Prelude.{◌&&◌, nat_le, nat_lt}
use Rattle.mt_names.specs.declared.values.TheConstants.{MAX_VALUE_LENGTH}
use Rattle.mt_model.specs.declared.entries.Scope.{Scope}
use Rattle.mt_model.specs.declared.faults.PrimaryFault.TheVariants as primary
use Rattle.mt_model.specs.Limits.{longest_log}
use Rattle.mt_model.specs.declared.rows.Op.{Op}
use Rattle.mt_model.specs.declared.rows.Op.TheVariants.{Insert, Update, Append, Delete}
use Rattle.mt_model.specs.Rows.{Row, op_key, op_row}
use Rattle.mt_plain.specs.Events.{Event, write, advance, complete, StreamName, Shown, Refusal, denied, full, Answer, done, row, advanced, shown, refused}
use Rattle.mt_plain.specs.Answers.{Answers, Run, after, reply_of}
use Rattle.mt_plain.specs.Next.{after_advance, next, next_taken, row_left, with_advance, with_completed}
use Rattle.mt_plain.specs.Plain.{Live, Plain, Write, live_at, opening, shard_at}
use Rattle.mt_plain.specs.Refuse.{or_else, refusal_of, refuse_if, row_refusal, unknown_table}
use Rattle.mt_plain.specs.Serve.{refuses}
use Rattle.mt_plain.specs.Slots.{log_length}
use Rattle.mt_plain.specs.Writes.{client_number, client_row, row_after_write, row_after_writes}
use Rattle.mt_laws.specs.Acknowledged.{acknowledged, acknowledged_by, row_by, row_or, row_with_op}
use Rattle.mt_laws.proofs.RefusalLemmas.{or_else-none}

-- a write that isn't refused leaves the row of its operation
pub row_is_left : (p : Plain) (keyspace table : List ℕ) (op : Op) → refusal_of p (write keyspace table op) ≡ None → row_refusal (op_row op (client_row p keyspace table (op_key op))) ≡ None
row_is_left p keyspace table op none =
    let by_row = row_refusal (op_row op (client_row p keyspace table (op_key op))) in
    let by_log = refuse_if (nat_le longest_log (log_length p keyspace (shard_at p keyspace (op_key op)))) full in
    let by_list = refuse_if (refuses p keyspace (shard_at p keyspace (op_key op)) table) denied in
    let behind_table = (or_else-none (unknown_table p keyspace table) (or_else by_list (or_else by_row by_log)) none).1 in
    (or_else-none by_row by_log (or_else-none by_list (or_else by_row by_log) behind_table).1).0

-- an operation that the row doesn't refuse leaves its row
pub op_left : (op : Op) (before : Row) → row_refusal (op_row op before) ≡ None → row_left (op_row op before) ≡ row_with_op before op
op_left (Insert key value) None none = refl
op_left (Insert key value) (Some old) none = absurd cc
op_left (Update key value) None none = absurd cc
op_left (Update key value) (Some old) none = refl
op_left (Append key value) None none = absurd cc
op_left (Append key value) (Some old) none = by (nat_lt MAX_VALUE_LENGTH (length old.items + length value.items)) none
  where
    both : Row
    both = Some (record { items = old.items ++ value.items })

    by : (t : Bool) → row_refusal (cond t (Err primary.TooLong) (Ok both)) ≡ None → row_left (cond t (Err primary.TooLong) (Ok both)) ≡ row_or (Some old) (cond t (Err primary.TooLong) (Ok both))
    by true e = absurd cc
    by false e = refl
op_left (Delete key) None none = absurd cc
op_left (Delete key) (Some old) none = refl

-- one write more, by whether it is to this row
write_row : (a b : Bool) (left before : Row) (op : Op) → (a ≡ true → b ≡ true → left ≡ row_with_op before op) → cond (a && b) left before ≡ fold row_with_op before (cond (a && b) (op ∷ []) [])
write_row true true left before op is = is refl refl
write_row true false left before op is = refl
write_row false b left before op is = refl

write_step : (p : Plain) (k t : List ℕ) (op : Op) → refusal_of p (write k t op) ≡ None → (number key : ℕ) → row_after_writes (next_taken p (write k t op)).writes number key ≡ fold row_with_op (row_after_writes p.writes number key) (acknowledged_by p number key (write k t op) done)
write_step p k t op none number key =
    fold-append (row_after_write number key) None p.writes (w ∷ [])
    ∙ write_row (eqb (client_number p k t) number) (eqb (op_key op) key) w.after (row_after_writes p.writes number key) op
    (λ a b. left ∙ ap (λ before. row_with_op before op)
    (ap (λ n. row_after_writes p.writes n (op_key op)) (eqb-true (client_number p k t) number a) ∙ ap (row_after_writes p.writes number) (eqb-true (op_key op) key b)))
  where
    w : Write
    w = record { table = client_number p k t; key = op_key op; after = row_left (op_row op (client_row p k t (op_key op))) }

    left : w.after ≡ row_with_op (client_row p k t (op_key op)) op
    left = op_left op (client_row p k t (op_key op)) (row_is_left p k t op none)

-- ---- no other event is a write

completed-writes : (p : Plain) (o : Option Live) → (with_completed p o).writes ≡ p.writes
completed-writes p None = refl
completed-writes p (Some w) = refl

with_advance-writes : (p : Plain) (name : StreamName) (shard position at_most events rows : ℕ) (o : Option Live) → (with_advance p name shard position at_most events rows o).writes ≡ p.writes
with_advance-writes p name shard position at_most events rows None = refl
with_advance-writes p name shard position at_most events rows (Some w) = refl

after_advance-writes : (p : Plain) (event : Event) (events rows : ℕ) → (after_advance p event events rows).writes ≡ p.writes
after_advance-writes p (advance workflow name shard at at_most) events rows = with_advance-writes p name shard at at_most events rows (live_at p workflow)
after_advance-writes p other events rows = refl

-- the row after an event that adds no write
module _ (p : Plain) (number key : ℕ) where
  abbrev row_at : List Write → Row
  row_at writes = row_after_writes writes number key

  taken-row : (event : Event) → refusal_of p event ≡ None → row_at (next_taken p event).writes ≡ fold row_with_op (row_at p.writes) (acknowledged_by p number key event done)
  taken-row (write k t op) none = write_step p k t op none number key
  taken-row (complete workflow) none = ap row_at (completed-writes p (live_at p workflow))
  taken-row other none = refl

  no_row_acknowledged : (event : Event) (r : Row) → acknowledged_by p number key event (row r) ≡ []
  no_row_acknowledged (write k t op) r = refl
  no_row_acknowledged other r = refl

  no_advance_acknowledged : (event : Event) (events rows : ℕ) → acknowledged_by p number key event (advanced events rows) ≡ []
  no_advance_acknowledged (write k t op) events rows = refl
  no_advance_acknowledged other events rows = refl

  no_show_acknowledged : (event : Event) (s : Shown) → acknowledged_by p number key event (shown s) ≡ []
  no_show_acknowledged (write k t op) s = refl
  no_show_acknowledged other s = refl

  no_refusal_acknowledged : (event : Event) (refusal : Refusal) → acknowledged_by p number key event (refused refusal) ≡ []
  no_refusal_acknowledged (write k t op) refusal = refl
  no_refusal_acknowledged other refusal = refl

  none_more : (ops : List Op) → ops ≡ [] → row_at p.writes ≡ fold row_with_op (row_at p.writes) ops
  none_more ops e = sym (ap (fold row_with_op (row_at p.writes)) e)

  read-row : (event : Event) (r : Row) → row r ≡ reply_of p event → row_at (next_taken p event).writes ≡ row_at p.writes
  read-row (write k t op) r is = absurd cc
  read-row (complete workflow) r is = ap row_at (completed-writes p (live_at p workflow))
  read-row other r is = refl

  row_step : (event : Event) (answer : Answer) → Answers p event answer → row_at (next p event answer).writes ≡ fold row_with_op (row_at p.writes) (acknowledged_by p number key event answer)
  row_step event (refused refusal) a = none_more (acknowledged_by p number key event (refused refusal)) (no_refusal_acknowledged event refusal)
  row_step event done a = taken-row event a.0
  row_step event (row r) a = read-row event r a.1 ∙ none_more (acknowledged_by p number key event (row r)) (no_row_acknowledged event r)
  row_step event (advanced events rows) a =
      ap row_at (after_advance-writes p event events rows) ∙ none_more (acknowledged_by p number key event (advanced events rows)) (no_advance_acknowledged event events rows)
  row_step event (shown s) a = none_more (acknowledged_by p number key event (shown s)) (no_show_acknowledged event s)

-- ---- the row after a run

pub row-run : (events : List Event) (answers : List Answer) (p : Plain) (number key : ℕ) → Run p events answers → row_after_writes (after p events answers).writes number key ≡ fold row_with_op (row_after_writes p.writes number key) (acknowledged p number key events answers)
row-run [] [] p number key run = refl
row-run [] (answer ∷ answers) p number key run = absurd run
row-run (event ∷ events) [] p number key run = absurd run
row-run (event ∷ events) (answer ∷ answers) p number key run =
    let first = acknowledged_by p number key event answer in
    let q = next p event answer in
    let others = acknowledged q number key events answers in
    row-run events answers q number key run.1
    ∙ ap (λ r. fold row_with_op r others) (row_step p number key event answer run.0)
    ∙ sym (fold-append row_with_op (row_after_writes p.writes number key) first others)

pub client_row-run : (scopes : List Scope) (events : List Event) (answers : List Answer) → Run (opening scopes) events answers → (keyspace table : List ℕ) (key : ℕ) → client_row (after (opening scopes) events answers) keyspace table key ≡ row_by (acknowledged (opening scopes) (client_number (after (opening scopes) events answers) keyspace table) key events answers)
client_row-run scopes events answers run keyspace table key =
    row-run events answers (opening scopes) (client_number (after (opening scopes) events answers) keyspace table) key run
