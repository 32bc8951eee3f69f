-- No event makes a log shorter.
use Rattle.std.proofs.Common.{◌≡◌, ℕ, ◌+◌, ◌≤◌, cond, List, [], ◌++◌, Option, None, Some, refl, sym, ap, ◌∙◌, arith, append-nil}
use Rattle.std.proofs.lemmas.List.Sums.{sum_by-append}
use Rattle.std.specs.List.{count_by}
use Rattle.std.specs.Option.{option_map_or}
use Rattle.mt_plain.specs.Events.{Event, write, advance, StreamName, Answer, done, row, advanced, shown, refused}
use Rattle.mt_plain.specs.Next.{next, with_advance}
use Rattle.mt_plain.specs.Plain.{Lane, Live, LogEntry, Plain, lane_at, live_at}
use Rattle.mt_plain.specs.Slots.{is_entry_at, log_advanced, log_length}
use Rattle.mt_laws.proofs.UntouchedLemmas.{same_logs}

abbrev Grows : (p q : Plain) → Type 0
Grows p q = (extra : List LogEntry) × (q.log ≡ p.log ++ extra)

grows-advance : (p : Plain) (name : StreamName) (shard at at_most events rows : ℕ) (o : Option Live) → Grows p (with_advance p name shard at at_most events rows o)
grows-advance p name shard at at_most events rows None = ([], sym (append-nil p.log))
grows-advance p name shard at at_most events rows (Some w) = by (lane_at w shard)
  where
    by : (o : Option Lane) → (extra : List LogEntry) × (option_map_or (λ x. log_advanced p w x name at events rows) o p.log ≡ p.log ++ extra)
    by None = ([], sym (append-nil p.log))
    by (Some x) = (_, refl)

grows : (p : Plain) (event : Event) (answer : Answer) → Grows p (next p event answer)
grows p (write keyspace table op) done = (_, refl)
grows p (write keyspace table op) (row r) = (_, refl)
grows p (write keyspace table op) (advanced events rows) = ([], sym (append-nil p.log))
grows p (write keyspace table op) (shown s) = ([], sym (append-nil p.log))
grows p (write keyspace table op) (refused refusal) = ([], sym (append-nil p.log))
grows p (advance workflow name shard at at_most) (advanced events rows) = grows-advance p name shard at at_most events rows (live_at p workflow)
grows p (advance workflow name shard at at_most) done = ([], sym (append-nil p.log))
grows p (advance workflow name shard at at_most) (row r) = ([], sym (append-nil p.log))
grows p (advance workflow name shard at at_most) (shown s) = ([], sym (append-nil p.log))
grows p (advance workflow name shard at at_most) (refused refusal) = ([], sym (append-nil p.log))
grows p event answer = ([], same_logs p event answer (λ h. h) ∙ sym (append-nil p.log))

pub logs_grow : (p : Plain) (event : Event) (answer : Answer) (keyspace : List ℕ) (shard : ℕ) → log_length p keyspace shard ≤ log_length (next p event answer) keyspace shard
logs_grow p event answer keyspace shard =
    let g = grows p event answer in
    let e : log_length (next p event answer) keyspace shard ≡ log_length p keyspace shard + count_by (is_entry_at keyspace shard) g.0 =
    ap (count_by (is_entry_at keyspace shard)) g.1 ∙ sum_by-append (λ x. cond (is_entry_at keyspace shard x) 1 0) p.log g.0 in
    omega arith
