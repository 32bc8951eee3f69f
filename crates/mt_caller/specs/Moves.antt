-- Who takes part in a move at a desk, and the one history of their calls (this profile's own).
use Rattle.std.specs.Prelude.{◌*◌, ◌^◌, ℕ, true, false, List, [], ◌∷◌, codes, map, None, Ok}
use Rattle.std.specs.List.{range_with_len}
use Rattle.mt_desk.specs.declared.history.Call.{Call}
use Rattle.mt_event.specs.declared.driven.Driven.TheVariants.{Done}
use Rattle.mt_model.specs.declared.rows.Op.TheVariants.{Insert}
use Rattle.mt_workers.specs.Advances.{IsAdvancing}
use Rattle.mt_workers.specs.Controls.{Controls}
use Rattle.mt_workers.specs.declared.line.Line.{Line}
use Rattle.mt_workers.specs.declared.line.Line.TheVariants.{Put}
use Rattle.mt_workers.specs.Queries.{Queries}
use Rattle.mt_workflow.specs.declared.way.Slot.TheVariants.{Forward}

-- there is something of which this is so
abbrev pub Exists : {A : Type 0} → (A → Type 0) → Type 0
Exists {A} So = ∥ ((it : A) × So it) ∥₁

-- the workflow
abbrev pub second : List ℕ
second = codes "second"

-- a client inserts rows by the table's name, wherever it is, half of 32 in either shard, and is answered each
abbrev pub insert_of : (row : ℕ) → Line
insert_of row = Put (record { keyspace = None; table = codes "product"; tablet_type = None }) (Insert (row * 2 ^ 59) (record { items = [] }))

abbrev pub inserts : (rows : ℕ) → List Line
inserts rows = map insert_of (range_with_len 0 rows)

abbrev pub IsOfClient : List Call → Type 0
IsOfClient calls = Exists (λ known. Queries known (inserts 32) calls 32)

-- all that a worker asks for are advances of the streams of both shards in turn, if it asks for any
abbrev pub IsOfFeeder : List Call → Type 0
IsOfFeeder calls = Exists (λ taken. IsAdvancing second Forward 2 100 200 calls taken)

-- a controller switches the traffic of all types, and that is done
abbrev pub IsOfController : List Call → Type 0
IsOfController calls = ∥ Controls second (record { primary = true; replica = true; rdonly = true }) false 256 calls (Ok Done) ∥₁

-- the calls of who created the move, whatever they are, and of these three have one history
abbrev pub AreOne : (HaveOne : List (ℕ × List Call) → Type 0) → Type 0
AreOne HaveOne =
    ∥ ((created asked fed switched : List Call) × IsOfClient asked × IsOfFeeder fed × IsOfController switched
    × HaveOne ((1, created) ∷ (2, asked) ∷ (3, fed) ∷ (4, switched) ∷ [])) ∥₁
