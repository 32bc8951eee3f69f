-- What a stream's source has of a plain state.
use Rattle.std.specs.Prelude.{◌≡◌, ℕ, true, List, Some}
use Rattle.mt_plain.specs.Plain.{Lane, Live, Plain, in_lane, mover, moves}
use Rattle.mt_plain.specs.Writes.{client_row}
use Rattle.mt_primary.specs.Primary.{PrimaryState, row_at}

-- of each table of a workflow, a primary has the rows with a key in a lane's shard that the clients' acknowledged writes leave; and it is
-- this live workflow that moves it
pub record HasClientRows (p : Plain) (w : Live) (lane : Lane) (source : PrimaryState) : Type 0 where
  pub moved : (table : List ℕ) → moves w table ≡ true → mover p table ≡ Some w
  pub rows : (table : List ℕ) (key : ℕ) → moves w table ≡ true → in_lane w lane key ≡ true → row_at source table key ≡ client_row p w.source table key
