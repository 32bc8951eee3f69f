-- What Create makes of a primary of the target (this profile's own).
use Rattle.std.specs.Prelude.{◌≡◌, ◌||◌, ℕ, true, false, List, None}
use Rattle.mt_primary.specs.Primary.{PrimaryState, has_table, is_denied_at, row_at}
use Rattle.mt_plain.specs.Plain.{among}
use Rattle.mt_stands.specs.Rows.{OtherTablesStay}

-- it has the tables, without rows and denied (How traffic is switched: the target is denied until writes are switched); the log, the other
-- tables' rows and their denials stay
pub record AreMadeDenied (tables : List (List ℕ)) (old new : PrimaryState) : Type 0 where
  pub stay : OtherTablesStay tables old new
  pub empty : (table : List ℕ) → among tables table ≡ true → (key : ℕ) → row_at new table key ≡ None
  pub has : (table : List ℕ) → has_table new table ≡ (among tables table || has_table old table)
  pub denied : (table : List ℕ) → among tables table ≡ true → is_denied_at new table ≡ true
  pub before : (table : List ℕ) → among tables table ≡ false → is_denied_at new table ≡ is_denied_at old table
