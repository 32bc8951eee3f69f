-- A value that several hold, by its bytes.
use Rattle.std.specs.Prelude.{ℕ}
use Rattle.arrayvec.specs.ArrayVec.{ArrayVec}
use Rattle.mt_model.specs.declared.value.Place.{Place}
use Rattle.mt_model.specs.declared.value.Place.TheVariants.{Here, Shared}

-- the bytes of a value, wherever they stand
abbrev pub bytes_at : Place → ArrayVec ℕ
bytes_at (Here short) = record { items = short }
bytes_at (Shared value) = value.value
