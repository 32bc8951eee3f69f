-- What is done to a row, as it is kept.
use Rattle.mt_event.specs.declared.compact.ops.Done.{Done}
use Rattle.mt_event.specs.declared.compact.ops.Done.TheVariants as kept
use Rattle.mt_model.specs.declared.rows.Op.{Op}
use Rattle.mt_model.specs.declared.rows.Op.TheVariants as op

-- the same, wherever its value stands (this profile's own)
abbrev pub op_from : Done → Op
op_from (kept.Insert key value) = op.Insert key value
op_from (kept.Update key value) = op.Update key value
op_from (kept.Append key value) = op.Append key value
op_from (kept.Delete key) = op.Delete key
