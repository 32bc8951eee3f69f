-- The text has the members among the types so far.
use Rattle.std.proofs.Common.{◌≡◌, filter, take}
use Rattle.mt_names.specs.Types.{every_type, has, list_text}
use Rattle.mt_names.proofs.types.TypeSet.text.Given as goal

abbrev pub invariant-loop-tablet_type : goal.invariant-loop-tablet_type
invariant-loop-tablet_type l =
    (l.tablet_type-items ≡ every_type) ×
    (l.text.bytes ≡ list_text (filter (has l.self) (take l.tablet_type-index every_type)))
