-- The number of the digits that were passed.
use Rattle.std.proofs.Common.{◌≡◌, ◌^◌, ◌<◌, true, take}
use Rattle.std.specs.Char.{is_ascii_digit}
use Rattle.std.specs.List.{list_all}
use Rattle.mt_plain.specs.Script.{number_of_digits}
use Rattle.mt_script.proofs.numbers.digits.Given as goal

abbrev pub invariant-loop-byte : goal.invariant-loop-byte
invariant-loop-byte l =
    (list_all is_ascii_digit (take l.byte-index l.word) ≡ true) ×
    (l.number ≡ number_of_digits (take l.byte-index l.word)) ×
    (l.number < 10 ^ l.byte-index)
