-- Numbers as they are printed.
use Rattle.std.specs.Prelude.{ℕ, false, List, []}
use Rattle.std.specs.Fmt.{digits_onto}

-- a number in decimal digits; std's `decimal` is the same
abbrev pub number_text : ℕ → List ℕ
number_text n = digits_onto 64 10 false n []
