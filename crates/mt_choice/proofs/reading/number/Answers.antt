use Rattle.std.proofs.Common.{rules, arith, ◌≡◌, None, ◌∙◌}
use Rattle.std.specs.Str.Parse.{ParsesUnsigned, ExplainsUnsignedError, HasUnsignedDigitsIfOk}
use Rattle.clap.specs.Words.{found_of}
use Rattle.mt_choice.proofs.NumberLemmas.{none-there, small-there, large-there, number-there}
use Rattle.mt_choice.proofs.reading.number.Goals.{then-number-lt1-via-then-number-lt1, then-number-lt1-via-else-number-lt1+then-most-number}
use Rattle.mt_choice.proofs.reading.number.Goals as goal

pub returns-in_err-number : goal.returns-in_err-number
returns-in_err-number c =
    let given : c.from_residual.result ≡ None = search rules in
    given ∙ none-there (found_of c.args.matches.now) c.args.id.now c.args.most (λ bs r. ParsesUnsigned 16 10 bs r × ExplainsUnsignedError 10 bs r × HasUnsignedDigitsIfOk bs r) (λ u x g. g.0) c.in_err-number.ensures.value (omega arith)

pub returns-then-number-lt1 : goal.returns-then-number-lt1
returns-then-number-lt1 c = elim c.then-number-lt1.branch [
  | then-number-lt1-via-then-number-lt1 w ↦ small-there (found_of c.args.matches.now) c.args.id.now c.args.most (λ bs r. ParsesUnsigned 16 10 bs r × ExplainsUnsignedError 10 bs r × HasUnsignedDigitsIfOk bs r) (λ u x g. g.0) c.in_ok-number.number c.in_ok-number.ensures.value (omega arith)
  | then-number-lt1-via-else-number-lt1+then-most-number w ↦ large-there (found_of c.args.matches.now) c.args.id.now c.args.most (λ bs r. ParsesUnsigned 16 10 bs r × ExplainsUnsignedError 10 bs r × HasUnsignedDigitsIfOk bs r) (λ u x g. g.0) c.in_ok-number.number c.in_ok-number.ensures.value (omega arith)
]

pub returns : goal.returns
returns c =
    number-there (found_of c.args.matches.now) c.args.id.now c.args.most (λ bs r. ParsesUnsigned 16 10 bs r × ExplainsUnsignedError 10 bs r × HasUnsignedDigitsIfOk bs r) (λ u x g. g.0) c.in_ok-number.number c.in_ok-number.ensures.none c.in_ok-number.ensures.value (omega arith) (omega arith)
