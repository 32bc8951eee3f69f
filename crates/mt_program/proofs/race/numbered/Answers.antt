-- The digits that are written.
use Rattle.std.proofs.Common.{◌≡◌, ◌++◌, ◌∙◌, ℕ, ap, refl}
use Rattle.std.specs.Fmt.{decimal, digits}
use Rattle.mt_plain.specs.Numbers.{number_text}
use Rattle.mt_program.proofs.race.numbered.Goals as goal

-- std's decimal digits are these
decimal-number_text : (n : ℕ) → decimal n ≡ number_text n
unfolding digits
decimal-number_text n = refl

pub returns : goal.returns
returns c = c.joined.ensures ∙ ap (λ text. c.args.word.now ++ text) (c.as_bytes.ensures.value ∙ c.format-digits.ensures.text ∙ decimal-number_text c.args.number)
