-- Tests one after the other, and what an event is answered that one test refuses, or that is made.
use Rattle.std.proofs.Common.{◌≡◌, Bool, true, Option, None, Some, refl, sym, ◌∙◌}
use Rattle.mt_plain.specs.Answers.{Answers, reply_of}
use Rattle.mt_plain.specs.Events.{Answer, Event, done, row, advanced, shown, refused, Refusal, memory}
use Rattle.mt_plain.specs.Plain.{Plain}
use Rattle.mt_plain.specs.Refuse.{may_grow, or_else, refusal_of}
use Rattle.mt_laws.proofs.AnswerLemmas.{refused_as_decided}
use Rattle.mt_stands.specs.Switching.{CoreDoes}
use Rattle.mt_stands.specs.Ways.{CoreState}

-- what one of two tests refuses, it refuses whatever test comes behind
pub refused_before : (a b c : Option Refusal) (r : Refusal) → or_else a b ≡ Some r → or_else a (or_else b c) ≡ Some r
refused_before (Some s) b c r e = e
refused_before None (Some s) c r e = e
refused_before None None c r e = absurd cc

-- and where none of them refuses, that one does or nothing
pub refused_behind : (a b c : Option Refusal) → or_else a b ≡ None → or_else a (or_else b c) ≡ c
refused_behind (Some s) b c e = absurd cc
refused_behind None (Some s) c e = absurd cc
refused_behind None None c e = refl

-- an event that does one thing where no test refuses it
module _ (p : Plain) (event : Event) (old made new : CoreState) (refusal : Option Refusal) (same : refusal_of p event ≡ refusal) (replies : reply_of p event ≡ done)
    (grows : Bool) (grown : grows ≡ true → may_grow p event ≡ true) where
  pub does_answer : (answer : Answer) → CoreDoes old refusal grows made answer new → Answers p event answer
  does_answer done is = (same ∙ is.0, sym replies)
  does_answer (row r) is = absurd is
  does_answer (advanced events rows) is = absurd is
  does_answer (shown s) is = absurd is
  does_answer (refused memory) is = (same ∙ is.0, grown is.1)
  does_answer (refused r) is = refused_as_decided p event r (same ∙ is.0)
