-- What clap answers is the choice.
use Rattle.std.proofs.Common.{◌≡◌, true, List, [], map, Option, None, Some, Result, Ok, Err, Bor, refl, sym, ap, subst, ◌∙◌, inl, inr}
use Rattle.std.specs.Option.{option_map}
use Rattle.std.specs.Prelude.{unwrap_or}
use Rattle.clap.specs.Words.{App, HasKind, HasMatchesOf, IsAmong, Text, all_of, fault_of, is_simple, is_simple_and_free, kind_of, matched_of, raw_values, rows_of, subcommand_of, subcommand_rows_of}
use Rattle.clap.specs.declared.error.Error.{Error}
use Rattle.clap.specs.declared.error.kind.ErrorKind.{ErrorKind}
use Rattle.clap.specs.declared.error.kind.ErrorKind.TheVariants.{DisplayHelp, OutOfMemory}
use Rattle.clap.specs.declared.parser.matches.ArgMatches.{ArgMatches}
use Rattle.clap.specs.declared.parser.matches.Found.{Found}
use Rattle.clap.proofs.WalkLemmas.{raw_values-rows}
use Rattle.mt_choice.specs.declared.choice.Choice.{Choice}
use Rattle.mt_choice.specs.declared.choice.Choice.TheVariants as choice
use Rattle.mt_choice.specs.declared.choice.Wrong.{Wrong}
use Rattle.mt_choice.specs.declared.choice.Wrong.TheVariants as wrong
use Rattle.mt_choice.specs.Command.{mt}
use Rattle.mt_choice.specs.Meaning.{AnswersKind, Chooses, Says, Takes, meaning_of_subcommand, refusals_of}

-- the words of an argument, as a getter lends them and as the rows have them
pub words_there : (f : Found) (id : Text) (o : Option (Bor (List (Bor Text)))) (d : Bor (List (Bor Text))) → d.now ≡ []
    → option_map (λ s. map (λ v. v.now) s.now) o ≡ option_map raw_values (matched_of f id)
    → map (λ v. v.now) (unwrap_or o d).now ≡ unwrap_or (all_of id (rows_of f)) []
words_there f id o d none is = by o ∙ ap (λ found. unwrap_or found []) (is ∙ raw_values-rows f id)
  where
    by : (o : Option (Bor (List (Bor Text)))) → map (λ v. v.now) (unwrap_or o d).now ≡ unwrap_or (option_map (λ s. map (λ v. v.now) s.now) o) []
    by None = ap (map (λ v. v.now)) none
    by (Some s) = refl

mt_is_simple : is_simple mt ≡ true
mt_is_simple = refl

mt_is_free : is_simple_and_free mt ≡ true
mt_is_free = refl

module _ (words : List Text) where
  chooses-taken : (answer : Result Choice Wrong) → Takes words answer → Chooses words answer
  chooses-taken (Ok (choice.Run names)) t = t
  chooses-taken (Ok choice.Rules) t = t
  chooses-taken (Ok choice.Topology) t = t
  chooses-taken (Ok (choice.Race clients writes)) t = t
  chooses-taken (Ok (choice.Help text)) t = absurd t.1
  chooses-taken (Err wrong.Usage) t = inr t
  chooses-taken (Err (wrong.Words fault)) t = t
  chooses-taken (Err wrong.Memory) t = absurd t.1

  chooses-kind : (kind : ErrorKind) (answer : Result Choice Wrong) → AnswersKind kind answer → IsAmong kind (refusals_of words) → Chooses words answer
  chooses-kind kind (Ok (choice.Run names)) a among = absurd a
  chooses-kind kind (Ok choice.Rules) a among = absurd a
  chooses-kind kind (Ok choice.Topology) a among = absurd a
  chooses-kind kind (Ok (choice.Race clients writes)) a among = absurd a
  chooses-kind kind (Ok (choice.Help text)) a among = subst (λ k. IsAmong k (refusals_of words)) a among
  chooses-kind kind (Err wrong.Usage) a among = inl (kind, among, a.0)
  chooses-kind kind (Err (wrong.Words fault)) a among = absurd a
  chooses-kind kind (Err wrong.Memory) a among = tt

  chooses-memory : (kind : ErrorKind) (answer : Result Choice Wrong) → AnswersKind kind answer → kind ≡ OutOfMemory → Chooses words answer
  chooses-memory kind (Ok (choice.Run names)) a memory = absurd a
  chooses-memory kind (Ok choice.Rules) a memory = absurd a
  chooses-memory kind (Ok choice.Topology) a memory = absurd a
  chooses-memory kind (Ok (choice.Race clients writes)) a memory = absurd a
  chooses-memory kind (Ok (choice.Help text)) a memory = let bad : DisplayHelp ≡ OutOfMemory = sym a ∙ memory in absurd cc
  chooses-memory kind (Err wrong.Usage) a memory = absurd (a.1 memory)
  chooses-memory kind (Err (wrong.Words fault)) a memory = absurd a
  chooses-memory kind (Err wrong.Memory) a memory = tt

  pub chooses-matched : (app : App) (m : ArgMatches) (answer : Result Choice Wrong) → app ≡ mt → (is_simple_and_free app ≡ true → fault_of app words ≡ [])
      → HasMatchesOf app words m → Says (meaning_of_subcommand (subcommand_rows_of m)) answer → Chooses words answer
  chooses-matched app m answer is none matches said = chooses-taken answer (
    ap (λ a. fault_of a words) (sym is) ∙ none (ap is_simple_and_free is ∙ mt_is_free),
    subst (λ o. Says (meaning_of_subcommand o) answer) ((matches (ap is_simple is ∙ mt_is_simple)).1 ∙ ap (λ a. subcommand_of a words) is) said,
  )

  pub chooses-unmatched : (app : App) (e : Error) (answer : Result Choice Wrong) → app ≡ mt → (is_simple_and_free app ≡ true → HasKind (fault_of app words) e)
      → AnswersKind (kind_of e) answer → Chooses words answer
  chooses-unmatched app e answer is fails a = elim (subst (λ f. HasKind f e) (ap (λ a. fault_of a words) is) (fails (ap is_simple_and_free is ∙ mt_is_free))) [
    | inl memory ↦ chooses-memory (kind_of e) answer a memory
    | inr among ↦ chooses-kind (kind_of e) answer a among
  ]
