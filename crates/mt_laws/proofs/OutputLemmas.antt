-- The output as a relation and as a function.
use Rattle.std.proofs.Common.{◌≡◌, ◌↔◌, ℕ, zero, suc, List, [], ◌∷◌, ◌++◌, Result, Ok, Err, refl, sym, ap, ◌∙◌, subst, arith}
use Rattle.std.specs.Prelude.{⊤}
use Rattle.mt_names.specs.declared.fault.NameFault.{NameFault}
use Rattle.mt_names.specs.declared.keys.RuleTarget.{RuleTarget}
use Rattle.mt_names.specs.declared.types.TabletType.TheVariants.{Primary}
use Rattle.mt_model.specs.declared.faults.TopologyFault.{TopologyFault}
use Rattle.mt_model.specs.Topology.{resolution}
use Rattle.mt_plain.specs.Answers.{Answers, answer_of}
use Rattle.mt_plain.specs.Drive.{Drives, Driving, begins, steps, feeds, gives_up, EndRule, GoesOn, Heard, goes_on, ends, event_of, heard, most_turns}
use Rattle.mt_plain.specs.Events.{Event, advance, write, read, Answer, Refusal}
use Rattle.mt_plain.specs.Next.{next}
use Rattle.mt_plain.specs.Output.{Adds, AnswersWithMemory, Output, Reading, Rest, Says, Told, nothing, says, asks, drives, answer_text, asked_in, asked_there, drive_then, ended_text, goes_then, line_feed, output_from, told, told_line, told_request, told_then}
use Rattle.mt_plain.specs.Plain.{Plain, live_at}
use Rattle.mt_plain.specs.Refuse.{shard_of_range}
use Rattle.mt_plain.specs.Script.{Line, silent, command, bad_line, line_too_long, Request, event, write_through, read_through, advance_in, drive, rules_document, dump_document, request_of}
use Rattle.mt_plain.specs.Serve.{served}
use Rattle.mt_laws.proofs.AnswerLemmas.{answers-answer_of}
use Rattle.mt_laws.specs.Turns.{Fits, FitsHeard}
use Rattle.mt_laws.proofs.DriveLemmas.{fits-turns, heard-fits}

-- ---- each drive of a script begins as one

-- a drive is about to begin
abbrev pub IsBegun : Driving → Type 0
IsBegun (begins workflow types backward) = ⊤
IsBegun other = ⊥

pub begins-fits_turns : (p : Plain) (d : Driving) → IsBegun d → Fits most_turns p d
begins-fits_turns p (begins workflow types backward) is = omega arith
begins-fits_turns p (steps workflow tries) is = absurd is
begins-fits_turns p (feeds workflow shard tries) is = absurd is
begins-fits_turns p (gives_up workflow refusal) is = absurd is

abbrev pub BeginsIfDrives : Told → Type 0
BeginsIfDrives (drives d) = IsBegun d
BeginsIfDrives other = ⊤

asked_there-begins : (found : Result RuleTarget TopologyFault) (ask : (keyspace table : List ℕ) → Event) → BeginsIfDrives (asked_there found ask)
asked_there-begins (Ok target) ask = tt
asked_there-begins (Err fault) ask = tt

asked_in-begins : (found : Result ℕ Refusal) (ask : (shard : ℕ) → Event) → BeginsIfDrives (asked_in found ask)
asked_in-begins (Ok shard) ask = tt
asked_in-begins (Err refusal) ask = tt

told_request-begins : (p : Plain) (r : Result Request NameFault) → BeginsIfDrives (told_request p r)
told_request-begins p (Err fault) = tt
told_request-begins p (Ok (event e)) = tt
told_request-begins p (Ok (write_through key op)) = asked_there-begins (resolution (served p) key Primary) (λ keyspace table. write keyspace table op)
told_request-begins p (Ok (read_through key number tablet_type)) = asked_there-begins (resolution (served p) key tablet_type) (λ keyspace table. read keyspace table number tablet_type)
told_request-begins p (Ok (drive workflow types backward)) = tt
told_request-begins p (Ok (advance_in workflow stream range at at_most)) = asked_in-begins (shard_of_range (live_at p workflow) range) (λ shard. advance workflow stream shard at at_most)
told_request-begins p (Ok rules_document) = tt
told_request-begins p (Ok dump_document) = tt

pub told_line-begins : (p : Plain) (line : Line) → BeginsIfDrives (told_line p line)
told_line-begins p silent = tt
told_line-begins p bad_line = tt
told_line-begins p line_too_long = tt
told_line-begins p (command c) = told_request-begins p (request_of c)

-- ---- what is written is what the function puts there

module _ (Then : Rest) (rest : Plain → List ℕ) (again : (q : Plain) (out : List ℕ) → Then q out → out ≡ rest q) where
  Says-is : (p : Plain) (text out : List ℕ) → Says p text Then out → out ≡ text ++ line_feed ++ rest p
  Says-is p text out said = said.1 ∙ ap (λ l. text ++ line_feed ++ l) (again p said.0 said.2)

  Drives-is : (turns : ℕ) (d : Driving) (p : Plain) (out : List ℕ) → Drives AnswersWithMemory turns (λ ended q. Says q (ended_text ended) Then out) d p → out ≡ drive_then turns rest d p
  Drives-is zero d p out drove = absurd drove
  Drives-is (suc turns) d p out drove =
      by (Drives-is turns) (heard (next p (event_of p d) drove.0) d drove.0) drove.2
      ∙ ap (λ answer. goes_then (drive_then turns rest) (next p (event_of p d) answer) (heard (next p (event_of p d) answer) d answer) rest) drove.1
    where
      q : Plain
      q = next p (event_of p d) drove.0

      Ends : EndRule
      Ends ended r = Says r (ended_text ended) Then out

      by : ((e : Driving) (r : Plain) (o : List ℕ) → Drives AnswersWithMemory turns (λ ended s. Says s (ended_text ended) Then o) e r → o ≡ drive_then turns rest e r)
          → (h : Heard) → GoesOn (Drives AnswersWithMemory turns Ends) Ends q h → out ≡ goes_then (drive_then turns rest) q h rest
      by again' (goes_on e) went = again' e q out went
      by again' (ends ended) said = Says-is q (ended_text ended) out said

  Adds-told_then : (p : Plain) (t : Told) (out : List ℕ) → Adds AnswersWithMemory p t Then out → out ≡ told_then p t rest
  Adds-told_then p nothing out adds = again p out adds
  Adds-told_then p (says text) out adds = Says-is p text out adds
  Adds-told_then p (asks e) out adds =
      adds.3 ∙ ap (λ l. answer_text adds.0 ++ line_feed ++ l) (again (next p e adds.0) adds.1 adds.4)
      ∙ ap (λ a. answer_text a ++ line_feed ++ rest (next p e a)) adds.2
  Adds-told_then p (drives d) out adds = Drives-is most_turns d p out adds

module _ (Then : Rest) (rest : Plain → List ℕ) (again : (q : Plain) → Then q (rest q)) where
  drive_then-drove : (turns : ℕ) (d : Driving) (p : Plain) (out : List ℕ) → Fits turns p d → out ≡ drive_then turns rest d p → Drives AnswersWithMemory turns (λ ended q. Says q (ended_text ended) Then out) d p
  drive_then-drove zero d p out fits is = absurd (fits-turns p d fits)
  drive_then-drove (suc turns) d p out fits is =
      (answer, refl, by (drive_then-drove turns) (heard q d answer) (heard-fits turns p d answer fits (answers-answer_of p (event_of p d))) is)
    where
      answer : Answer
      answer = answer_of p (event_of p d)

      q : Plain
      q = next p (event_of p d) answer

      Ends : EndRule
      Ends ended r = Says r (ended_text ended) Then out

      by : ((e : Driving) (r : Plain) (o : List ℕ) → Fits turns r e → o ≡ drive_then turns rest e r → Drives AnswersWithMemory turns (λ ended s. Says s (ended_text ended) Then o) e r)
          → (h : Heard) → FitsHeard turns q h → out ≡ goes_then (drive_then turns rest) q h rest → GoesOn (Drives AnswersWithMemory turns Ends) Ends q h
      by again' (goes_on e) fits' same = again' e q out fits' same
      by again' (ends ended) fits' same = (rest q, same, again q)

  told_then-adds : (p : Plain) (t : Told) → BeginsIfDrives t → Adds AnswersWithMemory p t Then (told_then p t rest)
  told_then-adds p nothing begun = again p
  told_then-adds p (says text) begun = (rest p, refl, again p)
  told_then-adds p (asks e) begun = (answer_of p e, rest (next p e (answer_of p e)), refl, refl, again (next p e (answer_of p e)))
  told_then-adds p (drives d) begun = drive_then-drove most_turns d p (drive_then most_turns rest d p) (begins-fits_turns p d begun) refl

module _ (reading : Reading) where
  output_from-written : (lines : List (List ℕ)) (p : Plain) (out : List ℕ) → Output AnswersWithMemory reading p lines out → out ≡ output_from reading p lines
  output_from-written [] p out written = written
  output_from-written (line ∷ lines) p out written =
      Adds-told_then (λ q rest. Output AnswersWithMemory reading q lines rest) (λ q. output_from reading q lines) (output_from-written lines) p (told reading p line) out written

  pub output_from-is_written : (lines : List (List ℕ)) (p : Plain) → Output AnswersWithMemory reading p lines (output_from reading p lines)
  output_from-is_written [] p = refl
  output_from-is_written (line ∷ lines) p =
      told_then-adds (λ q rest. Output AnswersWithMemory reading q lines rest) (λ q. output_from reading q lines) (output_from-is_written lines) p (told reading p line) (told_line-begins p (reading line))

  pub output_both_ways : (p : Plain) (lines : List (List ℕ)) (out : List ℕ) → Output AnswersWithMemory reading p lines out ↔ (out ≡ output_from reading p lines)
  output_both_ways p lines out =
      (output_from-written lines p out, λ is. subst (Output AnswersWithMemory reading p lines) (sym is) (output_from-is_written lines p))

-- ---- and nothing may have been free

module _ (Then Then' : Rest) (again : (q : Plain) (out : List ℕ) → Then q out → Then' q out) where
  Says-then : (p : Plain) (text out : List ℕ) → Says p text Then out → Says p text Then' out
  Says-then p text out said = (said.0, said.1, again p said.0 said.2)

  Drives-then : (turns : ℕ) (d : Driving) (p : Plain) (out : List ℕ) → Drives AnswersWithMemory turns (λ ended q. Says q (ended_text ended) Then out) d p → Drives Answers turns (λ ended q. Says q (ended_text ended) Then' out) d p
  Drives-then zero d p out drove = absurd drove
  Drives-then (suc turns) d p out drove =
      (drove.0, subst (Answers p (event_of p d)) (sym drove.1) (answers-answer_of p (event_of p d)), by (Drives-then turns) q (heard q d drove.0) drove.2)
    where
      q : Plain
      q = next p (event_of p d) drove.0

      Ends : Rest → EndRule
      Ends T ended r = Says r (ended_text ended) T out

      by : ((e : Driving) (r : Plain) (o : List ℕ) → Drives AnswersWithMemory turns (λ ended s. Says s (ended_text ended) Then o) e r → Drives Answers turns (λ ended s. Says s (ended_text ended) Then' o) e r)
          → (r : Plain) (h : Heard) → GoesOn (Drives AnswersWithMemory turns (Ends Then)) (Ends Then) r h → GoesOn (Drives Answers turns (Ends Then')) (Ends Then') r h
      by again' r (goes_on e) went = again' e r out went
      by again' r (ends ended) said = Says-then r (ended_text ended) out said

  Adds-then : (p : Plain) (t : Told) (out : List ℕ) → Adds AnswersWithMemory p t Then out → Adds Answers p t Then' out
  Adds-then p nothing out adds = again p out adds
  Adds-then p (says text) out adds = Says-then p text out adds
  Adds-then p (asks e) out adds =
      (adds.0, adds.1, subst (Answers p e) (sym adds.2) (answers-answer_of p e), adds.3, again (next p e adds.0) adds.1 adds.4)
  Adds-then p (drives d) out adds = Drives-then most_turns d p out adds

pub output_from_memory : (reading : Reading) (lines : List (List ℕ)) (p : Plain) (out : List ℕ) → Output AnswersWithMemory reading p lines out → Output Answers reading p lines out
output_from_memory reading [] p out written = written
output_from_memory reading (line ∷ lines) p out written =
    Adds-then (λ q rest. Output AnswersWithMemory reading q lines rest) (λ q rest. Output Answers reading q lines rest) (output_from_memory reading lines) p (told reading p line) out written
