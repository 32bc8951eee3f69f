-- Each line that writes writes one line feed.
use Rattle.std.proofs.Common.{◌≡◌, ℕ, ◌+◌, Bool, true, false, not, cond, List, [], ◌∷◌, Option, refl, sym, ap, ◌∙◌, subst, arith}
use Rattle.std.proofs.lemmas.List.Sums.{sum_by-cons}
use Rattle.mt_plain.specs.Answers.{Answers}
use Rattle.mt_plain.specs.Drive.{Driving, EndRule, begins, steps, feeds, gives_up, event_of, most_turns}
use Rattle.mt_plain.specs.Next.{next}
use Rattle.mt_plain.specs.Output.{Adds, Output, Rest, Says, Told, nothing, says, asks, drives, answer_text, ended_text, told}
use Rattle.mt_plain.specs.Plain.{Plain}
use Rattle.mt_plain.specs.Script.{Command, is_silent, read_line_by}
use Rattle.mt_laws.specs.Lines.{KnowsSome, line_feeds, writing_lines}
use Rattle.mt_laws.proofs.CleanLemmas.{CleanEvent, IsClean, next-clean}
use Rattle.mt_laws.proofs.DocumentLemmas.{answers-no_feed}
use Rattle.mt_laws.proofs.DriveLemmas.{Ended, drive_ended, ended_text-no_feed}
use Rattle.mt_laws.proofs.LineLemmas.{Tells, told_line-tells}
use Rattle.mt_laws.proofs.TextLemmas.{line_feeds-line}
use Rattle.mt_laws.proofs.WordLemmas.{read_line-speaks}

event_of-clean : (p : Plain) (d : Driving) → CleanEvent (event_of p d)
event_of-clean p (begins workflow types true) = tt
event_of-clean p (begins workflow types false) = tt
event_of-clean p (steps workflow tries) = tt
event_of-clean p (feeds workflow shard tries) = tt
event_of-clean p (gives_up workflow refusal) = tt

module _ (Then : Rest) (n : ℕ) (again : (q : Plain) (rest : List ℕ) → IsClean q → Then q rest → line_feeds rest ≡ n) where
  abbrev TellsEnd : List ℕ → EndRule
  TellsEnd out ended q = Says q (ended_text ended) Then out

  line_feeds-ends : (out : List ℕ) → Ended IsClean (TellsEnd out) → line_feeds out ≡ 1 + n
  line_feeds-ends out end =
      ap line_feeds end.holds.1 ∙ line_feeds-line (ended_text end.ended) end.holds.0 (ended_text-no_feed end.ended)
      ∙ ap (λ k. 1 + k) (again end.left end.holds.0 end.keeps end.holds.2)

  -- what is told is one line, and then the rest
  line_feeds-adds : (p : Plain) (t : Told) (out : List ℕ) → IsClean p → Tells t → Adds Answers p t Then out → line_feeds out ≡ 1 + n
  line_feeds-adds p nothing out clean tells adds = absurd tells
  line_feeds-adds p (says text) out clean tells adds =
      ap line_feeds adds.1 ∙ line_feeds-line text adds.0 tells ∙ ap (λ k. 1 + k) (again p adds.0 clean adds.2)
  line_feeds-adds p (asks e) out clean tells adds =
      let answer = adds.0 in
      ap line_feeds adds.3 ∙ line_feeds-line (answer_text answer) adds.1 (answers-no_feed p e answer clean adds.2)
      ∙ ap (λ k. 1 + k) (again (next p e answer) adds.1 (next-clean p e answer clean tells) adds.4)
  line_feeds-adds p (drives d) out clean tells adds =
      line_feeds-ends out (drive_ended IsClean (λ q e answer clean. next-clean q (event_of q e) answer clean (event_of-clean q e)) (TellsEnd out) most_turns p d clean adds)

module _ (read : List (List ℕ) → Option Command) (knows : KnowsSome read) where
  pub output-line_feeds : (lines : List (List ℕ)) (p : Plain) (out : List ℕ) → IsClean p → Output Answers (read_line_by read) p lines out → line_feeds out ≡ writing_lines lines
  output-line_feeds [] p out clean written = ap line_feeds written
  output-line_feeds (line ∷ lines) p out clean written = by (output-line_feeds lines) (is_silent line) refl
    where
      count : writing_lines (line ∷ lines) ≡ cond (not (is_silent line)) 1 0 + writing_lines lines
      count = sum_by-cons (λ l. cond (not (is_silent l)) 1 0) line lines

      by : ((q : Plain) (rest : List ℕ) → IsClean q → Output Answers (read_line_by read) q lines rest → line_feeds rest ≡ writing_lines lines) → (t : Bool) → is_silent line ≡ t → line_feeds out ≡ writing_lines (line ∷ lines)
      by again true t =
          let is : told (read_line_by read) p line ≡ nothing = rw t refl in
          let left : Output Answers (read_line_by read) p lines out = subst (λ k. Adds Answers p k (λ q rest. Output Answers (read_line_by read) q lines rest) out) is written in
          let none : cond (not (is_silent line)) 1 0 + writing_lines lines ≡ 0 + writing_lines lines = ap (λ b. cond (not b) 1 0 + writing_lines lines) t in
          let same : 0 + writing_lines lines ≡ writing_lines lines = omega arith in
          again p out clean left ∙ sym (count ∙ none ∙ same)
      by again false t =
          let tells : Tells (told (read_line_by read) p line) = told_line-tells p (read_line_by read line) clean (read_line-speaks read knows line t) in
          let one : line_feeds out ≡ 1 + writing_lines lines = line_feeds-adds (λ q rest. Output Answers (read_line_by read) q lines rest) (writing_lines lines) again p (told (read_line_by read) p line) out clean tells written in
          one ∙ sym (count ∙ ap (λ b. cond (not b) 1 0 + writing_lines lines) t)
