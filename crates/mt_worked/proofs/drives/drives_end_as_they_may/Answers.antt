-- Whole drives: where answers are free, the answer of each turn; where none is, the end that is computed.
use Rattle.std.proofs.Common.{◌≡◌, refl, subst, None, Some, Ok, Err}
use Rattle.mt_names.specs.Types.{all_types, no_types}
use Rattle.mt_plain.specs.Answers.{Answers, Refuses}
use Rattle.mt_plain.specs.Drive.{Drives, GoesOn, begins, heard}
use Rattle.mt_plain.specs.Drive as driven
use Rattle.mt_plain.specs.Events.{begin_switch, Answer, done, row, advanced, shown, refused, memory, watcher_refused}
use Rattle.mt_plain.specs.Events.{copying, under_way, nothing_to_reverse}
use Rattle.mt_plain.specs.Next.{next}
use Rattle.mt_worked.specs.Drives.{EndsAs, EndsWith, reverses, switches}
use Rattle.mt_worked.specs.States.{copied, live, mv, switched}
use Rattle.mt_worked.proofs.DriveLemmas.{drive_from_end, end_from_drive}
use Rattle.mt_worked.proofs.drives.drives_end_as_they_may.Goals as goal

pub returns-clause-a_switch_ends_done : goal.returns-clause-a_switch_ends_done
returns-clause-a_switch_ends_done c = (
  done,
  (refl, refl),
  (
    done,
    (refl, refl),
    (
      done,
      (refl, refl),
      (
        done,
        (refl, refl),
        (
          done,
          (refl, refl),
          (
            done,
            (refl, refl),
            (
              done,
              (refl, refl),
              (
                done,
                (refl, refl),
                (
                  done,
                  (refl, refl),
                  (
                    done,
                    (refl, refl),
                    (done, (refl, refl), (done, (refl, refl), (done, (refl, refl), (refl, refl, refl)))),
                  ),
                ),
              ),
            ),
          ),
        ),
      ),
    ),
  ),
)

pub returns-clause-a_switch_with_memory_ends_done_alone : goal.returns-clause-a_switch_with_memory_ends_done_alone
returns-clause-a_switch_with_memory_ends_done_alone c = λ drives. end_from_drive 13 (λ ended p. ¬ (ended ≡ Ok driven.done)) switches copied drives refl

pub returns-clause-it_takes_as_many_turns_as_events : goal.returns-clause-it_takes_as_many_turns_as_events
returns-clause-it_takes_as_many_turns_as_events c = λ drives. end_from_drive 12 (EndsAs (Ok driven.done)) switches copied drives

pub returns-clause-a_watchers_refusal_before_the_journal_abandons_it : goal.returns-clause-a_watchers_refusal_before_the_journal_abandons_it
returns-clause-a_watchers_refusal_before_the_journal_abandons_it c = (
  done,
  (refl, refl),
  (
    done,
    (refl, refl),
    (
      done,
      (refl, refl),
      (
        refused (watcher_refused 1),
        (refl, refl),
        (done, (refl, refl), (done, (refl, refl), (refl, refl, refl))),
      ),
    ),
  ),
)

pub returns-clause-a_watchers_refusal_behind_it_stops_it : goal.returns-clause-a_watchers_refusal_behind_it_stops_it
returns-clause-a_watchers_refusal_behind_it_stops_it c = (
  done,
  (refl, refl),
  (
    done,
    (refl, refl),
    (
      done,
      (refl, refl),
      (
        done,
        (refl, refl),
        (
          done,
          (refl, refl),
          (
            done,
            (refl, refl),
            (
              done,
              (refl, refl),
              (
                done,
                (refl, refl),
                (
                  done,
                  (refl, refl),
                  (refused (watcher_refused 2), (refl, refl), (refl, refl, refl)),
                ),
              ),
            ),
          ),
        ),
      ),
    ),
  ),
)

pub returns-clause-a_begin_that_is_refused_has_that_refusal_alone : goal.returns-clause-a_begin_that_is_refused_has_that_refusal_alone
returns-clause-a_begin_that_is_refused_has_that_refusal_alone c = λ drives. by drives.0 drives.1 drives.2
  where
    by : (answer : Answer) → Answers live (begin_switch mv all_types) answer
        → GoesOn (Drives Answers 0 (EndsAs (Err under_way))) (EndsAs (Err under_way)) (next live (begin_switch mv all_types) answer)
        (heard (next live (begin_switch mv all_types) answer) switches answer) → ⊥
    by done answers goes = goes
    by (row r) answers goes = goes
    by (advanced events rows) answers goes = goes
    by (shown s) answers goes = goes
    by (refused refusal) answers goes =
        let is : refusal ≡ under_way = cc in
        let wrong : Some copying ≡ Some under_way = subst (Refuses live (begin_switch mv all_types)) is answers in absurd cc

pub returns-clause-no_memory_for_the_begin_refuses_it : goal.returns-clause-no_memory_for_the_begin_refuses_it
returns-clause-no_memory_for_the_begin_refuses_it c = (refused memory, (refl, refl), (refl, refl, refl))

pub returns-clause-a_begin_that_is_refused_changes_nothing : goal.returns-clause-a_begin_that_is_refused_changes_nothing
returns-clause-a_begin_that_is_refused_changes_nothing c = (refused copying, refl, (refl, refl, refl))

pub returns-clause-a_reversal_of_nothing_is_refused : goal.returns-clause-a_reversal_of_nothing_is_refused
returns-clause-a_reversal_of_nothing_is_refused c = drive_from_end 1 (EndsAs (Err nothing_to_reverse)) reverses copied refl

pub returns-clause-a_reversal_ends_done : goal.returns-clause-a_reversal_ends_done
returns-clause-a_reversal_ends_done c = drive_from_end 13 (EndsWith (Ok driven.done) None no_types) reverses switched (refl, refl, refl)
