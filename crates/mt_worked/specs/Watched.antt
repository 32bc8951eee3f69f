-- Two histories with a watcher of the target's primary that refuses a change: from events to answers.
use Rattle.std.specs.Prelude.{◌++◌, ◌∷◌, [], List, None, Some, replicate, true}
use Rattle.mt_names.specs.Shards.{whole}
use Rattle.mt_names.specs.Types.{all_types}
use Rattle.mt_plain.specs.Answers.{Run}
use Rattle.mt_plain.specs.Events.{Answer, Event, add_keyspace, add_table, advance, advanced, begin_switch, done}
use Rattle.mt_plain.specs.Events.{forward, frozen, past_journal, refused, running, show, shown, undo, watcher_refused}
use Rattle.mt_worked.specs.States.{commerce, corder, customer, made, mv, steps_from, watched}

-- a switch whose last refresh the watcher refuses; past the journal no undo is taken
abbrev pub switch_events : List Event
switch_events =
    add_keyspace commerce [] ∷ add_keyspace customer [] ∷ add_table commerce corder ∷ made mv
    ∷ advance mv forward 0 0 100 ∷ begin_switch mv all_types ∷ steps_from 0 9 ++ undo mv 8 ∷ []

abbrev pub switch_answers : List Answer
switch_answers =
    replicate 4 done ++ advanced 0 0 ∷ replicate 9 done ++ refused (watcher_refused 2) ∷ refused past_journal ∷ []

abbrev pub watcher_refuses_to_allow_the_target : Type 0
watcher_refuses_to_allow_the_target = Run watched switch_events switch_answers

-- the way that it leaves open is finished by steps, once the watcher answers
abbrev pub stopped_switch_is_finished_by_steps : Type 0
stopped_switch_is_finished_by_steps =
    Run watched (switch_events ++ steps_from 8 4 ++ show mv ∷ [])
    (switch_answers ++ replicate 4 done ++ shown (record {
      workflow = mv;
      source = commerce;
      target = customer;
      tables = corder ∷ [];
      switched = all_types;
      way = None;
      lanes =
          record {
            range = whole;
            forward = record { state = frozen; position = 0 };
            copied = true;
            back = Some (record { state = running; position = 0 });
          } ∷ [];
    }) ∷ [])
