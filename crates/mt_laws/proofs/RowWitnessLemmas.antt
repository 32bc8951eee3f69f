-- A move of a table with rows in a small setting: a switch is refused as not level, goes to its end once the rest is fed, and is completed.
use Rattle.std.proofs.Common.{◌≡◌, ℕ, true, false, List, [], ◌∷◌, ◌++◌, None, Some, refl, inl, map}
use Rattle.std.specs.Prelude.{codes}
use Rattle.mt_names.specs.declared.types.TabletType.TheVariants.{Primary}
use Rattle.mt_names.specs.declared.types.TypeSet.{TypeSet}
use Rattle.mt_names.specs.Types.{no_types}
use Rattle.mt_model.specs.declared.entries.Scope.TheVariants as scope
use Rattle.mt_model.specs.declared.entries.Scope.{Scope}
use Rattle.mt_model.specs.declared.rows.Op.TheVariants.{Insert}
use Rattle.mt_model.specs.Rows.{RowValue}
use Rattle.mt_plain.specs.Answers.{Answers, Run, after}
use Rattle.mt_plain.specs.Events.{Event, write, read, add_keyspace, add_table, create, advance, forward, begin_switch, step, complete, Answer, done, row, advanced, refused, not_level, Way}
use Rattle.mt_plain.specs.Next.{next}
use Rattle.mt_plain.specs.Refuse.{is_behind}
use Rattle.mt_plain.specs.Plain.{Live, Plain, ended, live_at, next_step, opening, write_journal}
use Rattle.mt_laws.specs.Copies.{tests_level}
use Rattle.mt_laws.specs.WayBack.{IsReached}

abbrev name : List ℕ
name = codes "w"

abbrev scopes : List Scope
scopes = scope.Primary (codes "b") ∷ scope.Primary (codes "a") ∷ []

abbrev first : RowValue
first = record { items = codes "x" }

abbrev second : RowValue
second = record { items = codes "y" }

abbrev all : TypeSet
all = record { primary = true; replica = true; rdonly = true }

-- one row before Create, which is copied; one while the workflow is live, which is not fed when a switch begins
abbrev events : List Event
events =
    add_keyspace (codes "a") [] ∷ add_keyspace (codes "b") [] ∷ add_table (codes "a") (codes "t") ∷ write (codes "a") (codes "t") (Insert 1 first) ∷ create name (codes "a") (codes "b") (codes "t" ∷ [])
    ∷ advance name forward 0 1 5 ∷ write (codes "a") (codes "t") (Insert 2 second) ∷ begin_switch name all ∷ []

abbrev answers : List Answer
answers = done ∷ done ∷ done ∷ done ∷ done ∷ advanced 0 1 ∷ done ∷ done ∷ []

run : Run (opening scopes) events answers
run = ((refl, refl), ((refl, refl), ((refl, refl), ((refl, refl), ((refl, refl), ((refl, inl refl), ((refl, refl), ((refl, refl), tt))))))))

abbrev p1 : Plain
p1 = after (opening scopes) events answers

reached1 : IsReached p1
reached1 = record { scopes = scopes; events = events; answers = answers; run = run; is = refl }

abbrev way1 : Way
way1 = record { back = false; shards = 1; before = no_types; after = all; done = 0; undoing = false }

abbrev live1 : Live
live1 = record { name = name; source = codes "a"; target = codes "b"; tables = codes "t" ∷ []; cuts = []; switched = no_types; way = Some way1; lanes = record { shard = 0; fed = 1; copied = ended; forward_at = 1; back_at = 0; fresh_at = 0 } ∷ [] }

pub a_refusal : (p : Plain) × (w : Live) × (way : Way) × IsReached p × (live_at p (codes "w") ≡ Some w) × (w.way ≡ Some way) × (way.undoing ≡ false) × (tests_level w way ≡ true)
    × (is_behind p w ≡ true) × Answers p (step (codes "w") way.done) (refused not_level)
a_refusal = (p1, live1, way1, reached1, refl, refl, refl, refl, refl, refl)

-- the rest is fed, and the steps before the journal are taken
abbrev events_on : List Event
events_on = advance name forward 0 1 5 ∷ step name 0 ∷ step name 1 ∷ step name 2 ∷ step name 3 ∷ step name 4 ∷ step name 5 ∷ []

abbrev answers_on : List Answer
answers_on = advanced 1 0 ∷ done ∷ done ∷ done ∷ done ∷ done ∷ done ∷ []

abbrev p2 : Plain
p2 = after (opening scopes) (events ++ events_on) (answers ++ answers_on)

reached2 : IsReached p2
reached2 = record {
  scopes = scopes;
  events = events ++ events_on;
  answers = answers ++ answers_on;
  run = ((refl, refl), ((refl, refl), ((refl, refl), ((refl, refl), ((refl, refl), ((refl, inl refl), ((refl, refl), ((refl, refl), ((refl, inl refl), ((refl, refl), ((refl, refl), ((refl, refl), ((refl, refl), ((refl, refl), ((refl, refl), tt)))))))))))))));
  is = refl;
}

abbrev way2 : Way
way2 = record way1 { done = 6 }

abbrev live2 : Live
live2 = record live1 { way = Some way2; lanes = record { shard = 0; fed = 2; copied = ended; forward_at = 2; back_at = 0; fresh_at = 2 } ∷ [] }

pub a_journal : (p : Plain) × (w : Live) × (way : Way) × IsReached p × (live_at p (codes "w") ≡ Some w) × (w.way ≡ Some way) × (next_step way ≡ write_journal) × (map (λ lane. lane.fed) w.lanes ≡ 2 ∷ [])
    × Answers p (step (codes "w") way.done) done
a_journal = (p2, live2, way2, reached2, refl, refl, refl, refl, (refl, refl))

-- the journal and the steps behind it, and then Complete
abbrev events_last : List Event
events_last = step name 6 ∷ step name 7 ∷ step name 8 ∷ step name 9 ∷ step name 10 ∷ step name 11 ∷ []

abbrev answers_last : List Answer
answers_last = done ∷ done ∷ done ∷ done ∷ done ∷ done ∷ []

abbrev p3 : Plain
p3 = after (opening scopes) (events ++ events_on ++ events_last) (answers ++ answers_on ++ answers_last)

reached3 : IsReached p3
reached3 = record {
  scopes = scopes;
  events = events ++ events_on ++ events_last;
  answers = answers ++ answers_on ++ answers_last;
  run = ((refl, refl), ((refl, refl), ((refl, refl), ((refl, refl), ((refl, refl), ((refl, inl refl), ((refl, refl), ((refl, refl), ((refl, inl refl), ((refl, refl), ((refl, refl), ((refl, refl), ((refl, refl), ((refl, refl), ((refl, refl), ((refl, refl), ((refl, refl), ((refl, refl), ((refl, refl), ((refl, refl), ((refl, refl), tt)))))))))))))))))))));
  is = refl;
}

abbrev live3 : Live
live3 = record live1 { switched = all; way = None; lanes = record { shard = 0; fed = 2; copied = ended; forward_at = 2; back_at = 2; fresh_at = 2 } ∷ [] }

pub a_completion : (p : Plain) × (w : Live) × IsReached p × (live_at p (codes "w") ≡ Some w) × Answers p (complete (codes "w")) done
    × Answers (next p (complete (codes "w")) done) (read w.target (codes "t") 1 Primary) (row (Some (record { items = codes "x" })))
    × Answers (next p (complete (codes "w")) done) (read w.target (codes "t") 2 Primary) (row (Some (record { items = codes "y" })))
a_completion = (p3, live3, reached3, refl, (refl, refl), (refl, refl), (refl, refl))
