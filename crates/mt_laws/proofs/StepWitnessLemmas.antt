-- A step and its undo in a small setting, with other events between.
use Rattle.std.proofs.Common.{◌≡◌, ◌≢◌, true, List, [], ◌∷◌, length, refl, inl}
use Rattle.std.specs.Prelude.{codes}
use Rattle.mt_names.specs.declared.types.TypeSet.{TypeSet}
use Rattle.mt_model.specs.declared.entries.EntryKey.{EntryKey}
use Rattle.mt_model.specs.declared.entries.EntryKey.TheVariants as about
use Rattle.mt_model.specs.declared.entries.Scope.TheVariants as scope
use Rattle.mt_model.specs.declared.entries.Scope.{Scope}
use Rattle.mt_model.specs.declared.rows.Op.TheVariants.{Insert}
use Rattle.mt_plain.specs.Answers.{after}
use Rattle.mt_plain.specs.Events.{Event, write, add_keyspace, add_table, create, advance, forward, begin_switch, step, undo, Answer, done, advanced}
use Rattle.mt_plain.specs.Next.{next}
use Rattle.mt_plain.specs.Plain.{Plain, opening}
use Rattle.mt_plain.specs.Serve.{served_entry}
use Rattle.mt_laws.specs.Steps.{StepUndone}
use Rattle.mt_laws.specs.WayBack.{IsReached, in_part}

abbrev scopes : List Scope
scopes = scope.Primary (codes "b") ∷ scope.Primary (codes "a") ∷ []

abbrev all : TypeSet
all = record { primary = true; replica = true; rdonly = true }

-- a switch whose first step stands done
abbrev events : List Event
events =
    add_keyspace (codes "a") [] ∷ add_keyspace (codes "b") [] ∷ add_table (codes "a") (codes "t") ∷ create (codes "w") (codes "a") (codes "b") (codes "t" ∷ []) ∷ advance (codes "w") forward 0 0 1
    ∷ begin_switch (codes "w") all ∷ step (codes "w") 0 ∷ []

abbrev answers : List Answer
answers = done ∷ done ∷ done ∷ done ∷ advanced 0 0 ∷ done ∷ done ∷ []

abbrev before : Plain
before = after (opening scopes) events answers

reached : IsReached before
reached = record {
  scopes = scopes;
  events = events;
  answers = answers;
  run = ((refl, refl), ((refl, refl), ((refl, refl), ((refl, refl), ((refl, inl refl), ((refl, refl), ((refl, refl), tt)))))));
  is = refl;
}

-- a write to the moved table, which the workflow's own stream feeds, and another workflow of a new table
abbrev between : List Event
between =
    write (codes "a") (codes "t") (Insert 1 (record { items = codes "x" })) ∷ advance (codes "w") forward 0 0 5 ∷ add_table (codes "a") (codes "u") ∷ create (codes "v") (codes "a") (codes "b") (codes "u" ∷ []) ∷ []

abbrev between_answers : List Answer
between_answers = done ∷ advanced 1 0 ∷ done ∷ done ∷ []

abbrev denied_at : Plain
denied_at = next before (step (codes "w") 1) done

abbrev taken_back : Plain
taken_back = next (after denied_at between between_answers) (undo (codes "w") 2) done

abbrev undoes : StepUndone (codes "w") 1 2 before taken_back
undoes = record {
  stepped = (refl, refl);
  events = between;
  answers = between_answers;
  run = ((refl, refl), ((refl, inl refl), ((refl, refl), ((refl, refl), tt))));
  left_alone = (refl, (refl, (refl, (refl, tt))));
  undone = (refl, refl);
  is = refl;
}

abbrev denial : EntryKey
denial = about.Denied (codes "a") (codes "t")

pub a_step_back : (p : Plain) × (q : Plain) × (key : EntryKey) × (u : StepUndone (codes "w") 1 2 p q) × IsReached p × (length u.events ≡ 4) × (in_part p (codes "w") key ≡ true)
    × (served_entry (next p (step (codes "w") 1) done) key ≢ served_entry p key)
a_step_back = (before, taken_back, denial, undoes, reached, refl, refl, λ e. absurd cc)
