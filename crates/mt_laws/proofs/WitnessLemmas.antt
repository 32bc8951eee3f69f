-- A move in a small setting: it is cancelled; it is switched and reversed; its switch is abandoned.
use Rattle.std.proofs.Common.{◌≡◌, ℕ, true, List, [], ◌∷◌, refl, inl}
use Rattle.std.specs.Prelude.{codes, option_map}
use Rattle.mt_names.specs.declared.types.TypeSet.{TypeSet}
use Rattle.mt_model.specs.declared.entries.Scope.TheVariants as scope
use Rattle.mt_model.specs.declared.entries.Scope.{Scope}
use Rattle.mt_model.specs.declared.entries.EntryKey.TheVariants as about
use Rattle.mt_plain.specs.Answers.{Answers, after}
use Rattle.mt_plain.specs.Drive.{way_of}
use Rattle.mt_plain.specs.Events.{Event, add_keyspace, add_table, create, advance, forward, begin_switch, begin_reverse, step, undo, cancel, Answer, done, advanced}
use Rattle.mt_plain.specs.Next.{next}
use Rattle.mt_plain.specs.Plain.{Plain, opening, changed_types}
use Rattle.mt_laws.specs.WayBack.{IsReached, NoWayBetween, SinceCreate, WayFrom, in_part}

abbrev name : List ℕ
name = codes "w"

abbrev scopes : List Scope
scopes = scope.Primary (codes "b") ∷ scope.Primary (codes "a") ∷ []

abbrev first_events : List Event
first_events = add_keyspace (codes "a") [] ∷ add_keyspace (codes "b") [] ∷ add_table (codes "a") (codes "t") ∷ []

abbrev first_answers : List Answer
first_answers = done ∷ done ∷ done ∷ []

abbrev p0 : Plain
p0 = after (opening scopes) first_events first_answers

reached0 : IsReached p0
reached0 = record { scopes = scopes; events = first_events; answers = first_answers; run = ((refl, refl), ((refl, refl), ((refl, refl), tt))); is = refl }

abbrev make : Event
make = create name (codes "a") (codes "b") (codes "t" ∷ [])

abbrev copy : Event
copy = advance name forward 0 0 1

abbrev p1 : Plain
p1 = after (next p0 make done) (copy ∷ []) (advanced 0 0 ∷ [])

since : SinceCreate name (codes "a") (codes "b") (codes "t" ∷ []) p0 p1
since = record { created = (refl, refl); events = copy ∷ []; answers = advanced 0 0 ∷ []; run = ((refl, inl refl), tt); live = (refl, tt); is = refl }

cancels : Answers p1 (cancel name) done
cancels = (refl, refl)

in_it : in_part p1 name (about.Denied (codes "b") (codes "t")) ≡ true
in_it = refl

reached1 : IsReached p1
reached1 = record {
  scopes = scopes;
  events = add_keyspace (codes "a") [] ∷ add_keyspace (codes "b") [] ∷ add_table (codes "a") (codes "t") ∷ make ∷ copy ∷ [];
  answers = done ∷ done ∷ done ∷ done ∷ advanced 0 0 ∷ [];
  run = ((refl, refl), ((refl, refl), ((refl, refl), ((refl, refl), ((refl, inl refl), tt)))));
  is = refl;
}

abbrev all : TypeSet
all = record { primary = true; replica = true; rdonly = true }

-- a switch of all types: steps 0 to 10, and the last
abbrev steps : List Event
steps = step name 0 ∷ step name 1 ∷ step name 2 ∷ step name 3 ∷ step name 4 ∷ step name 5 ∷ step name 6 ∷ step name 7 ∷ step name 8 ∷ step name 9 ∷ step name 10 ∷ []

abbrev dones : List Answer
dones = done ∷ done ∷ done ∷ done ∷ done ∷ done ∷ done ∷ done ∷ done ∷ done ∷ done ∷ []

abbrev p2 : Plain
p2 = next (after (next p1 (begin_switch name all) done) steps dones) (step name 11) done

there : WayFrom name (begin_switch name all) (step name 11) p1 p2
there = record {
  begun = (refl, refl);
  events = steps;
  answers = dones;
  run = ((refl, refl), ((refl, refl), ((refl, refl), ((refl, refl), ((refl, refl), ((refl, refl), ((refl, refl), ((refl, refl), ((refl, refl), ((refl, refl), ((refl, refl), tt)))))))))));
  stays_open = (refl, (refl, (refl, (refl, (refl, (refl, (refl, (refl, (refl, (refl, (refl, refl)))))))))));
  taken = (refl, refl);
  is = refl;
  closed = refl;
}

between : NoWayBetween name p2 p2
between = record { events = []; answers = []; run = tt; live = tt; none = tt; is = refl }

abbrev p3 : Plain
p3 = next (after (next p2 (begin_reverse name all) done) steps dones) (step name 11) done

back_again : WayFrom name (begin_reverse name all) (step name 11) p2 p3
back_again = record {
  begun = (refl, refl);
  events = steps;
  answers = dones;
  run = ((refl, refl), ((refl, refl), ((refl, refl), ((refl, refl), ((refl, refl), ((refl, refl), ((refl, refl), ((refl, refl), ((refl, refl), ((refl, refl), ((refl, refl), tt)))))))))));
  stays_open = (refl, (refl, (refl, (refl, (refl, (refl, (refl, (refl, (refl, (refl, (refl, refl)))))))))));
  taken = (refl, refl);
  is = refl;
  closed = refl;
}

same : option_map changed_types (way_of (next p1 (begin_switch name all) done) name) ≡ option_map changed_types (way_of (next p2 (begin_reverse name all) done) name)
same = refl

-- a switch that is given up behind two steps
abbrev two : List Event
two = step name 0 ∷ step name 1 ∷ undo name 2 ∷ []

abbrev p4 : Plain
p4 = next (after (next p1 (begin_switch name all) done) two (done ∷ done ∷ done ∷ [])) (undo name 1) done

abandons : WayFrom name (begin_switch name all) (undo name 1) p1 p4
abandons = record {
  begun = (refl, refl);
  events = two;
  answers = done ∷ done ∷ done ∷ [];
  run = ((refl, refl), ((refl, refl), ((refl, refl), tt)));
  stays_open = (refl, (refl, (refl, refl)));
  taken = (refl, refl);
  is = refl;
  closed = refl;
}

pub a_cancel : (p : Plain) × (q : Plain) × IsReached p × SinceCreate (codes "w") (codes "a") (codes "b") (codes "t" ∷ []) p q × Answers q (cancel (codes "w")) done × (in_part q (codes "w") (about.Denied (codes "b") (codes "t")) ≡ true)
a_cancel = (p0, p1, reached0, since, cancels, in_it)

pub an_undo : (p : Plain) × (q : Plain) × (types : TypeSet) × IsReached p × WayFrom (codes "w") (begin_switch (codes "w") types) (undo (codes "w") 1) p q
an_undo = (p1, p4, all, reached1, abandons)

pub a_reversal : (p : Plain) × (q : Plain) × (r : Plain) × (s : Plain) × (types : TypeSet) × IsReached p
    × WayFrom (codes "w") (begin_switch (codes "w") types) (step (codes "w") 11) p q × NoWayBetween (codes "w") q r
    × WayFrom (codes "w") (begin_reverse (codes "w") types) (step (codes "w") 11) r s
    × (option_map changed_types (way_of (next p (begin_switch (codes "w") types) done) (codes "w")) ≡ option_map changed_types (way_of (next r (begin_reverse (codes "w") types) done) (codes "w")))
a_reversal = (p1, p2, p2, p3, all, reached1, there, between, back_again, same)
