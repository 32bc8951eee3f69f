-- What the lines of a small script did, computed.
use Rattle.std.proofs.Common.{false, true, [], ◌∷◌, List, ℕ, Ok, refl, inl}
use Rattle.std.specs.Prelude.{codes}
use Rattle.std.specs.Str.Lines.{lines}
use Rattle.mt_names.specs.declared.types.TypeSet.{TypeSet}
use Rattle.mt_plain.specs.Drive as driven
use Rattle.mt_plain.specs.Events.{Event, add_keyspace, add_table, create, advance, forward, begin_switch, step, Answer, done, advanced}
use Rattle.mt_plain.specs.Output.{watchers_of}
use Rattle.mt_plain.specs.Plain.{Plain, opening}
use Rattle.mt_plain.specs.Script.{read_line}
use Rattle.mt_laws.specs.Scripts.{AreLineRuns, IsScriptRun, LineRun}

abbrev replica : TypeSet
replica = record { primary = false; replica = true; rdonly = false }

abbrev p0 : Plain
p0 = opening (watchers_of (codes "a" ∷ codes "b" ∷ []))

-- a line that asks for one event
abbrev one : Event → Answer → List ℕ → LineRun
one event answer text = record { events = event ∷ []; answers = answer ∷ []; text = text }

abbrev runs : List LineRun
runs =
    record { events = []; answers = []; text = [] }
    ∷ one (add_keyspace (codes "a") []) done (codes "ok\n")
    ∷ one (add_keyspace (codes "b") []) done (codes "ok\n")
    ∷ one (add_table (codes "a") (codes "t")) done (codes "ok\n")
    ∷ one (create (codes "w") (codes "a") (codes "b") (codes "t" ∷ [])) done (codes "ok\n")
    ∷ one (advance (codes "w") forward 0 0 100) (advanced 0 0) (codes "events 0 rows 0\n")
    ∷ record { events = begin_switch (codes "w") replica ∷ step (codes "w") 0 ∷ []; answers = done ∷ done ∷ []; text = codes "ok\n" }
    ∷ record { events = []; answers = []; text = codes "refused X1 BadLine\n" }
    ∷ []

each : AreLineRuns read_line p0 (lines (codes "# a move\nkeyspace a\nkeyspace b\ntable a t\ncreate w a b t\nadvance w forward 0 100\nswitch w replica\nswitch w\n")) runs
each = (
  (refl, refl, refl),
  (
    (done, (refl, refl), refl, refl, refl),
    (
      (done, (refl, refl), refl, refl, refl),
      (
        (done, (refl, refl), refl, refl, refl),
        (
          (done, (refl, refl), refl, refl, refl),
          (
            (advanced 0 0, (refl, inl refl), refl, refl, refl),
            (
              (Ok driven.done, (refl, (refl, refl), (refl, (refl, refl), (refl, refl, refl))), refl),
              ((refl, refl, refl), tt),
            ),
          ),
        ),
      ),
    ),
  ),
)

pub small_script : IsScriptRun read_line p0 (lines (codes "# a move\nkeyspace a\nkeyspace b\ntable a t\ncreate w a b t\nadvance w forward 0 100\nswitch w replica\nswitch w\n"))
    (add_keyspace (codes "a") [] ∷ add_keyspace (codes "b") [] ∷ add_table (codes "a") (codes "t") ∷ create (codes "w") (codes "a") (codes "b") (codes "t" ∷ []) ∷ advance (codes "w") forward 0 0 100 ∷ begin_switch (codes "w") replica ∷ step (codes "w") 0 ∷ [])
    (done ∷ done ∷ done ∷ done ∷ advanced 0 0 ∷ done ∷ done ∷ [])
    (codes "ok\nok\nok\nok\nevents 0 rows 0\nok\nrefused X1 BadLine\n")
small_script = record { runs = runs; each = each; events_are = refl; answers_are = refl; out_is = refl }
