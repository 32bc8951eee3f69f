-- A change that concerns several, and histories of two clients.
use Rattle.std.specs.Prelude.{◌∷◌, [], List, None, Some, codes, false, true, ℕ}
use Rattle.mt_names.specs.declared.types.TabletType.TheVariants.{Primary}
use Rattle.mt_model.specs.declared.entries.Entry.{Entry}
use Rattle.mt_plain.specs.Answers.{History, HistoryLine}
use Rattle.mt_plain.specs.Events.{Answer, Event, add_keyspace, add_table, done, edit_rule, exists, no_table, read}
use Rattle.mt_plain.specs.Events.{refused, row}
use Rattle.mt_plain.specs.Output.{watchers_of}
use Rattle.mt_plain.specs.Plain.{Plain, in_keyspace, opening}
use Rattle.mt_worked.specs.States.{commerce, corder, customer, other, plain}
use Rattle.mt_model.specs.declared.entries.Entry.TheVariants as entry

-- a change of each kind of entry at either keyspace
abbrev pub rule_entry : Entry
rule_entry = entry.Rule (plain corder) (Some (in_keyspace commerce corder))

abbrev pub change : List Entry
change =
    entry.Denied customer corder true ∷ rule_entry ∷ entry.Denied commerce corder false
    ∷ entry.Present customer corder true ∷ entry.Denied customer other false ∷ []

-- two clients: one adds a keyspace and a table, the other looks for a row and adds the keyspace again
abbrev pub line : ℕ → Event → Answer → HistoryLine
line client event answer = record { client = client; event = event; answer = answer }

abbrev pub history : History
history =
    line 1 (add_keyspace commerce []) done ∷ line 2 (read commerce corder 1 Primary) (refused no_table)
    ∷ line 1 (add_table commerce corder) done ∷ line 2 (add_keyspace commerce []) (refused exists)
    ∷ line 2 (edit_rule (plain (codes "c")) (Some (in_keyspace commerce corder))) done ∷ []

abbrev pub invented : History
invented = line 1 (add_keyspace commerce []) done ∷ line 2 (read commerce corder 1 Primary) (row None) ∷ []

abbrev pub start : Plain
start = opening (watchers_of [])
