-- Views of a topology, as publications have them.
use Rattle.std.specs.Prelude.{◌++◌, ◌∷◌, [], List, None, Option, Some, codes, true, ℕ}
use Rattle.mt_names.specs.declared.types.TabletType.{TabletType}
use Rattle.mt_names.specs.declared.types.TabletType.TheVariants.{Rdonly, Replica}
use Rattle.mt_model.specs.declared.entries.Entry.{Entry}
use Rattle.mt_plain.specs.Answers.{History, Publication}
use Rattle.mt_plain.specs.Events.{add_keyspace, add_table, done}
use Rattle.mt_plain.specs.Plain.{in_keyspace}
use Rattle.mt_worked.specs.Histories.{line}
use Rattle.mt_worked.specs.States.{commerce, corder, customer, made, mv, other, plain}
use Rattle.mt_model.specs.declared.entries.Entry.TheVariants as entry

-- a front with what it tells
abbrev pub front : ℕ → List Entry → Publication
front n view = record { front = n; view = view }

abbrev pub table_entry : Entry
table_entry = entry.Present commerce corder true

abbrev pub c_entry : Entry
c_entry = entry.Rule (plain (codes "c")) (Some (in_keyspace commerce corder))

-- a history in which a workflow is made
abbrev pub moving : History
moving =
    line 1 (add_keyspace commerce []) done ∷ line 2 (add_keyspace customer []) done
    ∷ line 1 (add_table commerce corder) done ∷ line 2 (made mv) done ∷ []

-- a rule of the table's name, alone or at a keyspace, to the table at a keyspace
abbrev pub leads : Option (List ℕ) → Option TabletType → (to : List ℕ) → Entry
leads keyspace tablet_type to =
    entry.Rule (record { keyspace = keyspace; table = corder; tablet_type = tablet_type })
    (Some (in_keyspace to corder))

-- what is served of the table behind Create: the source's own name has no rule for all types
abbrev pub rules_at_create : List Entry
rules_at_create =
    leads None None commerce ∷ leads None (Some Replica) commerce ∷ leads None (Some Rdonly) commerce
    ∷ leads (Some commerce) (Some Replica) commerce ∷ leads (Some commerce) (Some Rdonly) commerce
    ∷ leads (Some customer) None commerce ∷ leads (Some customer) (Some Replica) commerce
    ∷ leads (Some customer) (Some Rdonly) commerce ∷ []

abbrev pub target_entry : Entry
target_entry = entry.Present customer corder true

abbrev pub made_view : List Entry
made_view = table_entry ∷ rules_at_create ++ target_entry ∷ []

-- the same, the tables first, and one of the rules before them
abbrev pub made_view_turned : List Entry
made_view_turned =
    leads None None commerce ∷ target_entry ∷ table_entry ∷ leads None (Some Rdonly) commerce
    ∷ leads None (Some Replica) commerce
    ∷ leads (Some customer) (Some Rdonly) commerce ∷ leads (Some customer) (Some Replica) commerce
    ∷ leads (Some customer) None commerce
    ∷ leads (Some commerce) (Some Rdonly) commerce ∷ leads (Some commerce) (Some Replica) commerce ∷ []

-- once all is switched: the target's own name needs no rule for all types
abbrev pub switched_view : List Entry
switched_view =
    leads None None customer ∷ leads None (Some Replica) customer ∷ leads None (Some Rdonly) customer
    ∷ leads (Some commerce) None customer ∷ leads (Some commerce) (Some Replica) customer
    ∷ leads (Some commerce) (Some Rdonly) customer
    ∷ leads (Some customer) (Some Replica) customer ∷ leads (Some customer) (Some Rdonly) customer
    ∷ table_entry ∷ entry.Present commerce other true ∷ target_entry ∷ []
