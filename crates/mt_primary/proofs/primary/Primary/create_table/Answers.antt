-- A new table is added at the end.
use Rattle.std.proofs.Common.{◌≡◌, None, ◌++◌, ◌∷◌, [], refl, ap, ◌∙◌, rules}
use Rattle.indexmap.proofs.CallerLemmas.{insert_entry-new}
use Rattle.mt_names.proofs.EntryLemmas.{none_from}
use Rattle.mt_names.specs.Names.{same_text}
use Rattle.mt_store.specs.Log.{log_end}
use Rattle.mt_primary.specs.Primary.{PrimaryState, new_table, table_at}
use Rattle.mt_primary.proofs.PrimaryLemmas.{IsPrimary-new_table}
use Rattle.mt_primary.proofs.primary.Primary.create_table.Goals as goal

abbrev before : goal.Joined-insert-2 → PrimaryState
before c = record { tables = c.self.inside.tables.entries; log = c.self.inside.log.log }

absent : (c : goal.Joined-insert-2) → table_at (before c) c.args.table.now ≡ None
absent c = none_from (table_at (before c) c.args.table.now) (rw (← c.self.view_is) at c.requires.absent)

made : (c : goal.Joined-insert-2) → c.new-2.result ≡ new_table (log_end (before c).log)
made c =
    let position : c.position-made.result ≡ log_end (before c).log = search rules in
    c.new-2.ensures ∙ ap new_table position

added : (c : goal.Joined-insert-2) → c.insert.new.self.entries ≡ (before c).tables ++ (c.args.table.now, new_table (log_end (before c).log)) ∷ []
added c =
    c.in-Ok-insert.ensures.entries
    ∙ rw (c.in-Ok.ensures, c.copied.ensures, made c) (insert_entry-new same_text c.self.inside.tables c.args.table.now (new_table (log_end (before c).log)) (absent c))

pub invariant_of-self : goal.invariant_of-self
invariant_of-self c = rw (added c) (IsPrimary-new_table (before c) c.args.table.now (absent c) c.self.invariant)

pub returns-in-Ok-insert : goal.returns-in-Ok-insert
returns-in-Ok-insert c = rw (← c.self.view_is) (rw (added c) refl)
