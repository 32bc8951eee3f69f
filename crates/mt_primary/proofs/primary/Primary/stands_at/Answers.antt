-- The name at the place is that of its entry.
use Rattle.std.proofs.Common.{Some, ap, ◌∙◌, rules}
use Rattle.mt_names.proofs.SameLemmas.{same_text_decides}
use Rattle.mt_primary.proofs.PlacedLemmas.{key-at}
use Rattle.mt_primary.proofs.primary.Primary.stands_at.Goals as goal

pub returns-in-Some : goal.returns-in-Some
returns-in-Some c same =
    let is = key-at c.self.inside.tables.entries c.args.place (c.in-Some.name.now, c.in-Some.field-0-1.now) (search rules) in
    let at = (same_text_decides c.in-Some.name.now c.args.table.now).0 (search rules) in
    rw (← c.self.view_is) (is ∙ ap Some at)
