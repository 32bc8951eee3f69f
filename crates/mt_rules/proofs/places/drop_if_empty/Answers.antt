-- A name that has no place says nothing.
use Rattle.mt_rules.proofs.ChangeLemmas.{let_name_go}
use Rattle.mt_rules.proofs.places.drop_if_empty.Goals as goal

pub returns-then-is_empty_at-clause-places : goal.returns-then-is_empty_at-clause-places
returns-then-is_empty_at-clause-places c =
    let_name_go c.args.names.now.entries c.swap_remove.new.self.entries c.args.name.now c.swap_remove.ensures.updates.0 (c.is_empty_at.ensures.0 c.if-is_empty_at.true)
