-- No keyspace is twice at the table that is set.
use Rattle.std.proofs.Common.{ap, subst, sym, ◌∙◌, OnOk, ◌≡◌}
use Rattle.mt_names.specs.Names.{same_text}
use Rattle.indexmap.specs.IndexMap.{insert_entry}
use Rattle.mt_routes.specs.Places.{holders_of, with_holder}
use Rattle.mt_routes.proofs.HolderLemmas.{written-distinct}
use Rattle.mt_routes.proofs.places.Places.put_table.Goals as goal

pub invariant_of-self : goal.invariant_of-self
invariant_of-self c =
    let old = c.self.inside.tables.entries in
    let holders = c.in_ok-holders.holders in
    let keyspace = c.args.keyspace.now in
    let table = c.args.table.now in
    written-distinct c.set.result old c.set.new.map.entries keyspace table c.args.is_there holders
    (c.in_ok-holders.ensures ∙ ap (λ p. with_holder (holders_of p table) keyspace c.args.is_there) (sym c.self.view_is))
    (subst (λ t. OnOk c.set.result (c.set.new.map.entries ≡ insert_entry same_text old t holders)) c.copied.ensures c.set.ensures.written)
    c.set.ensures.refused c.self.invariant
