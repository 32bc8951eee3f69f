-- A change of the table at the place is a write.
use Rattle.std.proofs.Common.{sym, subst, ◌∙◌}
use Rattle.mt_primary.specs.Primary.{IsPrimary, PrimaryState}
use Rattle.mt_primary.proofs.PlacedLemmas.{change_at_is_write, denied_write_at, same_table_at}
use Rattle.mt_primary.proofs.primary.Primary.write_at.Goals as goal

pub invariant_of-self : goal.invariant_of-self
invariant_of-self c =
    let before : PrimaryState = record { tables = c.self.inside.tables.entries; log = c.self.inside.log.log } in
    let there = rw (← c.self.view_is) at c.requires.there in
    subst IsPrimary (sym (same_table_at before c.args.place c.args.table.now c.pair_mut-rows.result.0.now c.pair_mut-rows.result.1.now c.self.invariant there c.pair_mut-rows.ensures.value)) c.self.invariant

pub returns-then-is_denied : goal.returns-then-is_denied
returns-then-is_denied c =
    let before : PrimaryState = record { tables = c.self.inside.tables.entries; log = c.self.inside.log.log } in
    let there = rw (← c.self.view_is) at c.requires.there in
    rw (← c.self.view_is) (
      denied_write_at before c.args.place c.args.table.now c.pair_mut-rows.result.0.now c.pair_mut-rows.result.1.now c.self.invariant there c.pair_mut-rows.ensures.value c.args.op (sym c.is_denied.ensures ∙ c.if-is_denied.true),
      same_table_at before c.args.place c.args.table.now c.pair_mut-rows.result.0.now c.pair_mut-rows.result.1.now c.self.invariant there c.pair_mut-rows.ensures.value,
    )

pub invariant_of-self-2 : goal.invariant_of-self-2
invariant_of-self-2 c =
    let before : PrimaryState = record { tables = c.self.inside.tables.entries; log = c.self.inside.log.log } in
    let there = rw (← c.self.view_is) at c.requires.there in
    let written = change_at_is_write before c.args.place c.args.table.now c.pair_mut-rows.result.0.now c.pair_mut-rows.result.1.now c.self.invariant there c.pair_mut-rows.ensures.value c.write_row.new.table c.write_row.new.log.log c.write_row.result c.args.op (sym c.is_denied.ensures ∙ c.if-is_denied.false) c.write_row.ensures in
    written.0

pub returns : goal.returns
returns c =
    let before : PrimaryState = record { tables = c.self.inside.tables.entries; log = c.self.inside.log.log } in
    let there = rw (← c.self.view_is) at c.requires.there in
    let written = change_at_is_write before c.args.place c.args.table.now c.pair_mut-rows.result.0.now c.pair_mut-rows.result.1.now c.self.invariant there c.pair_mut-rows.ensures.value c.write_row.new.table c.write_row.new.log.log c.write_row.result c.args.op (sym c.is_denied.ensures ∙ c.if-is_denied.false) c.write_row.ensures in
    rw (← c.self.view_is) written.1
