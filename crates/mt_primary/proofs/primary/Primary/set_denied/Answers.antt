-- The table's place is marked.
use Rattle.std.proofs.Common.{rules, sym}
use Rattle.mt_primary.specs.Primary.{PrimaryState}
use Rattle.mt_primary.proofs.DenialLemmas.{IsPrimary-mark, denials-one, denials-absent}
use Rattle.mt_primary.proofs.primary.Primary.set_denied.Goals.{in-Some, in_default}
use Rattle.mt_primary.proofs.primary.Primary.set_denied.Goals as goal

abbrev before : goal.Joined-get_mut → PrimaryState
before c = record { tables = c.self.inside.tables.entries; log = c.self.inside.log.log }

pub invariant_of-self : goal.invariant_of-self
invariant_of-self c =
    elim c.match-get_mut.branch [
      | in-Some w ↦
          rw (w.self-inside-is, (c.get_mut.follows.holds w.set_denied.new.self).0, w.set_denied.ensures)
          (IsPrimary-mark (before c) c.args.table.now w.in-Some.rows.now c.args.denied (sym w.in-Some.ensures.value) c.self.invariant)
      | in_default w ↦ search rules
    ]

pub returns : goal.returns
returns c =
    elim c.match-get_mut.branch [
      | in-Some w ↦
          rw (← c.self.view_is, w.self-inside-is) (rw ((c.get_mut.follows.holds w.set_denied.new.self).0, w.set_denied.ensures)
          (denials-one (before c) c.args.table.now w.in-Some.rows.now c.args.denied (sym w.in-Some.ensures.value) c.self.invariant.distinct))
      | in_default w ↦ rw (← c.self.view_is, w.self-inside-is, c.get_mut.follows.holds-at-none) (denials-absent (before c) c.args.table.now c.args.denied (sym w.in_default.ensures.value))
    ]
