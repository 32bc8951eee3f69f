-- A table without a place goes last, and the mark of one that has a place stays.
use Rattle.std.proofs.Common.{rules, ◌≡◌, ◌<◌, false, length, Some, inl, inr, ap, ◌∙◌, true, arith}
use Rattle.std.specs.Map.{lookup, set_value}
use Rattle.mt_names.specs.Names.{same_text}
use Rattle.mt_model.specs.Limits.{most_tables_in_keyspace}
use Rattle.mt_denied.specs.Denied.{has_mark_place}
use Rattle.mt_denied.proofs.DeniedLemmas.{insert_entry-place, mark_kept}
use Rattle.mt_denied.proofs.denied.TableMarks.make_place.Goals as goal

pub returns-in-Ok-None-clause-reserves : goal.returns-in-Ok-None-clause-reserves
returns-in-Ok-None-clause-reserves c =
    let old = c.args.self.now in
    let lacks : has_mark_place old c.args.table.now ≡ false = search rules in
    let room : length old < most_tables_in_keyspace = omega (arith, c.len.ensures.len, c.len.ensures.within, c.if-len-eq-MAX_TABLES_IN_KEYSPACE.false) in
    (inr room, c.in-Ok-None.ensures.entries ∙ insert_entry-place c.self.inside.places old c.args.table.now c.copied.result (c.self.view_is) c.copied.ensures lacks)

pub returns-in-Ok-Some-clause-reserves : goal.returns-in-Ok-Some-clause-reserves
returns-in-Ok-Some-clause-reserves c =
    let old = c.args.self.now in
    let there : has_mark_place old c.args.table.now ≡ true = search rules in
    let found : lookup (same_text c.copied.result) c.self.inside.places.entries ≡ Some c.in-Ok-Some.mark = search rules in (
      inl there,
      c.set.ensures.after ∙ ap (λ es. set_value (same_text c.args.table.now) es c.in-Ok-Some.mark) c.in-Ok-Some.ensures.entries
          ∙ mark_kept c.self.inside.places.entries old c.args.table.now c.copied.result c.in-Ok-Some.mark (c.self.view_is) c.copied.ensures found,
    )
