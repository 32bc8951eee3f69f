use Rattle.std.proofs.Common.{Bool, true, false, cond, ◌||◌, fold, Option, None, Some, refl, ap, ◌∙◌}
use Rattle.std.specs.Option.{option_map_or}
use Rattle.std.specs.Prelude.{unwrap_or}
use Rattle.mt_model.specs.declared.entries.Scope.TheVariants as scope
use Rattle.mt_primary.specs.Denials.{told_by_refresh, with_denials}
use Rattle.mt_primary.specs.Primary.{TableState, has_table, is_denied_at}
use Rattle.mt_primary.specs.Writes.{with_new_table}
use Rattle.mt_watch.specs.Notices.{notice_of}
use Rattle.mt_workflow.specs.Workflows.{live_of}
use Rattle.mt_stands.specs.Keys.{rules_only}
use Rattle.mt_stands.specs.Workflows.{change_of}
use Rattle.mt_refinement.proofs.AskedLemmas.{told_by_change}
use Rattle.mt_refinement.proofs.MadeLemmas.{stay_both}
use Rattle.mt_refinement.proofs.creating.the_target_has_the_tables_denied.Goals as goal

pub returns : goal.returns
returns c = λ w old sides absent.
    let notice = notice_of (scope.Primary w.target) (change_of w) in
    let told = told_by_refresh w.target notice w.tables in
    let first = fold with_new_table old w.tables in
    let second = with_denials told first in
    let tables = c.tables_made_and_dropped_leave_the_others.ensures in
    let denials = c.denials_change_nothing_else.ensures in
    let refresh = c.a_refresh_concerns_named_tables.ensures in
    record {
      stay = stay_both w.tables old first second (tables.made old w.tables) (tables.denials first second told refl w.tables);
      empty = λ table m key. denials.rows first second told refl table key ∙ tables.empty old w.tables absent table m key;
      has = λ table. denials.tables first second told refl table ∙ tables.there old w.tables table;
      denied = λ table m.
          refresh.named first second w.target notice w.tables refl table m (tables.there old w.tables table ∙ ap (λ b. b || has_table old table) m)
          ∙ ap (λ (o : Option Bool). unwrap_or o (is_denied_at first table))
          (c.a_notice_tells_what_its_change_tells.ensures.notice w.target (change_of w) table ∙ told_by_change (rules_only w.kept) (live_of w) sides table ∙ ap (λ b. cond b (Some true) None) m);
      before = λ table other.
          ap (λ (o : Option TableState). option_map_or (λ t. t.denied) o false) (refresh.others first second w.target notice w.tables refl table other)
          ∙ tables.allowed old w.tables table;
    }
