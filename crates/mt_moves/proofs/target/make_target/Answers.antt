-- Each primary with the tables takes the notice over; or the tables that were made are dropped again.
use Rattle.std.proofs.Common.{◌≡◌, Ok, Err, ap, arith, fold, get_or, length, map, subst, ◌∙◌}
use Rattle.mt_model.specs.declared.entries.Scope.TheVariants as scope
use Rattle.mt_primary.specs.Denials.{told_by_refresh, with_denials}
use Rattle.mt_primary.specs.Primary.{PrimaryState, empty_primary}
use Rattle.mt_primary.specs.Writes.{with_new_table, without_table}
use Rattle.mt_watch.specs.Asking.{AsksEach}
use Rattle.mt_stands.proofs.BridgeLemmas.{made_and_dropped_in_order}
use Rattle.mt_stands.specs.Workflows.{target_made}
use Rattle.mt_moves.specs.Target.{changed_to}
use Rattle.mt_moves.proofs.ChangeLemmas.{all-back, changed-all, changed-twice}
use Rattle.mt_moves.proofs.TargetLemmas.{target-refused}
use Rattle.mt_moves.proofs.target.make_target.Goals as goal

pub returns-in-Ok : goal.returns-in-Ok
returns-in-Ok g c =
    let w = c.args.workflow.now in
    let old = c.args.primaries.now in
    let notice = c.in-Ok.notice in
    let makes : PrimaryState → PrimaryState = λ p. fold with_new_table p w.tables in
    let takes : PrimaryState → PrimaryState = with_denials (told_by_refresh w.target notice w.tables) in
    let at : c.copied.result ≡ w.target = c.copied.ensures ∙ c.target.ensures in
    let asked = subst (λ k. AsksEach (g.W.Asks.scopes c.args.watchers.now) (g.W.Asks.may_answer c.args.watchers.now) (scope.Primary k) c.args.change.now (Ok notice)) at c.in-Ok.ensures in
    let made : c.make_at_each.new.primaries ≡ map makes old =
    c.in_ok-make_at_each.ensures.made ∙ ap (λ ts. map (λ (p : PrimaryState). fold with_new_table p ts) old) c.tables.ensures in
    let taken : c.take_denied.new.primaries ≡ map (target_made w notice) old =
    c.take_denied.ensures ∙ ap (map takes) made ∙ changed-twice makes takes old in
    (notice, asked, taken)

pub returns-in-Err : goal.returns-in-Err
returns-in-Err g c =
    let w = c.args.workflow.now in
    let old = c.args.primaries.now in
    let now = c.make_at_each.new.primaries in
    let makes : PrimaryState → PrimaryState = λ p. fold with_new_table p w.tables in
    let drops : PrimaryState → PrimaryState = λ p. fold without_table p w.tables in
    let at : c.copied.result ≡ w.target = c.copied.ensures ∙ c.target.ensures in
    let asked = subst (λ k. AsksEach (g.W.Asks.scopes c.args.watchers.now) (g.W.Asks.may_answer c.args.watchers.now) (scope.Primary k) c.args.change.now (Err c.in-Err.fault)) at c.in-Err.ensures in
    let made : now ≡ map makes old =
    c.in_ok-make_at_each.ensures.made ∙ ap (λ ts. map (λ (p : PrimaryState). fold with_new_table p ts) old) c.tables.ensures in
    let back : c.drop_at_first.new.primaries ≡ old =
    c.drop_at_first.ensures ∙ ap (λ ts. changed_to (λ (p : PrimaryState). fold without_table p ts) (length now) now) c.tables-in-Err.ensures
    ∙ changed-all drops (length now) now (omega arith) ∙ ap (map drops) made
    ∙ all-back makes drops old (λ shard within. made_and_dropped_in_order w.tables (get_or old shard empty_primary) (c.requires.absent shard within)) in
    target-refused (g.W.Asks.scopes c.args.watchers.now) (g.W.Asks.may_answer c.args.watchers.now) w c.args.change.now old c.drop_at_first.new.primaries c.in-Err.fault c.refusal_by_watchers.result
    asked c.refusal_by_watchers.ensures back
