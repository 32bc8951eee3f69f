-- The key and the target are read, or the first that isn't is in fault.
use Rattle.std.proofs.Common.{◌≡◌, Ok, refl, subst}
use Rattle.std.proofs.lemmas.Result.{err_from_is_err_and}
use Rattle.mt_names.specs.Keys.{read_key}
use Rattle.mt_names.specs.Results.{◌>>=◌}
use Rattle.mt_plain.specs.Events as plain
use Rattle.mt_plain.specs.Script.{event, read_rule_target}
use Rattle.mt_run.specs.Runs.{IsAnswered}
use Rattle.mt_run.proofs.AskLemmas.{then_err, then_ok}
use Rattle.mt_run.proofs.asking.edit_rule.Goals as goal

pub returns-in_err-key-clause-named : goal.returns-in_err-key-clause-named
returns-in_err-key-clause-named g c =
    let e = err_from_is_err_and c.from_residual.result c.from_residual.ensures.1 in
    let same : e.0 ≡ c.in_err-key.field-0.0 = search (e.2) in
    rw (e.1, same)
    (then_err (λ k. read_rule_target c.args.target.now >>= λ t. Ok (event (plain.edit_rule k t))) (read_key c.args.key.now) c.in_err-key.field-0.0 c.in_err-key.ensures.value, refl, refl)

pub returns-in_err-target-clause-named : goal.returns-in_err-target-clause-named
returns-in_err-target-clause-named g c =
    let e = err_from_is_err_and c.from_residual-in_err-target.result c.from_residual-in_err-target.ensures.1 in
    let same : e.0 ≡ c.in_err-target.field-0.0 = search (e.2) in
    rw (e.1, same) (
      then_ok (λ k. read_rule_target c.args.target.now >>= λ t. Ok (event (plain.edit_rule k t))) (read_key c.args.key.now) c.in_ok-key.key _ c.in_ok-key.ensures.value
          (then_err (λ t. Ok (event (plain.edit_rule c.in_ok-key.key t))) (read_rule_target c.args.target.now) c.in_err-target.field-0.0 c.in_err-target.ensures),
      refl,
      refl,
    )

pub returns-clause-named : goal.returns-clause-named
returns-clause-named g c =
    let scopes = g.A.Asks.scopes c.args.cached.now.site.watchers in
    let key = c.in_ok-key.key in
    let target = c.in_ok-target.target in (
      event (plain.edit_rule key target),
      then_ok (λ k. read_rule_target c.args.target.now >>= λ t. Ok (event (plain.edit_rule k t))) (read_key c.args.key.now) key _ c.in_ok-key.ensures.value
          (then_ok (λ t. Ok (event (plain.edit_rule key t))) (read_rule_target c.args.target.now) target _ c.in_ok-target.ensures refl),
      subst (λ t. IsAnswered scopes c.args.cached.now.site.core (event (plain.edit_rule key t)) c.args.waiting.now.items c.ask.new.waiting.items c.ask.new.cached.site.core) c.as_ref.ensures.value c.ask.ensures.answered,
    )
