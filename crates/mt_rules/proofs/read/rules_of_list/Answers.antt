-- One rule more, or the first fault.
use Rattle.std.proofs.Common.{◌≡◌, ◌<◌, ◌+◌, Err, ap, arith, drop, inr, [], length, rules, subst, sym, ◌∙◌}
use Rattle.std.proofs.lemmas.List.{drop-set-lt, drop_all}
use Rattle.mt_names.specs.Results.{◌>>=◌}
use Rattle.serde_json.specs.View.{items_view}
use Rattle.mt_rules.specs.Read.{IsUnlessMemory, with_one_more, with_rules}
use Rattle.mt_rules.proofs.ReadLemmas.{answered, next_rules, refused}
use Rattle.mt_rules.proofs.read.rules_of_list.Goals as goal

pub values-preserved : goal.values-preserved
values-preserved c =
    let list = c.values.list in
    let i = c.values.value-index in
    let had = c.values.rules in
    let left = drop (i + 1) list in
    let within : i < length list = omega (arith, c.values-test.true, c.values.auto.list) in
    let read = sym c.take_rule.ensures ∙ c.in_ok-key.was in
    c.values.invariant ∙ next_rules had list i c.value-item.result within
    ∙ ap (λ r. (r >>= with_one_more had) >>= λ more. with_rules more (items_view left)) read
    ∙ ap (λ r. r >>= λ more. with_rules more (items_view left)) (answered c.add.new.self (with_one_more had (c.in_ok-key.key, c.in_ok-key.target)) c.in_ok-add.ensures)
    ∙ ap (λ l. with_rules c.add.new.self (items_view l)) (sym (drop-set-lt (i + 1) list i c.take_rule.new.rule (omega arith)))

pub returns-in_err-key : goal.returns-in_err-key
returns-in_err-key c =
    let list = c.values.list in
    let i = c.values.value-index in
    let had = c.values.rules in
    let left = drop (i + 1) list in
    let within : i < length list = omega (arith, c.values-test.true, c.values.auto.list) in
    let whole = c.values.invariant ∙ next_rules had list i c.value-item.result within in
    let read = sym c.take_rule.ensures ∙ c.in_err-key.was in
    inr (search (rules, whole ∙ ap (λ r. (r >>= with_one_more had) >>= λ more. with_rules more (items_view left)) read))

pub returns-in_err-add : goal.returns-in_err-add
returns-in_err-add c =
    let list = c.values.list in
    let i = c.values.value-index in
    let had = c.values.rules in
    let left = drop (i + 1) list in
    let within : i < length list = omega (arith, c.values-test.true, c.values.auto.list) in
    let read = sym c.take_rule.ensures ∙ c.in_ok-key.was in
    let whole = c.values.invariant ∙ next_rules had list i c.value-item.result within ∙ ap (λ r. (r >>= with_one_more had) >>= λ more. with_rules more (items_view left)) read in
    let is : c.from_residual-in_err-add.result ≡ Err c.in_err-add.field-0.0 = search rules in
    subst (λ r. IsUnlessMemory r (with_rules [] (items_view c.args.list.now))) (sym is)
    (refused c.in_err-add.field-0.0 (with_one_more had (c.in_ok-key.key, c.in_ok-key.target)) (with_rules [] (items_view c.args.list.now)) (λ more. with_rules more (items_view left)) whole c.in_err-add.ensures)

pub returns : goal.returns
returns c =
    let none = drop_all c.values.value-index c.values.list (search (arith, c.values-test.false, c.values.auto.list)) in
    inr (sym (c.values.invariant ∙ ap (λ l. with_rules c.values.rules (items_view l)) none))
