-- What completes the rules so far completes the whole.
use Rattle.std.proofs.Common.{◌≡◌, [], drop}
use Rattle.serde_json.specs.View.{items_view}
use Rattle.mt_rules.specs.Read.{with_rules}
use Rattle.mt_rules.proofs.read.rules_of_list.Given as goal

abbrev pub invariant-values : goal.invariant-values
invariant-values l = with_rules [] (items_view l.initial.list) ≡ with_rules l.rules (items_view (drop l.value-index l.list))
