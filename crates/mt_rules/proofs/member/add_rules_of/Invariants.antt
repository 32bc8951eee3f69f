-- What completes the rules so far completes the whole.
use Rattle.std.proofs.Common.{◌≡◌, drop}
use Rattle.serde_json.specs.View.{items_view}
use Rattle.mt_rules.specs.Member.{rules_of}
use Rattle.mt_rules.proofs.member.add_rules_of.Given as goal

abbrev pub invariant-values : goal.invariant-values
invariant-values l = rules_of l.fn.places (items_view l.list) ≡ rules_of l.places (items_view (drop l.value-index l.list))
