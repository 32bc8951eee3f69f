-- The values so far are texts.
use Rattle.std.proofs.Common.{◌≡◌, drop}
use Rattle.serde_json.specs.View.{items_view}
use Rattle.mt_rules.specs.Read.{are_texts}
use Rattle.mt_rules.proofs.read.are_texts.Given as goal

abbrev pub invariant-values : goal.invariant-values
invariant-values l = are_texts (items_view l.list) ≡ are_texts (items_view (drop l.value-index l.list))
