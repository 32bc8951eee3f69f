-- What is found by the name is what stands at its keys.
use Rattle.std.proofs.Common.{◌≡◌, ◌↔◌, false, option_and_then, option_copied, ap, refl, subst, sym, ◌∙◌}
use Rattle.mt_model.specs.Part.{keys_of_name}
use Rattle.mt_rules.specs.Places.{place_at}
use Rattle.mt_workflow.proofs.NoRuleLemmas.{NoneHas, without_places, without_rules}
use Rattle.mt_workflow.proofs.ruled.has_rule_at.Goals as goal

pub returns-in-Some : goal.returns-in-Some
returns-in-Some c =
    subst (λ has. (has ≡ false) ↔ NoneHas c.args.rules.now (keys_of_name (option_copied c.args.keyspace) c.args.table.now)) (sym c.has_rule.ensures)
    (without_rules c.args.rules.now (option_copied c.args.keyspace) c.args.table.now c.in-Some.places.now
    (λ type. ap (λ o. option_and_then (λ four. place_at four type) (option_copied o)) (sym c.in-Some.is) ∙ c.name.ensures type))

pub returns-in-None : goal.returns-in-None
returns-in-None c = (
  λ absent. without_places c.args.rules.now (option_copied c.args.keyspace) c.args.table.now
      (λ type. ap (λ o. option_and_then (λ four. place_at four type) (option_copied o)) (sym c.in-None.is) ∙ c.name.ensures type),
  λ none. refl,
)
