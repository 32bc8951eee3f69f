-- A base says what the state serves that it stands for.
use Rattle.std.proofs.Common.{◌≡◌, is_some, sym, ap, ◌∙◌}
use Rattle.std.proofs.Math.Logic.{∥∥₁_elim}
use Rattle.std.specs.Coded.{Coded-set, coded_list, coded_ℕ}
use Rattle.std.specs.List.{AllByRecursion}
use Rattle.mt_names.specs.declared.keys.RuleKey.{RuleKey}
use Rattle.mt_names.specs.declared.types.TabletType.{TabletType}
use Rattle.mt_model.specs.declared.entries.Entry.TheVariants as entry
use Rattle.mt_model.specs.declared.entries.EntryKey.TheVariants as about
use Rattle.mt_model.specs.Documents.{dump_text, rules_text}
use Rattle.mt_model.specs.Part.{IsSameTopology}
use Rattle.mt_model.specs.Topology.{HasDistinctPlaces, Rules, TopologyState, resolution, rule_at}
use Rattle.mt_plain.specs.Plain.{Plain}
use Rattle.mt_plain.specs.Serve.{IsServed, served}
use Rattle.mt_laws.specs.Texts.{BringsNames, HasDistinctTexts, HasNamedKeys}
use Rattle.mt_laws.specs.WayBack.{IsReached}
use Rattle.mt_stands.specs.Base.{BaseState}
use Rattle.mt_stands.specs.Stands.{HasState, IsBase, Stands}

-- what the laws say of topologies and their documents
pub record Said : Type 0 where
  pub is_served : (p : Plain) → IsReached p → IsServed p (served p)
  pub named : (p : Plain) (reached : IsReached p) → AllByRecursion BringsNames reached.events → HasNamedKeys (served p).rules
  pub look_up : (t u : TopologyState) → IsSameTopology t u → HasDistinctPlaces t → HasDistinctPlaces u → (key : RuleKey) (type : TabletType) → resolution t key type ≡ resolution u key type
  pub rules : (t u : TopologyState) → IsSameTopology t u → HasDistinctPlaces t → HasDistinctPlaces u → HasDistinctTexts t.rules → rules_text t.rules ≡ rules_text u.rules
  pub dump : (t u : TopologyState) → IsSameTopology t u → HasDistinctPlaces t → HasDistinctPlaces u → HasDistinctTexts t.rules → dump_text t ≡ dump_text u
  pub texts : (rules : Rules) → HasNamedKeys rules → HasDistinctTexts rules

module _ (said : Said) (p : Plain) (base : BaseState) (stands : Stands p base) where
  lists : IsServed p (served p)
  lists = said.is_served p stands.reached

  pub same : IsSameTopology base.topology (served p)
  same = record {
    keyspaces = λ name. stands.topology.served.keyspaces name ∙ sym (lists.keyspaces name);
    shards = λ name. stands.topology.served.shards name ∙ sym (lists.shards name);
    values = λ key. stands.topology.served.entries key ∙ sym (lists.entries key);
  }

  pub look_up : (key : RuleKey) (type : TabletType) → resolution base.topology key type ≡ resolution (served p) key type
  look_up = said.look_up base.topology (served p) same stands.topology.served.places lists.places

  pub rules_by : HasDistinctTexts base.topology.rules → rules_text base.topology.rules ≡ rules_text (served p).rules
  rules_by = said.rules base.topology (served p) same stands.topology.served.places lists.places

  pub dump_by : HasDistinctTexts base.topology.rules → dump_text base.topology ≡ dump_text (served p)
  dump_by = said.dump base.topology (served p) same stands.topology.served.places lists.places

-- the texts of a base's rule keys are distinct, by the state of which it is known that names alone were brought
module _ (said : Said) (base : BaseState) (has : HasState base) where
  same_rule : (key : RuleKey) → rule_at base.topology.rules key ≡ rule_at (served has.state).rules key
  same_rule key =
      let e : entry.Rule key (rule_at base.topology.rules key) ≡ entry.Rule key (rule_at (served has.state).rules key) = (same said has.state base has.stands).values (about.Rule key) in
      cc

  named : HasNamedKeys base.topology.rules
  named key is = said.named has.state has.reached has.named key (sym (ap is_some (same_rule key)) ∙ is)

  pub distinct : HasDistinctTexts base.topology.rules
  distinct = said.texts base.topology.rules named

module _ (said : Said) (p : Plain) (base : BaseState) (stands : Stands p base) (is : IsBase base) where
  pub rules_said : rules_text base.topology.rules ≡ rules_text (served p).rules
  rules_said = ∥∥₁_elim is (Coded-set (coded_list coded_ℕ) _ _) (λ has. rules_by said p base stands (distinct said base has))

  pub dump_said : dump_text base.topology ≡ dump_text (served p)
  dump_said = ∥∥₁_elim is (Coded-set (coded_list coded_ℕ) _ _) (λ has. dump_by said p base stands (distinct said base has))
