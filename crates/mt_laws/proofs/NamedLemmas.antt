-- The keys of rules are made of the names that the events brought.
use Rattle.std.proofs.Common.{◌≡◌, Bool, true, false, List, [], ◌∷◌, ◌++◌, ℕ, map, fold, Option, None, Some, IfSome, is_some, refl, sym, subst}
use Rattle.std.proofs.lemmas.Bool.{true≢false}
use Rattle.std.specs.List.{AllByRecursion}
use Rattle.std.specs.Map.{lookup, remove_entry}
use Rattle.std.specs.Option.{option_map_or}
use Rattle.mt_names.specs.declared.keys.RuleKey.{RuleKey}
use Rattle.mt_names.specs.declared.keys.RuleTarget.{RuleTarget}
use Rattle.mt_names.specs.declared.types.TabletType.TheVariants.{Primary, Replica, Rdonly}
use Rattle.mt_names.specs.Keys.{IsRuleKey}
use Rattle.mt_names.specs.Names.{IsKeyspaceName, IsTableName}
use Rattle.mt_names.specs.Same.{same_key}
use Rattle.mt_names.proofs.SameLemmas.{same_key_decides}
use Rattle.mt_model.specs.declared.entries.EntryKey.TheVariants as about
use Rattle.mt_model.specs.Part.{keys_of_name}
use Rattle.mt_model.specs.Order.{key_before}
use Rattle.mt_model.proofs.OrderLemmas.{each-put_by}
use Rattle.mt_model.specs.Topology.{put_rule, Rules, TopologyState, rule_at, with_rule, with_rule_place}
use Rattle.mt_plain.specs.Answers.{after}
use Rattle.mt_plain.specs.Events.{Event, add_keyspace, add_table, edit_rule, advance, complete, Answer, done, row, advanced, shown, refused}
use Rattle.mt_plain.specs.Next.{next, next_taken, with_completed}
use Rattle.mt_plain.specs.Plain.{Live, Plain, live_at, opening, rule_keys, twelve_keys}
use Rattle.mt_plain.specs.Serve.{rule_in, rules_over, served, served_by, with_workflow}
use Rattle.mt_laws.specs.Texts.{BringsNames, HasNamedKeys}
use Rattle.mt_laws.specs.WayBack.{IsReached}
use Rattle.mt_laws.proofs.ChangeLemmas.{sides-next}
use Rattle.mt_laws.proofs.ListLemmas.{append-all, each-mapped, each_once-all, flat_map-all, fold-holds, map-all, remove_entry-all, set_value-all}
use Rattle.mt_laws.proofs.LiveLemmas.{IsIn, all_from_in}
use Rattle.mt_laws.proofs.ReachLemmas.{each_next}
use Rattle.mt_laws.proofs.UntouchedLemmas.{same_topology}

-- ---- rules of named keys

abbrev IsNamed : RuleKey × Option RuleTarget → Type 0
IsNamed rule = IsRuleKey rule.0

abbrev AreNamed : Rules → Type 0
AreNamed rules = AllByRecursion IsNamed rules

named-without : (keys : List RuleKey) (rules : Rules) → AreNamed rules → AreNamed (fold (λ rules key. remove_entry (same_key key) rules) rules keys)
named-without [] rules all = all
named-without (key ∷ keys) rules all = named-without keys (remove_entry (same_key key) rules) (remove_entry-all IsNamed (same_key key) rules all)

named-with_rule : (rules : Rules) (key : RuleKey) (target : Option RuleTarget) → IsRuleKey key → AreNamed rules → AreNamed (with_rule rules key target)
named-with_rule rules key None is all = remove_entry-all IsNamed (same_key key) rules all
named-with_rule rules key (Some target) is all =
    set_value-all IsNamed (same_key key) (with_rule_place rules key) (Some target) (λ e was. was) (by (lookup (same_key key) rules))
  where
    by : (o : Option (Option RuleTarget)) → AreNamed (option_map_or (λ rule. rules) o (put_rule rules (key, None)))
    by None = each-put_by key_before IsNamed rules (key, None) is all
    by (Some rule) = all

-- a key that is found is one of the list
named_keys : (rules : Rules) → AreNamed rules → HasNamedKeys rules
named_keys [] all key there = absurd (true≢false (sym there))
named_keys (rule ∷ rules) all key there = by (named_keys rules all.1 key) (same_key key rule.0) refl
  where
    by : (is_some (rule_at rules key) ≡ true → IsRuleKey key) → (t : Bool) → same_key key rule.0 ≡ t → IsRuleKey key
    by again true t = subst IsRuleKey (sym ((same_key_decides key rule.0).0 t)) all.0
    by again false t = again (rw t at there)

-- ---- live workflows of named sides and tables

record IsNamedLive (w : Live) : Type 0 where
  source : IsKeyspaceName w.source
  target : IsKeyspaceName w.target
  tables : AllByRecursion IsTableName w.tables

named-name : (keyspace : Option (List ℕ)) (table : List ℕ) → IfSome keyspace IsKeyspaceName → IsTableName table → AllByRecursion IsRuleKey (keys_of_name keyspace table)
named-name keyspace table first second =
    each-mapped IsRuleKey (λ type. record { keyspace = keyspace; table = table; tablet_type = type }) (None ∷ Some Primary ∷ Some Replica ∷ Some Rdonly ∷ [])
    (λ type. record { keyspace = first; table = second })

named-twelve : (source target table : List ℕ) → IsKeyspaceName source → IsKeyspaceName target → IsTableName table → AllByRecursion IsRuleKey (twelve_keys source target table)
named-twelve source target table at_source at_target is =
    append-all IsRuleKey (keys_of_name None table ++ keys_of_name (Some source) table) (keys_of_name (Some target) table)
    (append-all IsRuleKey (keys_of_name None table) (keys_of_name (Some source) table) (named-name None table tt is) (named-name (Some source) table at_source is))
    (named-name (Some target) table at_target is)

named-rules_over : (u : TopologyState) (w : Live) → AreNamed u.rules → IsNamedLive w → AreNamed (rules_over u w)
named-rules_over u w all live =
    append-all IsNamed (map (λ key. (key, rule_in (served_by u w (about.Rule key)))) (rule_keys w)) (fold (λ rules key. remove_entry (same_key key) rules) u.rules (rule_keys w))
    (map-all IsRuleKey IsNamed (λ key. (key, rule_in (served_by u w (about.Rule key)))) (rule_keys w) (λ key is. is)
    (flat_map-all IsTableName IsRuleKey (twelve_keys w.source w.target) w.tables (λ table is. named-twelve w.source w.target table live.source live.target is) live.tables))
    (named-without (rule_keys w) u.rules all)

-- ---- states of named rules and workflows

record HasNames (p : Plain) : Type 0 where
  rules : AreNamed p.topology.rules
  lives : (w : Live) → IsIn w p.lives → IsNamedLive w

rules-taken : (p : Plain) (event : Event) → BringsNames event → HasNames p → AreNamed (next_taken p event).topology.rules
rules-taken p (add_keyspace keyspace cuts) brings has = has.rules
rules-taken p (add_table keyspace table) brings has = has.rules
rules-taken p (edit_rule key target) brings has = named-with_rule p.topology.rules key target brings has.rules
rules-taken p (complete workflow) brings has = by (live_at p workflow)
  where
    by : (o : Option Live) → AreNamed (with_completed p o).topology.rules
    by None = has.rules
    by (Some w) = named-without (rule_keys w) p.topology.rules has.rules
rules-taken p event brings has = subst (λ u. AreNamed u.rules) (sym (same_topology p event done (λ h. h))) has.rules

rules-next : (p : Plain) (event : Event) (answer : Answer) → BringsNames event → HasNames p → AreNamed (next p event answer).topology.rules
rules-next p event done brings has = rules-taken p event brings has
rules-next p event (row r) brings has = rules-taken p event brings has
rules-next p event (shown s) brings has = has.rules
rules-next p event (refused refusal) brings has = has.rules
rules-next p (advance workflow name shard at at_most) (advanced events rows) brings has =
    subst (λ u. AreNamed u.rules) (sym (same_topology p (advance workflow name shard at at_most) (advanced events rows) (λ h. h))) has.rules
rules-next p event (advanced events rows) brings has = has.rules

names-next : (p : Plain) (event : Event) (answer : Answer) → BringsNames event → HasNames p → HasNames (next p event answer)
names-next p event answer brings has = record {
  rules = rules-next p event answer brings has;
  lives = each_next IsNamedLive p event answer
      (λ w is. let sides = sides-next p event answer w in let was = has.lives w is in record {
        source = subst IsKeyspaceName sides.source was.source;
        target = subst IsKeyspaceName sides.target was.target;
        tables = subst (AllByRecursion IsTableName) sides.tables was.tables;
      })
      (λ name source target tables e. let names = subst BringsNames e brings in record { source = names.0; target = names.1; tables = each_once-all IsTableName tables names.2 });
}

names-run : (events : List Event) (answers : List Answer) (p : Plain) → AllByRecursion BringsNames events → HasNames p → HasNames (after p events answers)
names-run [] answers p brings has = has
names-run (event ∷ events) [] p brings has = has
names-run (event ∷ events) (answer ∷ answers) p brings has = names-run events answers (next p event answer) brings.1 (names-next p event answer brings.0 has)

pub reached_named : (p : Plain) (reached : IsReached p) → AllByRecursion BringsNames reached.events → HasNamedKeys (served p).rules
reached_named p reached brings =
    let has : HasNames p = subst HasNames reached.is (names-run reached.events reached.answers (opening reached.scopes) brings (record { rules = tt; lives = λ w is. absurd is })) in
    named_keys (served p).rules
    (fold-holds IsNamedLive (λ u. AreNamed u.rules) with_workflow p.topology p.lives (λ u w all live. named-rules_over u w all live) has.rules (all_from_in IsNamedLive p.lives has.lives))
