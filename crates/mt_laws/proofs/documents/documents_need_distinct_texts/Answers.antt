-- The table `b.c` and the table `c` of the keyspace `b`, with their rules in either order.
use Rattle.std.proofs.Common.{◌≡◌, ◌≢◌, ℕ, Bool, true, false, cond, List, [], ◌∷◌, Option, None, Some, codes, get_or, unwrap_or, refl, sym, ap, ◌∙◌, arith}
use Rattle.std.proofs.lemmas.List.Elements.{All-nil}
use Rattle.std.specs.List.{IsDistinct}
use Rattle.std.specs.Map.{keys_of}
use Rattle.mt_names.specs.declared.keys.RuleKey.{RuleKey}
use Rattle.mt_names.specs.declared.keys.RuleTarget.{RuleTarget}
use Rattle.mt_names.specs.Same.{same_key}
use Rattle.mt_names.proofs.SameLemmas.{same_key_decides}
use Rattle.mt_model.specs.declared.entries.Entry.TheVariants as entry
use Rattle.mt_model.specs.declared.entries.EntryKey.{EntryKey}
use Rattle.mt_model.specs.declared.entries.EntryKey.TheVariants as about
use Rattle.mt_model.specs.Documents.{rules_text}
use Rattle.mt_model.specs.Topology.{HasDistinctPlaces, Rules, TopologyState, rule_at, value_of}
use Rattle.mt_laws.proofs.documents.documents_need_distinct_texts.Goals as goal

abbrev one : RuleKey
one = record { keyspace = None; table = codes "b.c"; tablet_type = None }

abbrev other : RuleKey
other = record { keyspace = Some (codes "b"); table = codes "c"; tablet_type = None }

abbrev to : List ℕ → Option RuleTarget
to keyspace = Some (record { keyspace = keyspace; table = codes "c" })

abbrev ruled : Rules → TopologyState
ruled rules = record { rules = rules; keyspaces = [] }

abbrev first : TopologyState
first = ruled ((one, to (codes "x")) ∷ (other, to (codes "y")) ∷ [])

abbrev second : TopologyState
second = ruled ((other, to (codes "y")) ∷ (one, to (codes "x")) ∷ [])

either : (a b : Bool) (x y : Option RuleTarget) → (a ≡ true → b ≡ true → ⊥) → unwrap_or (cond a (Some x) (cond b (Some y) None)) None ≡ unwrap_or (cond b (Some y) (cond a (Some x) None)) None
either true true x y apart = absurd (apart refl refl)
either true false x y apart = refl
either false true x y apart = refl
either false false x y apart = refl

two : one ≡ other → ⊥
two e = let h : None ≡ Some (codes "b") = ap (λ k. k.keyspace) e in absurd cc

same_rule : (key : RuleKey) → rule_at first.rules key ≡ rule_at second.rules key
same_rule key = either (same_key key one) (same_key key other) (to (codes "x")) (to (codes "y")) (λ a b. two (sym ((same_key_decides key one).0 a) ∙ (same_key_decides key other).0 b))

values : (key : EntryKey) → value_of first key ≡ value_of second key
values (about.Rule key) = ap (entry.Rule key) (same_rule key)
values (about.Denied keyspace table) = refl
values (about.Present keyspace table) = refl

distinct : (rules : Rules) → IsDistinct same_key (keys_of rules) → HasDistinctPlaces (ruled rules)
unfolding IsDistinct
distinct rules is = record { rules = is; keyspaces = tt; tables = All-nil _; denied = All-nil _ }

first_distinct : HasDistinctPlaces first
unfolding IsDistinct
first_distinct = distinct first.rules ((refl, tt), (tt, tt))

second_distinct : HasDistinctPlaces second
unfolding IsDistinct
second_distinct = distinct second.rules ((refl, tt), (tt, tt))

-- the first byte of the first rule's target
differ : rules_text first.rules ≢ rules_text second.rules
differ e = let byte : 120 ≡ 121 = ap (λ text. get_or text 44 0) e in omega (arith, byte)

pub returns : goal.returns
returns c = (first, second, record { keyspaces = λ name. refl; shards = λ name. refl; values = values }, first_distinct, second_distinct, differ)
