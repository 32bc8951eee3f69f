-- A table none of whose rule keys has a rule.
use Rattle.std.proofs.Common.{◌≡◌, ◌↔◌, ◌||◌, ℕ, false, is_some, List, [], ◌∷◌, Option, None, Some, find, unwrap_or, option_and_then, refl, ap, sym, ◌∙◌}
use Rattle.std.proofs.lemmas.Bool.{true≢false}
use Rattle.std.specs.List.{AllByRecursion}
use Rattle.std.specs.Map.{lookup}
use Rattle.indexmap.specs.IndexMap.{insert_entry}
use Rattle.mt_names.specs.declared.keys.RuleKey.{RuleKey}
use Rattle.mt_names.specs.declared.types.TabletType.{TabletType}
use Rattle.mt_names.specs.declared.types.TabletType.TheVariants.{Primary, Replica, Rdonly}
use Rattle.mt_names.specs.Same.{same_key}
use Rattle.mt_model.specs.Part.{keys_of_name}
use Rattle.mt_model.specs.Topology.{Rules, rule_at}
use Rattle.mt_rules.specs.declared.four.FourPlaces.{FourPlaces}
use Rattle.mt_rules.specs.Places.{any_ruled, place_at}
use Rattle.mt_workflow.specs.Builds.{Agrees, with_kept}
use Rattle.mt_workflow.specs.Creates.{leads_elsewhere}
use Rattle.mt_workflow.proofs.AgreeLemmas.{agrees_left}

-- none of some keys has one
abbrev pub NoneHas : Rules → List RuleKey → Type 0
NoneHas rules keys = AllByRecursion (λ key. rule_at rules key ≡ None) keys

-- ---- the keys of a name

-- the key of a name for a type or for all
abbrev named : Option (List ℕ) → List ℕ → Option TabletType → RuleKey
named keyspace table type = record { keyspace = keyspace; table = table; tablet_type = type }

-- what a name's places say is what stands at its keys
abbrev pub AreFound : Rules → Option (List ℕ) → List ℕ → Option FourPlaces → Type 0
AreFound rules keyspace table found =
    (type : Option TabletType) → option_and_then (λ four. place_at four type) found ≡ lookup (same_key (record { keyspace = keyspace; table = table; tablet_type = type })) rules

-- a name without places has no rule
pub without_places : (rules : Rules) (keyspace : Option (List ℕ)) (table : List ℕ) → AreFound rules keyspace table None → NoneHas rules (keys_of_name keyspace table)
without_places rules keyspace table are =
    let none : (type : Option TabletType) → rule_at rules (named keyspace table type) ≡ None = λ type. ap (λ o. unwrap_or o None) (sym (are type)) in
    (none None, (none (Some Primary), (none (Some Replica), (none (Some Rdonly), tt))))

-- else its keys have none where its places have none
none_is : {A : Type 0} (a b c d : Option A) → ((is_some a || is_some b || is_some c || is_some d) ≡ false) ↔ (a ≡ None) × (b ≡ None) × (c ≡ None) × (d ≡ None)
none_is (Some x) b c d = (λ e. absurd (true≢false e), λ are. absurd (true≢false (ap is_some are.0)))
none_is None (Some x) c d = (λ e. absurd (true≢false e), λ are. absurd (true≢false (ap is_some are.1)))
none_is None None (Some x) d = (λ e. absurd (true≢false e), λ are. absurd (true≢false (ap is_some are.2)))
none_is None None None (Some x) = (λ e. absurd (true≢false e), λ are. absurd (true≢false (ap is_some are.3)))
none_is None None None None = (λ e. (refl, refl, refl, refl), λ are. refl)

pub without_rules : (rules : Rules) (keyspace : Option (List ℕ)) (table : List ℕ) (four : FourPlaces) → AreFound rules keyspace table (Some four)
    → (any_ruled four ≡ false) ↔ NoneHas rules (keys_of_name keyspace table)
without_rules rules keyspace table four are =
    let is : (type : Option TabletType) → rule_at rules (named keyspace table type) ≡ unwrap_or (place_at four type) None = λ type. ap (λ o. unwrap_or o None) (sym (are type)) in
    let all = is None in
    let primary = is (Some Primary) in
    let replica = is (Some Replica) in
    let rdonly = is (Some Rdonly) in
    let none = none_is (unwrap_or four.all None) (unwrap_or four.primary None) (unwrap_or four.replica None) (unwrap_or four.rdonly None) in (
      λ blank. let have = none.0 blank in (all ∙ have.0, (primary ∙ have.1, (replica ∙ have.2, (rdonly ∙ have.3, tt)))),
      λ have. none.1 (sym all ∙ have.0, sym primary ∙ have.1.0, sym replica ∙ have.1.1.0, sym rdonly ∙ have.1.1.1.0),
    )

-- ---- none leads elsewhere

pub no_conflict : (rules : Rules) (source table : List ℕ) (keys : List RuleKey) → NoneHas rules keys → find (leads_elsewhere rules source table) keys ≡ None
no_conflict rules source table [] none = refl
no_conflict rules source table (key ∷ keys) none = rw none.0 (no_conflict rules source table keys none.1)

-- ---- nothing has to be kept where nothing is

pub nothing_kept : (rules es stood : Rules) (keys : List RuleKey) → es ≡ [] → Agrees es stood → NoneHas rules keys → Agrees es (with_kept rules stood keys)
nothing_kept rules es stood [] empty agree none = agree
nothing_kept rules es stood (key ∷ keys) empty agree none =
    nothing_kept rules es (insert_entry same_key stood key (rule_at rules key)) keys empty
    (λ j. agrees_left es stood key empty agree j ∙ ap (λ rule. rule_at (insert_entry same_key stood key rule) j) (sym none.0)) none.1
