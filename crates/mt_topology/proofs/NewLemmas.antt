-- Rule keys that have no place, and have none once others have theirs.
use Rattle.std.proofs.Common.{◌≡◌, ◌≢◌, ℕ, ◌+◌, ◌≤◌, suc, true, false, not, List, [], ◌∷◌, length, map, reverse, Option, None, Some, is_some, fold, refl, ap, ◌∙◌, arith}
use Rattle.std.proofs.lemmas.List.{reverse-append}
use Rattle.std.proofs.lemmas.List.Sums.{fold-append}
use Rattle.std.specs.List.{AllByRecursion}
use Rattle.std.specs.Map.{lookup}
use Rattle.mt_names.specs.declared.keys.RuleKey.{RuleKey}
use Rattle.mt_names.specs.declared.types.TabletType.{TabletType}
use Rattle.mt_names.specs.declared.types.TabletType.TheVariants.{Primary, Replica, Rdonly}
use Rattle.mt_names.specs.Hashes.{type_number}
use Rattle.mt_names.specs.Same.{same_key}
use Rattle.mt_names.proofs.SameLemmas.{same_key_decides}
use Rattle.mt_model.specs.declared.entries.EntryKey.TheVariants as about
use Rattle.mt_model.specs.Limits.{most_rules}
use Rattle.mt_model.specs.Order.{key_before}
use Rattle.mt_model.proofs.OrderLemmas.{length-put_by, put_placed-elsewhere}
use Rattle.mt_model.specs.Part.{keys_of_name, with_place, with_places, without_place, without_places}
use Rattle.mt_model.specs.Topology.{Rules, TopologyState, has_place, with_rule_place}
use Rattle.mt_model.proofs.PlaceLemmas.{place_back}
use Rattle.mt_rules.specs.Rules.{four_keys, has_rule_place}
use Rattle.mt_rules.proofs.RulesLemmas.{with_rule_place-new}
use Rattle.mt_topology.specs.Edits.{lacks_rule_place}
use Rattle.mt_topology.specs.Part.{name_key, places_refusal}
use Rattle.mt_topology.proofs.ReserveLemmas.{room_left}
use Rattle.mt_topology.proofs.RoomLemmas.{first_free}

-- none of some rule keys has a place
abbrev pub Lack : TopologyState → List RuleKey → Type 0
Lack t keys = AllByRecursion (λ key. has_place t (about.Rule key) ≡ false) keys

-- a place for one key is none for another
place_elsewhere : (rules : Rules) (k j : RuleKey) → k ≢ j → has_rule_place (with_rule_place rules k) j ≡ has_rule_place rules j
place_elsewhere rules k j other = ap is_some (put_placed-elsewhere key_before same_key same_key_decides None rules k j other)

-- nor are places for several others
lacks_later : (t : TopologyState) (keys : List RuleKey) (j : RuleKey) → AllByRecursion (λ k. k ≢ j) keys → has_place t (about.Rule j) ≡ false → has_place (with_places t (map about.Rule keys)) (about.Rule j) ≡ false
lacks_later t [] j others lacks = lacks
lacks_later t (k ∷ keys) j others lacks = lacks_later (with_place t (about.Rule k)) keys j others.1 (place_elsewhere t.rules k j others.0 ∙ lacks)

lack_later : (t : TopologyState) (keys js : List RuleKey) → AllByRecursion (λ j. AllByRecursion (λ k. k ≢ j) keys) js → Lack t js → Lack (with_places t (map about.Rule keys)) js
lack_later t keys [] others lack = tt
lack_later t keys (j ∷ js) others lack = (lacks_later t keys j others.0 lack.0, lack_later t keys js others.1 lack.1)

-- of a name that isn't there none of its keys has one
pub name_lacks : (t : TopologyState) (keyspace : Option (List ℕ)) (table : List ℕ) → ((type : Option TabletType) → lookup (same_key (name_key keyspace table type)) t.rules ≡ None) → Lack t (keys_of_name keyspace table)
name_lacks t keyspace table none = (ap is_some (none None), (ap is_some (none (Some Primary)), (ap is_some (none (Some Replica)), (ap is_some (none (Some Rdonly)), tt))))

-- ---- rule keys that are made one after the other

-- each is another than those before it
abbrev pub IsApart : List RuleKey → Type 0
IsApart [] = Unit
IsApart (k ∷ keys) = AllByRecursion (λ j. AllByRecursion (λ i. i ≢ j) (k ∷ [])) keys × IsApart keys

-- a name's four are of four types
pub four_apart : (name : RuleKey) → IsApart (four_keys name)
four_apart name =
    let other : (a b : Option TabletType) → type_number a ≢ type_number b → key_for a ≢ key_for b = λ a b apart e. apart (ap (λ (key : RuleKey). type_number key.tablet_type) e) in (
      ((other None (Some Primary) (λ e. omega (arith, e)), tt), ((other None (Some Replica) (λ e. omega (arith, e)), tt), ((other None (Some Rdonly) (λ e. omega (arith, e)), tt), tt))),
      (
        ((other (Some Primary) (Some Replica) (λ e. omega (arith, e)), tt), ((other (Some Primary) (Some Rdonly) (λ e. omega (arith, e)), tt), tt)),
        (((other (Some Replica) (Some Rdonly) (λ e. omega (arith, e)), tt), tt), (tt, tt)),
      ),
    )
  where
    key_for : Option TabletType → RuleKey
    key_for type = record { keyspace = name.keyspace; table = name.table; tablet_type = type }

-- those behind the first lack a place once it has one
lack_next : (t : TopologyState) (k : RuleKey) (keys : List RuleKey) → IsApart (k ∷ keys) → Lack t (k ∷ keys) → Lack (with_place t (about.Rule k)) keys
lack_next t k keys apart lack = lack_later t (k ∷ []) keys apart.0 lack.1

-- the places of rules are made among the rules
pub with_places-rules : (t : TopologyState) (keys : List RuleKey) → with_places t (map about.Rule keys) ≡ record t { rules = fold with_rule_place t.rules keys }
with_places-rules t [] = refl
with_places-rules t (k ∷ keys) = with_places-rules (with_place t (about.Rule k)) keys

-- and are taken back from the last one on
pub with_places_back : (t : TopologyState) (keys : List RuleKey) → IsApart keys → Lack t keys → without_places (with_places t (map about.Rule keys)) (reverse (map about.Rule keys)) ≡ t
with_places_back t [] apart lack = refl
with_places_back t (k ∷ keys) apart lack =
    ap (without_places (with_places (with_place t (about.Rule k)) (map about.Rule keys))) (reverse-append (about.Rule k ∷ []) (map about.Rule keys))
    ∙ fold-append without_place (with_places (with_place t (about.Rule k)) (map about.Rule keys)) (reverse (map about.Rule keys)) (about.Rule k ∷ [])
    ∙ ap (λ u. without_place u (about.Rule k)) (with_places_back (with_place t (about.Rule k)) keys apart.1 (lack_next t k keys apart lack))
    ∙ place_back t (about.Rule k) lack.0

-- where none is refused a place there is room for all
pub room_for_new : (t : TopologyState) (keys : List RuleKey) → IsApart keys → Lack t keys → places_refusal t (map about.Rule keys) ≡ None → length t.rules ≤ most_rules → length t.rules + length keys ≤ most_rules
room_for_new t [] apart lack free within = omega (arith, within)
room_for_new t (k ∷ keys) apart lack free within =
    let lacks : lacks_rule_place t.rules k ≡ true = ap not lack.0 in
    let free_first = first_free t (about.Rule k) (map about.Rule keys) free in
    let room = room_left t.rules k lacks free_first.0 within in
    let next : length (with_rule_place t.rules k) ≡ suc (length t.rules) = ap length (with_rule_place-new t.rules k lack.0) ∙ length-put_by key_before t.rules (k, None) in
    let rest = room_for_new (with_place t (about.Rule k)) keys apart.1 (lack_next t k keys apart lack) (free_first.1 (with_place t (about.Rule k)) refl) (omega (arith, next, room)) in
    omega (arith, rest, next)
