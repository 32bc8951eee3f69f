-- By cases on the key that is looked up; what is not served differs at a keyspace, at an entry, or in its places.
use Rattle.std.proofs.Common.{◌≡◌, ◌≢◌, ℕ, Bool, true, false, List, [], ◌∷◌, codes, Option, is_some, length, arith}
use Rattle.std.proofs.Common.{refl, sym, ap, ◌∙◌}
use Rattle.std.proofs.lemmas.Bool.{true≢false}
use Rattle.std.proofs.lemmas.List.Elements.{All-from_recursion}
use Rattle.std.specs.List.{IsDistinct}
use Rattle.std.specs.Map.{keys_of, lookup}
use Rattle.std.specs.Option.{option_map_or}
use Rattle.mt_names.specs.declared.keys.RuleKey.{RuleKey}
use Rattle.mt_names.specs.Names.{same_text}
use Rattle.mt_names.specs.Same.{DecidesEquality, same_key}
use Rattle.mt_names.proofs.SameLemmas.{same_key_decides, same_text_decides}
use Rattle.mt_model.specs.declared.entries.Entry.TheVariants as entry
use Rattle.mt_model.specs.declared.entries.EntryKey.{EntryKey}
use Rattle.mt_model.specs.declared.entries.EntryKey.TheVariants as about
use Rattle.mt_model.specs.Topology.{HasDistinctPlaces, KeyspaceState, is_marked, is_routed, new_keyspace, value_of}
use Rattle.mt_plain.specs.Serve.{mark_in, served_entry}
use Rattle.mt_worked.specs.States.{commerce, corder, customer, plain}
use Rattle.mt_worked.specs.Topologies.{turned, two_keyspaces, with_a_rule, with_blank_place, with_the_table}
use Rattle.mt_worked.proofs.topologies.topologies_are_served_by_what_they_say.Goals as goal

-- two places, of which the one that is looked up is found whichever comes first
lookup-turned : {K V : Type 0} (same : K → K → Bool) → DecidesEquality same → (a b k : K) (x y : V) → a ≢ b
    → lookup (same k) ((a, x) ∷ (b, y) ∷ []) ≡ lookup (same k) ((b, y) ∷ (a, x) ∷ [])
lookup-turned same decides a b k x y apart = by (same k a) (same k b) refl refl
  where
    by : (s t : Bool) → same k a ≡ s → same k b ≡ t
        → lookup (same k) ((a, x) ∷ (b, y) ∷ []) ≡ lookup (same k) ((b, y) ∷ (a, x) ∷ [])
    by true true s t = absurd (apart (sym ((decides k a).0 s) ∙ (decides k b).0 t))
    by true false s t = rw (s, t) refl
    by false true s t = rw (s, t) refl
    by false false s t = rw (s, t) refl

rule_places : HasDistinctPlaces with_a_rule.topology
unfolding IsDistinct
rule_places =
    record {
      rules = (tt, tt);
      keyspaces = (tt, tt);
      tables = All-from_recursion (λ k. IsDistinct same_text (keys_of k.1.tables)) with_a_rule.topology.keyspaces ((tt, tt), tt);
      denied = All-from_recursion (λ k. IsDistinct same_text (keys_of k.1.denied)) with_a_rule.topology.keyspaces (tt, tt);
    }

blank_places : HasDistinctPlaces with_blank_place
unfolding IsDistinct
blank_places = record { rules = ((refl, tt), (tt, tt)); keyspaces = rule_places.keyspaces; tables = rule_places.tables; denied = rule_places.denied }

turned_places : HasDistinctPlaces turned
unfolding IsDistinct
turned_places =
    record {
      rules = tt;
      keyspaces = ((refl, tt), (tt, tt));
      tables = All-from_recursion (λ k. IsDistinct same_text (keys_of k.1.tables)) turned.keyspaces (tt, ((tt, tt), tt));
      denied = All-from_recursion (λ k. IsDistinct same_text (keys_of k.1.denied)) turned.keyspaces (tt, (tt, tt));
    }

pub returns-clause-what_was_made_by_hand_is_served : goal.returns-clause-what_was_made_by_hand_is_served
returns-clause-what_was_made_by_hand_is_served c = record { keyspaces = λ name. refl; shards = λ name. refl; entries = λ key. refl; places = rule_places }

pub returns-clause-a_place_that_holds_nothing_may_stand : goal.returns-clause-a_place_that_holds_nothing_may_stand
returns-clause-a_place_that_holds_nothing_may_stand c = record { keyspaces = λ name. refl; shards = λ name. refl; entries = each; places = blank_places }
  where
    of_rule : (key : RuleKey) (t : Bool) → same_key key (plain corder) ≡ t
        → value_of with_blank_place (about.Rule key) ≡ value_of with_a_rule.topology (about.Rule key)
    of_rule key true t =
        let is : key ≡ plain corder = (same_key_decides key (plain corder)).0 t in
        let there : value_of with_blank_place (about.Rule (plain corder)) ≡ value_of with_a_rule.topology (about.Rule (plain corder)) = refl in
        ap (λ k. value_of with_blank_place (about.Rule k)) is ∙ there ∙ ap (λ k. value_of with_a_rule.topology (about.Rule k)) (sym is)
    of_rule key false t = rw t refl

    each : (key : EntryKey) → value_of with_blank_place key ≡ served_entry with_a_rule key
    each (about.Rule key) = of_rule key (same_key key (plain corder)) refl
    each (about.Denied keyspace table) = refl
    each (about.Present keyspace table) = refl

pub returns-clause-keyspaces_may_stand_in_another_order : goal.returns-clause-keyspaces_may_stand_in_another_order
returns-clause-keyspaces_may_stand_in_another_order c =
    record { keyspaces = λ name. ap is_some (found name); shards = λ name. ap (λ o. option_map_or (λ state. state.cuts) o []) (found name); entries = each; places = turned_places }
  where
    found : (name : List ℕ)
        → lookup (same_text name) turned.keyspaces ≡ lookup (same_text name) two_keyspaces.topology.keyspaces
    found name =
        lookup-turned same_text same_text_decides customer commerce name (new_keyspace []) with_the_table
        (λ e. true≢false (sym ((same_text_decides customer commerce).1 e)))

    each : (key : EntryKey) → value_of turned key ≡ served_entry two_keyspaces key
    each (about.Rule key) = refl
    each (about.Denied keyspace table) = ap (λ (o : Option KeyspaceState). entry.Denied keyspace table (option_map_or (λ state. is_marked state.denied table) o false)) (found keyspace)
    each (about.Present keyspace table) = ap (λ (o : Option KeyspaceState). entry.Present keyspace table (option_map_or (λ state. is_marked state.tables table) o false)) (found keyspace)

pub returns-clause-no_rule_may_be_lost : goal.returns-clause-no_rule_may_be_lost
returns-clause-no_rule_may_be_lost c = λ served. let wrong : false ≡ true = ap is_routed (served.entries (about.Rule (plain (codes "c")))) in true≢false (sym wrong)

pub returns-clause-no_place_may_stand_twice : goal.returns-clause-no_place_may_stand_twice
unfolding IsDistinct
returns-clause-no_place_may_stand_twice c = λ served. let wrong : true ≡ false = served.places.rules.0.0 in true≢false wrong

pub returns-clause-no_denial_may_be_invented : goal.returns-clause-no_denial_may_be_invented
returns-clause-no_denial_may_be_invented c = λ served. let wrong : true ≡ false = ap mark_in (served.entries (about.Denied commerce corder)) in true≢false wrong

pub returns-clause-no_shard_may_be_invented : goal.returns-clause-no_shard_may_be_invented
returns-clause-no_shard_may_be_invented c = λ served. let wrong : 1 ≡ 0 = ap length (served.shards commerce) in omega (arith, wrong)

pub returns-clause-no_keyspace_may_be_lost : goal.returns-clause-no_keyspace_may_be_lost
returns-clause-no_keyspace_may_be_lost c = λ served. let wrong : false ≡ true = served.keyspaces customer in true≢false (sym wrong)

pub returns-clause-no_keyspace_may_be_invented : goal.returns-clause-no_keyspace_may_be_invented
returns-clause-no_keyspace_may_be_invented c = λ served. let wrong : true ≡ false = served.keyspaces (codes "third") in true≢false wrong
