-- The keys of a part are those that lie in it, by the test of keys.
use Rattle.std.proofs.Common.{rules, ◌≡◌, cond, ℕ, zero, suc, ◌<◌, Bool, true, false, ◌&&◌, ◌||◌, List, [], ◌∷◌, ◌++◌, All, Contains, length, map, slice_index_or, Option, None, Some, refl, ap, sym, subst, arith, ◌∙◌}
use Rattle.std.specs.List.{filter, flat_map, list_any}
use Rattle.std.proofs.Math.Bool.{and-false}
use Rattle.std.specs.Cmp.{both_ways}
use Rattle.std.proofs.lemmas.Bool.{true≢false, or_left, or_right}
use Rattle.mt_names.specs.Same.{DecidesEquality, same_key}
use Rattle.std.specs.Option.{option_map_or}
use Rattle.std.proofs.Math.ListN.{get_or-map}
use Rattle.std.proofs.lemmas.List.{length-map}
use Rattle.std.proofs.lemmas.List.Elements.{All-append, All-contains_itself, All-from_recursion, All-head, All-nil, All-tail, Contains-append_left, Contains-append_right}
use Rattle.mt_names.specs.declared.keys.RuleKey.{RuleKey}
use Rattle.mt_names.specs.declared.types.TabletType.{TabletType}
use Rattle.mt_names.specs.declared.types.TabletType.TheVariants.{Primary, Replica, Rdonly}
use Rattle.mt_names.specs.Names.{same_text}
use Rattle.mt_names.proofs.BoolLemmas.{or-true}
use Rattle.mt_names.proofs.SameLemmas.{same_key_decides, same_text_decides}
use Rattle.mt_model.specs.declared.entries.EntryKey.{EntryKey}
use Rattle.mt_model.specs.declared.entries.EntryKey.TheVariants as about
use Rattle.mt_model.specs.Part.{keys_of_name, part_keys, table_part_keys, table_rule_keys}
use Rattle.mt_model.proofs.AboutLemmas.{same_about_decides}
use Rattle.mt_plain.specs.Plain.{Live, among, has_part, is_side, moves, rule_keys}
use Rattle.mt_workflow.proofs.MemberLemmas.{all_counted, each_moved, in_part, rule_in_part}
use Rattle.mt_stands.specs.Keys.{keys_of_part, lists, same_about}

-- ---- by the test of keys

module _ {K : Type 0} (same : K → K → Bool) (decides : DecidesEquality same) where
  -- a key that stands there is found
  pub any_there : (keys : List K) (key : K) (i : ℕ) → i < length keys → slice_index_or keys i key ≡ key → list_any (λ k. same k key) keys ≡ true
  any_there [] key i below is = absurd (omega (arith, below))
  any_there (k ∷ ks) key zero below is = or_left (same k key) (list_any (λ j. same j key) ks) ((decides k key).1 is)
  any_there (k ∷ ks) key (suc i) below is = or_right (same k key) (list_any (λ j. same j key) ks) (any_there ks key i (omega (arith, below)) is)

  -- what holds of all of them holds of one that is found
  from_any : (P : K → Type 0) (keys : List K) (key : K) → All P keys → list_any (λ k. same k key) keys ≡ true → P key
  from_any P [] key all is = absurd (true≢false (sym is))
  from_any P (k ∷ ks) key all is = by (from_any P ks key) (same k key) refl
    where
      by : (All P ks → list_any (λ j. same j key) ks ≡ true → P key) → (t : Bool) → same k key ≡ t → P key
      by again true t = subst P ((decides k key).0 t) (All-head P k ks all)
      by again false t = again (All-tail P k ks all) (sym (ap (λ b. b || list_any (λ j. same j key) ks) t) ∙ is)

pub from_listed : (P : EntryKey → Type 0) (keys : List EntryKey) (key : EntryKey) → All P keys → lists keys key ≡ true → P key
from_listed = from_any same_about same_about_decides

pub listed_part : (w : Live) (key : EntryKey) → lists (keys_of_part w) key ≡ has_part w key
listed_part w key =
    both_ways (lists (keys_of_part w) key) (has_part w key)
    (from_listed (λ k. has_part w k ≡ true) (keys_of_part w) key (all_counted w))
    (λ part. let there = in_part w key part in any_there same_about same_about_decides (keys_of_part w) key there.0 there.1 there.2)

-- the rule keys among them
rules_counted : (w : Live) (tables : List (List ℕ)) → All (λ t. moves w t ≡ true) tables → All (λ key. has_part w (about.Rule key) ≡ true) (flat_map (table_rule_keys w.source w.target) tables)
rules_counted w [] all = All-nil (λ key. has_part w (about.Rule key) ≡ true)
rules_counted w (table ∷ tables) all =
    let moved : moves w table ≡ true = All-head (λ t. moves w t ≡ true) table tables all in
    let source : same_text w.source w.source ≡ true = (same_text_decides w.source w.source).1 refl in
    let target : same_text w.target w.target ≡ true = (same_text_decides w.target w.target).1 refl in
    let plain : (moves w table && true) ≡ true = rw moved refl in
    let at_source : (moves w table && is_side w w.source) ≡ true = rw (moved, source) refl in
    let at_target : (moves w table && is_side w w.target) ≡ true = rw (moved, target) (or-true (same_text w.source w.target)) in
    All-append (λ key. has_part w (about.Rule key) ≡ true) (table_rule_keys w.source w.target table) (flat_map (table_rule_keys w.source w.target) tables)
    (All-from_recursion (λ key. has_part w (about.Rule key) ≡ true) (table_rule_keys w.source w.target table)
    (plain, (plain, (plain, (plain, (at_source, (at_source, (at_source, (at_source, (at_target, (at_target, (at_target, (at_target, tt)))))))))))))
    (rules_counted w tables (All-tail (λ t. moves w t ≡ true) table tables all))

pub listed_rules : (w : Live) (key : RuleKey) → list_any (λ k. same_key k key) (rule_keys w) ≡ has_part w (about.Rule key)
listed_rules w key =
    both_ways (list_any (λ k. same_key k key) (rule_keys w)) (has_part w (about.Rule key))
    (from_any same_key same_key_decides (λ k. has_part w (about.Rule k) ≡ true) (rule_keys w) key (rules_counted w w.tables (each_moved w)))
    (λ part. let there = rule_in_part w key part in any_there same_key same_key_decides (rule_keys w) key there.0 there.1 there.2)

-- some of the keys
pub listed_some : (test : EntryKey → Bool) (keys : List EntryKey) (key : EntryKey) → lists (filter test keys) key ≡ (lists keys key && test key)
listed_some test [] key = refl
listed_some test (k ∷ ks) key = by (listed_some test ks key) (same_about k key) (test k) refl refl
  where
    whole : (a : Bool) → same_about k key ≡ a → (lists (k ∷ ks) key && test key) ≡ ((a || lists ks key) && test key)
    whole a is = ap (λ x. (x || lists ks key) && test key) is

    by : lists (filter test ks) key ≡ (lists ks key && test key) → (a b : Bool) → same_about k key ≡ a → test k ≡ b
        → lists (cond (test k) (k ∷ filter test ks) (filter test ks)) key ≡ (lists (k ∷ ks) key && test key)
    by again true b a t =
        let same : test key ≡ b = ap test (sym ((same_about_decides k key).0 a)) ∙ t in
        ap (λ x. lists (cond x (k ∷ filter test ks) (filter test ks)) key) t ∙ here b same ∙ sym (whole true a ∙ same)
      where
        here : (b : Bool) → test key ≡ b → lists (cond b (k ∷ filter test ks) (filter test ks)) key ≡ b
        here true same = or_left (same_about k key) (lists (filter test ks) key) a
        here false same = again ∙ ap (λ x. lists ks key && x) same ∙ and-false (lists ks key)
    by again false true a t =
        ap (λ x. lists (cond x (k ∷ filter test ks) (filter test ks)) key) t ∙ ap (λ x. x || lists (filter test ks) key) a ∙ again ∙ sym (whole false a)
    by again false false a t =
        ap (λ x. lists (cond x (k ∷ filter test ks) (filter test ks)) key) t ∙ again ∙ sym (whole false a)
