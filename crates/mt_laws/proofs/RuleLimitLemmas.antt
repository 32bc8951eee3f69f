-- In each state that a run reaches there are no more rule entries than the limit, those of live workflows among them.
use Rattle.std.proofs.Common.{◌≡◌, ◌≢◌, ℕ, suc, ◌+◌, ◌≤◌, Bool, true, false, not, cond, List, [], ◌∷◌, ◌++◌, map, filter, length, Option, None, Some, is_some, refl, sym, ap, ◌∙◌, subst, arith, leb, ltb, ltb-false}
use Rattle.std.proofs.lemmas.Bool.{leb-false, true≢false}
use Rattle.std.proofs.lemmas.List.Sums.{sum_by_from, sum_by_push}
use Rattle.std.proofs.lemmas.Map.{length-set_value}
use Rattle.std.specs.List.{flat_map, fold, sum_by}
use Rattle.std.specs.Map.{lookup, remove_entry}
use Rattle.std.specs.Option.{option_map_or}
use Rattle.mt_names.specs.declared.keys.RuleKey.{RuleKey}
use Rattle.mt_names.specs.declared.keys.RuleTarget.{RuleTarget}
use Rattle.mt_names.specs.Names.{same_text}
use Rattle.mt_names.specs.Same.{same_key}
use Rattle.mt_names.proofs.EntryLemmas.{lookup-remove_entry_elsewhere, lookup-set_value_elsewhere, same_itself}
use Rattle.mt_names.proofs.SameLemmas.{same_key_decides, same_text_decides}
use Rattle.mt_model.specs.declared.entries.EntryKey.TheVariants as about
use Rattle.mt_model.specs.Limits.{most_rules, most_tables_in_keyspace}
use Rattle.mt_model.specs.Order.{key_before}
use Rattle.mt_model.proofs.OrderLemmas.{length-put_by, lookup-put_by_elsewhere}
use Rattle.mt_model.specs.Topology.{Rules, put_rule, with_rule, with_rule_place}
use Rattle.mt_plain.specs.Events.{Event, edit_rule, create, advance, begin_switch, begin_reverse, step, undo, cancel, complete, StreamName, done, advanced, full, rule_owned}
use Rattle.mt_plain.specs.Next.{next_taken, with_advance, with_completed}
use Rattle.mt_plain.specs.Plain.{Live, Plain, each_once, has_part, live_at, part_owner, rule_keys, twelve_keys}
use Rattle.mt_plain.specs.Refuse.{keys_without_rule, most_workflows, refusal_of, refuse_if, rule_count, rule_refusal, table_count}
use Rattle.mt_laws.specs.Changes.{HasSides}
use Rattle.mt_laws.specs.WayBack.{IsReached}
use Rattle.mt_laws.proofs.ChangeLemmas.{live_next, live_taken, lives-advance, sides-next}
use Rattle.mt_laws.proofs.CountLemmas.{count-flat_map, length-remove, length-removed, sum-filter, sum-map, sum-same}
use Rattle.mt_laws.proofs.EntryValueLemmas.{lookup-without}
use Rattle.mt_laws.proofs.LimitLemmas.{neither, reached_taken}
use Rattle.mt_laws.proofs.ReachLemmas.{create-none}
use Rattle.mt_laws.proofs.LiveLemmas.{IsIn, any-in, find_none, find_some, in-filter, unique}
use Rattle.mt_laws.proofs.PartLemmas.{HasParts, edit_rule-none, moved_from_part}
use Rattle.mt_laws.proofs.RefusalLemmas.{or_else-none, refuse_if-none}
use Rattle.mt_laws.proofs.ServeLemmas.{key_in_part}

-- the keys of a workflow's part that have no rule
abbrev lacking : Rules → Live → ℕ
lacking rules w = keys_without_rule rules (rule_keys w)

abbrev entries_in : Rules → List Live → ℕ
entries_in rules lives = length rules + sum_by (lacking rules) lives

count_is : (p : Plain) → rule_count p ≡ entries_in p.topology.rules p.lives
count_is p = sum_by_from (lacking p.topology.rules) (length p.topology.rules) p.lives

abbrev RulesFit : Plain → Type 0
RulesFit p = entries_in p.topology.rules p.lives ≤ 4096

-- ---- live workflows that change

keys-same : (v w : Live) → HasSides w v → rule_keys v ≡ rule_keys w
keys-same v w same =
    ap (λ k. flat_map (twelve_keys k v.target) v.tables) (sym same.source) ∙ ap (λ k. flat_map (twelve_keys w.source k) v.tables) (sym same.target)
    ∙ ap (λ l. flat_map (twelve_keys w.source w.target) l) (sym same.tables)

rules-mapped : (rules : Rules) (f : Live → Live) (lives : List Live) → ((w : Live) → HasSides w (f w)) → entries_in rules lives ≤ 4096 → entries_in rules (map f lives) ≤ 4096
rules-mapped rules f lives same fits =
    let a = sum-map (lacking rules) f lives (λ w. ap (keys_without_rule rules) (keys-same (f w) w (same w))) in omega arith

rules-filtered : (rules : Rules) (keep : Live → Bool) (lives : List Live) → entries_in rules lives ≤ 4096 → entries_in rules (filter keep lives) ≤ 4096
rules-filtered rules keep lives fits = let a = sum-filter (lacking rules) keep lives in omega arith

-- ---- rules that change

-- the keys of a part are entries of it
of_part : (w : Live) (key : RuleKey) → IsIn key (rule_keys w) → has_part w (about.Rule key) ≡ true
of_part w key is = sym (key_in_part w key) ∙ any-in (same_key key) (rule_keys w) key is (same_itself same_key same_key_decides key)

-- where the same keys of a part have a rule
lacking-same : (rules more : Rules) (w : Live) → ((key : RuleKey) → IsIn key (rule_keys w) → lookup (same_key key) more ≡ lookup (same_key key) rules) → lacking more w ≡ lacking rules w
lacking-same rules more w each =
    sum-same (λ key. cond (not (is_some (lookup (same_key key) more))) 1 0) (λ key. cond (not (is_some (lookup (same_key key) rules))) 1 0) (rule_keys w)
    (λ key is. ap (λ o. cond (not (is_some o)) 1 0) (each key is))

all-lacking : (rules more : Rules) (lives : List Live) → ((w : Live) → IsIn w lives → (key : RuleKey) → IsIn key (rule_keys w) → lookup (same_key key) more ≡ lookup (same_key key) rules)
    → sum_by (lacking more) lives ≡ sum_by (lacking rules) lives
all-lacking rules more lives each = sum-same (lacking more) (lacking rules) lives (λ w is. lacking-same rules more w (each w is))

-- an edit leaves each other key
edit-elsewhere : (rules : Rules) (key other : RuleKey) (target : Option RuleTarget) → key ≢ other → lookup (same_key other) (with_rule rules key target) ≡ lookup (same_key other) rules
edit-elsewhere rules key other None differ = lookup-remove_entry_elsewhere same_key same_key_decides rules key other differ
edit-elsewhere rules key other (Some target) differ =
    lookup-set_value_elsewhere same_key same_key_decides (with_rule_place rules key) key other (Some target) differ ∙ by (lookup (same_key key) rules)
  where
    by : (o : Option (Option RuleTarget)) → lookup (same_key other) (option_map_or (λ rule. rules) o (put_rule rules (key, None))) ≡ lookup (same_key other) rules
    by None = lookup-put_by_elsewhere key_before same_key same_key_decides rules key other None differ
    by (Some rule) = refl

edit-length : (rules : Rules) (key : RuleKey) (target : RuleTarget) → length (with_rule rules key (Some target)) ≡ length rules + cond (is_some (lookup (same_key key) rules)) 0 1
edit-length rules key target = length-set_value (same_key key) (with_rule_place rules key) (Some target) ∙ by (lookup (same_key key) rules)
  where
    by : (o : Option (Option RuleTarget)) → length (option_map_or (λ rule. rules) o (put_rule rules (key, None))) ≡ length rules + cond (is_some o) 0 1
    by None = let is : length (put_rule rules (key, None)) ≡ suc (length rules) = length-put_by key_before rules (key, None) in omega (arith, is)
    by (Some rule) = omega arith

module _ (p : Plain) (key : RuleKey) (target : Option RuleTarget) (none : refusal_of p (edit_rule key target) ≡ None) (fits : RulesFit p) where
  unowned : (w : Live) → IsIn w p.lives → has_part w (about.Rule key) ≡ false
  unowned w is = find_none (λ v. has_part v (about.Rule key)) p.lives (edit_rule-none p key target none) w is

  edit-lacking : sum_by (lacking (with_rule p.topology.rules key target)) p.lives ≡ sum_by (lacking p.topology.rules) p.lives
  edit-lacking =
      all-lacking p.topology.rules (with_rule p.topology.rules key target) p.lives
      (λ w is other in_it. edit-elsewhere p.topology.rules key other target (λ e. true≢false (sym (of_part w other in_it) ∙ ap (λ k. has_part w (about.Rule k)) (sym e) ∙ unowned w is)))

  edit-limit : rule_refusal p key target ≡ None
  edit-limit = (or_else-none (refuse_if (is_some (part_owner p (about.Rule key))) rule_owned) (rule_refusal p key target) none).1

edited-fits : (p : Plain) (key : RuleKey) (target : Option RuleTarget) → refusal_of p (edit_rule key target) ≡ None → RulesFit p → entries_in (with_rule p.topology.rules key target) p.lives ≤ 4096
edited-fits p key None none fits = let a = edit-lacking p key None none fits in let b = length-remove (same_key key) p.topology.rules in omega arith
edited-fits p key (Some target) none fits = by (is_some (lookup (same_key key) p.topology.rules)) refl
  where
    by : (t : Bool) → is_some (lookup (same_key key) p.topology.rules) ≡ t → entries_in (with_rule p.topology.rules key (Some target)) p.lives ≤ 4096
    by true t =
        let a = edit-lacking p key (Some target) none fits in
        let b : length (with_rule p.topology.rules key (Some target)) ≡ length p.topology.rules + 0 = edit-length p.topology.rules key target ∙ ap (λ c. length p.topology.rules + cond c 0 1) t in
        omega arith
    by false t =
        let a = edit-lacking p key (Some target) none fits in
        let b : length (with_rule p.topology.rules key (Some target)) ≡ length p.topology.rules + 1 = edit-length p.topology.rules key target ∙ ap (λ c. length p.topology.rules + cond c 0 1) t in
        let c = edit-limit p key (Some target) none fits in
        let d : refuse_if (leb most_rules (rule_count p)) full ≡ None = sym (ap (λ c. cond c None (refuse_if (leb most_rules (rule_count p)) full)) t) ∙ c in
        let below = leb-false most_rules (rule_count p) (refuse_if-none (leb most_rules (rule_count p)) full d) in
        let e = count_is p in
        omega arith

-- ---- Create and Complete

created-fits : (p : Plain) (name source target : List ℕ) (tables : List (List ℕ)) (w : Live) → w.source ≡ source → w.target ≡ target → w.tables ≡ each_once tables → refusal_of p (create name source target tables) ≡ None
    → entries_in p.topology.rules (p.lives ++ w ∷ []) ≤ 4096
created-fits p name source target tables w is_source is_target is_tables none =
    let tests = neither (leb most_workflows (length p.lives)) (ltb most_tables_in_keyspace (table_count p target + length (each_once tables))) (ltb most_rules (fold (λ n table. n + keys_without_rule p.topology.rules (twelve_keys source target table)) (rule_count p) (each_once tables))) (create-none p name source target tables none).room in
    let limit = ltb-false most_rules (fold (λ n table. n + keys_without_rule p.topology.rules (twelve_keys source target table)) (rule_count p) (each_once tables)) tests.2 in
    let folded = sum_by_from (λ table. keys_without_rule p.topology.rules (twelve_keys source target table)) (rule_count p) (each_once tables) in
    let counted = count-flat_map (λ key. not (is_some (lookup (same_key key) p.topology.rules))) (twelve_keys source target) (each_once tables) in
    let keys : rule_keys w ≡ flat_map (twelve_keys source target) (each_once tables) =
    ap (λ k. flat_map (twelve_keys k w.target) w.tables) is_source ∙ ap (λ k. flat_map (twelve_keys source k) w.tables) is_target ∙ ap (λ l. flat_map (twelve_keys source target) l) is_tables in
    let one : lacking p.topology.rules w ≡ keys_without_rule p.topology.rules (flat_map (twelve_keys source target) (each_once tables)) = ap (keys_without_rule p.topology.rules) keys in
    let more = sum_by_push (lacking p.topology.rules) p.lives w in
    let all = count_is p in
    omega arith

module _ (p : Plain) (has : HasParts p) (w : Live) (in_it : IsIn w p.lives) (fits : RulesFit p) where
  abbrev left : Rules
  left = fold (λ rules key. remove_entry (same_key key) rules) p.topology.rules (rule_keys w)

  abbrev keep : Live → Bool
  keep v = not (same_text v.name w.name)

  -- no key of another workflow is taken away
  other_keys : (v : Live) → IsIn v (filter keep p.lives) → (key : RuleKey) → IsIn key (rule_keys v) → lookup (same_key key) left ≡ lookup (same_key key) p.topology.rules
  other_keys v is key in_v = lookup-without same_key same_key_decides (rule_keys w) p.topology.rules key apart_from
    where
      kept : IsIn v p.lives × (keep v ≡ true)
      kept = in-filter keep p.lives v is

      apart_from : (other : RuleKey) → IsIn other (rule_keys w) → other ≢ key
      apart_from other in_w e =
          let at_w : has_part w (about.Rule key) ≡ true = ap (λ k. has_part w (about.Rule k)) (sym e) ∙ of_part w other in_w in
          let one = unique p.lives v w has.apart kept.0 in_it (λ apart. apart.tables key.table (moved_from_part v (about.Rule key) (of_part v key in_v)) (moved_from_part w (about.Rule key) at_w)) in
          true≢false (sym kept.1 ∙ ap not ((same_text_decides v.name w.name).1 (ap (λ x. x.name) one)))

  completed-fits : entries_in left (filter keep p.lives) ≤ 4096
  completed-fits =
      let a = all-lacking p.topology.rules left (filter keep p.lives) other_keys in
      let b = sum-filter (lacking p.topology.rules) keep p.lives in
      let c = length-removed same_key (rule_keys w) p.topology.rules in
      omega arith

-- ---- each event

rules-taken : (p : Plain) (event : Event) → HasParts p → refusal_of p event ≡ None → RulesFit p → RulesFit (next_taken p event)
rules-taken p (edit_rule key target) has none fits = edited-fits p key target none fits
rules-taken p (create name source target tables) has none fits = created-fits p name source target tables _ refl refl refl none
rules-taken p (begin_switch workflow types) has none fits = rules-mapped p.topology.rules (live_taken p (begin_switch workflow types)) p.lives (sides-next p (begin_switch workflow types) done) fits
rules-taken p (begin_reverse workflow types) has none fits = rules-mapped p.topology.rules (live_taken p (begin_reverse workflow types)) p.lives (sides-next p (begin_reverse workflow types) done) fits
rules-taken p (step workflow at) has none fits = rules-mapped p.topology.rules (live_taken p (step workflow at)) p.lives (sides-next p (step workflow at) done) fits
rules-taken p (undo workflow at) has none fits = rules-mapped p.topology.rules (live_taken p (undo workflow at)) p.lives (sides-next p (undo workflow at) done) fits
rules-taken p (cancel workflow) has none fits = rules-filtered p.topology.rules (λ w. not (same_text w.name workflow)) p.lives fits
rules-taken p (complete workflow) has none fits = by (live_at p workflow) refl
  where
    by : (o : Option Live) → live_at p workflow ≡ o → RulesFit (with_completed p o)
    by None live = fits
    by (Some w) live = completed-fits p has w (find_some (λ v. same_text v.name workflow) p.lives w live).0 fits
rules-taken p event has none fits = fits

rules-advance : (p : Plain) (workflow : List ℕ) (stream : StreamName) (shard at at_most events rows : ℕ) (o : Option Live) → live_at p workflow ≡ o → RulesFit p → RulesFit (with_advance p stream shard at at_most events rows o)
rules-advance p workflow stream shard at at_most events rows None live fits = fits
rules-advance p workflow stream shard at at_most events rows (Some w) live fits =
    subst (λ l. entries_in p.topology.rules l ≤ 4096) (sym (lives-advance p workflow stream shard at at_most events rows (Some w) live))
    (rules-mapped p.topology.rules (live_next p (advance workflow stream shard at at_most) (advanced events rows)) p.lives (sides-next p (advance workflow stream shard at at_most) (advanced events rows)) fits)

pub rules_fit : (p : Plain) → IsReached p → rule_count p ≤ most_rules
rules_fit p reached =
    let a = count_is p in
    let b = reached_taken RulesFit (λ scopes. omega arith) rules-taken rules-advance p reached in
    omega arith
