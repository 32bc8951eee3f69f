-- A keyspace and a rule by hand as events.
use Rattle.std.proofs.Common.{◌≡◌, ◌≢◌, ⊎_elim, ℕ, ◌+◌, ◌≤◌, ◌<◌, Bool, true, false, not, cond, AllPairs, List, [], ◌∷◌, length, Option, None, Some, is_some, refl, sym, ap, ◌∙◌, subst, length-append}
use Rattle.std.proofs.lemmas.Bool.{false_from_ne_true, true≢false}
use Rattle.std.specs.List.{list_any}
use Rattle.std.specs.Map.{lookup}
use Rattle.std.specs.Option.{option_map_or}
use Rattle.std.specs.Prelude.{◌&&◌, ◌||◌, nat_le}
use Rattle.mt_names.specs.declared.keys.RuleKey.{RuleKey}
use Rattle.mt_names.specs.declared.keys.RuleTarget.{RuleTarget}
use Rattle.mt_names.specs.Names.{same_text}
use Rattle.mt_names.specs.Same.{same_key}
use Rattle.mt_names.specs.Shards.{AreCuts, Cuts, shard_count}
use Rattle.mt_names.proofs.EntryLemmas.{apart, lookup-push_elsewhere, lookup-push_here, none_from, same_or_other}
use Rattle.mt_names.proofs.SameLemmas.{same_text_decides}
use Rattle.mt_model.specs.declared.entries.EntryKey.TheVariants as about
use Rattle.mt_model.specs.declared.entries.Scope.{Scope}
use Rattle.mt_model.specs.Limits.{most_keyspaces, most_rules}
use Rattle.mt_model.specs.Topology.{KeyspaceState, Keyspaces, TopologyState, cuts_at, is_marked, is_present, keyspace_at, new_keyspace, with_keyspace, with_rule}
use Rattle.mt_primary.specs.Primary.{has_table, is_denied_at}
use Rattle.mt_topology.specs.Edits.{add_keyspace_refusal, edit_rule_grows, edit_rule_refusal}
use Rattle.mt_plain.specs.Answers.{Answers, answer_of}
use Rattle.mt_plain.specs.Events.{Answer, Event, add_keyspace, done, edit_rule, exists, full, rule_owned}
use Rattle.mt_plain.specs.Next.{next}
use Rattle.mt_plain.specs.Plain.{Live, Plain, cuts_of, has_keyspace, mover, moves, part_owner}
use Rattle.mt_plain.specs.Refuse.{may_grow, or_else, refusal_of, refuse_if, rule_count, rule_refusal}
use Rattle.mt_plain.specs.Serve.{list_types, refuses, refuses_by}
use Rattle.mt_plain.specs.Serve.{is_denied_at as is_denied}
use Rattle.mt_plain.specs.Serve as plain
use Rattle.mt_laws.specs.Places.{IsWithinLimits}
use Rattle.mt_laws.specs.WayBack.{IsReached}
use Rattle.mt_laws.proofs.LiveLemmas.{find_some}
use Rattle.mt_laws.proofs.ReachLemmas.{reached_has_parts}
use Rattle.mt_stands.specs.Topologies.{TopologyStands}
use Rattle.mt_stands.specs.Rows as rows
use Rattle.mt_stands.proofs.KeepLemmas.{there_by, there_pushed}
use Rattle.mt_stands.proofs.KnownLemmas.{same_primaries}
use Rattle.mt_stands.specs.ByHand.{AddsKeyspace, EditsRule, is_owned}
use Rattle.mt_primary.specs.Primaries as primaries
use Rattle.mt_primary.specs.Primaries.{Primaries, ShardsState, count_of, has_primaries, new_shards, primary_of, shards_of}
use Rattle.mt_primary.proofs.PrimariesLemmas.{count-with_keyspace_elsewhere, count-with_keyspace_here, length-with_keyspace, of-with_keyspace_elsewhere, of-with_keyspace_here, primary-with_keyspace, primary-with_keyspace_here}
use Rattle.mt_stands.specs.Base.{BaseState}
use Rattle.mt_stands.specs.Stands.{StandsWith, Steps}
use Rattle.mt_refinement.proofs.HandBaseLemmas.{is_some-push_both}
use Rattle.mt_refinement.proofs.KeptLemmas.{Laws, base_stands, does_steps}
use Rattle.mt_refinement.proofs.OwnedLemmas.{owned_is}
use Rattle.mt_refinement.proofs.HandRefusalLemmas.{keyspace_told, rule_told, told}

-- ---- a keyspace more

-- what the laws say of it
pub record KeyspaceLaws : Type 0 where
  pub answered : (p : Plain) (event : Event) → Answers p event (answer_of p event)
  pub limits : (p : Plain) → IsReached p → IsWithinLimits p
  pub count : (p : Plain) (t : TopologyState) → IsReached p → TopologyStands p t → length t.keyspaces ≡ length p.topology.keyspaces
  pub topology : (p : Plain) (t : TopologyState) (name : List ℕ) (cuts : Cuts) → Answers p (add_keyspace name cuts) done → TopologyStands p t → TopologyStands (next p (add_keyspace name cuts) done) (with_keyspace t name cuts)
  pub rows : (p : Plain) → IsReached p → (at : rows.Primaries) → rows.RowsStand p at → (name : List ℕ) (cuts : Cuts) → Answers p (add_keyspace name cuts) done → rows.RowsStand (next p (add_keyspace name cuts) done) at

-- a keyspace that refuses nothing isn't there yet
free_keyspace : (p : Plain) (name : List ℕ) (cuts : Cuts) → refusal_of p (add_keyspace name cuts) ≡ None → has_keyspace p name ≡ false
free_keyspace p name cuts none = by (has_keyspace p name) none
  where
    by : (b : Bool) → or_else (refuse_if b exists) (refuse_if (nat_le most_keyspaces (length p.topology.keyspaces)) full) ≡ None → b ≡ false
    by true e = absurd cc
    by false e = refl

-- nothing stands in a keyspace that isn't there
module _ (p : Plain) (reached : IsReached p) (name : List ℕ) (free : has_keyspace p name ≡ false) where
  not_side : (side : List ℕ) → has_keyspace p side ≡ true → same_text side name ≡ false
  not_side side there = apart same_text same_text_decides side name (λ e. true≢false (sym there ∙ ap (has_keyspace p) e ∙ free))

  none_refused : (n : ℕ) (table : List ℕ) → refuses p name n table ≡ false
  none_refused n table = by (mover p table) refl
    where
      by : (o : Option Live) → mover p table ≡ o → option_map_or (λ w. refuses_by w name n) o false ≡ false
      by None is = refl
      by (Some w) is =
          let placed = (reached_has_parts p reached).placed w (find_some (λ v. moves v table) p.lives w is).0 in
          ap (λ a. (a || same_text w.target name) && is_denied w (list_types w name n) name) (not_side w.source placed.source)
          ∙ ap (λ a. (false || a) && is_denied w (list_types w name n) name) (not_side w.target placed.target)

  none_has : (cuts : Cuts) (table : List ℕ) → cond (list_any (λ w. moves w table && same_text w.target name) p.lives) true (is_present (with_keyspace p.topology name cuts).keyspaces name table) ≡ false
  none_has cuts table =
      false_from_ne_true _
      (λ e. true≢false (sym (there_by p (λ w is. ((reached_has_parts p reached).placed w is).target) name table (there_pushed p name cuts name table e)) ∙ free))

-- what is new, and that the others stay
module _ (p : Plain) (name : List ℕ) (cuts : Cuts) where
  abbrev keyspaces : Keyspaces
  keyspaces = (with_keyspace p.topology name cuts).keyspaces

  elsewhere_at : (k : List ℕ) → name ≢ k → keyspace_at keyspaces k ≡ keyspace_at p.topology.keyspaces k
  elsewhere_at k other = lookup-push_elsewhere same_text same_text_decides p.topology.keyspaces name k (new_keyspace cuts) other

  cuts_here : has_keyspace p name ≡ false → cuts_at keyspaces name ≡ cuts
  cuts_here free =
      ap (λ (o : Option KeyspaceState). option_map_or (λ s. s.cuts) o [])
      (lookup-push_here same_text same_text_decides p.topology.keyspaces name (new_keyspace cuts) (none_from (keyspace_at p.topology.keyspaces name) free))

  cuts_elsewhere : (k : List ℕ) → name ≢ k → cuts_at keyspaces k ≡ cuts_of p k
  cuts_elsewhere k other = ap (λ (o : Option KeyspaceState). option_map_or (λ s. s.cuts) o []) (elsewhere_at k other)

  tables_elsewhere : (k table : List ℕ) → name ≢ k → is_present keyspaces k table ≡ is_present p.topology.keyspaces k table
  tables_elsewhere k table other = ap (λ (o : Option KeyspaceState). option_map_or (λ s. is_marked s.tables table) o false) (elsewhere_at k other)

module _ (laws : Laws) (law : KeyspaceLaws) (p : Plain) (scopes : List Scope) (old : BaseState) (name : List ℕ) (cuts : Cuts) (are_cuts : AreCuts cuts) (stands : StandsWith p scopes old) where
  keyspace_refusing : refusal_of p (add_keyspace name cuts) ≡ told (add_keyspace_refusal old.topology.keyspaces name)
  keyspace_refusing =
      let count = law.count p old.topology stands.reached stands.topology in
      let limit = (law.limits p stands.reached).keyspaces in
      ap (λ b. or_else (refuse_if b exists) (refuse_if (nat_le most_keyspaces (length p.topology.keyspaces)) full)) (sym (stands.topology.served.keyspaces name))
      ∙ ap (λ n. or_else (refuse_if (is_some (keyspace_at old.topology.keyspaces name)) exists) (refuse_if (nat_le most_keyspaces n) full)) (sym count)
      ∙ keyspace_told old.topology.keyspaces name (subst (λ n. n ≤ most_keyspaces) (sym count) limit)

  abbrev more : Primaries
  more = primaries.with_keyspace old.primaries name cuts

  module _ (given : Answers p (add_keyspace name cuts) done) where
    abbrev q : Plain
    q = next p (add_keyspace name cuts) done

    free : has_keyspace p name ≡ false
    free = free_keyspace p name cuts given.0

    absent : has_primaries old.primaries name ≡ false
    absent = stands.primaries.there name ∙ free

    -- what is so of the new keyspace and of each other one is so of each
    each_keyspace : (P : List ℕ → Type 0) → P name → ((k : List ℕ) → name ≢ k → P k) → (k : List ℕ) → P k
    each_keyspace P here other k = ⊎_elim (λ e. subst P e here) (other k) (same_or_other same_text same_text_decides name k)

    are_ascending : (k : List ℕ) → AreCuts (cuts_of q k)
    are_ascending =
        each_keyspace (λ k. AreCuts (cuts_of q k)) (subst AreCuts (sym (cuts_here p name cuts free)) are_cuts)
        (λ k other. subst AreCuts (sym (cuts_elsewhere p name cuts k other)) (stands.primaries.ascend k))

    are_cut : (k : List ℕ) → (shards_of more k).cuts ≡ cuts_of q k
    are_cut =
        each_keyspace (λ k. (shards_of more k).cuts ≡ cuts_of q k) (ap (λ (s : ShardsState). s.cuts) (of-with_keyspace_here old.primaries name cuts absent) ∙ sym (cuts_here p name cuts free))
        (λ k other. ap (λ (s : ShardsState). s.cuts) (of-with_keyspace_elsewhere old.primaries name cuts k other) ∙ stands.primaries.cuts k ∙ sym (cuts_elsewhere p name cuts k other))

    are_counted : (k : List ℕ) → has_keyspace q k ≡ true → count_of more k ≡ shard_count (cuts_of q k)
    are_counted =
        each_keyspace (λ k. has_keyspace q k ≡ true → count_of more k ≡ shard_count (cuts_of q k))
        (λ there. count-with_keyspace_here old.primaries name cuts absent ∙ ap shard_count (sym (cuts_here p name cuts free)))
        (λ k other there. count-with_keyspace_elsewhere old.primaries name cuts k other ∙ stands.primaries.shards k (sym (ap is_some (elsewhere_at p name cuts k other)) ∙ there)
        ∙ ap shard_count (sym (cuts_elsewhere p name cuts k other)))

    still_within : (k : List ℕ) (n : ℕ) → name ≢ k → n < count_of more k → n < count_of old.primaries k
    still_within k n other within = subst (λ m. n < m) (count-with_keyspace_elsewhere old.primaries name cuts k other) within

    have_tables : (k : List ℕ) (n : ℕ) → n < count_of more k → (table : List ℕ) → has_table (primary_of more k n) table ≡ plain.has_table q k table
    have_tables =
        each_keyspace (λ k. (n : ℕ) → n < count_of more k → (table : List ℕ) → has_table (primary_of more k n) table ≡ plain.has_table q k table)
        (λ n within table. ap (λ s. has_table s table) (primary-with_keyspace_here old.primaries name cuts absent n) ∙ sym (none_has p stands.reached name free cuts table))
        (λ k other n within table. ap (λ s. has_table s table) (primary-with_keyspace old.primaries name cuts absent k n) ∙ stands.primaries.tables k n (still_within k n other within) table
        ∙ sym (ap (λ b. cond (list_any (λ w. moves w table && same_text w.target k) p.lives) true b) (tables_elsewhere p name cuts k table other)))

    deny_tables : (k : List ℕ) (n : ℕ) → n < count_of more k → (table : List ℕ) → is_denied_at (primary_of more k n) table ≡ refuses q k n table
    deny_tables =
        each_keyspace (λ k. (n : ℕ) → n < count_of more k → (table : List ℕ) → is_denied_at (primary_of more k n) table ≡ refuses q k n table)
        (λ n within table. ap (λ s. is_denied_at s table) (primary-with_keyspace_here old.primaries name cuts absent n) ∙ sym (none_refused p stands.reached name free n table))
        (λ k other n within table. ap (λ s. is_denied_at s table) (primary-with_keyspace old.primaries name cuts absent k n) ∙ stands.primaries.denials k n (still_within k n other within) table)

    keyspace_making : StandsWith q scopes (record old { topology = with_keyspace old.topology name cuts; primaries = more })
    keyspace_making =
        base_stands laws p (add_keyspace name cuts) done stands.reached given refl scopes old (record old { topology = with_keyspace old.topology name cuts; primaries = more }) stands refl
        (law.topology p old.topology name cuts given stands.topology)
        (same_primaries q (primary_of old.primaries) (primary_of more) (law.rows p stands.reached (primary_of old.primaries) stands.rows name cuts given) (primary-with_keyspace old.primaries name cuts absent))
        (record {
          there = λ k. is_some-push_both old.primaries p.topology.keyspaces name k (new_shards cuts) (new_keyspace cuts) (stands.primaries.there k);
          count = length-with_keyspace old.primaries name cuts ∙ ap (λ n. n + 1) stands.primaries.count ∙ sym (length-append p.topology.keyspaces ((name, new_keyspace cuts) ∷ []));
          cuts = are_cut;
          ascend = are_ascending;
          shards = are_counted;
          tables = have_tables;
          denials = deny_tables;
        })

pub keyspace_steps : Laws → KeyspaceLaws → (scopes : List Scope) (old new : BaseState) (name : List ℕ) (cuts : Cuts) (answer : Answer) → AreCuts cuts → AddsKeyspace old name cuts answer new → Steps scopes old (add_keyspace name cuts) answer new
keyspace_steps laws law scopes old new name cuts answer are did p stands =
    does_steps p scopes old (record old { topology = with_keyspace old.topology name cuts; primaries = primaries.with_keyspace old.primaries name cuts }) (add_keyspace name cuts)
    (told (add_keyspace_refusal old.topology.keyspaces name)) true refl (λ e. refl) (keyspace_refusing laws law p scopes old name cuts are stands) stands (keyspace_making laws law p scopes old name cuts are stands)
    (law.answered p (add_keyspace name cuts)) answer new did

-- ---- a rule edited

-- what the laws say of it
pub record RuleLaws : Type 0 where
  pub answered : (p : Plain) (event : Event) → Answers p event (answer_of p event)
  pub limits : (p : Plain) → IsReached p → IsWithinLimits p
  pub names : (p : Plain) → IsReached p → AllPairs (λ v w. v.name ≢ w.name) p.lives
  pub count : (p : Plain) (t : TopologyState) → IsReached p → TopologyStands p t → length t.rules ≡ rule_count p
  pub topology : (p : Plain) (t : TopologyState) (key : RuleKey) (target : Option RuleTarget) → IsReached p → Answers p (edit_rule key target) done → TopologyStands p t
      → TopologyStands (next p (edit_rule key target) done) (record t { rules = with_rule t.rules key target })
  pub rows : (p : Plain) → IsReached p → (at : rows.Primaries) → rows.RowsStand p at → (key : RuleKey) (target : Option RuleTarget) → Answers p (edit_rule key target) done
      → rows.RowsStand (next p (edit_rule key target) done) at

-- a key that had no place as if no workflow were live
not_other : (a b : Bool) → not (a || b) ≡ true → not b ≡ true
not_other true b e = absurd (true≢false (sym e))
not_other false b e = e

module _ (laws : Laws) (law : RuleLaws) (p : Plain) (scopes : List Scope) (old : BaseState) (key : RuleKey) (target : Option RuleTarget) (stands : StandsWith p scopes old) where
  owned : is_owned old.workflows (about.Rule key) ≡ is_some (part_owner p (about.Rule key))
  owned = owned_is p old.workflows (law.names p stands.reached) stands.workflows (about.Rule key)

  place : is_some (lookup (same_key key) old.topology.rules) ≡ (is_some (part_owner p (about.Rule key)) || is_some (lookup (same_key key) p.topology.rules))
  place = stands.topology.places (about.Rule key)

  rule_by : (o : Option RuleTarget) → is_some (part_owner p (about.Rule key)) ≡ false → rule_refusal p key o ≡ told (edit_rule_refusal old.topology.rules key o)
  rule_by None none = refl
  rule_by (Some to) none =
      let count = law.count p old.topology stands.reached stands.topology in
      let limit = (law.limits p stands.reached).rules in
      ap (λ b. cond b None (refuse_if (nat_le most_rules (rule_count p)) full)) (sym (place ∙ ap (λ b. b || is_some (lookup (same_key key) p.topology.rules)) none))
      ∙ ap (λ n. cond (is_some (lookup (same_key key) old.topology.rules)) None (refuse_if (nat_le most_rules n) full)) (sym count)
      ∙ rule_told (is_some (lookup (same_key key) old.topology.rules)) (length old.topology.rules) (subst (λ n. n ≤ most_rules) (sym count) limit)

  rule_refusing : refusal_of p (edit_rule key target) ≡ or_else (refuse_if (is_owned old.workflows (about.Rule key)) rule_owned) (told (edit_rule_refusal old.topology.rules key target))
  rule_refusing =
      by (is_some (part_owner p (about.Rule key))) refl
      ∙ ap (λ b. or_else (refuse_if b rule_owned) (told (edit_rule_refusal old.topology.rules key target))) (sym owned)
    where
      by : (b : Bool) → is_some (part_owner p (about.Rule key)) ≡ b → or_else (refuse_if (is_some (part_owner p (about.Rule key))) rule_owned) (rule_refusal p key target)
          ≡ or_else (refuse_if (is_some (part_owner p (about.Rule key))) rule_owned) (told (edit_rule_refusal old.topology.rules key target))
      by true is = rw is refl
      by false is = ap (or_else (refuse_if (is_some (part_owner p (about.Rule key))) rule_owned)) (rule_by target is)

  rule_growing : (o : Option RuleTarget) → edit_rule_grows old.topology.rules key o ≡ true → may_grow p (edit_rule key o) ≡ true
  rule_growing None grows = grows
  rule_growing (Some to) grows = not_other (is_some (part_owner p (about.Rule key))) (is_some (lookup (same_key key) p.topology.rules)) (ap not (sym place) ∙ grows)

  rule_making : Answers p (edit_rule key target) done
      → StandsWith (next p (edit_rule key target) done) scopes (record old { topology = record old.topology { rules = with_rule old.topology.rules key target } })
  rule_making given =
      base_stands laws p (edit_rule key target) done stands.reached given refl scopes old (record old { topology = record old.topology { rules = with_rule old.topology.rules key target } }) stands refl
      (law.topology p old.topology key target stands.reached given stands.topology) (law.rows p stands.reached (primary_of old.primaries) stands.rows key target given)
      (record {
        there = stands.primaries.there;
        count = stands.primaries.count;
        cuts = stands.primaries.cuts;
        ascend = stands.primaries.ascend;
        shards = stands.primaries.shards;
        tables = stands.primaries.tables;
        denials = stands.primaries.denials;
      })

pub rule_steps : Laws → RuleLaws → (scopes : List Scope) (old new : BaseState) (key : RuleKey) (target : Option RuleTarget) (answer : Answer) → EditsRule old key target answer new → Steps scopes old (edit_rule key target) answer new
rule_steps laws law scopes old new key target answer did p stands =
    does_steps p scopes old (record old { topology = record old.topology { rules = with_rule old.topology.rules key target } }) (edit_rule key target)
    (or_else (refuse_if (is_owned old.workflows (about.Rule key)) rule_owned) (told (edit_rule_refusal old.topology.rules key target))) (edit_rule_grows old.topology.rules key target) refl
    (rule_growing laws law p scopes old key target stands target) (rule_refusing laws law p scopes old key target stands) stands (rule_making laws law p scopes old key target stands) (law.answered p (edit_rule key target)) answer new did
