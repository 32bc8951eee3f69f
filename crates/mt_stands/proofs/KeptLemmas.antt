-- What is kept of the rules stays what stands as if no workflow were live.
use Rattle.std.proofs.Common.{◌≡◌, ℕ, Bool, true, false, cond, List, Option, None, Some, is_some, refl, sym, ap, ◌∙◌}
use Rattle.std.proofs.lemmas.Bool.{and_parts}
use Rattle.mt_names.specs.declared.keys.RuleKey.{RuleKey}
use Rattle.mt_names.specs.declared.keys.RuleTarget.{RuleTarget}
use Rattle.mt_names.specs.Names.{same_text}
use Rattle.mt_names.proofs.EntryLemmas.{none_from}
use Rattle.mt_names.proofs.SameLemmas.{same_text_decides}
use Rattle.mt_model.specs.declared.entries.Entry.TheVariants as entry
use Rattle.mt_model.specs.declared.entries.EntryKey.TheVariants as about
use Rattle.mt_model.specs.Topology.{HasDistinctPlaces, Rules, TopologyState, is_denied, is_present, rule_at, with_rule}
use Rattle.mt_model.proofs.TopologyLemmas.{rule_at-with_rule_elsewhere}
use Rattle.mt_plain.specs.Answers.{Answers}
use Rattle.mt_plain.specs.Events.{Event, add_keyspace, add_table, edit_rule, complete, Answer, done, row, advanced, shown, refused, rule_owned}
use Rattle.mt_plain.specs.Next.{next, with_completed}
use Rattle.mt_plain.specs.Plain.{Live, Plain, has_part, live_at, moves, part_owner}
use Rattle.mt_plain.specs.Refuse.{refusal_of, refuse_if, rule_refusal}
use Rattle.mt_laws.specs.Changes.{ChangesTopology, HasSides}
use Rattle.mt_laws.specs.Reached.{IsInPlace}
use Rattle.mt_stands.specs.Keys.{IsKept}
use Rattle.mt_laws.proofs.RefusalLemmas.{or_else-none, refuse_if-none}
use Rattle.mt_stands.proofs.CancelLemmas.{gone}
use Rattle.mt_stands.proofs.EndLemmas.{rule_ended}
use Rattle.mt_stands.proofs.StandLemmas.{IsOwned, same_part}

-- in the part of a workflow only its rules stand
pub kept_again : (p q : Plain) (w v : Live) (kept : Rules) → HasSides w v → ((key : RuleKey) → has_part w (about.Rule key) ≡ true → rule_at q.topology.rules key ≡ rule_at p.topology.rules key)
    → ((k n : List ℕ) → is_denied q.topology.keyspaces k n ≡ false) → IsInPlace q.topology v → IsKept p.topology w kept → IsKept q.topology v kept
kept_again p q w v kept sides rules allowed in_place is_kept (about.Rule key) part =
    let was = same_part w v sides (about.Rule key) ∙ part in
    is_kept (about.Rule key) was ∙ ap (entry.Rule key) (sym (rules key was))
kept_again p q w v kept sides rules allowed in_place is_kept (about.Denied k n) part = ap (entry.Denied k n) (sym (allowed k n))
kept_again p q w v kept sides rules allowed in_place is_kept (about.Present k n) part =
    let (moved, at) = and_parts (moves v n) (same_text v.target k) part in
    ap (entry.Present k n) (sym (ap (λ x. is_present q.topology.keyspaces x n) (sym ((same_text_decides v.target k).0 at)) ∙ in_place.at_target n moved))

module _ (p : Plain) (name : List ℕ) (w v : Live) (live : live_at p name ≡ Some w) (owned : IsOwned p)
    (named : (name : List ℕ) (w : Live) → live_at p name ≡ Some w → w.name ≡ name)
    (placed : (name : List ℕ) (w : Live) → live_at p name ≡ Some w → IsInPlace p.topology w) (distinct : HasDistinctPlaces p.topology)
    (key : RuleKey) (part : has_part w (about.Rule key) ≡ true) where
  -- a rule by hand is refused in a part
  edited : (r : RuleKey) (target : Option RuleTarget) → refusal_of p (edit_rule r target) ≡ None → rule_at (with_rule p.topology.rules r target) key ≡ rule_at p.topology.rules key
  edited r target none =
      let free = none_from (part_owner p (about.Rule r)) (refuse_if-none (is_some (part_owner p (about.Rule r))) rule_owned (or_else-none (refuse_if (is_some (part_owner p (about.Rule r))) rule_owned) (rule_refusal p r target) none).0) in
      rule_at-with_rule_elsewhere p.topology.rules r key target
      (λ e. let both : None ≡ Some w = sym free ∙ ap (λ x. part_owner p (about.Rule x)) e ∙ owned name w live (about.Rule key) part in absurd cc)

  -- Complete of another workflow leaves it
  completed_other : (workflow : List ℕ) (o : Option Live) → live_at p workflow ≡ o → live_at (with_completed p o) name ≡ Some v → rule_at (with_completed p o).topology.rules key ≡ rule_at p.topology.rules key
  completed_other workflow None is now = refl
  completed_other workflow (Some x) is now =
      rule_ended p.topology x (placed workflow x is).sides.apart (placed workflow x is).sides.target distinct key
      ∙ ap (λ b. cond b None (rule_at p.topology.rules key)) (by (has_part x (about.Rule key)) refl)
    where
      by : (b : Bool) → has_part x (about.Rule key) ≡ b → has_part x (about.Rule key) ≡ false
      by false b = b
      by true b =
          let both : Some x ≡ Some w = sym (owned workflow x is (about.Rule key) b) ∙ owned name w live (about.Rule key) part in
          let same : x ≡ w = cc in
          let is_name : x.name ≡ name = ap (λ y. y.name) same ∙ named name w live in
          let wrong : None ≡ Some v = sym (gone x.name p.lives) ∙ ap (λ n. live_at (with_completed p (Some x)) n) is_name ∙ now in
          absurd cc

  pub rule_stays : (event : Event) (answer : Answer) → Answers p event answer → live_at (next p event answer) name ≡ Some v → (¬ (ChangesTopology event) → (next p event answer).topology ≡ p.topology)
      → rule_at (next p event answer).topology.rules key ≡ rule_at p.topology.rules key
  rule_stays event (refused refusal) given now same = refl
  rule_stays event (shown s) given now same = refl
  rule_stays (add_keyspace k cuts) done given now same = refl
  rule_stays (add_table k n) done given now same = refl
  rule_stays (edit_rule r target) done given now same = edited r target given.0
  rule_stays (complete workflow) done given now same = completed_other workflow (live_at p workflow) refl now
  rule_stays (add_keyspace k cuts) (row r) given now same = refl
  rule_stays (add_table k n) (row r) given now same = refl
  rule_stays (edit_rule r target) (row x) given now same = edited r target given.0
  rule_stays (complete workflow) (row r) given now same = completed_other workflow (live_at p workflow) refl now
  rule_stays (add_keyspace k cuts) (advanced events rows) given now same = refl
  rule_stays (add_table k n) (advanced events rows) given now same = refl
  rule_stays (edit_rule r target) (advanced events rows) given now same = refl
  rule_stays (complete workflow) (advanced events rows) given now same = refl
  rule_stays event answer given now same = ap (λ (u : TopologyState). rule_at u.rules key) (same (λ h. h))
