-- The limits are looked at last.
use Rattle.std.proofs.Common.{◌≡◌, inr, true, false, Ok, Some, ap, subst, sym, option_map, option_and_then, codes, ◌∙◌}
use Rattle.serde_json.specs.Find.{as_number, get}
use Rattle.serde_json.specs.View.{view}
use Rattle.mt_rules.specs.Member.{rules_in}
use Rattle.mt_keyspace.specs.Load.{IsUnlessMemory, or_bad_dump}
use Rattle.mt_topology.specs.Dump.{unless_many, version_from}
use Rattle.mt_topology.proofs.LoadLemmas.{limits_looked_at}
use Rattle.mt_topology.proofs.load.parts_of_value.Goals as goal

pub returns-then-is_too_large : goal.returns-then-is_too_large
returns-then-is_too_large c =
    let d = view c.args.document.now in
    let one : version_from (option_and_then as_number (get (codes "version") d)) ≡ Some c.in-Some.version = sym c.version_of.ensures ∙ c.in-Some.is in
    let read : IsUnlessMemory (Ok (Some c.in-Some-rules.rules)) (or_bad_dump (option_map unless_many (rules_in (get (codes "rules") d)))) =
    subst (λ m. IsUnlessMemory (Ok (Some c.in-Some-rules.rules)) (or_bad_dump (option_map unless_many (rules_in m)))) c.get.ensures
    (subst (λ o. IsUnlessMemory (Ok o) (or_bad_dump (option_map unless_many (rules_in (option_map (λ v. view v.now) c.get.result))))) c.in-Some-rules.is c.in_ok-rules.ensures) in
    inr (limits_looked_at d c.in-Some.version c.in-Some-rules.rules c.in_ok-drafts.drafts.entries one read c.in_ok-drafts.ensures.answer true (sym c.is_too_large.ensures ∙ c.if-is_too_large.true))

pub returns : goal.returns
returns c =
    let d = view c.args.document.now in
    let one : version_from (option_and_then as_number (get (codes "version") d)) ≡ Some c.in-Some.version = sym c.version_of.ensures ∙ c.in-Some.is in
    let read : IsUnlessMemory (Ok (Some c.in-Some-rules.rules)) (or_bad_dump (option_map unless_many (rules_in (get (codes "rules") d)))) =
    subst (λ m. IsUnlessMemory (Ok (Some c.in-Some-rules.rules)) (or_bad_dump (option_map unless_many (rules_in m)))) c.get.ensures
    (subst (λ o. IsUnlessMemory (Ok o) (or_bad_dump (option_map unless_many (rules_in (option_map (λ v. view v.now) c.get.result))))) c.in-Some-rules.is c.in_ok-rules.ensures) in
    inr (ap (λ keyspaces. Ok (record { rules = c.in-Some-rules.rules; keyspaces = keyspaces })) c.in_ok-keyspaces.ensures.value
    ∙ limits_looked_at d c.in-Some.version c.in-Some-rules.rules c.in_ok-drafts.drafts.entries one read c.in_ok-drafts.ensures.answer false (sym c.is_too_large.ensures ∙ c.if-is_too_large.false))
