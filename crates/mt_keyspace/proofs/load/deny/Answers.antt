-- A denial more in one keyspace.
use Rattle.std.proofs.Common.{◌≡◌, Some, sym, ap, subst, option_map, option_and_then}
use Rattle.std.specs.Map.{set_value}
use Rattle.mt_names.specs.Names.{same_text}
use Rattle.mt_keyspace.specs.Load.{IsUnlessMemory, answer_with, or_bad_dump, with_denial, with_new_denial}
use Rattle.mt_model.specs.Topology.{keyspace_at}
use Rattle.mt_keyspace.proofs.LoadLemmas.{carried}
use Rattle.mt_keyspace.proofs.load.deny.Goals as goal

pub returns-in-Some-clause-answer : goal.returns-in-Some-clause-answer
returns-in-Some-clause-answer c =
    let keyspaces = c.args.drafts.now.entries in
    let target = c.args.target in
    let put = set_value (same_text target.keyspace) keyspaces in
    let found : keyspace_at keyspaces target.keyspace ≡ Some c.in-Some.draft.now = sym c.in-Some.ensures.value in
    let whole : or_bad_dump (option_map put (with_new_denial target.table c.in-Some.draft.now)) ≡ or_bad_dump (with_denial keyspaces target) =
    ap (λ o. or_bad_dump (option_and_then (λ state. option_map put (with_new_denial target.table state)) o)) (sym found) in
    subst (λ due. IsUnlessMemory (answer_with (c.get_mut.follows.lender c.deny.new.self).entries c.deny.result) due) whole
    (subst (λ es. IsUnlessMemory (answer_with es c.deny.result) (or_bad_dump (option_map put (with_new_denial target.table c.in-Some.draft.now)))) (sym (c.get_mut.follows.holds c.deny.new.self).0)
    (carried put c.deny.new.self c.deny.result (with_new_denial target.table c.in-Some.draft.now) c.deny.ensures))
