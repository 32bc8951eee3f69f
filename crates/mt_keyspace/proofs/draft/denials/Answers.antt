-- A denial that is moved goes last.
use Rattle.std.proofs.Common.{rules, ◌≡◌, ◌∷◌, ◌++◌, ap, ◌∙◌}
use Rattle.mt_keyspace.proofs.LoadLemmas.{denial_moved}
use Rattle.mt_keyspace.proofs.draft.denials.Goals as goal

pub places-preserved : goal.places-preserved
places-preserved c =
    let left : c.places.table-iterator ≡ (c.in-Some.table.now, c.in-Some.is_denied.now) ∷ c.next.new.self = search rules in
    denial_moved c.args.places.now.entries c.places.denied c.next.new.self c.put_denial.new.denied c.in-Some.table.now c.in-Some.is_denied.now c.requires
    (c.places.invariant ∙ ap (λ l. c.places.denied ++ l) left) c.in_ok-put_denial.ensures.value
