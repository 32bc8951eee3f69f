use Rattle.std.proofs.Common.{◌≡◌, ◌++◌, ◌∷◌, None, true, cond, filter, ap, sym, subst, ◌∙◌, rules}
use Rattle.std.proofs.lemmas.Map.Made.{IsDistinct-keys_filter}
use Rattle.std.specs.List.{IsDistinct}
use Rattle.std.specs.Map.{keys_of, lookup}
use Rattle.mt_routes.proofs.MapLemmas.{new_from_distinct}
use Rattle.mt_routes.proofs.maps.standing.Goals as goal

pub add-requires : goal.add-requires
add-requires g c =
    let eq = g.K.PartialEq.eq in
    let stands = g.V.Stands.stands in
    let other = c.loop-key.other.entries in
    let key = c.in-Some.key.now in
    let value = c.in-Some.value.now in
    let rest = c.next.new.self in
    let split : c.loop-key.key-iterator ≡ (key, value) ∷ rest = search rules in
    let any : stands value ≡ true = sym c.is_any.ensures ∙ c.if-is_any.true in
    let whole = ap (λ b. other ++ cond b ((key, value) ∷ filter (λ e. stands e.1) rest) (filter (λ e. stands e.1) rest)) (sym any) ∙ (ap (λ l. other ++ filter (λ e. stands e.1) l) (sym split) ∙ c.loop-key.invariant) in
    let distinct = subst (λ l. IsDistinct eq (keys_of l)) (sym whole) (IsDistinct-keys_filter eq (λ e. stands e.1) c.args.map.now.entries c.len.ensures.unique) in
    subst (λ k. lookup (eq k) other ≡ None) (sym c.copied.ensures) (new_from_distinct eq g.met.K.Eq.laws other (filter (λ e. stands e.1) rest) key value distinct)
