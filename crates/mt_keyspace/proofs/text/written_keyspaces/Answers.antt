-- One keyspace more.
use Rattle.std.proofs.Common.{◌≡◌, [], ◌∷◌, ◌++◌, ap, map, rules, subst, sym, ◌∙◌}
use Rattle.std.proofs.lemmas.List.{map-append}
use Rattle.mt_rules.specs.Written.{written_text}
use Rattle.mt_keyspace.specs.Written.{keyspace_item}
use Rattle.mt_keyspace.proofs.TextLemmas.{WritesKeyspaces, WritesKeyspaces-put}
use Rattle.mt_keyspace.proofs.text.written_keyspaces.Goals as goal

pub keyspaces-preserved : goal.keyspaces-preserved
keyspaces-preserved c =
    let all = c.args.keyspaces.now.entries in
    let name = c.in-Some.name.now in
    let keyspace = c.in-Some.keyspace.now in
    let found = c.keyspaces.items.items in
    let left : c.keyspaces.name-iterator ≡ (name, keyspace) ∷ c.next.new.self = search rules in
    let before = subst (λ l. WritesKeyspaces (map written_text found) l all) left c.keyspaces.invariant in
    let texts : map written_text c.push.new.self.items ≡ map written_text found ++ keyspace_item (name, keyspace) ∷ [] =
    ap (map written_text) c.in_ok-push.ensures.items ∙ map-append written_text found (c.in_ok-item.item ∷ []) ∙ ap (λ t. map written_text found ++ t ∷ []) c.in_ok-item.ensures.text in
    subst (λ ts. WritesKeyspaces ts c.next.new.self all) (sym texts) (WritesKeyspaces-put (map written_text found) (name, keyspace) c.next.new.self all c.in_ok-item.ensures.named before)
