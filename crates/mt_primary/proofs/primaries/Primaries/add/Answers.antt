-- The name and its shards go behind the others.
use Rattle.std.proofs.Common.{[], ap, ap₂, sym, subst₂, zip, ◌≡◌, ◌++◌, ◌∙◌, ◌∷◌}
use Rattle.std.specs.Map.{keys_of}
use Rattle.indexmap.proofs.CallerLemmas.{insert_entry-new}
use Rattle.mt_names.proofs.EntryLemmas.{lookup_from_absent}
use Rattle.mt_names.proofs.SameLemmas.{same_text_decides}
use Rattle.mt_names.specs.Names.{same_text}
use Rattle.mt_primary.specs.Kept.{AreKept}
use Rattle.mt_primary.specs.Primaries.{new_shards}
use Rattle.mt_primary.proofs.PlaceLemmas.{kept_lacks, kept_more, kept_push, keys_of-push}
use Rattle.mt_primary.proofs.primaries.Primaries.add.Goals as goal

-- the names, and the shards, with those that are added
names_are : (c : goal.In-Ok) → keys_of c.insert.new.self.entries ≡ keys_of c.self.inside.names.entries ++ c.args.keyspace ∷ []
names_are c =
    let shards = new_shards c.args.list in
    let lacks = lookup_from_absent same_text same_text_decides c.self.inside.names.entries c.args.keyspace (kept_lacks c.args.self.now (keys_of c.self.inside.names.entries) c.self.inside.shards.items c.self.view_is c.self.invariant c.args.keyspace shards c.requires) in
    ap keys_of (c.in_ok-insert.ensures.entries ∙ insert_entry-new same_text c.self.inside.names c.args.keyspace tt lacks) ∙ keys_of-push c.self.inside.names.entries c.args.keyspace tt

shards_are : (c : goal.In-Ok) → c.push.new.self.items ≡ c.self.inside.shards.items ++ new_shards c.args.list ∷ []
shards_are c = c.in-Ok.ensures.items ∙ ap₂ (λ l s. l ++ s ∷ []) c.reserve.ensures.items c.in_ok-shards.ensures

pub invariant_of-self-2 : goal.invariant_of-self-2
invariant_of-self-2 c =
    subst₂ AreKept (sym (names_are c)) (sym (shards_are c)) (kept_more c.args.self.now (keys_of c.self.inside.names.entries) c.self.inside.shards.items c.self.view_is c.self.invariant c.args.keyspace (new_shards c.args.list) c.requires)

pub returns : goal.returns
returns c = ap₂ zip (names_are c) (shards_are c) ∙ kept_push c.args.self.now (keys_of c.self.inside.names.entries) c.self.inside.shards.items c.self.view_is c.self.invariant c.args.keyspace (new_shards c.args.list) c.requires
