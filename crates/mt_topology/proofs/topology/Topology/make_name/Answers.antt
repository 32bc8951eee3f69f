-- Of a name that isn't there no key has a place.
use Rattle.std.proofs.Common.{◌≡◌, false, Option, None, Some, is_some, option_copied, option_and_then, subst, sym, refl, ◌∙◌}
use Rattle.std.proofs.lemmas.Bool.{true≢false}
use Rattle.std.specs.Borrow.{Bor}
use Rattle.mt_names.specs.declared.types.TabletType.{TabletType}
use Rattle.mt_model.specs.Part.{keys_of_name}
use Rattle.mt_model.specs.Topology.{TopologyState}
use Rattle.mt_rules.specs.declared.four.FourPlaces.{FourPlaces}
use Rattle.mt_rules.specs.Places.{place_at}
use Rattle.mt_topology.proofs.NewLemmas.{Lack, name_lacks}
use Rattle.mt_topology.proofs.topology.Topology.make_name.Goals as goal

nothing : (found : Option (Bor FourPlaces)) (type : Option TabletType) → is_some found ≡ false → option_and_then (λ four. place_at four type) (option_copied found) ≡ None
nothing None type gone = refl
nothing (Some four) type gone = absurd (true≢false gone)

pub make_new_name-requires-clause-lacks : goal.make_new_name-requires-clause-lacks
make_new_name-requires-clause-lacks c =
    let inside : TopologyState = record { rules = c.self.inside.rules; keyspaces = c.self.inside.keyspaces } in
    subst (λ t. Lack t (keys_of_name (option_copied c.args.keyspace) c.args.table.now)) c.self.view_is
    (name_lacks inside (option_copied c.args.keyspace) c.args.table.now (λ type. sym (c.name.ensures type) ∙ nothing c.name.result type c.if-is_none.ensures))
