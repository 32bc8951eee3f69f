-- A table that is reserved has a place.
use Rattle.std.proofs.Common.{ap, is_some, ◌∙◌}
use Rattle.std.specs.Map.{lookup}
use Rattle.mt_names.specs.Names.{same_text}
use Rattle.mt_model.proofs.TopologyLemmas.{with_mark_place-there}
use Rattle.mt_keyspace.proofs.keyspace.Keyspace.add_table.Goals as goal

pub set-requires : goal.set-requires
set-requires c = ap (λ marks. is_some (lookup (same_text c.args.table.now) marks)) c.in-Ok.ensures.1 ∙ with_mark_place-there c.self.inside.tables c.args.table.now
