use Rattle.std.proofs.Common.{◌∙◌}
use Rattle.indexmap.proofs.CallerLemmas.{insert_entry-new}
use Rattle.mt_routes.proofs.maps.add.Goals as goal

pub returns-in-Ok : goal.returns-in-Ok
returns-in-Ok g c = c.in-Ok.ensures.entries ∙ insert_entry-new g.K.PartialEq.eq c.args.map.now c.args.key c.args.value c.requires
