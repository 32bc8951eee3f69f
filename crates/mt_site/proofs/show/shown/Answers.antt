-- Each part is the workflow's own.
use Rattle.std.proofs.Common.{rules}
use Rattle.mt_site.proofs.ShowLemmas.{shown_told}
use Rattle.mt_site.proofs.show.shown.Goals as goal

pub returns : goal.returns
returns c = shown_told c.args.workflow.now _ c.name.ensures _ c.source.ensures _ c.target.ensures _ (search rules) _ c.switched.ensures _ c.way.ensures _ c.shown_lanes.ensures
