-- The end is that of the drive of the site; no name is kept.
use Rattle.mt_event.specs.Drives.{ended_from}
use Rattle.mt_run.proofs.RunLemmas.{driven}
use Rattle.mt_run.proofs.asking.drive_whole.Goals as goal

pub returns-clause-answered : goal.returns-clause-answered
returns-clause-answered g c =
    driven (g.A.Asks.scopes c.args.cached.now.site.watchers) c.args.cached.now.site.core c.drive.new.site.core c.args.workflow.now c.args.types c.args.back (ended_from c.drive.result) c.args.waiting.now.items
    c.put_driven.new.text.items c.put_driven.ensures c.drive.ensures.drives.each
