-- A core without keyspaces stands for the opening, whatever the watchers.
use Rattle.mt_plain.specs.Plain.{opening}
use Rattle.mt_site.proofs.site.Site.open.Goals as goal

pub returns-clause-stands : goal.returns-clause-stands
returns-clause-stands g c = c.new.ensures.stands (g.W.Asks.scopes c.args.watchers)

pub returns-clause-stood : goal.returns-clause-stood
returns-clause-stood g c = ∣ (opening (g.W.Asks.scopes c.args.watchers), c.new.ensures.stands (g.W.Asks.scopes c.args.watchers)) ∣₁
