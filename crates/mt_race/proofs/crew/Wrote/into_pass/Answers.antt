-- It is of just this worker.
use Rattle.std.proofs.Common.{subst}
use Rattle.mt_race.specs.Agreements.{AreAsked, writes_of}
use Rattle.mt_race.proofs.crew.Wrote.into_pass.Goals as goal

pub returns-then-is_of-clause-asked : goal.returns-then-is_of-clause-asked
returns-then-is_of-clause-asked g c =
    subst (λ n. AreAsked (writes_of n c.args.worker) c.args.self.pass.calls.items) (c.is_of.ensures.writes c.if-is_of.true)
    (subst (λ n. AreAsked (writes_of c.args.self.writes n) c.args.self.pass.calls.items) (c.is_of.ensures.worker c.if-is_of.true) c.args.self.asked)
