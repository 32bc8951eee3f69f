-- The passes that are gathered are those of a move.
use Rattle.mt_desk.specs.Passes.{HaveOneHistory}
use Rattle.mt_caller.proofs.MoveLemmas.{one_of}
use Rattle.mt_caller.proofs.together.gather.Goals as goal

pub invariant_of-result : goal.invariant_of-result
invariant_of-result g c =
    let (created, wrote, fed, switched) = c.args.passes in
    record {
      one =
          one_of (HaveOneHistory g.D.DeskName.scopes g.D.DeskName.opening) created.client wrote.pass.client fed.pass.client switched.pass.client
          created.calls.items wrote.pass.calls.items fed.pass.calls.items switched.pass.calls.items c.requires wrote.client fed.client switched.client
          wrote.asked fed.advanced switched.controlled (c.are_gathered.ensures c.if-not-are_gathered.false);
    }
