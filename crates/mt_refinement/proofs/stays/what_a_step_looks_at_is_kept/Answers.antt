-- The feeding streams read the owner's logs there.
use Rattle.std.proofs.Common.{sym, ◌∙◌}
use Rattle.std.proofs.Math.Logic.{∥∥₁_elim}
use Rattle.std.proofs.Props.{props}
use Rattle.mt_plain.specs.Plain.{live_at}
use Rattle.mt_laws.proofs.InPlaceLemmas.{live_in}
use Rattle.mt_laws.proofs.LaneLemmas.{reached_numbered}
use Rattle.mt_refinement.proofs.FoundLemmas.{live_of_state}
use Rattle.mt_stands.specs.Base.{workflow_at}
use Rattle.mt_refinement.proofs.TestLemmas.{kept_to_test}
use Rattle.mt_refinement.proofs.stays.what_a_step_looks_at_is_kept.Goals as goal

pub returns : goal.returns
returns c = λ s is name w way found on tests shard stream at. ∥∥₁_elim is (hlevel props)
    (λ h.
    let (live, is_live, for) = live_of_state h.state (live_at h.state name) (workflow_at s.base.workflows name) w (h.stands.base.workflows.each name) found in
    let opens = sym for.way ∙ on in
    kept_to_test h.state h.state.scopes s.base h.stands.base name live is_live w for (reached_numbered h.state h.reached live (live_in h.state name live is_live)) way
    (c.ways_keep_their_course.ensures.course h.state h.reached name live is_live way opens) (c.ways_keep_their_course.ensures.writes h.state h.reached name live is_live way opens)
    (c.a_stream_that_reads_the_owner_is_in_use.ensures h.state h.reached name live is_live) tests shard stream at)
