use Rattle.std.proofs.Common.{None, Some, is_some, ap, sym, ◌∙◌}
use Rattle.std.proofs.Math.Logic.{∥∥₁_elim}
use Rattle.std.proofs.Props.{props}
use Rattle.mt_journal.specs.Journal.{entry_of}
use Rattle.mt_names.proofs.EntryLemmas.{none_from}
use Rattle.mt_plain.specs.Plain.{live_at}
use Rattle.mt_laws.proofs.InPlaceLemmas.{live_in}
use Rattle.mt_laws.proofs.LaneLemmas.{reached_numbered}
use Rattle.mt_laws.proofs.OpenWayLemmas.{reached_shards}
use Rattle.mt_refinement.proofs.FoundLemmas.{live_of_state}
use Rattle.mt_stands.proofs.LaneLemmas.{lane_count, lanes_alike}
use Rattle.mt_stands.specs.Base.{workflow_at}
use Rattle.mt_stands.specs.Ways.{open_at}
use Rattle.mt_refinement.proofs.WaysSetLemmas.{keys_set}
use Rattle.mt_refinement.proofs.StayLemmas.{open_of}
use Rattle.mt_refinement.proofs.WaysLemmas.{is_under_way-found}
use Rattle.mt_refinement.proofs.stays.each_open_way_has_a_record.Goals as goal

pub returns : goal.returns
returns c = record {
  there = λ s is name w way found on. ∥∥₁_elim is (hlevel props) (λ h. h.stands.ways.there name ∙ is_under_way-found s.base.workflows name w (Some way) found on);
  absent = λ s is name w found at_rest.
      none_from (open_at s.ways.opened name) (∥∥₁_elim is (hlevel props) (λ h. h.stands.ways.there name ∙ is_under_way-found s.base.workflows name w None found at_rest));
  kept = λ s is name w way o found on opened. record {
    entries = ∥∥₁_elim is (hlevel (keys_set, props)) (λ h. (open_of s h name w way o found on opened).1.kept.entries);
    listed = ∥∥₁_elim is (hlevel props) (λ h. (open_of s h name w way o found on opened).1.kept.listed);
    slots = ∥∥₁_elim is (hlevel props) (λ h. (open_of s h name w way o found on opened).1.kept.slots);
  };
  within = λ s is name w way found on. ∥∥₁_elim is (hlevel props)
      (λ h.
      let (live, is_live, for) = live_of_state h.state (live_at h.state name) (workflow_at s.base.workflows name) w (h.stands.base.workflows.each name) found in
      (c.ways_keep_their_course.ensures.course h.state h.reached name live is_live way (sym for.way ∙ on)).within);
  shards = λ s is name w way found on. ∥∥₁_elim is (hlevel props)
      (λ h.
      let (live, is_live, for) = live_of_state h.state (live_at h.state name) (workflow_at s.base.workflows name) w (h.stands.base.workflows.each name) found in
      reached_shards h.state h.reached live (live_in h.state name live is_live) way (sym for.way ∙ on)
      ∙ sym (lanes_alike h.state live w for ∙ lane_count live (reached_numbered h.state h.reached live (live_in h.state name live is_live))));
  unused = λ s is name w way o found on opened unwritten.
      none_from (entry_of s.ways.journal o.number) (∥∥₁_elim is (hlevel props) (λ h. ap is_some ((open_of s h name w way o found on opened).1.unused unwritten)));
}
