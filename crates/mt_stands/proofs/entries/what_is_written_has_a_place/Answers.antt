use Rattle.mt_stands.proofs.CancelLemmas.{held_by}
use Rattle.mt_stands.proofs.CompleteLemmas.{ends_have_places, part_has_places}
use Rattle.mt_stands.proofs.entries.what_is_written_has_a_place.Goals as goal

pub returns : goal.returns
returns c = record {
  part = λ p t name w reached live stands. part_has_places p t w stands (c.a_live_workflow_is_found_by_its_part.ensures.owner p reached name w live);
  end = λ p t name w reached live stands.
      let places = c.only_what_stands_has_a_place.ensures in
      ends_have_places p t w stands (c.live_workflows_stand_in_place.ensures.placed p reached name w live) (c.a_live_workflow_is_found_by_its_part.ensures.owner p reached name w live)
      (held_by p (places.rules p reached) (places.tables p reached) (places.denials p reached) (c.live_workflows_stand_in_place.ensures.allowed p reached));
}
