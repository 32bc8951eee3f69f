-- One key more.
use Rattle.std.proofs.Common.{add-one, ap, map, subst, sym, take, ◌∙◌, ◌≡◌}
use Rattle.mt_model.specs.Part.{with_entries}
use Rattle.mt_model.specs.Topology.{has_place}
use Rattle.mt_model.proofs.PlaceLemmas.{has_place-written}
use Rattle.mt_workflow.specs.Workflows.{keys_of_part}
use Rattle.mt_stands.specs.Keys.{end_entry}
use Rattle.mt_moves.proofs.EndLemmas.{written_more}
use Rattle.mt_moves.proofs.completing.write_end_of_part.Goals as goal

pub loop-index-preserved : goal.loop-index-preserved
loop-index-preserved c =
    let w = c.args.workflow.now in
    let i = c.loop-index.index in
    record {
      written = subst (λ n. c.write.new.self ≡ with_entries c.args.topology.now (map (end_entry w.target) (take n (keys_of_part w)))) (sym (add-one i))
          (written_more (end_entry w.target) (keys_of_part w) c.args.topology.now c.loop-index.topology c.write.new.self i c.part_key-key.result c.end_entry.result c.part_key-key.ensures c.loop-index.invariant.written
          (c.end_entry.ensures ∙ ap (λ target. end_entry target c.part_key-key.result) c.target.ensures) c.write.ensures.after);
      places = λ k. ap (λ t. has_place t k) c.write.ensures.after ∙ has_place-written c.loop-index.topology c.end_entry.result k ∙ c.loop-index.invariant.places k;
    }
