-- No two live workflows share a name, a table or an entry of their parts.
use Rattle.mt_laws.proofs.InPlaceLemmas.{all_listed, live_named, mover_live, owner_live, part_found, table_found}
use Rattle.mt_laws.proofs.reached.a_live_workflow_is_found_by_its_part.Goals as goal

pub returns : goal.returns
returns c = record {
  listed = all_listed;
  named = live_named;
  owner = part_found;
  mover = table_found;
  owner_is_live = owner_live;
  mover_is_live = mover_live;
}
