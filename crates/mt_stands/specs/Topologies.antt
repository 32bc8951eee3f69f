-- Which topology stands for a state (this profile's own).
use Rattle.std.specs.Prelude.{◌≡◌, ◌||◌, is_some}
use Rattle.mt_model.specs.declared.entries.EntryKey.{EntryKey}
use Rattle.mt_model.specs.Topology.{TopologyState, has_place}
use Rattle.mt_plain.specs.Plain.{Plain, part_owner}
use Rattle.mt_plain.specs.Serve.{IsServed}

-- a topology stands for a state: it is one that the state serves, and it has places for what stands as if no workflow were live, and
-- for the parts of the live workflows
pub record TopologyStands (p : Plain) (t : TopologyState) : Type 0 where
  pub served : IsServed p t
  pub places : (key : EntryKey) → has_place t key ≡ (is_some (part_owner p key) || has_place p.topology key)
