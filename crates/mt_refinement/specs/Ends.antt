-- Where the streams that a way makes begin to read (this profile's own).
use Rattle.std.specs.Prelude.{ℕ, List, map, if◌then◌else◌}
use Rattle.mt_plain.specs.Plain.{Lane, Live, Plain, before_way}
use Rattle.mt_plain.specs.Refuse.{new_owner}
use Rattle.mt_plain.specs.Slots.{log_length}

-- how long the log is that a lane's new stream will read: that of the new owner, which at the target is the lane's shard's
abbrev pub log_end_for : Plain → Live → Lane → ℕ
log_end_for p live lane = log_length p (new_owner live) (if (before_way live).primary then 0 else lane.shard)

-- those of all lanes
abbrev pub ends_of : Plain → Live → List ℕ
ends_of p live = map (log_end_for p live) live.lanes
