-- Why an event is refused, where no name is told, in the words of the definitions.
use Rattle.std.specs.Prelude.{⊤, Result, Ok, Err}
use Rattle.mt_event.specs.declared.reason.Reason.{Reason}
use Rattle.mt_event.specs.declared.reason.Reason.TheVariants as from
use Rattle.mt_model.specs.declared.faults.PrimaryFault.{PrimaryFault}
use Rattle.mt_model.specs.declared.faults.PrimaryFault.TheVariants as primary
use Rattle.mt_model.specs.declared.faults.TopologyFault.{TopologyFault}
use Rattle.mt_model.specs.declared.faults.TopologyFault.TheVariants as topology
use Rattle.mt_plain.specs.Events as plain
use Rattle.mt_stream.specs.declared.fault.StreamFault.{StreamFault}
use Rattle.mt_stream.specs.declared.fault.StreamFault.TheVariants as stream

-- the refusal that a reason is (this profile's own)
abbrev pub reason_from : Reason → plain.Refusal
reason_from from.Memory = plain.memory
reason_from from.NoKeyspace = plain.no_keyspace
reason_from from.NoTable = plain.no_table
reason_from from.Denied = plain.denied
reason_from from.RowExists = plain.row_exists
reason_from from.NoRow = plain.no_row
reason_from from.WorkflowExists = plain.workflow_exists
reason_from from.NoWorkflow = plain.no_workflow
reason_from from.TableInWorkflow = plain.table_in_workflow
reason_from from.SameKeyspace = plain.same_keyspace
reason_from from.NoTables = plain.no_tables
reason_from from.UnderWay = plain.under_way
reason_from from.NothingUnderWay = plain.nothing_under_way
reason_from from.NothingToSwitch = plain.nothing_to_switch
reason_from from.NothingToReverse = plain.nothing_to_reverse
reason_from from.Copying = plain.copying
reason_from from.NotLevel = plain.not_level
reason_from from.PastJournal = plain.past_journal
reason_from from.TrafficSwitched = plain.traffic_switched
reason_from from.NotAllSwitched = plain.not_all_switched
reason_from from.RuleOwned = plain.rule_owned
reason_from (from.WatcherRefused index) = plain.watcher_refused index
reason_from from.NoWatcher = plain.no_watcher
reason_from (from.Stale current) = plain.stale current
reason_from from.StreamStopped = plain.stream_stopped
reason_from from.Full = plain.full
reason_from from.Undoing = plain.undoing
reason_from from.TooLong = plain.too_long
reason_from from.Exists = plain.exists
reason_from from.NoShard = plain.no_shard
reason_from from.ShardedSource = plain.sharded_source

-- the answer to an event of which nothing is told but that it is done, or why it isn't (this profile's own)
abbrev pub done_by : Result ⊤ Reason → plain.Answer
done_by (Ok done) = plain.done
done_by (Err reason) = plain.refused (reason_from reason)

-- ---- of the layers

-- the reason for a refusal of a stream (this profile's own)
abbrev pub reason_by_stream : StreamFault → Reason
reason_by_stream stream.Memory = from.Memory
reason_by_stream (stream.Stale position) = from.Stale position
reason_by_stream stream.Stopped = from.StreamStopped
reason_by_stream stream.Frozen = from.StreamStopped
reason_by_stream stream.LogFull = from.Full

-- that for one of the topology
abbrev pub reason_by_topology : TopologyFault → Reason
reason_by_topology topology.Memory = from.Memory
reason_by_topology topology.NoKeyspace = from.NoKeyspace
reason_by_topology topology.NoTable = from.NoTable
reason_by_topology topology.Exists = from.Exists
reason_by_topology other = from.Full

-- that for one of a primary
abbrev pub reason_by_primary : PrimaryFault → Reason
reason_by_primary primary.Memory = from.Memory
reason_by_primary primary.NoTable = from.NoTable
reason_by_primary primary.Denied = from.Denied
reason_by_primary primary.RowExists = from.RowExists
reason_by_primary primary.NoRow = from.NoRow
reason_by_primary primary.TooLong = from.TooLong
reason_by_primary primary.LogFull = from.Full
-- a write is never told this
reason_by_primary primary.Purged = from.Full
