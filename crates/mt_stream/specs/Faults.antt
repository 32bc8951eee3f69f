-- How the refusals of a stream are printed.
use Rattle.std.specs.Prelude.{ℕ, List, codes}
use Rattle.mt_stream.specs.declared.fault.StreamFault.{StreamFault}
use Rattle.mt_stream.specs.declared.fault.StreamFault.TheVariants as fault

-- numbers and names are this profile's own
abbrev pub stream_fault_text : StreamFault → List ℕ
stream_fault_text fault.Memory = codes "S0 Memory"
stream_fault_text (fault.Stale position) = codes "S1 Stale"
stream_fault_text fault.Stopped = codes "S2 Stopped"
stream_fault_text fault.Frozen = codes "S3 Frozen"
stream_fault_text fault.LogFull = codes "S4 LogFull"
