-- How the refusals of a workflow are printed.
use Rattle.std.specs.Prelude.{ℕ, List, codes}
use Rattle.mt_workflow.specs.declared.fault.WorkflowFault.{WorkflowFault}
use Rattle.mt_workflow.specs.declared.fault.WorkflowFault.TheVariants as fault

-- numbers and names are this profile's own
abbrev pub workflow_fault_text : WorkflowFault → List ℕ
workflow_fault_text fault.Memory = codes "W0 Memory"
workflow_fault_text fault.SameKeyspace = codes "W1 SameKeyspace"
workflow_fault_text fault.NoTables = codes "W2 NoTables"
workflow_fault_text (fault.RuleConflict key) = codes "W3 RuleConflict"
workflow_fault_text (fault.TargetHasTable table) = codes "W4 TargetHasTable"
workflow_fault_text (fault.DeniedByHand table) = codes "W5 DeniedByHand"
workflow_fault_text (fault.NoTable table) = codes "W6 NoTable"
workflow_fault_text fault.ShardedSource = codes "W7 ShardedSource"
