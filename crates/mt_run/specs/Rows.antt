-- Rows that are asked for through a name: where the name leads in what the state serves, or it leads nowhere.
use Rattle.std.specs.Prelude.{◌≡◌, ⊤, ℕ, List, Option, Result, Ok, Err}
use Rattle.mt_event.specs.Reasons.{done_by}
use Rattle.mt_event.specs.declared.reason.Reason.{Reason}
use Rattle.mt_model.specs.declared.entries.Scope.{Scope}
use Rattle.mt_model.specs.declared.faults.TopologyFault.{TopologyFault}
use Rattle.mt_model.specs.declared.rows.Op.{Op}
use Rattle.mt_model.specs.Rows.{RowValue}
use Rattle.mt_model.specs.Topology.{resolution}
use Rattle.mt_names.specs.declared.keys.RuleKey.{RuleKey}
use Rattle.mt_names.specs.declared.keys.RuleTarget.{RuleTarget}
use Rattle.mt_names.specs.declared.types.TabletType.{TabletType}
use Rattle.mt_names.specs.declared.types.TabletType.TheVariants.{Primary}
use Rattle.mt_plain.specs.Events.{read, write}
use Rattle.mt_plain.specs.Plain.{Plain}
use Rattle.mt_plain.specs.Serve.{served}
use Rattle.mt_stands.specs.Ways.{CoreStands, CoreState, CoreSteps}
use Rattle.mt_site.specs.ByHand.{read_from}

-- the answer is that of the table to which the name leads; if it leads nowhere, it is the look-up's fault, and all stays as it was
abbrev pub IsThrough : {A : Type 0} → Result RuleTarget TopologyFault → (Stays : Type 0) → (RuleTarget → A → Type 0) → Result A TopologyFault → Type 0
IsThrough (Ok target) Stays Answers (Ok answer) = Answers target answer
IsThrough (Err fault) Stays Answers (Err told) = (told ≡ fault) × Stays
IsThrough (Ok target) Stays Answers (Err told) = ⊥
IsThrough (Err fault) Stays Answers (Ok answer) = ⊥

-- a row is written where a name leads, in each state that the core stands for
abbrev pub WrittenThrough : CoreState → RuleKey → Op → Result (Result ⊤ Reason) TopologyFault → CoreState → Type 0
WrittenThrough old name op result new = (scopes : List Scope) (p : Plain) → CoreStands p scopes old
    → IsThrough (resolution (served p) name Primary) (new ≡ old) (λ target told. CoreSteps scopes old (write target.keyspace target.table op) (done_by told) new) result

-- a row is read where a name leads, and the core stays as it is
abbrev pub ReadThrough : CoreState → RuleKey → (key : ℕ) → TabletType → Result (Result (Option RowValue) Reason) TopologyFault → Type 0
ReadThrough core name key tablet_type result = (scopes : List Scope) (p : Plain) → CoreStands p scopes core
    → IsThrough (resolution (served p) name tablet_type) ⊤ (λ target told. CoreSteps scopes core (read target.keyspace target.table key tablet_type) (read_from told) core) result
