-- What a worker asks for that queries by name (this profile's own).
use Rattle.std.specs.Prelude.{◌≡◌, ◌≢◌, ◌+◌, ◌<◌, ◌≤◌, ◌⊎◌, ℕ, List, [], ◌∷◌, ◌++◌, length, unwrap_or, Option, None, Some, Result, Ok, Err}
use Rattle.std.specs.List.{AllByRecursion}
use mathlib.Core.List.{IsPrefix}
use Rattle.mt_desk.specs.declared.history.Call.{Call}
use Rattle.mt_event.specs.declared.event.Event.{Event}
use Rattle.mt_event.specs.declared.event.Event.TheVariants as event
use Rattle.mt_event.specs.declared.reason.Reason.TheVariants as reason
use Rattle.mt_event.specs.declared.refusal.Refusal.TheVariants as refusal
use Rattle.mt_model.specs.declared.faults.TopologyFault.{TopologyFault}
use Rattle.mt_names.specs.declared.keys.RuleKey.{RuleKey}
use Rattle.mt_names.specs.declared.keys.RuleTarget.{RuleTarget}
use Rattle.mt_names.specs.declared.types.TabletType.{TabletType}
use Rattle.mt_names.specs.declared.types.TabletType.TheVariants.{Primary}
use Rattle.mt_routes.specs.declared.publication.Publication.{Publication}
use Rattle.mt_routes.specs.LookUp.{LastLeads}
use Rattle.mt_workers.specs.Advances.{Answer}
use Rattle.mt_workers.specs.declared.line.Line.{Line}
use Rattle.mt_workers.specs.declared.line.Line.TheVariants.{Put, Get}

-- ---- a line: the name that it goes by, the type that it is for (a write is for the primary; a read for the type that the name has, or for the
-- primary if it has none), and its event at a table

abbrev pub key_of : Line → RuleKey
key_of (Put key op) = key
key_of (Get key row) = key

abbrev pub type_of : Line → TabletType
type_of (Put key op) = Primary
type_of (Get key row) = unwrap_or key.tablet_type Primary

abbrev pub event_at : Line → RuleTarget → Event
event_at (Put key op) target = event.Write target.keyspace target.table op
event_at (Get key row) target = event.Read target.keyspace target.table row (type_of (Get key row))

-- where its name leads, or why nowhere, by the last publication of a list that goes on from what was known before
abbrev pub IsLed : (known : List Publication) → Line → Result RuleTarget TopologyFault → Type 0
IsLed known line answer =
    (list : List Publication) × IsPrefix known list × ((front : ℕ) × LastLeads list (key_of line) (type_of line) front answer)

-- ---- the tries of a line

-- how often a line is tried at most
abbrev pub most_tries : ℕ
most_tries = 64

-- a try asks for the line at the table that its name leads to
abbrev pub IsTry : (known : List Publication) → Line → Call → Type 0
IsTry known line call = (target : RuleTarget) × IsLed known line (Ok target) × (call.event ≡ event_at line target)

abbrev pub IsDenied : Call → Type 0
IsDenied call = call.answer ≡ Err (refusal.Other reason.Denied)

-- so far each was answered F3 Denied, and there is a try left
abbrev pub MayTryAgain : List Call → Type 0
MayTryAgain tries = AllByRecursion IsDenied tries × (length tries < most_tries)

-- the last of some tries was answered so: with something else than F3 Denied, or no try is left
abbrev pub IsAnswered : List Call → Answer → Type 0
IsAnswered tries answer = (before : List Call) × (last : Call) × (tries ≡ before ++ last ∷ []) × MayTryAgain before × (last.answer ≡ answer)
    × ((answer ≢ Err (refusal.Other reason.Denied)) ⊎ (length tries ≡ most_tries))

-- what comes of a line: the answer to its last try; F2 NoTable where its name leads nowhere, with no try if that is so at first; or nothing, where
-- the desk refuses the next call
abbrev pub EndsIn : (known : List Publication) → Line → List Call → Option Answer → Type 0
EndsIn known line tries (Some answer) =
    IsAnswered tries answer
    ⊎ (MayTryAgain tries × ((why : TopologyFault) × IsLed known line (Err why)) × (answer ≡ Err (refusal.Other reason.NoTable)))
EndsIn known line tries None = MayTryAgain tries

-- the tries of a line, and what comes of it
pub record IsTried (known : List Publication) (line : Line) (tries : List Call) (end : Option Answer) : Type 0 where
  pub each : AllByRecursion (IsTry known line) tries
  pub ends : EndsIn known line tries end

-- ---- the calls of a worker

-- line after line: of each that is sent its tries, up to the last line, or to one that ends it, where the desk refuses a call or the answer can't
-- be sent; and how many were sent
abbrev pub Queries : (known : List Publication) → List Line → List Call → (sent : ℕ) → Type 0
Queries known [] calls sent = (calls ≡ []) × (sent ≡ 0)
Queries known (line ∷ lines) calls sent =
    (((end : Option Answer) × IsTried known line calls end) × (sent ≡ 0))
    ⊎ ((tries rest : List Call) × (answer : Answer) × (further : ℕ) × (calls ≡ tries ++ rest) × IsTried known line tries (Some answer)
    × Queries known lines rest further × (sent ≡ further + 1))
