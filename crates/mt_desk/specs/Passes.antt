-- Who has a pass (this profile's own).
use Rattle.std.specs.Prelude.{◌≡◌, ◌<◌, ◌==◌, ◌||◌, ◌⊎◌, ℕ, Bool, true, false, [], ◌∷◌, ◌++◌, List, All, Contains, Result, Ok, Err, ⊤}
use Rattle.mt_model.specs.declared.entries.Scope.{Scope}
use Rattle.mt_stands.specs.Ways.{CoreState}
use Rattle.mt_desk.specs.declared.history.Call.{Call}
use Rattle.mt_desk.specs.declared.history.Line.{Line}
use Rattle.mt_desk.specs.Histories.{Leads, calls_of}
use Rattle.mt_desk.specs.declared.fault.DeskFault.{DeskFault}
use Rattle.mt_desk.specs.declared.fault.DeskFault.TheVariants.{Memory, HistoryDiffers, ClientTaken, PassMissing}

-- a client is listed, once: it is taken exactly where it is there, and being out of memory is reported last
abbrev pub Admits : (old : List ℕ) → (client : ℕ) → Result ⊤ DeskFault → (new : List ℕ) → Type 0
Admits old client (Ok done) new = (¬ Contains old client) × (new ≡ old ++ client ∷ [])
Admits old client (Err ClientTaken) new = Contains old client × (new ≡ old)
Admits old client (Err Memory) new = (¬ Contains old client) × (new ≡ old)
Admits old client (Err other) new = ⊥

-- one of some passes, each a client with its calls, is that of a client
abbrev pub has_pass : List (ℕ × List Call) → (client : ℕ) → Bool
has_pass [] client = false
has_pass (pass ∷ passes) client = (pass.0 == client) || has_pass passes client

-- a client has one of some passes; a line is that of such a client
abbrev pub HasPass : List (ℕ × List Call) → (client : ℕ) → Type 0
HasPass passes client = has_pass passes client ≡ true

abbrev pub IsOfPass : List (ℕ × List Call) → Line → Type 0
IsOfPass passes l = has_pass passes l.client ≡ true

-- a pass lists the calls of its client
abbrev pub ListsCalls : List Line → ℕ × List Call → Type 0
ListsCalls lines pass = calls_of pass.0 lines ≡ pass.1

-- a history is that of some passes: the calls of each client are those that its pass lists, with its answers, in its order, each once, and
-- there are no others
pub record IsOf (passes : List (ℕ × List Call)) (lines : List Line) : Type 0 where
  pub each : All (ListsCalls lines) passes
  pub others : All (IsOfPass passes) lines

-- there is one such history, and it is legal from each state that the controller stood for at the opening
abbrev pub HaveOneHistory : List Scope → (opening : CoreState) → List (ℕ × List Call) → Type 0
HaveOneHistory scopes opening passes =
    ∥ ((lines : List Line) × (now : CoreState) × Leads scopes opening lines now × IsOf passes lines) ∥₁

-- ---- why a history isn't that of some passes

-- one of them is the client's, and lists other calls than the history has
abbrev pub ListsOthers : List (ℕ × List Call) → List Line → (client : ℕ) → Type 0
ListsOthers passes lines client = (pass : ℕ × List Call) × Contains passes pass × (pass.0 ≡ client) × (¬ ListsCalls lines pass)

-- none of them is the client's, and the history has a line of it
abbrev pub IsStranger : List (ℕ × List Call) → List Line → (client : ℕ) → Type 0
IsStranger passes lines client = (l : Line) × Contains lines l × (l.client ≡ client) × (has_pass passes client ≡ false)

abbrev pub Differs : List (ℕ × List Call) → List Line → (client : ℕ) → Type 0
Differs passes lines client = ListsOthers passes lines client ⊎ IsStranger passes lines client

-- what some passes are answered when they are compared: one is missing exactly where a client to whom a pass was given has none of them, and that is
-- reported first; else the history is theirs, or differs from them by the calls of a client. No memory is taken for that
abbrev pub Compares : (clients : List ℕ) → List (ℕ × List Call) → List Line → Result ⊤ DeskFault → Type 0
Compares clients passes lines (Ok done) = All (HasPass passes) clients × IsOf passes lines
Compares clients passes lines (Err PassMissing) = ¬ All (HasPass passes) clients
Compares clients passes lines (Err (HistoryDiffers client)) = All (HasPass passes) clients × Differs passes lines client
Compares clients passes lines (Err other) = ⊥

-- a desk refuses to gather passes as it tells: one of the 65,536 clients that there may be has none of them; or there is a history, legal as above, from
-- which the calls of the client that it names differ. Where no memory is left all was compared, and there is one history of just these calls
abbrev pub IsCaused : List Scope → (opening : CoreState) → List (ℕ × List Call) → DeskFault → Type 0
IsCaused scopes opening passes PassMissing = (client : ℕ) × (client < 65536) × (has_pass passes client ≡ false)
IsCaused scopes opening passes (HistoryDiffers client) = ∥ ((lines : List Line) × (now : CoreState) × Leads scopes opening lines now × Differs passes lines client) ∥₁
IsCaused scopes opening passes Memory = HaveOneHistory scopes opening passes
IsCaused scopes opening passes other = ⊥
