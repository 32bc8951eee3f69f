-- What each call of C does.
use Rattle.std.specs.Prelude.{◌≡◌, ◌⊎◌, ⊤, ℕ, ℤ, pos, ◌<◌, ◌≤◌, true, false, List, [], ◌∷◌, ◌++◌, length, take, Ok}
use Rattle.mt_laws.specs.Headline.{Headline}
use Rattle.mt_laws.specs.Scripts.{IsScriptRun}
use Rattle.mt_model.specs.declared.entries.Scope.{Scope}
use Rattle.mt_plain.specs.Events.{Answer, Event}
use Rattle.mt_plain.specs.Output.{IsOutput, MAX_SCRIPT_LENGTH, watchers_of}
use Rattle.mt_plain.specs.Plain.{opening}
use Rattle.mt_plain.specs.Script.{read_line}
use Rattle.mt_run.specs.Runs.{AsksDocument, KeepsTheHeadline}
use Rattle.mt.specs.declared.handle.Handle.{Handle}
use Rattle.mt.specs.declared.status.Status.{Status}
use Rattle.mt.specs.declared.status.Status.TheVariants as status
use Rattle.mt.specs.Names.{IsNoList, watched_in}
use Rattle.mt.specs.Sessions.{longest_answer}

-- the number that C sees of how a call ends
abbrev pub number_of : Status → ℤ
number_of status.Done = pos 0
number_of status.Memory = pos 1
number_of status.Room = pos 2
number_of status.Closed = pos 3
number_of status.Open = pos 4
number_of status.Names = pos 5
number_of status.TooLong = pos 6

-- a call ends so, and what it did is what is said of that end
abbrev pub Ends : (Status → Type 0) → ℤ → Type 0
Ends Did number = (how : Status) × (number ≡ number_of how) × Did how

-- ---- sessions

-- what the lines of a session so far wrote is the output of a script of them, from the opening with watchers of these scopes, and the headline
-- holds of that run
abbrev pub WroteAScript : List Scope → (lines : List (List ℕ)) → (out : List ℕ) → Type 0
WroteAScript scopes lines out =
    (events : List Event) × (answers : List Answer) × IsScriptRun read_line (opening scopes) lines events answers out × Headline (opening scopes) events answers

-- an open session has these watchers, these lines so far, and wrote this
abbrev pub IsOpen : List Scope → (lines : List (List ℕ)) → (out : List ℕ) → Handle → Type 0
IsOpen scopes lines out handle = (handle.opened ≡ true) × (handle.held.scopes ≡ scopes) × (handle.held.lines ≡ lines) × (handle.held.out ≡ out)

-- it is as it was
abbrev pub IsAsBefore : (old new : Handle) → Type 0
IsAsBefore old new = (old.opened ≡ true) × IsOpen old.held.scopes old.held.lines old.held.out new

-- there is none
abbrev pub IsClosed : Handle → Type 0
IsClosed handle = handle.opened ≡ false

abbrev pub Opens : (old new : Handle) → (keyspaces : List ℕ) → Status → Type 0
Opens old new keyspaces status.Done =
    IsClosed old × ((names : List (List ℕ)) × (watched_in keyspaces ≡ Ok names) × IsOpen (watchers_of names) [] [] new)
Opens old new keyspaces status.Open = IsAsBefore old new
Opens old new keyspaces status.Names = IsClosed old × IsClosed new × IsNoList keyspaces
Opens old new keyspaces status.Memory = IsClosed old × IsClosed new
Opens old new keyspaces other = ⊥

-- the line and what is put at the beginning of the place are the last ones of the session. In a place with room for the longest answer, only a
-- document finds none
abbrev pub Commands : (old new : Handle) → (line place place' : List ℕ) → (written : ℕ) → Status → Type 0
Commands old new line place place' written status.Done =
    (old.opened ≡ true) × IsOpen old.held.scopes (old.held.lines ++ line ∷ []) (old.held.out ++ take written place') new × (written ≤ length place')
Commands old new line place place' written status.Room =
    IsAsBefore old new × (place' ≡ place) × (((length place < longest_answer) × (written ≡ 0)) ⊎ (AsksDocument line × (length place < written)))
Commands old new line place place' written status.Memory = IsAsBefore old new × (place' ≡ place) × (written ≡ 0) × AsksDocument line
Commands old new line place place' written status.Closed = IsClosed old × IsClosed new × (place' ≡ place) × (written ≡ 0)
Commands old new line place place' written other = ⊥

-- ---- a script as a whole

-- an output of the script, with the primaries watched of the keyspaces that a text names; the headline holds of the run that wrote it
abbrev pub IsOutputOf : (keyspaces script text : List ℕ) → Type 0
IsOutputOf keyspaces script text =
    (names : List (List ℕ)) × (watched_in keyspaces ≡ Ok names) × IsOutput (watchers_of names) script text × KeepsTheHeadline (watchers_of names) script text

-- why there is none
abbrev pub HasNoOutput : (keyspaces script : List ℕ) → Status → Type 0
HasNoOutput keyspaces script status.TooLong = MAX_SCRIPT_LENGTH < length script
HasNoOutput keyspaces script status.Names = IsNoList keyspaces
HasNoOutput keyspaces script status.Memory = ⊤
HasNoOutput keyspaces script other = ⊥

-- an output is put at the beginning of the place; or the place is too small for it, and so many bytes are; or there is none, and nothing is put
abbrev pub RunsWhole : (keyspaces script place place' : List ℕ) → (written : ℕ) → Status → Type 0
RunsWhole keyspaces script place place' written status.Done = (written ≤ length place') × IsOutputOf keyspaces script (take written place')
RunsWhole keyspaces script place place' written status.Room =
    (place' ≡ place) × (length place < written) × ((text : List ℕ) × (length text ≡ written) × IsOutputOf keyspaces script text)
RunsWhole keyspaces script place place' written how = (place' ≡ place) × (written ≡ 0) × HasNoOutput keyspaces script how
