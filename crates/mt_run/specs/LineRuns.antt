-- A run whose lines are handed in one at a time: what it has done so far, and what a line adds.
use Rattle.std.specs.Prelude.{◌≡◌, ⊤, List, [], ◌∷◌, ◌++◌, ℕ, Result, Ok, Err, string_bytes}
use Rattle.std.specs.Io.KnownBytes.{Appends}
use Rattle.mt_model.specs.declared.entries.Scope.{Scope}
use Rattle.mt_laws.specs.Headline.{Headline}
use Rattle.mt_laws.specs.Scripts.{IsScriptRun}
use Rattle.mt_plain.specs.Answers.{after}
use Rattle.mt_plain.specs.Events.{Answer, Event}
use Rattle.mt_plain.specs.Output.{line_feed}
use Rattle.mt_plain.specs.Plain.{opening}
use Rattle.mt_plain.specs.Script.{read_line}
use Rattle.mt_script.specs.declared.fault.ScriptFault.{ScriptFault}
use Rattle.mt_script.specs.declared.fault.ScriptFault.TheVariants as fault
use Rattle.mt_script.specs.Bytes.{IsCutShort, Known, Writes}
use Rattle.mt_stands.specs.Ways.{CoreStands, CoreState}
use Rattle.mt_run.specs.declared.line_run.Answered.{Answered}
use Rattle.mt_run.specs.declared.line_run.Answered.TheVariants as how

-- what the lines so far wrote is the output of a script of them: they asked for these events, which got these answers. The headline holds of
-- that run, and the core, with watchers of these scopes, stands for the state that it leaves
pub record SoFar (scopes : List Scope) (lines : List (List ℕ)) (out : List ℕ) (core : CoreState) : Type 0 where
  pub events : List Event
  pub answers : List Answer
  pub ran : IsScriptRun read_line (opening scopes) lines events answers out
  pub keeps : Headline (opening scopes) events answers
  pub stands : CoreStands (after (opening scopes) events answers) scopes core

-- what a line adds behind those so far: its text stands behind what waited, or is a document with a line feed
abbrev pub Adds : List Scope → (lines : List (List ℕ)) → (out line : List ℕ) → CoreState → (waiting waiting' : List ℕ) → Answered → Type 0
Adds scopes lines out line new waiting waiting' how.Line =
    (text : List ℕ) × (waiting' ≡ waiting ++ text) × SoFar scopes (lines ++ line ∷ []) (out ++ text) new
Adds scopes lines out line new waiting waiting' (how.Document text) = SoFar scopes (lines ++ line ∷ []) (out ++ (string_bytes text ++ line_feed)) new
Adds scopes lines out line new waiting waiting' how.NoMemory = ⊤

-- whatever the lines before it were and wrote, a line adds to that
abbrev pub AddsLine : List Scope → (line : List ℕ) → (old new : CoreState) → (waiting waiting' : List ℕ) → Answered → Type 0
AddsLine scopes line old new waiting waiting' answered =
    (lines : List (List ℕ)) (out : List ℕ) → SoFar scopes lines out old → Adds scopes lines out line new waiting waiting' answered

-- a document goes out behind what waited; where there was no memory for it, what waited does, and nothing more
abbrev pub WritesAnswer : (held held' : Known) → (waiting waiting' : List ℕ) → Answered → Result Unit ScriptFault → Type 0
WritesAnswer held held' waiting waiting' how.Line result = (result ≡ Ok tt) × (held' ≡ held) × (waiting' ≡ waiting)
WritesAnswer held held' waiting waiting' (how.Document text) result = Writes held held' (waiting ++ (string_bytes text ++ line_feed)) waiting' result
WritesAnswer held held' waiting waiting' how.NoMemory (Ok done) = ⊥
WritesAnswer held held' waiting waiting' how.NoMemory (Err fault.Memory) = Appends held held' waiting
WritesAnswer held held' waiting waiting' how.NoMemory (Err other) = (other ≡ fault.Write) × IsCutShort held held' waiting
