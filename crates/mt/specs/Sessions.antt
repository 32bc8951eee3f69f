-- What a session is told and answers.
use Rattle.std.specs.Prelude.{◌≡◌, ◌⊎◌, ⊤, ℕ, ◌<◌, ◌≤◌, List, [], ◌∷◌, ◌++◌, length, take, Ok}
use Rattle.mt_model.specs.declared.entries.Scope.{Scope}
use Rattle.mt_plain.specs.Output.{watchers_of}
use Rattle.mt_run.specs.Runs.{AsksDocument}
use Rattle.mt.specs.declared.session.Session.{Session}
use Rattle.mt.specs.declared.status.Status.{Status}
use Rattle.mt.specs.declared.status.Status.TheVariants as status
use Rattle.mt.specs.Names.{IsNoList, watched_in}

-- the longest answer to a line that asks for no document
abbrev pub longest_answer : ℕ
longest_answer = 2416

-- the scopes of the watchers that it asks
abbrev pub scopes_of : Session → List Scope
scopes_of session = session.run.cached.site.watchers.scopes.items

-- its watchers, its lines so far, and all that they wrote
abbrev pub HasSaid : List Scope → (lines : List (List ℕ)) → (out : List ℕ) → Session → Type 0
HasSaid scopes lines out session = (scopes_of session ≡ scopes) × (session.said.lines ≡ lines) × (session.said.out ≡ out)

-- it has the primaries watched of the keyspaces that a text names, and no line yet
abbrev pub Begins : (text : List ℕ) → Session → Type 0
Begins text session = (names : List (List ℕ)) × (watched_in text ≡ Ok names) × HasSaid (watchers_of names) [] [] session

-- why there is none
abbrev pub IsNotOpened : (text : List ℕ) → Status → Type 0
IsNotOpened text status.Names = IsNoList text
IsNotOpened text status.Memory = ⊤
IsNotOpened text other = ⊥

-- a line is answered: it and the bytes that are put are what was said last; or there is no room for a line of output, or none for the document
-- that the line asks for, and then so many bytes would be; or no memory for it. If it isn't answered, what was said stays
abbrev pub TellsOf : (Says : List Scope → List (List ℕ) → List ℕ → Type 0) → (old : Session) → (line place place' : List ℕ) → Status × ℕ → Type 0
TellsOf Says old line place place' (status.Done, count) = Says (scopes_of old) (old.said.lines ++ line ∷ []) (old.said.out ++ take count place') × (count ≤ length place')
TellsOf Says old line place place' (status.Room, count) =
    Says (scopes_of old) old.said.lines old.said.out × (place' ≡ place) × (((length place < longest_answer) × (count ≡ 0)) ⊎ (AsksDocument line × (length place < count)))
TellsOf Says old line place place' (status.Memory, count) = Says (scopes_of old) old.said.lines old.said.out × (place' ≡ place) × (count ≡ 0) × AsksDocument line
TellsOf Says old line place place' (other, count) = ⊥

-- so a session becomes another
abbrev pub Tells : (old new : Session) → (line place place' : List ℕ) → Status × ℕ → Type 0
Tells old new line place place' told = TellsOf (λ scopes lines out. HasSaid scopes lines out new) old line place place' told
