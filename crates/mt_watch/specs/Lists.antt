-- What becomes of a list at whose end something is put.
use Rattle.std.specs.Prelude.{◌≡◌, ℕ, ◌<◌, List, [], ◌∷◌, ◌++◌, length, ⊤, Result, Ok, Err}
use Rattle.mt_model.specs.declared.entries.Entry.{Entry}
use Rattle.mt_watch.specs.declared.fault.WatchersFault.{WatchersFault}
use Rattle.mt_watch.specs.declared.fault.WatchersFault.TheVariants.{Memory, NoWatcher, Refused, Full}

-- an entry at the end of a change or a notice
abbrev pub Pushes : List Entry → Entry → Result ⊤ WatchersFault → List Entry → Type 0
Pushes old entry (Ok done) new = new ≡ old ++ entry ∷ []
Pushes old entry (Err fault) new = (fault ≡ Memory) × (new ≡ old)

-- how many watchers there are at most (this profile's own)
abbrev pub most_watchers : ℕ
most_watchers = 32

-- a watcher behind the others
abbrev pub Adds : {W : Type 0} → List W → W → Result ⊤ WatchersFault → List W → Type 0
Adds old watcher (Ok done) new = (length old < most_watchers) × (new ≡ old ++ watcher ∷ [])
Adds old watcher (Err Full) new = (length old ≡ most_watchers) × (new ≡ old)
Adds old watcher (Err Memory) new = (length old < most_watchers) × (new ≡ old)
Adds old watcher (Err NoWatcher) new = ⊥
Adds old watcher (Err (Refused i)) new = ⊥
