-- How clap walks over the words behind `mt run`.
use Rattle.std.proofs.Common.{◌≡◌, Bool, true, false, eqb, List, [], ◌∷◌, ◌++◌, fold, Option, None, Some, is_some, refl, sym, ap, subst, ◌∙◌, codes}
use Rattle.std.proofs.lemmas.List.{append-nil, append_assoc}
use Rattle.std.specs.Prelude.{unwrap_or}
use Rattle.std.specs.Str.{bytes_eq}
use Rattle.clap.specs.Lexer.{long_of, short_of}
use Rattle.clap.specs.Walk.{Row, Text, Walk, all_of, finished, idle, positional, nothing_held, reading_by, rows_after, settled, walk, walk_from, walked}
use Rattle.clap.specs.Faults.{check_fault, defaults_fault, entered_fault, fault_of, level_fault, settle_fault, turn_fault, walk_fault}
use Rattle.clap.specs.Kinds.{Kinds, or_else}
use Rattle.clap.specs.Simple.{App, Shape, built, built_leaf, entered, filled, names_of, subcommand_of, with_index}
use Rattle.clap.specs.declared.parser.matches.ValueSource.TheVariants.{CommandLine}
use Rattle.clap.proofs.OnLiterals.{clap_on_literals}
use Rattle.clap.proofs.WalkLemmas.{walk_stopped}
use Rattle.clap.proofs.FaultLemmas.{stopped_fault}
use Rattle.mt_choice.specs.Command.{keyspace_rule, mt, run_app}
use Rattle.mt_choice.specs.Words.{is_dashed, keyspace_words}

-- `run` as clap builds it
abbrev pub leaf : Shape
leaf = built_leaf run_app.top

-- what was found of the keyspaces
abbrev pub rows_for : List Text → List Row
rows_for [] = []
rows_for (k ∷ ks) = record {
  id = codes "KEYSPACE";
  values = k ∷ ks;
  count = None;
  source = Some CommandLine;
  reading = reading_by (with_index 1 (filled keyspace_rule));
} ∷ []

pub all_of-rows : (ks : List Text) → unwrap_or (all_of (codes "KEYSPACE") (rows_for ks)) [] ≡ ks
all_of-rows [] = refl
all_of-rows (k ∷ ks) = refl

-- where the walk stands: the words used, the last one that waits to be used, and whether `--` was met
abbrev pub stands : List Text → Option Text → Bool → Walk
stands used None met = record {
  held = record { rows = rows_for used; pending = None; skip = 0 };
  waiting = idle;
  position = 1;
  is_trailing = met;
  stopped = None;
}
stands used (Some last) met = record {
  held = record { rows = rows_for used; pending = Some (codes "KEYSPACE", last ∷ []); skip = 0 };
  waiting = positional;
  position = 1;
  is_trailing = met;
  stopped = None;
}

abbrev pub so_far : List Text → Option Text → List Text
so_far used None = used
so_far used (Some last) = used ++ last ∷ []

-- ---- one word

-- a word that is no option has nothing that clap takes for one
no_option : (word : Text) → is_dashed word ≡ false → (long_of word ≡ None) × (short_of word ≡ None)
no_option [] plain = (refl, refl)
no_option (x ∷ []) plain = by (eqb x 45) refl
  where
    by : (t : Bool) → eqb x 45 ≡ t → (long_of (x ∷ []) ≡ None) × (short_of (x ∷ []) ≡ None)
    by true e = rw e (refl, refl)
    by false e = rw e (refl, refl)
no_option (x ∷ y ∷ rest) plain = rw plain (refl, refl)

-- a word behind `--`
trailing-step : (used : List Text) (last : Option Text) (word : Text) → walked leaf.rules [] (stands used last true) word ≡ stands (so_far used last) (Some word) true
unfolding clap_on_literals
trailing-step used None word = refl
trailing-step [] (Some last) word = refl
trailing-step (k ∷ ks) (Some last) word = refl

trailing-fault : (used : List Text) (last : Option Text) (word : Text) → turn_fault leaf [] (stands used last true) word ≡ []
unfolding clap_on_literals
trailing-fault used None word = refl
trailing-fault used (Some last) word = refl

-- `--` itself
mark-step : (used : List Text) (last : Option Text) (word : Text) → bytes_eq word (codes "--") ≡ true → walked leaf.rules [] (stands used last false) word ≡ stands used last true
unfolding clap_on_literals
mark-step used None word is = rw is refl
mark-step used (Some last) word is = rw is refl

mark-fault : (used : List Text) (last : Option Text) (word : Text) → bytes_eq word (codes "--") ≡ true → turn_fault leaf [] (stands used last false) word ≡ []
unfolding clap_on_literals
mark-fault used None word is = rw is refl
mark-fault used (Some last) word is = rw is refl

-- any other word that is no option
pub plain-step : (used : List Text) (last : Option Text) (word : Text) → bytes_eq word (codes "--") ≡ false → is_dashed word ≡ false
    → walked leaf.rules [] (stands used last false) word ≡ stands (so_far used last) (Some word) false
unfolding clap_on_literals
plain-step used None word other plain = rw (other, (no_option word plain).0, (no_option word plain).1) refl
plain-step [] (Some last) word other plain = rw (other, (no_option word plain).0, (no_option word plain).1) refl
plain-step (k ∷ ks) (Some last) word other plain = rw (other, (no_option word plain).0, (no_option word plain).1) refl

pub plain-fault : (used : List Text) (last : Option Text) (word : Text) → bytes_eq word (codes "--") ≡ false → is_dashed word ≡ false
    → turn_fault leaf [] (stands used last false) word ≡ []
unfolding clap_on_literals
plain-fault used None word other plain = rw (other, (no_option word plain).0, (no_option word plain).1) refl
plain-fault used (Some last) word other plain = rw (other, (no_option word plain).0, (no_option word plain).1) refl

-- ---- the words

-- the walk passes over the words, and these are keyspaces
abbrev Passes : List Text → Option Text → Bool → List Text → List Text → Type 0
Passes used last met words ks = (used' : List Text) × (last' : Option Text) × (met' : Bool)
    × (fold (walked leaf.rules []) (stands used last met) words ≡ stands used' last' met')
    × (so_far used' last' ≡ so_far used last ++ ks)
    × (walk_fault leaf [] (stands used last met) words ≡ [])

one_more : (used : List Text) (last : Option Text) (met met' : Bool) (word : Text) (words ks : List Text)
    → walked leaf.rules [] (stands used last met) word ≡ stands (so_far used last) (Some word) met' → turn_fault leaf [] (stands used last met) word ≡ []
    → Passes (so_far used last) (Some word) met' words ks → Passes used last met (word ∷ words) (word ∷ ks)
unfolding walk_fault
one_more used last met met' word words ks step fault r = (
  r.0,
  r.1,
  r.2,
  ap (λ w. fold (walked leaf.rules []) w words) step ∙ r.3,
  r.4 ∙ append_assoc (so_far used last) (word ∷ []) ks,
  ap (λ k. or_else k (walk_fault leaf [] (walked leaf.rules [] (stands used last met) word) words)) fault ∙ ap (λ w. walk_fault leaf [] w words) step ∙ r.5,
)

passes-trailing : (words used : List Text) (last : Option Text) → Passes used last true words words
unfolding walk_fault
passes-trailing [] used last = (used, last, true, refl, sym (append-nil (so_far used last)), refl)
passes-trailing (word ∷ words) used last =
    one_more used last true true word words words (trailing-step used last word) (trailing-fault used last word) (passes-trailing words (so_far used last) (Some word))

marked : (used : List Text) (last : Option Text) (word : Text) (words : List Text) → bytes_eq word (codes "--") ≡ true → Passes used last true words words → Passes used last false (word ∷ words) words
unfolding walk_fault
marked used last word words is r = (
  r.0,
  r.1,
  r.2,
  ap (λ w. fold (walked leaf.rules []) w words) (mark-step used last word is) ∙ r.3,
  r.4,
  ap (λ k. or_else k (walk_fault leaf [] (walked leaf.rules [] (stands used last false) word) words)) (mark-fault used last word is) ∙ ap (λ w. walk_fault leaf [] w words) (mark-step used last word is) ∙ r.5,
)

passes-plain : (words used : List Text) (last : Option Text) (ks : List Text) → keyspace_words words ≡ Some ks → Passes used last false words ks
unfolding walk_fault
passes-plain [] used last ks is = let none : [] ≡ ks = cc in subst (Passes used last false []) none (used, last, false, refl, sym (append-nil (so_far used last)), refl)
passes-plain (word ∷ words) used last ks is = by (λ more e. passes-plain words (so_far used last) (Some word) more e) (bytes_eq word (codes "--")) (is_dashed word) (keyspace_words words) refl refl refl
  where
    by : ((more : List Text) → keyspace_words words ≡ Some more → Passes (so_far used last) (Some word) false words more)
        → (mark dashed : Bool) (rest : Option (List Text)) → bytes_eq word (codes "--") ≡ mark → is_dashed word ≡ dashed → keyspace_words words ≡ rest → Passes used last false (word ∷ words) ks
    by again true dashed rest e f g =
        let here : Some words ≡ Some ks = rw e at is in
        let same : words ≡ ks = cc in
        subst (Passes used last false (word ∷ words)) same (marked used last word words e (passes-trailing words used last))
    by again false true rest e f g =
        let bad : None ≡ Some ks = rw (e, f) at is in
        absurd cc
    by again false false None e f g =
        let bad : None ≡ Some ks = rw (e, f, g) at is in
        absurd cc
    by again false false (Some more) e f g =
        let here : Some (word ∷ more) ≡ Some ks = rw (e, f, g) at is in
        let same : word ∷ more ≡ ks = cc in
        subst (Passes used last false (word ∷ words)) same (one_more used last false false word words more (plain-step used last word e f) (plain-fault used last word e f) (again more g))

-- ---- after the walk

after_walk : Walk → Kinds
after_walk w = or_else (settle_fault leaf.rules leaf.args_override_self w.held) (or_else (defaults_fault (settled leaf.rules w.held).rows leaf.rules) (check_fault leaf (finished leaf.rules w.held) false))

nothing_after : (used : List Text) (last : Option Text) (met : Bool) → after_walk (stands used last met) ≡ []
unfolding clap_on_literals after_walk
nothing_after [] None met = refl
nothing_after (k ∷ ks) None met = refl
nothing_after [] (Some last) met = refl
nothing_after (k ∷ ks) (Some last) met = refl

rows_then : (used : List Text) (last : Option Text) (met : Bool) → finished leaf.rules (stands used last met).held ≡ rows_for (so_far used last)
rows_then [] None met = refl
rows_then (k ∷ ks) None met = refl
rows_then [] (Some last) met = refl
rows_then (k ∷ ks) (Some last) met = refl

leaf-fault : (words ks : List Text) → keyspace_words words ≡ Some ks → level_fault leaf [] nothing_held words false [] ≡ []
unfolding after_walk
leaf-fault words ks is =
    let p = passes-plain words [] None ks is in
    ap (λ k. or_else k (after_walk (walk leaf.rules [] nothing_held words))) p.5 ∙ ap after_walk p.3 ∙ nothing_after p.0 p.1 p.2

leaf-rows : (words ks : List Text) → keyspace_words words ≡ Some ks → rows_after leaf.rules [] words ≡ rows_for ks
leaf-rows words ks is =
    let p = passes-plain words [] None ks is in
    ap (λ (w : Walk). finished leaf.rules w.held) p.3 ∙ rows_then p.0 p.1 p.2 ∙ ap rows_for p.4

-- ---- the command above

abbrev app : App
app = built mt

abbrev entering : List Text → Walk
entering words = record (walk_from nothing_held) { stopped = Some (codes "run", words) }

enters : (words : List Text) → walk app.top.rules (names_of app) nothing_held (codes "run" ∷ words) ≡ entering words
unfolding clap_on_literals
enters words = sym (walk_stopped app.top.rules (names_of app) (walk_from nothing_held) (codes "run") [] words)

pub run-subcommand : (program : Text) (words ks : List Text) → keyspace_words words ≡ Some ks → subcommand_of mt (program ∷ codes "run" ∷ words) ≡ Some (codes "run", rows_for ks)
run-subcommand program words ks is =
    ap (λ (w : Walk). entered app w.stopped) (enters words) ∙ ap (λ rows. Some (codes "run", rows)) (leaf-rows words ks is)

above : (words : List Text) → Walk → Kinds
above words w = or_else (walk_fault app.top (names_of app) (walk_from nothing_held) (codes "run" ∷ words)) (or_else (entered_fault app w.stopped)
    (or_else (settle_fault app.top.rules app.top.args_override_self w.held) (or_else (defaults_fault (settled app.top.rules w.held).rows app.top.rules) (check_fault app.top (finished app.top.rules w.held) (is_some (entered app w.stopped))))))

above-walk : (words : List Text) → walk_fault app.top (names_of app) (walk_from nothing_held) (codes "run" ∷ words) ≡ []
unfolding clap_on_literals
above-walk words = stopped_fault app.top (names_of app) (walk_from nothing_held) (codes "run", []) words

above-entering : (words ks : List Text) → keyspace_words words ≡ Some ks → above words (entering words) ≡ []
unfolding clap_on_literals above
above-entering words ks is = rw (above-walk words, leaf-fault words ks is) refl

pub run-fault : (program : Text) (words ks : List Text) → keyspace_words words ≡ Some ks → fault_of mt (program ∷ codes "run" ∷ words) ≡ []
unfolding above
run-fault program words ks is = ap (above words) (enters words) ∙ above-entering words ks is

-- where the command takes the words, so does `run`
pub run-fault-below : (program : Text) (words : List Text) → fault_of mt (program ∷ codes "run" ∷ words) ≡ [] → level_fault leaf [] nothing_held words false [] ≡ []
unfolding clap_on_literals above
run-fault-below program words none =
    let there : above words (entering words) ≡ [] = sym (ap (above words) (enters words)) ∙ none in
    first-none (level_fault leaf [] nothing_held words false []) [] (rw (above-walk words) at there)
  where
    first-none : (a b : Kinds) → or_else a b ≡ [] → a ≡ []
    first-none [] b e = refl
    first-none (k ∷ ks) b e = absurd cc
