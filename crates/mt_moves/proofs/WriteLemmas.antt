-- A part that is written, or told, table by table.
use Rattle.std.proofs.Common.{◌≡◌, ℕ, zero, suc, ◌<◌, List, [], ◌∷◌, ◌++◌, All, flat_map, get_or, length, map, take, Option, None, Some, Result, Ok, Err, true, false, append-nil, append_assoc, subst, sym, ap, ◌∙◌, arith}
use Rattle.std.proofs.lemmas.List.Elements.{recursion_from_All}
use Rattle.std.proofs.lemmas.List.Sums.{fold-append}
use Rattle.std.proofs.lemmas.List.{map-append}
use Rattle.std.proofs.lemmas.Bool.{true≢false}
use Rattle.std.specs.Prelude.{OnOk, ⊤}
use Rattle.std.specs.Result.{is_err}
use Rattle.mt_model.specs.declared.entries.Entry.{Entry}
use Rattle.mt_model.specs.declared.entries.EntryKey.{EntryKey}
use Rattle.mt_model.specs.declared.entries.EntryKey.TheVariants as about
use Rattle.mt_names.specs.Types.{no_types}
use Rattle.mt_model.specs.Part.{keys_of_name, part_keys, table_part_keys, with_entries}
use Rattle.mt_model.specs.Topology.{TopologyState, has_place, with_entry}
use Rattle.mt_model.proofs.PlaceLemmas.{fold-unchanged, has_place-written}
use Rattle.mt_plain.specs.Asks.{create_change, keys_created}
use Rattle.mt_plain.specs.Serve.{serve}
use Rattle.mt_watch.specs.declared.fault.WatchersFault.{WatchersFault}
use Rattle.mt_watch.specs.Lists.{Pushes}
use Rattle.mt_workflow.specs.Workflows.{WorkflowState, live_of, wanted}
use Rattle.mt_stands.specs.Keys.{rules_only}
use Rattle.mt_moves.specs.Parts.{HasPlaces, mark_keys}

-- ---- places

-- places stay where entries are written
pub places-written : (t : TopologyState) (es : List Entry) (keys : List EntryKey) → HasPlaces t keys → HasPlaces (with_entries t es) keys
places-written t es [] places = tt
places-written t es (key ∷ keys) places = (fold-unchanged with_entry (λ u. has_place u key) (λ u e. has_place-written u e key) t es ∙ places.0, places-written t es keys places.1)

-- those of some keys and of those behind them
pub places-parts : (t : TopologyState) (keys others : List EntryKey) → HasPlaces t (keys ++ others) → HasPlaces t keys × HasPlaces t others
places-parts t [] others places = (tt, places)
places-parts t (key ∷ keys) others places = let rest = places-parts t keys others places.1 in ((places.0, rest.0), rest.1)

table_there : (t : TopologyState) (source target : List ℕ) (tables : List (List ℕ)) (i : ℕ) (table : List ℕ) → i < length tables → table ≡ get_or tables i table
    → HasPlaces t (part_keys source target tables) → HasPlaces t (table_part_keys source target table)
table_there t source target [] i table inside is places = absurd (omega (arith, inside))
table_there t source target (x ∷ xs) zero table inside is places =
    subst (λ n. HasPlaces t (table_part_keys source target n)) (sym is) (places-parts t (table_part_keys source target x) (part_keys source target xs) places).0
table_there t source target (x ∷ xs) (suc i) table inside is places =
    table_there t source target xs i table (omega (arith, inside)) is (places-parts t (table_part_keys source target x) (part_keys source target xs) places).1

-- the next table has its places, once those before it are written
pub table_places : (t u : TopologyState) (es : List Entry) (source target : List ℕ) (tables : List (List ℕ)) (i : ℕ) (table : List ℕ) → i < length tables → table ≡ get_or tables i table
    → All (λ key. has_place t key ≡ true) (part_keys source target tables) → u ≡ with_entries t es → HasPlaces u (table_part_keys source target table)
table_places t u es source target tables i table inside is places written =
    subst (λ v. HasPlaces v (table_part_keys source target table)) (sym written)
    (places-written t es (table_part_keys source target table)
    (table_there t source target tables i table inside is (recursion_from_All (λ key. has_place t key ≡ true) (part_keys source target tables) places)))

-- some keys still have their places, once some entries are written
pub places-still : (t u : TopologyState) (es : List Entry) (keys : List EntryKey) → u ≡ with_entries t es → HasPlaces t keys → HasPlaces u keys
places-still t u es keys written places = subst (λ v. HasPlaces v keys) (sym written) (places-written t es keys places)

-- ---- one table

-- the keys of its rules by a name
abbrev pub names : Option (List ℕ) → List ℕ → List EntryKey
names keyspace table = map about.Rule (keys_of_name keyspace table)

-- the places of the name alone, of the name at the source, and of that at the target
pub places_alone : (t : TopologyState) (source target table : List ℕ) → HasPlaces t (table_part_keys source target table) → HasPlaces t (names None table)
places_alone t source target table places = (places.0, (places.1.0, (places.1.1.0, (places.1.1.1.0, tt))))

pub places_at_source : (t : TopologyState) (source target table : List ℕ) → HasPlaces t (table_part_keys source target table) → HasPlaces t (names (Some source) table)
places_at_source t source target table places = (places.1.1.1.1.0, (places.1.1.1.1.1.0, (places.1.1.1.1.1.1.0, (places.1.1.1.1.1.1.1.0, tt))))

pub places_at_target : (t : TopologyState) (source target table : List ℕ) → HasPlaces t (table_part_keys source target table) → HasPlaces t (names (Some target) table)
places_at_target t source target table places = (places.1.1.1.1.1.1.1.1.0, (places.1.1.1.1.1.1.1.1.1.0, (places.1.1.1.1.1.1.1.1.1.1.0, (places.1.1.1.1.1.1.1.1.1.1.1.0, tt))))

-- those of its marks
pub places_marks : (t : TopologyState) (source target table : List ℕ) → HasPlaces t (table_part_keys source target table) → HasPlaces t (mark_keys source target table)
places_marks t source target table places = (places.1.1.1.1.1.1.1.1.1.1.1.1.0, (places.1.1.1.1.1.1.1.1.1.1.1.1.1.0, (places.1.1.1.1.1.1.1.1.1.1.1.1.1.1.0, tt)))

-- those of a name at a side, by another word for it
pub names_by : (t : TopologyState) (side at table : List ℕ) → at ≡ side → HasPlaces t (names (Some side) table) → HasPlaces t (names (Some at) table)
names_by t side at table is places = subst (λ s. HasPlaces t (names (Some s) table)) (sym is) places

pub marks_by : (t : TopologyState) (source target at to table : List ℕ) → at ≡ source → to ≡ target → HasPlaces t (mark_keys source target table) → HasPlaces t (mark_keys at to table)
marks_by t source target at to table is_source is_target places =
    subst (λ s. HasPlaces t (mark_keys s to table)) (sym is_source) (subst (λ g. HasPlaces t (mark_keys source g table)) (sym is_target) places)

-- what is written name by name, and the marks behind them
pub table_whole : (f : EntryKey → Entry) (t a b c u : TopologyState) (source target at to table : List ℕ) → at ≡ source → to ≡ target
    → a ≡ with_entries t (map f (names None table)) → b ≡ with_entries a (map f (names (Some at) table)) → c ≡ with_entries b (map f (names (Some to) table))
    → u ≡ with_entries c (map f (mark_keys source target table)) → u ≡ with_entries t (map f (table_part_keys source target table))
table_whole f t a b c u source target at to table is_source is_target alone with_source with_target marks =
    let by_source = with_source ∙ ap (λ s. with_entries a (map f (names (Some s) table))) is_source ∙ ap (λ x. with_entries x (map f (names (Some source) table))) alone in
    let by_target = with_target ∙ ap (λ g. with_entries b (map f (names (Some g) table))) is_target ∙ ap (λ x. with_entries x (map f (names (Some target) table))) by_source in
    marks ∙ ap (λ x. with_entries x (map f (mark_keys source target table))) by_target

-- ---- a change

-- what is pushed behind what was pushed
pub pushed-behind : (old before now more less : List Entry) → before ≡ old ++ less → now ≡ before ++ more → now ≡ old ++ (less ++ more)
pushed-behind old before now more less pushed then = then ∙ ap (λ l. l ++ more) pushed ∙ append_assoc old less more

-- one entry, where it was pushed
pub pushed : (old new : List Entry) (entry : Entry) (r : Result ⊤ WatchersFault) → Pushes old entry r new → OnOk r (new ≡ old ++ entry ∷ [])
pushed old new entry (Ok done) is = is
pushed old new entry (Err fault) is = tt

-- what Create makes of a table, pushed name by name, with the denial and the presence at the target behind
pub table_pushed : (w : WorkflowState) (old a b d e now : List Entry) (at to table : List ℕ) → at ≡ w.source → to ≡ w.target
    → a ≡ old ++ map (wanted w no_types) (names None table) → b ≡ a ++ map (wanted w no_types) (names (Some at) table) → d ≡ b ++ map (wanted w no_types) (names (Some to) table)
    → e ≡ d ++ wanted w no_types (about.Denied to table) ∷ [] → now ≡ e ++ wanted w no_types (about.Present to table) ∷ []
    → now ≡ old ++ map (wanted w no_types) (keys_created (live_of w) table)
table_pushed w old a b d e now at to table is_source is_target alone with_source with_target denied present =
    let f = wanted w no_types in
    let first = map f (names None table) in
    let second = map f (names (Some at) table) in
    let third = map f (names (Some to) table) in
    let made : List ℕ → List ℕ → List EntryKey = λ s g. names None table ++ names (Some s) table ++ names (Some g) table ++ about.Denied g table ∷ about.Present g table ∷ [] in
    let twelve = pushed-behind old b d third (first ++ second) (pushed-behind old a b second first alone with_source) with_target in
    let thirteen = pushed-behind old d e (f (about.Denied to table) ∷ []) ((first ++ second) ++ third) twelve denied in
    pushed-behind old e now (f (about.Present to table) ∷ []) (((first ++ second) ++ third) ++ f (about.Denied to table) ∷ []) thirteen present
    ∙ ap (λ s. old ++ map f (made s to)) is_source
    ∙ ap (λ g. old ++ map f (made w.source g)) is_target

-- what holds where there is a value
pub where_ok : {T E P : Type 0} (r : Result T E) → is_err r ≡ false → OnOk r P → P
where_ok (Ok value) is holds = holds
where_ok (Err fault) is holds = absurd (true≢false is)

-- ---- one table more

-- the items of one list more
flat_map_next : {X Y : Type 0} (f : X → List Y) (xs : List X) (i : ℕ) (x : X) → i < length xs → x ≡ get_or xs i x → flat_map f (take i xs) ++ f x ≡ flat_map f (take (suc i) xs)
flat_map_next f [] i x inside is = absurd (omega (arith, inside))
flat_map_next f (y ∷ ys) zero x inside is = rw is (sym (append-nil (f y)))
flat_map_next f (y ∷ ys) (suc i) x inside is = append_assoc (f y) (flat_map f (take i ys)) (f x) ∙ ap (λ l. f y ++ l) (flat_map_next f ys i x (omega (arith, inside)) is)

-- the entries of one table more are written
pub table_written : (f : EntryKey → Entry) (t u v : TopologyState) (source target : List ℕ) (tables : List (List ℕ)) (i : ℕ) (table : List ℕ) → i < length tables → table ≡ get_or tables i table
    → u ≡ with_entries t (map f (part_keys source target (take i tables))) → v ≡ with_entries u (map f (table_part_keys source target table))
    → v ≡ with_entries t (map f (part_keys source target (take (suc i) tables)))
table_written f t u v source target tables i table inside is before now =
    let old = part_keys source target (take i tables) in
    let keys = table_part_keys source target table in
    now ∙ ap (λ x. with_entries x (map f keys)) before
    ∙ sym (fold-append with_entry t (map f old) (map f keys))
    ∙ ap (with_entries t) (sym (map-append f old keys) ∙ ap (map f) (flat_map_next (table_part_keys source target) tables i table inside is))

-- the change has one table more
pub change_more : (w : WorkflowState) (i : ℕ) (change now : List Entry) (table : List ℕ) → i < length w.tables → table ≡ get_or w.tables i table
    → change ≡ create_change (rules_only w.kept) (record (live_of w) { tables = take i w.tables })
    → now ≡ change ++ map (wanted w no_types) (keys_created (live_of w) table)
    → now ≡ create_change (rules_only w.kept) (record (live_of w) { tables = take (suc i) w.tables })
change_more w i change now table inside is before pushed =
    pushed ∙ ap (λ l. l ++ map (wanted w no_types) (keys_created (live_of w) table)) before
    ∙ flat_map_next (λ t. map (serve (rules_only w.kept) (live_of w) no_types) (keys_created (live_of w) t)) w.tables i table inside is
