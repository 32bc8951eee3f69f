-- What an event makes of the live workflows, and what it leaves as it was.
use Rattle.std.proofs.Common.{◌≡◌, ◌⊎◌, inl, inr, ℕ, Bool, true, false, not, List, [], ◌∷◌, ◌++◌, map, find, Option, None, Some, option_map, refl, sym, ap, ◌∙◌, map-id}
use Rattle.std.specs.Option.{option_map_or}
use Rattle.mt_names.specs.Names.{same_text}
use Rattle.mt_names.proofs.SameLemmas.{same_text_decides}
use Rattle.mt_plain.specs.Events.{Event, create, advance, begin_switch, begin_reverse, step, undo, cancel, complete, StreamName, Answer, done, row, advanced, shown, refused, Way}
use Rattle.mt_plain.specs.Next.{all_fed, created, live_stepped, live_undone, next, next_taken, on_way_of, types_and, types_without, with_advance, with_completed, with_live, with_way_to, without_live}
use Rattle.mt_plain.specs.Plain.{Live, Plain, cuts_of, each_once, live_at}
use Rattle.mt_plain.specs.Slots.{live_advanced, log_length}
use Rattle.mt_laws.specs.Changes.{HasSides}
use Rattle.mt_laws.proofs.LiveLemmas.{IsIn, changed, find-filter_gone, find-filter_kept, find-map, find-push_some, find_none, find_some, sides_changed, sides_same}

-- ---- what it makes of a live workflow that stays

abbrev pub live_taken : Plain → Event → Live → Live
live_taken p (begin_switch workflow types) w = changed (with_way_to false (λ switched. types_and switched types)) workflow w
live_taken p (begin_reverse workflow types) w = changed (with_way_to true (λ switched. types_without switched types)) workflow w
live_taken p (step workflow at) w = changed (λ v. on_way_of (live_stepped p v) v) workflow w
live_taken p (undo workflow at) w = changed (λ v. on_way_of (live_undone v) v) workflow w
live_taken p other w = w

abbrev pub live_next : Plain → Event → Answer → Live → Live
live_next p event done w = live_taken p event w
live_next p event (row r) w = live_taken p event w
live_next p (advance workflow name shard at at_most) (advanced events rows) w = changed (λ v. live_advanced p v name shard at at_most events rows) workflow w
live_next p event other w = w

-- ---- it keeps its name, sides and tables

pub sides-live_stepped : (p : Plain) (w : Live) (way : Way) → HasSides w (live_stepped p w way)
sides-live_stepped p w way = record { name = refl; source = refl; target = refl; tables = refl; cuts = refl }

pub sides-undone : (w : Live) (way : Way) → HasSides w (live_undone w way)
sides-undone w way = record { name = refl; source = refl; target = refl; tables = refl; cuts = refl }

pub sides-on_way : (w : Live) (change : Way → Live) → ((way : Way) → HasSides w (change way)) → (o : Option Way) → HasSides w (option_map_or change o w)
sides-on_way w change each None = sides_same w
sides-on_way w change each (Some way) = each way

pub sides-advanced : (p : Plain) (w : Live) (name : StreamName) (shard at at_most events rows : ℕ) → HasSides w (live_advanced p w name shard at at_most events rows)
sides-advanced p w name shard at at_most events rows = record { name = refl; source = refl; target = refl; tables = refl; cuts = refl }

sides-taken : (p : Plain) (event : Event) (w : Live) → HasSides w (live_taken p event w)
sides-taken p (begin_switch workflow types) w =
    sides_changed (with_way_to false (λ switched. types_and switched types)) workflow w (record { name = refl; source = refl; target = refl; tables = refl; cuts = refl })
sides-taken p (begin_reverse workflow types) w =
    sides_changed (with_way_to true (λ switched. types_without switched types)) workflow w (record { name = refl; source = refl; target = refl; tables = refl; cuts = refl })
sides-taken p (step workflow at) w = sides_changed (λ v. on_way_of (live_stepped p v) v) workflow w (sides-on_way w (live_stepped p w) (sides-live_stepped p w) w.way)
sides-taken p (undo workflow at) w = sides_changed (λ v. on_way_of (live_undone v) v) workflow w (sides-on_way w (live_undone w) (sides-undone w) w.way)
sides-taken p other w = sides_same w

pub sides-next : (p : Plain) (event : Event) (answer : Answer) (w : Live) → HasSides w (live_next p event answer w)
sides-next p event done w = sides-taken p event w
sides-next p event (row r) w = sides-taken p event w
sides-next p (advance workflow name shard at at_most) (advanced events rows) w =
    sides_changed (λ v. live_advanced p v name shard at at_most events rows) workflow w (sides-advanced p w name shard at at_most events rows)
sides-next p event other w = sides_same w

-- ---- the live workflows after an event: each changed, one more, or one gone

abbrev pub made_live : Plain → (name source target : List ℕ) → List (List ℕ) → Live
made_live p name source target tables = all_fed p (created name source target tables (cuts_of p target) (log_length p source 0))

pub data LivesAfter (p q : Plain) (event : Event) (answer : Answer) : Type 0 where
  mapped : q.lives ≡ map (live_next p event answer) p.lives → LivesAfter p q event answer
  made : (name source target : List ℕ) (tables : List (List ℕ)) → event ≡ create name source target tables
      → q.lives ≡ p.lives ++ made_live p name source target (each_once tables) ∷ []
      → ((w : Live) → live_next p event answer w ≡ w) → LivesAfter p q event answer
  ended : (name : List ℕ) → (event ≡ cancel name) ⊎ (event ≡ complete name) → q.lives ≡ without_live name p.lives
      → ((w : Live) → live_next p event answer w ≡ w) → LivesAfter p q event answer

same_lives : (p : Plain) → p.lives ≡ map (λ w. w) p.lives
same_lives p = sym (map-id p.lives)

map-nowhere : (change : Live → Live) (name : List ℕ) (xs : List Live) → ((w : Live) → IsIn w xs → same_text w.name name ≡ false) → xs ≡ map (changed change name) xs
map-nowhere change name [] each = refl
map-nowhere change name (x ∷ xs) each = rw (each x (inl refl)) (ap (λ l. x ∷ l) (map-nowhere change name xs (λ w is. each w (inr is))))

pub lives-advance : (p : Plain) (workflow : List ℕ) (name : StreamName) (shard at at_most events rows : ℕ) (o : Option Live) → live_at p workflow ≡ o
    → (with_advance p name shard at at_most events rows o).lives ≡ map (changed (λ v. live_advanced p v name shard at at_most events rows) workflow) p.lives
lives-advance p workflow name shard at at_most events rows None none =
    map-nowhere (λ v. live_advanced p v name shard at at_most events rows) workflow p.lives (find_none (λ w. same_text w.name workflow) p.lives none)
lives-advance p workflow name shard at at_most events rows (Some w) some =
    let is = (find_some (λ v. same_text v.name workflow) p.lives w some).1 in
    ap (λ n. with_live (λ v. live_advanced p v name shard at at_most events rows) n p.lives) ((same_text_decides w.name workflow).0 is)

filter-everywhere : (name : List ℕ) (xs : List Live) → ((w : Live) → IsIn w xs → same_text w.name name ≡ false) → xs ≡ without_live name xs
filter-everywhere name [] each = refl
filter-everywhere name (x ∷ xs) each = rw (each x (inl refl)) (ap (λ l. x ∷ l) (filter-everywhere name xs (λ w is. each w (inr is))))

pub lives-completed : (p : Plain) (workflow : List ℕ) (o : Option Live) → live_at p workflow ≡ o → (with_completed p o).lives ≡ without_live workflow p.lives
lives-completed p workflow None none = filter-everywhere workflow p.lives (find_none (λ w. same_text w.name workflow) p.lives none)
lives-completed p workflow (Some w) some =
    let is = (find_some (λ v. same_text v.name workflow) p.lives w some).1 in
    ap (λ n. without_live n p.lives) ((same_text_decides w.name workflow).0 is)

lives-taken : (p : Plain) (event : Event) (answer : Answer) → ((w : Live) → live_next p event answer w ≡ live_taken p event w) → live_next p event answer ≡ live_taken p event → LivesAfter p (next_taken p event) event answer
lives-taken p (create name source target tables) answer each same = made name source target tables refl refl each
lives-taken p (cancel name) answer each same = ended name (inl refl) refl each
lives-taken p (complete name) answer each same = ended name (inr refl) (lives-completed p name (live_at p name) refl) each
lives-taken p (begin_switch workflow types) answer each same = mapped (ap (λ f. map f p.lives) (sym same))
lives-taken p (begin_reverse workflow types) answer each same = mapped (ap (λ f. map f p.lives) (sym same))
lives-taken p (step workflow at) answer each same = mapped (ap (λ f. map f p.lives) (sym same))
lives-taken p (undo workflow at) answer each same = mapped (ap (λ f. map f p.lives) (sym same))
lives-taken p other answer each same = mapped (same_lives p ∙ ap (λ f. map f p.lives) (sym same))

pub lives_after : (p : Plain) (event : Event) (answer : Answer) → LivesAfter p (next p event answer) event answer
lives_after p event done = lives-taken p event done (λ w. refl) refl
lives_after p event (row r) = lives-taken p event (row r) (λ w. refl) refl
lives_after p (advance workflow name shard at at_most) (advanced events rows) = mapped (lives-advance p workflow name shard at at_most events rows (live_at p workflow) refl)
lives_after p event (advanced events rows) = mapped (same_lives p)
lives_after p event (shown s) = mapped (same_lives p)
lives_after p event (refused refusal) = mapped (same_lives p)

-- ---- the workflow of a name

-- one that is live before and after
pub live_after : (p q : Plain) (event : Event) (answer : Answer) → LivesAfter p q event answer → (name : List ℕ) (w v : Live) → live_at p name ≡ Some w → live_at q name ≡ Some v → v ≡ live_next p event answer w
live_after p q event answer (mapped lives) name w v before now =
    let is : Some v ≡ Some (live_next p event answer w) =
    sym now ∙ ap (find (λ x. same_text x.name name)) lives
    ∙ find-map (λ x. same_text x.name name) (live_next p event answer) p.lives (λ x. ap (λ n. same_text n name) (sym (sides-next p event answer x).name))
    ∙ ap (option_map (live_next p event answer)) before in
    cc
live_after p q event answer (made new source target tables is lives same) name w v before now =
    let found : Some v ≡ Some w = sym now ∙ ap (find (λ x. same_text x.name name)) lives ∙ find-push_some (λ x. same_text x.name name) p.lives _ w before in
    let e : v ≡ w = cc in
    e ∙ sym (same w)
live_after p q event answer (ended gone is lives same) name w v before now = by (same_text name gone) refl
  where
    test : Live → Bool
    test x = same_text x.name name

    by : (t : Bool) → same_text name gone ≡ t → v ≡ live_next p event answer w
    by true t =
        let none = find-filter_gone test (λ x. not (same_text x.name gone)) p.lives
        (λ x i e. ap not (ap (λ n. same_text n gone) ((same_text_decides x.name name).0 e) ∙ t)) in
        let h : Some v ≡ None = sym now ∙ ap (find test) lives ∙ none in absurd cc
    by false t =
        let kept = find-filter_kept test (λ x. not (same_text x.name gone)) p.lives
        (λ x i e. ap not (ap (λ n. same_text n gone) ((same_text_decides x.name name).0 e) ∙ t)) in
        let found : Some v ≡ Some w = sym now ∙ ap (find test) lives ∙ kept ∙ before in
        let e : v ≡ w = cc in
        e ∙ sym (same w)
