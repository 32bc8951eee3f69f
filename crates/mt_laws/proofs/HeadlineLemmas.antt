-- From the lines of a run to its pieces.
use Rattle.std.proofs.Common.{◌≡◌, ◌⊎◌, inl, inr, ℕ, suc, ◌+◌, ◌-◌, ◌<◌, ◌≤◌, true, false, List, [], ◌∷◌, ◌++◌, take, drop, None, Some, is_some, option_map, refl, sym, ap, ◌∙◌, subst, arith}
use Rattle.std.specs.Prelude.{slice_get, zero}
use Rattle.mt_names.specs.declared.types.TabletType.TheVariants.{Primary}
use Rattle.mt_model.specs.declared.entries.Scope.{Scope}
use Rattle.mt_plain.specs.Answers.{Answers, Run, after}
use Rattle.mt_plain.specs.Drive.{way_of}
use Rattle.mt_plain.specs.Events.{Event, write, read, create, begin_switch, begin_reverse, step, undo, cancel, complete, Answer, done, row, Way}
use Rattle.mt_plain.specs.Next.{next}
use Rattle.mt_plain.specs.Plain.{Live, Plain, changed_types, live_at, moves, next_step, opening, owner, write_journal}
use Rattle.mt_plain.specs.Serve.{served_entry}
use Rattle.mt_plain.specs.Writes.{client_number, client_row, other_row}
use Rattle.mt_laws.specs.Copies.{tests_level}
use Rattle.mt_laws.specs.Headline.{Headline, IsLine, IsWay, LivesBetween, NoWayEndsBetween, state_at, types_changed}
use Rattle.mt_laws.specs.WayBack.{EndsNoWay, IsReached, NoWayBetween, SinceCreate, StaysLive, StaysOpen, WayFrom, ends_way, ends_workflow}
use Rattle.mt_laws.proofs.AllWritesLemmas.{reached_next}
use Rattle.mt_laws.proofs.CopyLemmas.{is_answer, nothing_lost}
use Rattle.mt_laws.proofs.GoesOnLemmas.{completed-row}
use Rattle.mt_laws.proofs.LevelLemmas.{of_number, fed_up_to_position, rows_at_the_journal}
use Rattle.mt_laws.proofs.ReachLemmas.{run_keeps}
use Rattle.mt_laws.proofs.ReadLemmas.{primary_reads, writes_at_the_owner}
use Rattle.mt_laws.proofs.ReverseLemmas.{both_ways}
use Rattle.mt_laws.proofs.RunLemmas.{row-run}
use Rattle.mt_laws.proofs.StreamLemmas.{runs_at_the_owner}
use Rattle.mt_laws.proofs.TrafficLemmas.{abandon_back}
use Rattle.mt_laws.proofs.WayBackLemmas.{cancel_back, cancel_touches_no_other}
use Rattle.mt_laws.proofs.WritableLemmas.{never_writable_in_two, open_at_the_owner, writable_at_the_owner}

-- ---- a line

-- the first lines of a run are a run
pub run_take : (n : ℕ) (events : List Event) (answers : List Answer) (p : Plain) → Run p events answers → Run p (take n events) (take n answers)
run_take zero events answers p run = tt
run_take (suc n) [] [] p run = tt
run_take (suc n) [] (answer ∷ answers) p run = absurd run
run_take (suc n) (event ∷ events) [] p run = absurd run
run_take (suc n) (event ∷ events) (answer ∷ answers) p run = (run.0, run_take n events answers (next p event answer) run.1)

-- and so are the others, from the state that these leave
run_drop : (n : ℕ) (events : List Event) (answers : List Answer) (p : Plain) → Run p events answers → Run (state_at p events answers n) (drop n events) (drop n answers)
run_drop zero events answers p run = run
run_drop (suc n) [] [] p run = tt
run_drop (suc n) [] (answer ∷ answers) p run = absurd run
run_drop (suc n) (event ∷ events) [] p run = absurd run
run_drop (suc n) (event ∷ events) (answer ∷ answers) p run = run_drop n events answers (next p event answer) run.1

state_further : (i n : ℕ) (events : List Event) (answers : List Answer) (p : Plain) → Run p events answers → state_at (state_at p events answers i) (drop i events) (drop i answers) n ≡ state_at p events answers (i + n)
state_further zero n events answers p run = let e : n ≡ 0 + n = omega arith in ap (state_at p events answers) e
state_further (suc i) n [] [] p run = first n ∙ sym (first (suc i + n))
  where
    first : (m : ℕ) → state_at p [] [] m ≡ p
    first zero = refl
    first (suc m) = refl
state_further (suc i) n [] (answer ∷ answers) p run = absurd run
state_further (suc i) n (event ∷ events) [] p run = absurd run
state_further (suc i) n (event ∷ events) (answer ∷ answers) p run =
    let e : suc (i + n) ≡ suc i + n = omega arith in
    state_further i n events answers (next p event answer) run.1 ∙ ap (state_at p (event ∷ events) (answer ∷ answers)) e

slice_get-drop : {A : Type 0} (i k : ℕ) (xs : List A) → slice_get (drop i xs) k ≡ slice_get xs (i + k)
slice_get-drop zero k xs = let e : k ≡ 0 + k = omega arith in ap (slice_get xs) e
slice_get-drop {A} (suc i) k [] = none k ∙ sym (none (suc i + k))
  where
    none : (m : ℕ) → slice_get {X = A} [] m ≡ None
    none zero = refl
    none (suc m) = refl
slice_get-drop (suc i) k (x ∷ xs) = let e : suc (i + k) ≡ suc i + k = omega arith in slice_get-drop i k xs ∙ ap (slice_get (x ∷ xs)) e

slice_get-take : {A : Type 0} (n k : ℕ) (xs : List A) (x : A) → slice_get (take n xs) k ≡ Some x → (k < n) × (slice_get xs k ≡ Some x)
slice_get-take zero zero xs x e = absurd cc
slice_get-take zero (suc k) xs x e = absurd cc
slice_get-take (suc n) zero [] x e = absurd cc
slice_get-take (suc n) (suc k) [] x e = absurd cc
slice_get-take (suc n) zero (y ∷ ys) x e = (omega arith, e)
slice_get-take (suc n) (suc k) (y ∷ ys) x e = let r = slice_get-take n k ys x e in let lt = r.0 in (omega arith, r.1)

pub line_at : (i : ℕ) (events : List Event) (answers : List Answer) (p : Plain) → Run p events answers → (event : Event) (answer : Answer) → IsLine events answers i event answer
    → Answers (state_at p events answers i) event answer × (state_at p events answers (suc i) ≡ next (state_at p events answers i) event answer)
line_at zero [] answers p run event answer is = let e = is.0 in absurd cc
line_at zero (e ∷ es) [] p run event answer is = absurd run
line_at zero (e ∷ es) (a ∷ as') p run event answer is =
    let f : Some e ≡ Some event = is.0 in
    let g : Some a ≡ Some answer = is.1 in
    let one : e ≡ event = cc in
    let two : a ≡ answer = cc in
    (subst (λ x. Answers p x answer) one (subst (Answers p e) two run.0), ap (λ x. next p x a) one ∙ ap (next p event) two)
line_at (suc i) [] answers p run event answer is = let e = is.0 in absurd cc
line_at (suc i) (e ∷ es) [] p run event answer is = absurd run
line_at (suc i) (e ∷ es) (a ∷ as') p run event answer is = line_at i es as' (next p e a) run.1 event answer is

-- ---- a piece of a run

module _ (name : List ℕ) where
  stays_live : (events : List Event) (answers : List Answer) → ((k : ℕ) (event : Event) (answer : Answer) → IsLine events answers k event answer → ends_workflow name event answer ≡ false) → StaysLive name events answers
  stays_live [] answers each = tt
  stays_live (event ∷ events) [] each = tt
  stays_live (event ∷ events) (answer ∷ answers) each = (each 0 event answer (refl, refl), stays_live events answers (λ k e a is. each (suc k) e a is))

  ends_no_way : (events : List Event) (answers : List Answer) (p : Plain) → ((k : ℕ) (event : Event) (answer : Answer) → IsLine events answers k event answer → ends_way name (state_at p events answers k) event answer ≡ false)
      → EndsNoWay name p events answers
  ends_no_way [] answers p each = tt
  ends_no_way (event ∷ events) [] p each = tt
  ends_no_way (event ∷ events) (answer ∷ answers) p each =
      (each 0 event answer (refl, refl), ends_no_way events answers (next p event answer) (λ k e a is. each (suc k) e a is))

  stays_open : (n : ℕ) (events : List Event) (answers : List Answer) (p : Plain) → ((k : ℕ) → k ≤ n → is_some (way_of (state_at p events answers k) name) ≡ true) → StaysOpen name p (take n events) (take n answers)
  stays_open zero events answers p each = each 0 (omega arith)
  stays_open (suc n) [] answers p each = each 0 (omega arith)
  stays_open (suc n) (event ∷ events) [] p each = each 0 (omega arith)
  stays_open (suc n) (event ∷ events) (answer ∷ answers) p each =
      (each 0 (omega arith), stays_open n events answers (next p event answer) (λ k le. each (suc k) (omega arith)))

take-take : (k n : ℕ) (events : List Event) → k ≤ n → take k (take n events) ≡ take k events
take-take zero n events le = refl
take-take (suc k) zero events le = absurd (omega arith)
take-take (suc k) (suc n) [] le = refl
take-take (suc k) (suc n) (event ∷ events) le = ap (λ l. event ∷ l) (take-take k n events (omega arith))

take-take_answers : (k n : ℕ) (answers : List Answer) → k ≤ n → take k (take n answers) ≡ take k answers
take-take_answers zero n answers le = refl
take-take_answers (suc k) zero answers le = absurd (omega arith)
take-take_answers (suc k) (suc n) [] le = refl
take-take_answers (suc k) (suc n) (answer ∷ answers) le = ap (λ l. answer ∷ l) (take-take_answers k n answers (omega arith))

-- from the state before line i to that before line j
module _ (p : Plain) (events : List Event) (answers : List Answer) (run : Run p events answers) (i j : ℕ) (order : i ≤ j) where
  abbrev pub long : ℕ
  long = j - i

  abbrev pub piece : List Event
  piece = take long (drop i events)

  abbrev pub piece_answers : List Answer
  piece_answers = take long (drop i answers)

  pub piece_run : Run (state_at p events answers i) piece piece_answers
  piece_run = run_take long (drop i events) (drop i answers) (state_at p events answers i) (run_drop i events answers p run)

  pub piece_ends : after (state_at p events answers i) piece piece_answers ≡ state_at p events answers j
  piece_ends = let e : i + long ≡ j = omega arith in state_further i long events answers p run ∙ ap (state_at p events answers) e

  -- a line of the piece is one of the run
  line_of : (k : ℕ) (event : Event) (answer : Answer) → IsLine piece piece_answers k event answer → (k < long) × IsLine events answers (i + k) event answer
  line_of k event answer is =
      let r = slice_get-take long k (drop i events) event is.0 in
      let s = slice_get-take long k (drop i answers) answer is.1 in
      (r.0, (sym (slice_get-drop i k events) ∙ r.1, sym (slice_get-drop i k answers) ∙ s.1))

  state_in : (k : ℕ) → k ≤ long → state_at (state_at p events answers i) piece piece_answers k ≡ state_at p events answers (i + k)
  state_in k le =
      ap (λ es. after (state_at p events answers i) es (take k piece_answers)) (take-take k long (drop i events) le)
      ∙ ap (after (state_at p events answers i) (take k (drop i events))) (take-take_answers k long (drop i answers) le)
      ∙ state_further i k events answers p run

  pub piece_lives : (name : List ℕ) → ((k : ℕ) (event : Event) (answer : Answer) → i ≤ k → k < j → IsLine events answers k event answer → ends_workflow name event answer ≡ false) → StaysLive name piece piece_answers
  piece_lives name each = stays_live name piece piece_answers (λ k event answer is. let r = line_of k event answer is in let lt = r.0 in each (i + k) event answer (omega arith) (omega arith) r.1)

  pub piece_ends_no_way : (name : List ℕ) → ((k : ℕ) (event : Event) (answer : Answer) → i ≤ k → k < j → IsLine events answers k event answer → ends_way name (state_at p events answers k) event answer ≡ false)
      → EndsNoWay name (state_at p events answers i) piece piece_answers
  piece_ends_no_way name each =
      ends_no_way name piece piece_answers (state_at p events answers i)
      (λ k event answer is.
      let r = line_of k event answer is in
      let lt = r.0 in
      subst (λ s. ends_way name s event answer ≡ false) (sym (state_in k (omega arith))) (each (i + k) event answer (omega arith) (omega arith) r.1))

  pub piece_opens : (name : List ℕ) → ((k : ℕ) → i ≤ k → k ≤ j → is_some (way_of (state_at p events answers k) name) ≡ true) → StaysOpen name (state_at p events answers i) piece piece_answers
  piece_opens name each =
      stays_open name long (drop i events) (drop i answers) (state_at p events answers i)
      (λ k le. subst (λ s. is_some (way_of s name) ≡ true) (sym (state_further i k events answers p run)) (each (i + k) (omega arith) (omega arith)))

-- ---- the headline

module _ (p : Plain) (events : List Event) (answers : List Answer) (reached : IsReached p) (run : Run p events answers) where
  abbrev at_line : ℕ → Plain
  at_line i = state_at p events answers i

  reached_at : (i : ℕ) → IsReached (at_line i)
  reached_at i = run_keeps IsReached (λ q event answer given is. reached_next q event answer is given) (take i events) (take i answers) p (run_take i events answers p run) reached

  here : (i : ℕ) (event : Event) (answer : Answer) → IsLine events answers i event answer → Answers (at_line i) event answer × (at_line (suc i) ≡ next (at_line i) event answer)
  here i event answer is = line_at i events answers p run event answer is

  since_create : (name source target : List ℕ) (tables : List (List ℕ)) (i j : ℕ) → i < j → IsLine events answers i (create name source target tables) done → LivesBetween name events answers i j
      → SinceCreate name source target tables (at_line i) (at_line j)
  since_create name source target tables i j order creates lives =
      let first = here i (create name source target tables) done creates in
      let le : suc i ≤ j = omega arith in
      record {
        created = first.0;
        events = piece p events answers run (suc i) j le;
        answers = piece_answers p events answers run (suc i) j le;
        run = subst (λ s. Run s (piece p events answers run (suc i) j le) (piece_answers p events answers run (suc i) j le)) first.1 (piece_run p events answers run (suc i) j le);
        live = piece_lives p events answers run (suc i) j le name (λ k event answer after_it before_it is. lives k event answer (omega arith) before_it is);
        is = ap (λ s. after s (piece p events answers run (suc i) j le) (piece_answers p events answers run (suc i) j le)) (sym first.1) ∙ piece_ends p events answers run (suc i) j le;
      }

  way_from : (name : List ℕ) (begin last : Event) (i j : ℕ) → IsWay name begin last p events answers i j → WayFrom name begin last (at_line i) (at_line (suc j))
  way_from name begin last i j way =
      let first = here i begin done way.begins in
      let end = here j last done way.ends in
      let lt = way.order in
      let le : suc i ≤ j = omega arith in
      let es = piece p events answers run (suc i) j le in
      let rs = piece_answers p events answers run (suc i) j le in
      let to_last : after (next (at_line i) begin done) es rs ≡ at_line j = ap (λ s. after s es rs) (sym first.1) ∙ piece_ends p events answers run (suc i) j le in
      record {
        begun = first.0;
        events = es;
        answers = rs;
        run = subst (λ s. Run s es rs) first.1 (piece_run p events answers run (suc i) j le);
        stays_open = subst (λ s. StaysOpen name s es rs) first.1 (piece_opens p events answers run (suc i) j le name (λ k after_it before_it. way.stays_open k (omega arith) before_it));
        taken = subst (λ s. Answers s last done) (sym to_last) end.0;
        is = ap (λ s. next s last done) to_last ∙ sym end.1;
        closed = way.closed;
      }

  no_way_between : (name : List ℕ) (j k : ℕ) → j < k → LivesBetween name events answers j k → NoWayEndsBetween name p events answers j k → NoWayBetween name (at_line (suc j)) (at_line k)
  no_way_between name j k order lives none =
      let le : suc j ≤ k = omega arith in
      record {
        events = piece p events answers run (suc j) k le;
        answers = piece_answers p events answers run (suc j) k le;
        run = piece_run p events answers run (suc j) k le;
        live = piece_lives p events answers run (suc j) k le name (λ m event answer after_it before_it is. lives m event answer (omega arith) before_it is);
        none = piece_ends_no_way p events answers run (suc j) k le name (λ m event answer after_it before_it is. none m event answer (omega arith) before_it is);
        is = piece_ends p events answers run (suc j) k le;
      }

  begun_types : (name : List ℕ) (begin : Event) (i : ℕ) → IsLine events answers i begin done → types_changed name p events answers i ≡ option_map changed_types (way_of (next (at_line i) begin done) name)
  begun_types name begin i begins = ap (λ s. option_map changed_types (way_of s name)) (here i begin done begins).1

  kept_rows : (i : ℕ) (name : List ℕ) (at : ℕ) (w : Live) (way : Way) → IsLine events answers i (step name at) done → live_at (at_line i) name ≡ Some w → w.way ≡ Some way
      → (tests_level w way ≡ true) ⊎ (next_step way ≡ write_journal) → (table : List ℕ) → moves w table ≡ true → (key : ℕ) → other_row (at_line i) w table key ≡ client_row (at_line i) (owner w) table key
  kept_rows i name at w way is live opens (inl tests) = nothing_lost (at_line i) (reached_at i) name w way live opens at tests (here i (step name at) done is).0
  kept_rows i name at w way is live opens (inr journal) = rows_at_the_journal (at_line i) (reached_at i) name w live way opens journal

  pub headline : Headline p events answers
  headline = record {
    cancel_gives_back = λ name source target tables i j order creates cancels lives key part.
        let end = here j (cancel name) done cancels in
        ap (λ s. served_entry s key) end.1
        ∙ cancel_back name source target tables (at_line i) (at_line j) (reached_at i) (since_create name source target tables i j order creates lives) end.0 key part;
    cancel_leaves_others = λ name i cancels key other.
        let end = here i (cancel name) done cancels in
        ap (λ s. served_entry s key) end.1 ∙ cancel_touches_no_other (at_line i) (reached_at i) name end.0 key other;
    reverse_gives_back = λ name types back_types at at_back i j k l order there back_again lives none same.
        both_ways name (begin_switch name types) (begin_reverse name back_types) at at_back (at_line i) (at_line (suc j)) (at_line k) (at_line (suc l)) (reached_at i) refl refl
        (way_from name (begin_switch name types) (step name at) i j there) (no_way_between name j k order lives none)
        (way_from name (begin_reverse name back_types) (step name at_back) k l back_again)
        (sym (begun_types name (begin_switch name types) i there.begins) ∙ same ∙ begun_types name (begin_reverse name back_types) k back_again.begins);
    undo_gives_back = λ name begin at i j is way.
        abandon_back name begin at (at_line i) (at_line (suc j)) (reached_at i) is (way_from name begin (undo name at) i j way);
    never_writable_in_two = λ i table w found. never_writable_in_two (at_line i) (reached_at i) table w found;
    writable_at_rest = λ i table w found rests keyspace side. writable_at_the_owner (at_line i) (reached_at i) table w found rests keyspace side;
    open_at_rest = λ i table w found rests shard. open_at_the_owner (at_line i) (reached_at i) table w found rests shard;
    writes_at_the_owner = λ i keyspace table op w is found side. writes_at_the_owner (at_line i) (reached_at i) table w found keyspace side op (here i (write keyspace table op) done is).0;
    others_answer_what_was_fed = λ i keyspace table key tablet_type r w is found side other.
        is_answer (at_line i) table w found keyspace side other key tablet_type r (here i (read keyspace table key tablet_type) (row r) is).0;
    no_write_is_skipped = λ i name w shard lane stream at live there runs. (
      runs_at_the_owner (at_line i) (reached_at i) name w live lane stream at runs,
      fed_up_to_position (at_line i) (reached_at i) name w live lane (of_number (at_line i) (reached_at i) name w live shard lane there) stream at runs,
    );
    no_row_is_lost = λ i name at w way is live opens here_or_there. kept_rows i name at w way is live opens here_or_there;
    completion_keeps_the_rows = λ i name w is live table moved key.
        ap (λ s. client_row s w.target table key) (here i (complete name) done is).1 ∙ completed-row (at_line i) (reached_at i) name w live table moved key;
    reads_answer_the_writes = λ i keyspace table key r is.
        primary_reads (at_line i) (reached_at i) keyspace table key r (here i (read keyspace table key Primary) (row r) is).0
        ∙ row-run (take i events) (take i answers) p (client_number (at_line i) keyspace table) key (run_take i events answers p run);
  }

-- a run behind another
pub run_joined : (earlier : List Event) (earlier_answers : List Answer) (p : Plain) (events : List Event) (answers : List Answer) → Run p earlier earlier_answers → Run (after p earlier earlier_answers) events answers → Run p (earlier ++ events) (earlier_answers ++ answers)
run_joined [] [] p events answers first rest = rest
run_joined [] (a ∷ as') p events answers first rest = absurd first
run_joined (e ∷ es) [] p events answers first rest = absurd first
run_joined (e ∷ es) (a ∷ as') p events answers first rest = (first.0, run_joined es as' (next p e a) events answers first.1 rest)

pub headline_joined : (p : Plain) (earlier events : List Event) (earlier_answers answers : List Answer) → IsReached p → Run p earlier earlier_answers → Run (after p earlier earlier_answers) events answers
    → Headline p (earlier ++ events) (earlier_answers ++ answers)
headline_joined p earlier events earlier_answers answers reached first rest =
    headline p (earlier ++ events) (earlier_answers ++ answers) reached (run_joined earlier earlier_answers p events answers first rest)

-- a run from an opening
pub headline_of_opening : (scopes : List Scope) (events : List Event) (answers : List Answer) → Run (opening scopes) events answers → Headline (opening scopes) events answers
headline_of_opening scopes events answers run =
    headline (opening scopes) events answers (record { scopes = scopes; events = []; answers = []; run = tt; is = refl }) run
