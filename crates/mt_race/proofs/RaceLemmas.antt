-- What is counted of passes, and what is asked, with one more; and what a race is.
use Rattle.std.specs.Prelude.{IfOk, MatchBool, OnOk, is_ok}
use Rattle.std.proofs.Common.{◌≡◌, ◌∙◌, ◌+◌, ◌<◌, ℕ, zero, suc, add-one, add-zero, zero-add, Bool, true, false, refl, List, [], ◌∷◌, ◌++◌, append-nil, append_assoc, All, get_or, length, map, take, Result, Ok, Err, sym, ap, subst, arith}
use Rattle.std.specs.List.{flat_map, range_with_len}
use Rattle.std.proofs.lemmas.Grind.{flat_map-append}
use Rattle.std.proofs.lemmas.List.{length-map, map-append, map_more}
use Rattle.std.proofs.lemmas.Bool.{true≢false}
use Rattle.std.proofs.lemmas.List.Sums.{sum_by_push}
use Rattle.std.proofs.Math.Logic.{∥∥₁_map}
use Rattle.mt_desk.specs.declared.history.Call.{Call}
use Rattle.mt_desk.specs.Passes.{HaveOneHistory}
use Rattle.mt_event.specs.declared.driven.Driven.{Driven}
use Rattle.mt_event.specs.declared.event.Event.{Event}
use Rattle.mt_event.specs.declared.refusal.Refusal.{Refusal}
use Rattle.mt_event.specs.declared.reply.Reply.{Reply}
use Rattle.mt_event.specs.Events.{answer_from, event_of}
use Rattle.mt_model.specs.declared.entries.Scope.{Scope}
use Rattle.mt_model.specs.declared.rows.Op.TheVariants.{Insert}
use Rattle.mt_model.specs.Rows.{RowValue}
use Rattle.mt_names.specs.declared.keys.RuleKey.{RuleKey}
use Rattle.mt_plain.specs.Answers.{Run, after}
use Rattle.mt_plain.specs.Plain.{opening}
use Rattle.mt_site.specs.Runs.{Runs}
use Rattle.mt_stands.specs.Ways.{CoreStands, CoreState}
use Rattle.mt_workers.specs.Controls.{Controls}
use Rattle.mt_workers.specs.declared.fault.ControlFault.{ControlFault}
use Rattle.mt_workers.specs.declared.line.Line.{Line}
use Rattle.mt_workers.specs.declared.line.Line.TheVariants.{Get, Put}
use Rattle.mt_race.specs.declared.fault.RaceFault.{RaceFault}
use Rattle.mt_race.specs.declared.racing.Raced.{Raced}
use Rattle.mt_race.specs.Agreements.{AreAdvancing, AreAsked, AreControls, AreWriters, IsSetUp, RacedAt, RacedFrom, SetsUp, all_types, is_finished, mv, set_up_events, acknowledged_in, all_reads, corder, reads_of, row_key, rows_found, writes_acknowledged, writes_of, written}

-- one number more
range_suc : (a n : ℕ) → range_with_len a (suc n) ≡ range_with_len a n ++ (a + n) ∷ []
range_suc a zero = ap (λ k. k ∷ []) (sym (add-zero a))
range_suc a (suc n) =
    let same : (a + 1) + n ≡ a + suc n = omega arith in
    ap (λ l. a ∷ l) (range_suc (a + 1) n ∙ ap (λ k. range_with_len (a + 1) n ++ k ∷ []) same)

range_more : (a n : ℕ) → range_with_len a (n + 1) ≡ range_with_len a n ++ (a + n) ∷ []
range_more a n = subst (λ m. range_with_len a m ≡ range_with_len a n ++ (a + n) ∷ []) (sym (add-one n)) (range_suc a n)

-- one line more for each of some rows
lines_next : (f : ℕ → Line) (n : ℕ) → map f (range_with_len 0 (n + 1)) ≡ map f (range_with_len 0 n) ++ f n ∷ []
lines_next f n =
    ap (map f) (range_more 0 n) ∙ map-append f (range_with_len 0 n) ((0 + n) ∷ []) ∙ ap (λ k. map f (range_with_len 0 n) ++ f k ∷ []) (zero-add n)

writes_next : (worker row : ℕ) → writes_of (row + 1) worker ≡ writes_of row worker ++ Put corder (Insert (row_key worker row) written) ∷ []
writes_next worker row = lines_next (λ r. Put corder (Insert (row_key worker r) written)) row

reads_next : (worker row : ℕ) → reads_of (row + 1) worker ≡ reads_of row worker ++ Get corder (row_key worker row) ∷ []
reads_next worker row = lines_next (λ r. Get corder (row_key worker r)) row

pub pushed_write : (now after : List Line) (worker row : ℕ) (name : RuleKey) (key : ℕ) (value : RowValue) → name ≡ corder → key ≡ row_key worker row → value ≡ written
    → now ≡ writes_of row worker → after ≡ now ++ Put name (Insert key value) ∷ [] → after ≡ writes_of (row + 1) worker
pushed_write now after worker row name key value named keyed valued held pushed =
    let before = writes_of row worker in
    pushed ∙ ap (λ l. l ++ Put name (Insert key value) ∷ []) held ∙ ap (λ n. before ++ Put n (Insert key value) ∷ []) named
    ∙ ap (λ k. before ++ Put corder (Insert k value) ∷ []) keyed ∙ ap (λ v. before ++ Put corder (Insert (row_key worker row) v) ∷ []) valued
    ∙ sym (writes_next worker row)

pub pushed_read : (before now after : List Line) (worker row : ℕ) (name : RuleKey) (key : ℕ) → name ≡ corder → key ≡ row_key worker row
    → now ≡ before ++ reads_of row worker → after ≡ now ++ Get name key ∷ [] → after ≡ before ++ reads_of (row + 1) worker
pushed_read before now after worker row name key named keyed held pushed =
    let reads = reads_of row worker in
    let next : reads ++ Get name key ∷ [] ≡ reads_of (row + 1) worker =
    ap (λ n. reads ++ Get n key ∷ []) named ∙ ap (λ k. reads ++ Get corder k ∷ []) keyed ∙ sym (reads_next worker row) in
    pushed ∙ ap (λ l. l ++ Get name key ∷ []) held ∙ append_assoc before reads (Get name key ∷ []) ∙ ap (λ l. before ++ l) next

-- the rows of one worker more
pub all_reads_next : (worker writes : ℕ) → all_reads (worker + 1) writes ≡ all_reads worker writes ++ reads_of writes worker
all_reads_next worker writes =
    ap (flat_map (reads_of writes)) (range_more 0 worker) ∙ flat_map-append (reads_of writes) (range_with_len 0 worker) ((0 + worker) ∷ [])
    ∙ ap (λ w. all_reads worker writes ++ (reads_of writes w ++ [])) (zero-add worker) ∙ ap (λ l. all_reads worker writes ++ l) (append-nil (reads_of writes worker))

-- one pass more
pub acknowledged_next : {X : Type 0} (f : X → ℕ × List Call) (xs : List X) (i : ℕ) (d : X) → i < length xs
    → acknowledged_in (map f (take (i + 1) xs)) ≡ acknowledged_in (map f (take i xs)) + writes_acknowledged (f (get_or xs i d)).1
acknowledged_next f xs i d inside =
    ap acknowledged_in (map_more f xs i d inside) ∙ sum_by_push (λ pass. writes_acknowledged pass.1) (map f (take i xs)) (f (get_or xs i d))

writers_push : (writes worker : ℕ) (passes : List (ℕ × List Call)) (pass : ℕ × List Call) → AreWriters writes worker passes → pass.0 ≡ worker + length passes + 1
    → AreAsked (writes_of writes (worker + length passes)) pass.1 → AreWriters writes worker (passes ++ pass ∷ [])
writers_push writes worker [] pass are is asked =
    (is ∙ ap (λ n. n + 1) (add-zero worker), subst (λ n. AreAsked (writes_of writes n) pass.1) (add-zero worker) asked, tt)
writers_push writes worker (p ∷ passes) pass are is asked =
    let further : worker + suc (length passes) ≡ worker + 1 + length passes = omega arith in
    (are.0, are.1, writers_push writes (worker + 1) passes pass are.2 (is ∙ ap (λ n. n + 1) further) (subst (λ n. AreAsked (writes_of writes n) pass.1) further asked))

pub writers_next : {X : Type 0} (f : X → ℕ × List Call) (writes worker : ℕ) (xs : List X) (x : X) → length xs ≡ worker → (f x).0 ≡ worker + 1 → AreAsked (writes_of writes worker) (f x).1
    → AreWriters writes 0 (map f xs) → AreWriters writes 0 (map f (xs ++ x ∷ []))
writers_next f writes worker xs x many is asked are =
    let count : worker ≡ 0 + length (map f xs) = omega (arith, length-map xs f, many) in
    subst (AreWriters writes 0) (sym (map-append f xs (x ∷ [])))
    (writers_push writes 0 (map f xs) (f x) are (is ∙ ap (λ n. n + 1) count) (subst (λ n. AreAsked (writes_of writes n) (f x).1) count asked))

-- what is so at Ok is so where it was tested
pub on_ok : {T E P : Type 0} (r : Result T E) → is_ok r ≡ true → OnOk r P → P
on_ok (Ok x) is p = p
on_ok (Err e) is p = absurd (true≢false (sym is))

-- three more are behind the others
pub three_more : {X : Type 0} (a b c d e : List X) (x y z : X) → b ≡ a → c ≡ b ++ x ∷ [] → d ≡ c ++ y ∷ [] → e ≡ d ++ z ∷ [] → e ≡ a ++ x ∷ y ∷ z ∷ []
three_more a b c d e x y z ba cb dc ed =
    ed ∙ ap (λ l. l ++ z ∷ []) (dc ∙ ap (λ l. l ++ y ∷ []) (cb ∙ ap (λ l. l ++ x ∷ []) ba)) ∙ append_assoc (a ++ x ∷ []) (y ∷ []) (z ∷ [])
    ∙ append_assoc a (x ∷ []) (y ∷ z ∷ [])

-- what is gathered and counted is a race
pub have_raced : {X : Type 0} (f : X → ℕ × List Call) (scopes : List Scope) (opening : CoreState) (clients writes : ℕ) (raced : Raced) (writers : List X) (stream controller reader : X)
    → length writers ≡ clients → (f stream).0 ≡ clients + 1 → (f controller).0 ≡ clients + 2 → (f reader).0 ≡ clients + 3
    → AreWriters writes 0 (map f writers) → AreAdvancing (f stream).1 → AreControls (f controller).1 → AreAsked (all_reads clients writes) (f reader).1
    → HaveOneHistory scopes opening (map f (writers ++ stream ∷ controller ∷ reader ∷ []))
    → raced.acknowledged ≡ acknowledged_in (map f writers) → raced.rows ≡ rows_found (f reader).1 → RacedFrom scopes opening clients writes raced
have_raced f scopes opening clients writes raced writers stream controller reader many first second third wrote advanced controlled read one acknowledged rows = ∣ record {
  writers = map f writers;
  advances = (f stream).1;
  steps = (f controller).1;
  reads = (f reader).1;
  many = length-map writers f ∙ many;
  wrote = wrote;
  advanced = advanced;
  controlled = controlled;
  read = read;
  one =
      subst (λ n. HaveOneHistory scopes opening (map f writers ++ (clients + 1, (f stream).1) ∷ (clients + 2, (f controller).1) ∷ (n, (f reader).1) ∷ [])) third
      (subst (λ n. HaveOneHistory scopes opening (map f writers ++ (clients + 1, (f stream).1) ∷ (n, (f controller).1) ∷ f reader ∷ [])) second
      (subst (λ n. HaveOneHistory scopes opening (map f writers ++ (n, (f stream).1) ∷ f controller ∷ f reader ∷ [])) first
      (subst (HaveOneHistory scopes opening) (map-append f writers (stream ∷ controller ∷ reader ∷ [])) one)));
  acknowledged = acknowledged;
  rows = rows;
} ∣₁

-- so it is of the result that says it
pub so_raced : {X : Type 0} (f : X → ℕ × List Call) (scopes : List Scope) (opening : CoreState) (clients writes : ℕ) (result : Result Raced RaceFault) (writers : List X) (stream controller reader : X)
    → length writers ≡ clients → (f stream).0 ≡ clients + 1 → (f controller).0 ≡ clients + 2 → (f reader).0 ≡ clients + 3
    → AreWriters writes 0 (map f writers) → AreAdvancing (f stream).1 → AreControls (f controller).1 → AreAsked (all_reads clients writes) (f reader).1
    → IfOk result (λ raced. raced.agree ≡ true → HaveOneHistory scopes opening (map f (writers ++ stream ∷ controller ∷ reader ∷ [])))
    → IfOk result (λ raced. raced.acknowledged ≡ acknowledged_in (map f writers)) → IfOk result (λ raced. raced.rows ≡ rows_found (f reader).1)
    → IfOk result (λ raced. raced.agree ≡ true → RacedFrom scopes opening clients writes raced)
so_raced f scopes opening clients writes (Ok raced) writers stream controller reader many first second third wrote advanced controlled read one acknowledged rows =
    λ is. have_raced f scopes opening clients writes raced writers stream controller reader many first second third wrote advanced controlled read (one is) acknowledged rows
so_raced f scopes opening clients writes (Err fault) writers stream controller reader many first second third wrote advanced controlled read one acknowledged rows = one

-- it is one from an opening at which the move was set up
pub raced_at : (scopes others : List Scope) (opening : CoreState) (clients writes : ℕ) (result : Result Raced RaceFault) → scopes ≡ others → IsSetUp scopes opening
    → IfOk result (λ raced. raced.agree ≡ true → RacedFrom scopes opening clients writes raced) → IfOk result (λ raced. raced.agree ≡ true → RacedAt others clients writes raced)
raced_at scopes others opening clients writes (Ok raced) same made held =
    λ is. subst (λ s. RacedAt s clients writes raced) same (∥∥₁_map (held is) (λ had. (opening, made, had)))
raced_at scopes others opening clients writes (Err fault) same made held = held

-- ---- what a controller leaves

controls_more : (calls behind : List Call) (w : List ℕ) (switched : Result Driven ControlFault) (b : Bool) → is_finished switched ≡ b → w ≡ mv → Controls w all_types false 256 calls switched
    → MatchBool b ((reversed : Result Driven ControlFault) × Controls w all_types true 256 behind reversed) (behind ≡ []) → AreControls (calls ++ behind)
controls_more calls behind w switched b is workflow controls rest = ∣ (
  calls,
  behind,
  switched,
  refl,
  subst (λ k. Controls k all_types false 256 calls switched) workflow controls,
  subst (λ k. MatchBool (is_finished switched) ((reversed : Result Driven ControlFault) × Controls k all_types true 256 behind reversed) (behind ≡ [])) workflow
      (subst (λ t. MatchBool t ((reversed : Result Driven ControlFault) × Controls w all_types true 256 behind reversed) (behind ≡ [])) (sym is) rest),
) ∣₁

-- the calls of one whose switch isn't done
pub controls_once : (fresh items calls : List Call) (w : List ℕ) (switched : Result Driven ControlFault) → fresh ≡ [] → items ≡ fresh ++ calls → is_finished switched ≡ false → w ≡ mv
    → Controls w all_types false 256 calls switched → AreControls items
controls_once fresh items calls w switched none is isnt workflow controls =
    subst AreControls (append-nil calls ∙ sym (is ∙ ap (λ l. l ++ calls) none)) (controls_more calls [] w switched false isnt workflow controls refl)

-- and of one whose switch is
pub controls_twice : (fresh before items calls more : List Call) (w : List ℕ) (switched reversed : Result Driven ControlFault) → fresh ≡ [] → before ≡ fresh ++ calls → items ≡ before ++ more
    → is_finished switched ≡ true → w ≡ mv → Controls w all_types false 256 calls switched → Controls w all_types true 256 more reversed → AreControls items
controls_twice fresh before items calls more w switched reversed none is further done workflow controls again =
    subst AreControls (sym (further ∙ ap (λ l. l ++ more) (is ∙ ap (λ l. l ++ calls) none))) (controls_more calls more w switched true done workflow controls (reversed, again))

-- ---- how the move is set up

pub ok_of : {T E : Type 0} (r : Result T E) → ((e : E) → r ≡ Err e → ⊥) → is_ok r ≡ true
ok_of (Ok x) not = refl
ok_of (Err e) not = absurd (not e refl)

-- what is so at Ok is so in other words
pub at_ok : {T E P Q : Type 0} (r : Result T E) → (P → Q) → OnOk r P → OnOk r Q
at_ok (Ok x) other said = other said
at_ok (Err e) other said = said

pub sets_up : (scopes : List Scope) (old new : CoreState) (events : List Event) (results : List (Result Reply Refusal)) → map event_of events ≡ set_up_events
    → Runs scopes old events results new → All (λ result. is_ok result ≡ true) results → SetsUp scopes old new
sets_up scopes old new events results are runs all = (results, all, λ p stands. subst (λ es. Run p es (map answer_from results) × CoreStands (after p es (map answer_from results)) scopes new) are (runs p stands))

pub is_set_up : (scopes : List Scope) (old new : CoreState) → SetsUp scopes old new → CoreStands (opening scopes) scopes old → IsSetUp scopes new
is_set_up scopes old new (results, all, runs) stands = let run = runs (opening scopes) stands in (results, all, run.0, run.1)
