-- In every run, two tables have two numbers.
use Rattle.std.proofs.Common.{◌≡◌, ◌≢◌, ℕ, suc, ◌<◌, Bool, true, false, cond, List, [], ◌∷◌, ◌++◌, Option, None, Some, refl, sym, ◌∙◌, subst, arith}
use Rattle.std.specs.List.{AllByRecursion}
use Rattle.std.specs.Map.{lookup}
use Rattle.std.specs.Prelude.{⊤, map, ◌&&◌}
use Rattle.mt_names.specs.declared.keys.RuleTarget.{RuleTarget}
use Rattle.mt_names.specs.Names.{same_text}
use Rattle.mt_names.specs.Same.{same_target}
use Rattle.mt_names.proofs.SameLemmas.{same_target_decides}
use Rattle.mt_model.specs.declared.entries.Scope.{Scope}
use Rattle.mt_plain.specs.Answers.{after}
use Rattle.mt_plain.specs.Events.{Event, add_table, advance, complete, StreamName, Answer, done, row, advanced, shown, refused}
use Rattle.mt_plain.specs.Next.{after_advance, next, next_taken, number_moved, with_advance, with_completed}
use Rattle.mt_plain.specs.Plain.{Live, Plain, in_keyspace, live_at, moves, opening}

abbrev pub Numbers : Type 0
Numbers = List (RuleTarget × ℕ)

-- each number is below a bound; none stands twice
abbrev pub Below : ℕ → Numbers → Type 0
Below bound es = AllByRecursion (λ e. e.1 < bound) es

abbrev pub IsNot : ℕ → Numbers → Type 0
IsNot n es = AllByRecursion (λ e. n ≢ e.1) es

abbrev pub Distinct : Numbers → Type 0
Distinct [] = ⊤
Distinct (e ∷ es) = IsNot e.1 es × Distinct es

pub record HasNumbers (p : Plain) : Type 0 where
  pub below : Below p.made p.numbers
  pub distinct : Distinct p.numbers

pub opening_has_numbers : (scopes : List Scope) → HasNumbers (opening scopes)
opening_has_numbers scopes = record { below = tt; distinct = tt }

-- ---- a table more

below-push : (bound : ℕ) (es : Numbers) (key : RuleTarget) → Below bound es → Below (suc bound) (es ++ (key, bound) ∷ [])
below-push bound [] key all = (omega arith, tt)
below-push bound (e ∷ es) key all = let lt = all.0 in (omega arith, below-push bound es key all.1)

isnot-push : (n bound : ℕ) (es : Numbers) (key : RuleTarget) → n < bound → IsNot n es → IsNot n (es ++ (key, bound) ∷ [])
isnot-push n bound [] key lt all = ((λ e. omega arith), tt)
isnot-push n bound (e ∷ es) key lt all = (all.0, isnot-push n bound es key lt all.1)

distinct-push : (bound : ℕ) (es : Numbers) (key : RuleTarget) → Below bound es → Distinct es → Distinct (es ++ (key, bound) ∷ [])
distinct-push bound [] key all apart = (tt, tt)
distinct-push bound (e ∷ es) key all apart = (isnot-push e.1 bound es key all.0 apart.0, distinct-push bound es key all.1 apart.1)

-- ---- names that change keep their numbers

pub moved-number : (w : Live) (e : RuleTarget × ℕ) → (number_moved w e).1 ≡ e.1
moved-number w e = by (same_text w.source e.0.keyspace && moves w e.0.table)
  where
    by : (t : Bool) → (cond t (in_keyspace w.target e.0.table, e.1) e).1 ≡ e.1
    by true = refl
    by false = refl

below-moved : (w : Live) (bound : ℕ) (es : Numbers) → Below bound es → Below bound (map (number_moved w) es)
below-moved w bound [] all = tt
below-moved w bound (e ∷ es) all = (subst (λ n. n < bound) (sym (moved-number w e)) all.0, below-moved w bound es all.1)

isnot-moved : (w : Live) (n : ℕ) (es : Numbers) → IsNot n es → IsNot n (map (number_moved w) es)
isnot-moved w n [] all = tt
isnot-moved w n (e ∷ es) all = (subst (λ m. n ≢ m) (sym (moved-number w e)) all.0, isnot-moved w n es all.1)

distinct-moved : (w : Live) (es : Numbers) → Distinct es → Distinct (map (number_moved w) es)
distinct-moved w [] apart = tt
distinct-moved w (e ∷ es) apart =
    (subst (λ n. IsNot n (map (number_moved w) es)) (sym (moved-number w e)) (isnot-moved w e.1 es apart.0), distinct-moved w es apart.1)

-- ---- each event

completed-has_numbers : (p : Plain) (o : Option Live) → HasNumbers p → HasNumbers (with_completed p o)
completed-has_numbers p None has = has
completed-has_numbers p (Some w) has = record { below = below-moved w p.made p.numbers has.below; distinct = distinct-moved w p.numbers has.distinct }

advanced-has_numbers : (p : Plain) (name : StreamName) (shard position at_most events rows : ℕ) (o : Option Live) → HasNumbers p → HasNumbers (with_advance p name shard position at_most events rows o)
advanced-has_numbers p name shard position at_most events rows None has = has
advanced-has_numbers p name shard position at_most events rows (Some w) has = record { below = has.below; distinct = has.distinct }

after_advance-has_numbers : (p : Plain) (event : Event) (events rows : ℕ) → HasNumbers p → HasNumbers (after_advance p event events rows)
after_advance-has_numbers p (advance workflow name shard at at_most) events rows has = advanced-has_numbers p name shard at at_most events rows (live_at p workflow) has
after_advance-has_numbers p other events rows has = has

taken-has_numbers : (p : Plain) (event : Event) → HasNumbers p → HasNumbers (next_taken p event)
taken-has_numbers p (add_table keyspace table) has =
    record { below = below-push p.made p.numbers (in_keyspace keyspace table) has.below; distinct = distinct-push p.made p.numbers (in_keyspace keyspace table) has.below has.distinct }
taken-has_numbers p (complete workflow) has = completed-has_numbers p (live_at p workflow) has
taken-has_numbers p other has = record { below = has.below; distinct = has.distinct }

pub next-has_numbers : (p : Plain) (event : Event) (answer : Answer) → HasNumbers p → HasNumbers (next p event answer)
next-has_numbers p event (refused refusal) has = has
next-has_numbers p event done has = taken-has_numbers p event has
next-has_numbers p event (row r) has = taken-has_numbers p event has
next-has_numbers p event (advanced events rows) has = after_advance-has_numbers p event events rows has
next-has_numbers p event (shown s) has = has

after-has_numbers : (events : List Event) (answers : List Answer) (p : Plain) → HasNumbers p → HasNumbers (after p events answers)
after-has_numbers [] answers p has = has
after-has_numbers (event ∷ events) [] p has = has
after-has_numbers (event ∷ events) (answer ∷ answers) p has = after-has_numbers events answers (next p event answer) (next-has_numbers p event answer has)

-- ---- one number, one name

lookup-isnot : (b : RuleTarget) (n m : ℕ) (es : Numbers) → IsNot m es → lookup (same_target b) es ≡ Some n → m ≢ n
lookup-isnot b n m [] all at_b = absurd cc
lookup-isnot b n m (e ∷ es) all at_b = by (lookup-isnot b n m es all.1) (same_target b e.0) refl
  where
    by : (lookup (same_target b) es ≡ Some n → m ≢ n) → (t : Bool) → same_target b e.0 ≡ t → m ≢ n
    by again true t =
        let h : Some e.1 ≡ Some n = rw t at at_b in
        let is : e.1 ≡ n = cc in
        λ same. all.0 (same ∙ sym is)
    by again false t = again (rw t at at_b)

one_name : (a b : RuleTarget) (n : ℕ) (es : Numbers) → Distinct es → lookup (same_target a) es ≡ Some n → lookup (same_target b) es ≡ Some n → a ≡ b
one_name a b n [] apart at_a at_b = absurd cc
one_name a b n (e ∷ es) apart at_a at_b = by (one_name a b n es apart.1) (same_target a e.0) refl (same_target b e.0) refl
  where
    by : (lookup (same_target a) es ≡ Some n → lookup (same_target b) es ≡ Some n → a ≡ b) → (s : Bool) → same_target a e.0 ≡ s → (t : Bool) → same_target b e.0 ≡ t → a ≡ b
    by again true s true t = (same_target_decides a e.0).0 s ∙ sym ((same_target_decides b e.0).0 t)
    by again true s false t =
        let h : Some e.1 ≡ Some n = rw s at at_a in
        let is : e.1 ≡ n = cc in
        absurd (lookup-isnot b n e.1 es apart.0 (rw t at at_b) is)
    by again false s true t =
        let h : Some e.1 ≡ Some n = rw t at at_b in
        let is : e.1 ≡ n = cc in
        absurd (lookup-isnot a n e.1 es apart.0 (rw s at at_a) is)
    by again false s false t = again (rw s at at_a) (rw t at at_b)

pub one_name-run : (scopes : List Scope) (events : List Event) (answers : List Answer) (a b : RuleTarget) (n : ℕ) → lookup (same_target a) (after (opening scopes) events answers).numbers ≡ Some n → lookup (same_target b) (after (opening scopes) events answers).numbers ≡ Some n → a ≡ b
one_name-run scopes events answers a b n at_a at_b =
    one_name a b n (after (opening scopes) events answers).numbers (after-has_numbers events answers (opening scopes) (opening_has_numbers scopes)).distinct at_a at_b
