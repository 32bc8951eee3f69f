-- Events that are applied one after the other are a run.
use Rattle.std.proofs.Common.{◌≡◌, ℕ, zero, suc, ◌<◌, List, [], ◌∷◌, ◌++◌, get_or, length, map, take, Result, refl, sym, ap, subst, arith}
use Rattle.std.proofs.lemmas.List.{map-append}
use Rattle.mt_event.specs.declared.event.Event.{Event}
use Rattle.mt_event.specs.declared.refusal.Refusal.{Refusal}
use Rattle.mt_event.specs.declared.reply.Reply.{Reply}
use Rattle.mt_event.specs.Events.{answer_from, event_of}
use Rattle.mt_laws.specs.Headline.{Headline}
use Rattle.mt_laws.specs.WayBack.{IsReached}
use Rattle.mt_model.specs.declared.entries.Scope.{Scope}
use Rattle.mt_plain.specs.Answers.{Answers, Run, after}
use Rattle.mt_plain.specs.Events as plain
use Rattle.mt_plain.specs.Next.{next}
use Rattle.mt_plain.specs.Plain.{Plain}
use Rattle.mt_stands.specs.Ways.{CoreStands, CoreState, CoreSteps}
use Rattle.mt_site.specs.Headline.{KeepsTheHeadline}
use Rattle.mt_site.specs.Runs.{Runs}

-- a run goes on with one event more
run_push : (events : List plain.Event) (answers : List plain.Answer) (p : Plain) (event : plain.Event) (answer : plain.Answer) → Run p events answers
    → Answers (after p events answers) event answer
    → Run p (events ++ event ∷ []) (answers ++ answer ∷ []) × (after p (events ++ event ∷ []) (answers ++ answer ∷ []) ≡ next (after p events answers) event answer)
run_push [] [] p event answer run given = ((given, tt), refl)
run_push [] (a ∷ answers) p event answer run given = absurd run
run_push (e ∷ events) [] p event answer run given = absurd run
run_push (e ∷ events) (a ∷ answers) p event answer run given =
    let r = run_push events answers (next p e a) event answer run.1 given in
    ((run.0, r.0), r.1)

-- one item more of a list
map_next : {X Y : Type 0} (f : X → Y) (xs : List X) (i : ℕ) (x : X) → i < length xs → x ≡ get_or xs i x → map f (take i xs) ++ f x ∷ [] ≡ map f (take (suc i) xs)
map_next f [] i x inside is = absurd (omega (arith, inside))
map_next f (y ∷ ys) zero x inside is = rw is refl
map_next f (y ∷ ys) (suc i) x inside is = ap (λ l. f y ∷ l) (map_next f ys i x (omega (arith, inside)) is)

-- one event more is applied
pub runs_more : (scopes : List Scope) (old now new : CoreState) (events : List Event) (results : List (Result Reply Refusal)) (i : ℕ) (e : Event) (r : Result Reply Refusal)
    → i < length events → e ≡ get_or events i e → Runs scopes old (take i events) results now → CoreSteps scopes now (event_of e) (answer_from r) new
    → Runs scopes old (take (suc i) events) (results ++ r ∷ []) new
runs_more scopes old now new events results i e r inside at before step = λ p stands.
    let es = map event_of (take i events) in
    let told = map answer_from results in
    let was = before p stands in
    let stepped = step (after p es told) was.1 in
    let pushed = run_push es told p (event_of e) (answer_from r) was.0 stepped.0 in
    subst (λ l. Run p l (map answer_from (results ++ r ∷ [])) × CoreStands (after p l (map answer_from (results ++ r ∷ []))) scopes new) (map_next event_of events i e inside at)
    (subst (λ l. Run p (es ++ event_of e ∷ []) l × CoreStands (after p (es ++ event_of e ∷ []) l) scopes new) (sym (map-append answer_from results (r ∷ [])))
    (pushed.0, subst (λ q. CoreStands q scopes new) (sym pushed.1) stepped.1))

-- a run goes on with another, and ends where that ends
run_joined : (events : List plain.Event) (answers : List plain.Answer) (p : Plain) (more : List plain.Event) (told : List plain.Answer) → Run p events answers
    → Run (after p events answers) more told
    → Run p (events ++ more) (answers ++ told) × (after p (events ++ more) (answers ++ told) ≡ after (after p events answers) more told)
run_joined [] [] p more told run rest = (rest, refl)
run_joined [] (a ∷ answers) p more told run rest = absurd run
run_joined (e ∷ events) [] p more told run rest = absurd run
run_joined (e ∷ events) (a ∷ answers) p more told run rest =
    let r = run_joined events answers (next p e a) more told run.1 rest in
    ((run.0, r.0), r.1)

-- what leads from each state that the controller stands for to the next one keeps the headline
pub headline_kept : (scopes : List Scope) (old new : CoreState) (events : List plain.Event) (answers : List plain.Answer)
    → ((p : Plain) → CoreStands p scopes old → Run p events answers × CoreStands (after p events answers) scopes new)
    → ((p : Plain) (earlier more : List plain.Event) (told answered : List plain.Answer) → IsReached p → Run p earlier told → Run (after p earlier told) more answered
    → Headline p (earlier ++ more) (told ++ answered))
    → KeepsTheHeadline scopes old events answers new
headline_kept scopes old new events answers steps law = λ p earlier told had.
    let stepped = steps (after p earlier told) had.stands in
    let joined = run_joined earlier told p events answers had.run stepped.0 in (
      record {
        reached = had.reached;
        run = joined.0;
        stands = subst (λ q. CoreStands q scopes new) (sym joined.1) stepped.1;
      },
      law p earlier events told answers had.reached had.run stepped.0,
    )

-- one event
pub one_kept : (scopes : List Scope) (old new : CoreState) (event : plain.Event) (answer : plain.Answer) → CoreSteps scopes old event answer new
    → ((p : Plain) (earlier more : List plain.Event) (told answered : List plain.Answer) → IsReached p → Run p earlier told → Run (after p earlier told) more answered
    → Headline p (earlier ++ more) (told ++ answered))
    → KeepsTheHeadline scopes old (event ∷ []) (answer ∷ []) new
one_kept scopes old new event answer steps law = headline_kept scopes old new (event ∷ []) (answer ∷ []) (λ p stands. let r = steps p stands in ((r.0, tt), r.1)) law
