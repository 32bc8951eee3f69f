-- A worker that queries by name.
use Rattle.std.proofs.Common.{◌≡◌, ◌≢◌, ◌+◌, ◌<◌, ◌≤◌, ◌⊎◌, ℕ, List, [], ◌∷◌, ◌++◌, length, drop, get_or, append_assoc, length-append, Option, None, Some, Result, Ok, Err, inl, inr, refl, sym, ap, ◌∙◌, subst, arith}
use Rattle.std.proofs.lemmas.List.{append-nil, drop_more}
use Rattle.std.specs.List.{AllByRecursion}
use mathlib.Core.List.{IsPrefix}
use Rattle.mt_desk.specs.declared.history.Call.{Call}
use Rattle.mt_event.specs.declared.reason.Reason.TheVariants as reason
use Rattle.mt_event.specs.declared.refusal.Refusal.TheVariants as refusal
use Rattle.mt_model.specs.declared.faults.TopologyFault.{TopologyFault}
use Rattle.mt_names.specs.declared.keys.RuleTarget.{RuleTarget}
use Rattle.mt_routes.specs.declared.publication.Publication.{Publication}
use Rattle.mt_routes.specs.LookUp.{LastLeads}
use Rattle.mt_workers.specs.Advances.{Answer}
use Rattle.mt_workers.specs.Queries.{EndsIn, IsAnswered, IsDenied, IsLed, IsTried, IsTry, MayTryAgain, Queries, event_at, key_of, most_tries, type_of}
use Rattle.mt_workers.specs.declared.line.Line.{Line}

-- ---- what is known only grows

pub known_still : (xs : List Publication) → IsPrefix xs xs
known_still xs = ([], append-nil xs)

pub known_before : (xs ys zs : List Publication) → IsPrefix xs ys → IsPrefix ys zs → IsPrefix xs zs
known_before xs ys zs more further =
    (more.0 ++ further.0, sym (append_assoc xs more.0 further.0) ∙ ap (λ l. l ++ further.0) more.1 ∙ further.1)

led_before : (known later : List Publication) (line : Line) (answer : Result RuleTarget TopologyFault) → IsPrefix known later → IsLed later line answer
    → IsLed known line answer
led_before known later line answer more led = (led.0, known_before known later led.0 more led.1, led.2)

-- ---- of some calls, and one more

pushed : (P : Call → Type 0) (calls : List Call) (call : Call) → AllByRecursion P calls → P call → AllByRecursion P (calls ++ call ∷ [])
pushed P [] call all is = (is, tt)
pushed P (c ∷ calls) call all is = (all.0, pushed P calls call all.1 is)

all_but_last : (P : Call → Type 0) (calls : List Call) (call : Call) → AllByRecursion P (calls ++ call ∷ []) → AllByRecursion P calls × P call
all_but_last P [] call all = (tt, all.0)
all_but_last P (c ∷ calls) call all = let rest = all_but_last P calls call all.1 in ((all.0, rest.0), rest.1)

each_so : (P Q : Call → Type 0) → ((call : Call) → P call → Q call) → (calls : List Call) → AllByRecursion P calls → AllByRecursion Q calls
each_so P Q so [] all = tt
each_so P Q so (c ∷ calls) all = (so c all.0, each_so P Q so calls all.1)

last_of : (call : Call) (calls : List Call) → (before : List Call) × (last : Call) × (call ∷ calls ≡ before ++ last ∷ [])
last_of call [] = ([], call, refl)
last_of call (c ∷ calls) = let rest = last_of c calls in (call ∷ rest.0, rest.1, ap (λ l. call ∷ l) rest.2)

-- ---- a line that was denied so often

abbrev pub IsDeniedSoFar : (known : List Publication) → Line → (old now : List Call) → (tried : ℕ) → Type 0
IsDeniedSoFar known line old now tried =
    (tries : List Call) × (now ≡ old ++ tries) × AllByRecursion (IsTry known line) tries × AllByRecursion IsDenied tries × (length tries ≡ tried)

abbrev pub HasTried : (known : List Publication) → Line → (old new : List Call) → Option Answer → Type 0
HasTried known line old new end = (tries : List Call) × (new ≡ old ++ tries) × IsTried known line tries end

pub not_tried : (known : List Publication) (line : Line) (old : List Call) → IsDeniedSoFar known line old old 0
not_tried known line old = ([], sym (append-nil old), tt, tt, refl)

-- where the name leads, and what is asked for there
pub is_try : (known later now : List Publication) (line : Line) (target : RuleTarget) (front : ℕ) (call : Call) → IsPrefix known later → IsPrefix later now
    → LastLeads now (key_of line) (type_of line) front (Ok target) → call.event ≡ event_at line target → IsTry known line call
is_try known later now line target front call before more leads is = (target, (now, known_before known later now before more, (front, leads)), is)

pub denied_again : (known : List Publication) (line : Line) (old now new : List Call) (tried : ℕ) (call : Call) → IsDeniedSoFar known line old now tried → new ≡ now ++ call ∷ []
    → IsTry known line call → IsDenied call → IsDeniedSoFar known line old new (tried + 1)
denied_again known line old now new tried call so adds is denied = (
  so.0 ++ call ∷ [],
  adds ∙ ap (λ l. l ++ call ∷ []) so.1 ∙ append_assoc old so.0 (call ∷ []),
  pushed (IsTry known line) so.0 call so.2 is,
  pushed IsDenied so.0 call so.3 denied,
  length-append so.0 (call ∷ []) ∙ ap (λ n. n + 1) so.4,
)

-- the desk refuses the next call
pub refused_here : (known : List Publication) (line : Line) (old now new : List Call) (tried : ℕ) → IsDeniedSoFar known line old now tried → tried < most_tries
    → new ≡ now → HasTried known line old new None
refused_here known line old now new tried so left same =
    (so.0, same ∙ so.1, record { each = so.2; ends = (so.3, subst (λ n. n < most_tries) (sym so.4) left) })

-- the name leads nowhere
pub nowhere : (known later now : List Publication) (line : Line) (old calls : List Call) (tried : ℕ) (why : TopologyFault) (front : ℕ) → IsDeniedSoFar known line old calls tried
    → tried < most_tries → IsPrefix known later → IsPrefix later now → LastLeads now (key_of line) (type_of line) front (Err why)
    → HasTried known line old calls (Some (Err (refusal.Other reason.NoTable)))
nowhere known later now line old calls tried why front so left before more leads = (
  so.0,
  so.1,
  record {
    each = so.2;
    ends = inr ((so.3, subst (λ n. n < most_tries) (sym so.4) left), (why, (now, known_before known later now before more, (front, leads))), refl);
  },
)

-- another answer than F3 Denied
pub answered_here : (known : List Publication) (line : Line) (old now new : List Call) (tried : ℕ) (call : Call) → IsDeniedSoFar known line old now tried → tried < most_tries
    → new ≡ now ++ call ∷ [] → IsTry known line call → call.answer ≢ Err (refusal.Other reason.Denied) → HasTried known line old new (Some call.answer)
answered_here known line old now new tried call so left adds is other = (
  so.0 ++ call ∷ [],
  adds ∙ ap (λ l. l ++ call ∷ []) so.1 ∙ append_assoc old so.0 (call ∷ []),
  record {
    each = pushed (IsTry known line) so.0 call so.2 is;
    ends = inl (so.0, call, refl, (so.3, subst (λ n. n < most_tries) (sym so.4) left), refl, inl other);
  },
)

-- no try is left
pub denied_to_the_end : (known : List Publication) (line : Line) (old now : List Call) (tried : ℕ) → IsDeniedSoFar known line old now tried → tried ≡ most_tries
    → HasTried known line old now (Some (Err (refusal.Other reason.Denied)))
denied_to_the_end known line old now tried so all = (so.0, so.1, record { each = so.2; ends = inl (by so.0 so.3 (so.4 ∙ all)) })
  where
    by : (tries : List Call) → AllByRecursion IsDenied tries → length tries ≡ most_tries → IsAnswered tries (Err (refusal.Other reason.Denied))
    by [] denied long = absurd (omega (arith, long))
    by (call ∷ calls) denied long =
        let split = last_of call calls in
        let both = all_but_last IsDenied split.0 split.1 (subst (AllByRecursion IsDenied) split.2 denied) in
        let count : length split.0 + 1 ≡ most_tries = sym (length-append split.0 (split.1 ∷ [])) ∙ sym (ap length split.2) ∙ long in
        (split.0, split.1, split.2, (both.0, omega (arith, count)), both.1, inr long)

-- ---- line after line

-- as it ends from this line on, so it ends in all
abbrev pub IsAtLine : (known : List Publication) → (lines : List Line) → (at : ℕ) → (old now : List Call) → Type 0
IsAtLine known lines at old now =
    (calls : List Call) × (now ≡ old ++ calls)
    × ((more : List Call) (further : ℕ) → Queries known (drop at lines) more further → Queries known lines (calls ++ more) (further + at))

abbrev pub HasQueried : (known : List Publication) → (lines : List Line) → (old new : List Call) → (sent : ℕ) → Type 0
HasQueried known lines old new sent = (calls : List Call) × (new ≡ old ++ calls) × Queries known lines calls sent

pub at_the_first : (known : List Publication) (lines : List Line) (old : List Call) → IsAtLine known lines 0 old old
at_the_first known lines old =
    ([], sym (append-nil old), λ more further queries. subst (Queries known lines more) (omega arith) queries)

-- what was so of a list that goes on from what was known is so of what was known
try_before : (known later : List Publication) (line : Line) → IsPrefix known later → (call : Call) → IsTry later line call → IsTry known line call
try_before known later line more call is = (is.0, led_before known later line (Ok is.0) more is.1, is.2)

ends_before : (known later : List Publication) (line : Line) (tries : List Call) (end : Option Answer) → IsPrefix known later → EndsIn later line tries end
    → EndsIn known line tries end
ends_before known later line tries (Some answer) more (inl answered) = inl answered
ends_before known later line tries (Some answer) more (inr none) = inr (none.0, (none.1.0, led_before known later line (Err none.1.0) more none.1.1), none.2)
ends_before known later line tries None more ends = ends

tried_before : (known later : List Publication) (line : Line) (tries : List Call) (end : Option Answer) → IsPrefix known later → IsTried later line tries end
    → IsTried known line tries end
tried_before known later line tries end more tried = record {
  each = each_so (IsTry later line) (IsTry known line) (try_before known later line more) tries tried.each;
  ends = ends_before known later line tries end more tried.ends;
}

from_here : (lines : List Line) (at : ℕ) (line : Line) → at < length lines → line ≡ get_or lines at line → drop at lines ≡ line ∷ drop (at + 1) lines
from_here lines at line inside is = drop_more lines at line inside ∙ ap (λ x. x ∷ drop (at + 1) lines) (sym is)

pub one_more : (known later : List Publication) (lines : List Line) (at : ℕ) (line : Line) (old now new : List Call) (answer : Answer) → IsAtLine known lines at old now → at < length lines
    → line ≡ get_or lines at line → IsPrefix known later → HasTried later line now new (Some answer) → IsAtLine known lines (at + 1) old new
one_more known later lines at line old now new answer way inside is more tried = (
  way.0 ++ tried.0,
  tried.1 ∙ ap (λ l. l ++ tried.0) way.1 ∙ append_assoc old way.0 tried.0,
  λ rest further queries.
      let here : Queries known (drop at lines) (tried.0 ++ rest) (further + 1) =
      subst (λ l. Queries known l (tried.0 ++ rest) (further + 1)) (sym (from_here lines at line inside is))
      (inr (tried.0, rest, answer, further, refl, tried_before known later line tried.0 (Some answer) more tried.2, queries, refl)) in
      let all : Queries known lines (way.0 ++ (tried.0 ++ rest)) (further + 1 + at) = way.2 (tried.0 ++ rest) (further + 1) here in
      subst (λ l. Queries known lines l (further + (at + 1))) (sym (append_assoc way.0 tried.0 rest))
      (subst (Queries known lines (way.0 ++ (tried.0 ++ rest))) (omega arith) all),
)

pub ends_at : (known later : List Publication) (lines : List Line) (at : ℕ) (line : Line) (old now new : List Call) (end : Option Answer) → IsAtLine known lines at old now
    → at < length lines → line ≡ get_or lines at line → IsPrefix known later → HasTried later line now new end → HasQueried known lines old new at
ends_at known later lines at line old now new end way inside is more tried = (
  way.0 ++ tried.0,
  tried.1 ∙ ap (λ l. l ++ tried.0) way.1 ∙ append_assoc old way.0 tried.0,
  subst (Queries known lines (way.0 ++ tried.0)) (omega arith)
      (way.2 tried.0 0
      (subst (λ l. Queries known l tried.0 0) (sym (from_here lines at line inside is))
      (inl ((end, tried_before known later line tried.0 end more tried.2), refl)))),
)

pub at_the_end : (known : List Publication) (lines : List Line) (at : ℕ) (old now : List Call) → IsAtLine known lines at old now → drop at lines ≡ [] → HasQueried known lines old now at
at_the_end known lines at old now way none = (
  way.0,
  way.1,
  subst (Queries known lines way.0) (omega arith)
      (subst (λ l. Queries known lines l (0 + at)) (append-nil way.0) (way.2 [] 0 (subst (λ l. Queries known l [] 0) (sym none) (refl, refl)))),
)
