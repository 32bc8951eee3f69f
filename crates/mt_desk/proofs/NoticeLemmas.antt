-- The notice of a change for the scope of routes.
use Rattle.std.proofs.Common.{◌≡◌, ◌∙◌, true, All, Contains, List, [], ◌∷◌, refl, sym, ap, subst}
use Rattle.std.proofs.lemmas.List.Elements.{All-contains_itself, All-head, All-tail, All-weaker}
use Rattle.mt_model.specs.declared.entries.Entry.{Entry}
use Rattle.mt_model.specs.declared.entries.Entry.TheVariants as entry
use Rattle.mt_model.specs.declared.entries.Scope.{Scope}
use Rattle.mt_model.specs.declared.entries.Scope.TheVariants.{Routes}
use Rattle.mt_model.specs.Notices.{concerns, notice_of}
use Rattle.mt_model.specs.Topology.{TopologyState, routes_of}
use Rattle.mt_routes.specs.Differences.{AreDifferences, IsDifference}
use Rattle.mt_watch.specs.Asking.{Answering, IsTold}
use Rattle.mt_desk.specs.Fronts.{Changes}

-- what is said otherwise is no denial
concerned : (before routes : List Entry) (e : Entry) → IsDifference before routes e → concerns Routes e ≡ true
concerned before routes (entry.Rule key target) is = refl
concerned before routes (entry.Denied keyspace table mark) is = absurd (is.1 is.0)
concerned before routes (entry.Present keyspace table mark) is = refl

all-noticed : (entries : List Entry) → All (λ e. concerns Routes e ≡ true) entries → notice_of Routes entries ≡ entries
all-noticed [] each = refl
all-noticed (e ∷ entries) each = rw (All-head (λ x. concerns Routes x ≡ true) e entries each) (ap (λ l. e ∷ l) (all-noticed entries (All-tail (λ x. concerns Routes x ≡ true) e entries each)))

-- each difference concerns routers, so that the notice has them all
pub differences_concern : (before routes entries : List Entry) → AreDifferences before routes entries → notice_of Routes entries ≡ entries
differences_concern before routes entries are =
    all-noticed entries (All-weaker (Contains entries) (λ e. concerns Routes e ≡ true) (λ e has. concerned before routes e ((are e).0 has)) entries (All-contains_itself entries))

-- what is told of such a change is the change itself
pub told_change : (scopes : List Scope) (may_answer : Answering) (before : List Entry) (t : TopologyState) (entries change answer : List Entry) → Changes before t entries → change ≡ entries
    → IsTold scopes may_answer Routes change answer → Changes before t answer × IsTold scopes may_answer Routes answer answer
told_change scopes may_answer before t entries change answer changes is told =
    let same : change ≡ answer = sym (told.notice ∙ differences_concern before (routes_of t) change (subst (AreDifferences before (routes_of t)) (sym is) changes.0)) in
    (subst (Changes before t) (sym is ∙ same) changes, subst (λ l. IsTold scopes may_answer Routes l answer) same told)
