-- States of the controller with more watchers, and the next one.
use Rattle.std.proofs.Common.{◌≡◌, ℕ, List, [], ◌++◌, None, Some, refl, sym, subst}
use Rattle.std.specs.List.{IsDistinct}
use Rattle.std.specs.Prelude.{Ok}
use Rattle.mt_names.specs.Names.{same_text}
use Rattle.mt_model.specs.declared.entries.Entry.{Entry}
use Rattle.mt_model.specs.declared.entries.Scope.{Scope}
use Rattle.mt_model.specs.declared.entries.Scope.TheVariants as scope
use Rattle.mt_watch.specs.Asking.{Answering, AsksEach}
use Rattle.mt_steps.specs.declared.log.OpenWay.{OpenWay}
use Rattle.mt_workflow.specs.Workflows.{WorkflowState}
use Rattle.mt_plain.specs.Events.{Answer, Event, Way, done, row, advanced, shown, refused, memory, watcher_refused}
use Rattle.mt_plain.specs.Next.{next}
use Rattle.mt_plain.specs.Plain.{Live, Plain, each_once, live_at, opening}
use Rattle.mt_laws.specs.Texts.{BringsNames}
use Rattle.mt_refinement.proofs.FoundLemmas.{live_of_state}
use Rattle.mt_refinement.proofs.FactStayLemmas.{named_next, named_wide, reached_next, reached_wide, stands_wide}
use Rattle.mt_refinement.proofs.WiderLemmas.{wider}
use Rattle.mt_stands.specs.Base.{BaseState, empty_base, workflow_at}
use Rattle.mt_stands.specs.Stands.{StandsWith}
use Rattle.mt_stands.specs.Ways.{HasCoreState, IsOpenOn, IsCore, CoreState, CoreStands, CoreSteps, WaysStand, empty_core, open_at}
use Rattle.mt_stands.specs.Workflows.{CreatesSet, change_of, create_refusal, new_of, with_created}

-- ---- the opening

none_twice : IsDistinct same_text []
unfolding IsDistinct
none_twice = tt

pub site_opening : (scopes : List Scope) → StandsWith (opening scopes) scopes empty_base → CoreStands (opening scopes) scopes empty_core
site_opening scopes base = record {
  base = base;
  ways = record {
    begun = refl;
    journal = refl;
    distinct = none_twice;
    there = λ name. refl;
    each = λ name live w way o is_live found on opened. absurd cc;
    written = tt;
    numbers = λ name o opened. absurd cc;
    apart = λ name other o u opened opened_too same. absurd cc;
  };
}

pub opening_core : StandsWith (opening []) [] empty_base → HasCoreState empty_core
opening_core base = record {
  state = opening [];
  reached = record { scopes = []; events = []; answers = []; run = tt; is = refl };
  named = tt;
  stands = site_opening [] base;
}

-- ---- more watchers

ways_wide : (more : List Scope) (p : Plain) (s : CoreState) → WaysStand p s.base s.ways → WaysStand (wider more p) s.base s.ways
ways_wide more p s stand = record {
  begun = stand.begun;
  journal = stand.journal;
  distinct = stand.distinct;
  there = stand.there;
  each = stand.each;
  written = stand.written;
  numbers = stand.numbers;
  apart = stand.apart;
}

pub more_watchers : (s : CoreState) (scopes : List Scope) (h : HasCoreState s) → (g : HasCoreState s) × (g.state.scopes ≡ h.state.scopes ++ scopes)
more_watchers s scopes h =
    let reached = reached_wide scopes h.state h.reached h.named in (
      record {
        state = wider scopes h.state;
        reached = reached;
        named = named_wide scopes h.state h.reached h.named;
        stands = record { base = stands_wide scopes h.state s.base reached h.stands.base; ways = ways_wide scopes h.state s h.stands.ways };
      },
      refl,
    )

-- ---- the next state

pub next_site : (scopes : List Scope) (old new : CoreState) (event : Event) (answer : Answer) → BringsNames event → ((more : List Scope) → CoreSteps (more ++ scopes) old event answer new)
    → HasCoreState old → HasCoreState new
next_site scopes old new event answer named steps h =
    let (g, are) = more_watchers old scopes h in
    let stands : CoreStands g.state (h.state.scopes ++ scopes) old = subst (λ s. CoreStands g.state s old) are g.stands in
    let (given, behind) = steps h.state.scopes g.state stands in
    record {
      state = next g.state event answer;
      reached = reached_next g.state g.reached event answer given;
      named = named_next g.state g.reached event answer given g.named named;
      stands = subst (λ s. CoreStands (next g.state event answer) s new) (sym behind.base.scopes_are) behind;
    }

-- ---- behind a Create

module _ (scopes : List Scope) (may_answer : Answering) (old : CoreState) (new : BaseState) (workflow source target : List ℕ) (tables : List (List ℕ))
    (taken : (notice : List Entry) → AsksEach scopes may_answer (scope.Primary target) (change_of (new_of old.base workflow source target (each_once tables))) (Ok notice)
    → new ≡ with_created old.base (new_of old.base workflow source target (each_once tables)) notice → create_refusal old.base scopes workflow source target (each_once tables) ≡ None
    → IsCore old → IsCore (record old { base = new })) where
  unchanged : new ≡ old.base → IsCore old → IsCore (record old { base = new })
  unchanged is = subst (λ c. IsCore (record old { base = c })) (sym is)

  pub leaves_a_core : (answer : Answer) → CreatesSet old.base scopes may_answer workflow source target (each_once tables) answer new → IsCore old → IsCore (record old { base = new })
  leaves_a_core done creates = at creates.1
    where
      at : (notice : List Entry) × AsksEach scopes may_answer (scope.Primary target) (change_of (new_of old.base workflow source target (each_once tables))) (Ok notice)
          × (new ≡ with_created old.base (new_of old.base workflow source target (each_once tables)) notice)
          → IsCore old → IsCore (record old { base = new })
      at (notice, asks, is) = taken notice asks is creates.0
  leaves_a_core (refused memory) creates = unchanged creates.1
  leaves_a_core (refused (watcher_refused index)) creates = unchanged creates.2
  leaves_a_core (refused other) creates = unchanged creates.1
  leaves_a_core (row r) creates = absurd creates
  leaves_a_core (advanced events rows) creates = absurd creates
  leaves_a_core (shown s) creates = absurd creates

-- ---- what is kept of an open way

pub open_of : (s : CoreState) → HasCoreState s → (name : List ℕ) (w : WorkflowState) (way : Way) (o : OpenWay) → workflow_at s.base.workflows name ≡ Some w
    → w.way ≡ Some way → open_at s.ways.opened name ≡ Some o → (live : Live) × IsOpenOn s.ways.journal live w way o
open_of s h name w way o found on opened =
    let (live, is_live, for) = live_of_state h.state (live_at h.state name) (workflow_at s.base.workflows name) w (h.stands.base.workflows.each name) found in
    (live, h.stands.ways.each name live w way o is_live found on opened)
