-- Bases with more watchers, and the next base.
use Rattle.std.proofs.Common.{◌≡◌, ℕ, List, [], ◌∷◌, ◌++◌, Option, None, Some, refl, sym, ap, subst, ◌∙◌, arith}
use Rattle.std.proofs.lemmas.Bool.{true≢false}
use Rattle.std.specs.List.{AllByRecursion}
use Rattle.mt_model.specs.declared.entries.Scope.{Scope}
use Rattle.mt_model.specs.declared.rows.RowChange.{RowChange}
use Rattle.mt_model.specs.Topology.{empty_topology}
use Rattle.mt_primary.specs.Primary.{empty_primary}
use Rattle.mt_plain.specs.Answers.{Answers, Run, after}
use Rattle.mt_plain.specs.Events.{Event, Answer}
use Rattle.mt_plain.specs.Next.{next}
use Rattle.mt_plain.specs.Plain.{Lane, Live, Plain, live_at, opening, owner}
use Rattle.mt_laws.specs.Texts.{BringsNames}
use Rattle.mt_laws.specs.WayBack.{IsReached}
use Rattle.mt_stands.specs.Rows.{IsPending, RowsStand, no_primaries, owner_shard}
use Rattle.mt_stands.proofs.KnownLemmas.{same_primaries}
use Rattle.mt_stands.specs.Topologies.{TopologyStands}
use Rattle.mt_workflow.specs.Workflows.{WorkflowState}
use Rattle.mt_primary.specs.Primaries.{primary_of}
use Rattle.mt_stands.specs.Base.{BaseState, empty_base, workflow_at}
use Rattle.mt_stands.specs.Stands.{ArePrimaries, HasState, Stands, StandsForAny, StandsWith, Steps}
use Rattle.mt_refinement.proofs.WiderLemmas.{IsWide, row_same, wider, widened}
use Rattle.mt_laws.proofs.AllWritesLemmas.{run_push}

module _ (more : List Scope) (p : Plain) where
  pending_wide : (w : Live) (lane : Lane) (log : List RowChange) → IsPending p w lane log → IsPending (wider more p) w lane log
  pending_wide w lane log pending = record { before = pending.before; left = pending.left; entries = pending.entries; writes = pending.writes; rows = pending.rows }

  any_wide : (o : Option Live) (v : Option WorkflowState) → StandsForAny p o v → StandsForAny (wider more p) o v
  any_wide None None stands = stands
  any_wide None (Some w) stands = stands
  any_wide (Some live) None stands = stands
  any_wide (Some live) (Some w) stands = record { sides = stands.sides; switched = stands.switched; way = stands.way; kept = stands.kept; lanes = stands.lanes }

  pub stands_wide : (base : BaseState) → IsReached (wider more p) → Stands p base → Stands (wider more p) base
  stands_wide base reached stands = record {
    reached = reached;
    scopes_are = refl;
    topology = record {
      served = record { keyspaces = stands.topology.served.keyspaces; shards = stands.topology.served.shards; entries = stands.topology.served.entries; places = stands.topology.served.places };
      places = stands.topology.places;
    };
    rows = record {
      log = stands.rows.log;
      rows = λ keyspace table there key. stands.rows.rows keyspace table there key ∙ sym (row_same more p keyspace table key);
      apart = stands.rows.apart;
      pending = λ name w live shard lane laned. pending_wide w lane (primary_of base.primaries (owner w) (owner_shard w lane)).log.entries (stands.rows.pending name w live shard lane laned);
      unread = stands.rows.unread;
    };
    primaries = record {
      there = stands.primaries.there;
      count = stands.primaries.count;
      cuts = stands.primaries.cuts;
      ascend = stands.primaries.ascend;
      shards = stands.primaries.shards;
      tables = stands.primaries.tables;
      denials = stands.primaries.denials;
    };
    workflows = record { each = λ name. any_wide (live_at p name) (workflow_at base.workflows name) (stands.workflows.each name); names = stands.workflows.names };
  }

-- a state that is reached by events that bring names alone is so with more watchers too
module _ (more : List Scope) (p : Plain) (reached : IsReached p) (named : AllByRecursion BringsNames reached.events) where
  wide : IsWide more (opening reached.scopes) (after (opening reached.scopes) reached.events reached.answers)
  wide = widened more (opening reached.scopes) reached.events reached.answers reached.run named

  pub reached_wide : IsReached (wider more p)
  reached_wide = record {
    scopes = reached.scopes ++ more;
    events = wide.events;
    answers = wide.answers;
    run = wide.run;
    is = wide.is ∙ ap (wider more) reached.is;
  }

  pub named_wide : AllByRecursion BringsNames reached_wide.events
  unfolding reached_wide wide
  named_wide = wide.named

pub more_watchers : (base : BaseState) (scopes : List Scope) (h : HasState base) → (g : HasState base) × (g.state.scopes ≡ h.state.scopes ++ scopes)
more_watchers base scopes h =
    let reached = reached_wide scopes h.state h.reached h.named in
    (record { state = wider scopes h.state; reached = reached; named = named_wide scopes h.state h.reached h.named; stands = stands_wide scopes h.state base reached h.stands }, refl)

pushed : (events : List Event) (event : Event) → AllByRecursion BringsNames events → BringsNames event → AllByRecursion BringsNames (events ++ event ∷ [])
pushed [] event all named = (named, tt)
pushed (e ∷ events) event all named = (all.0, pushed events event all.1 named)

-- a run goes on with one event more
-- a state that is reached by events that bring names alone, and one event more
module _ (p : Plain) (reached : IsReached p) (event : Event) (answer : Answer) (given : Answers p event answer) where
  further : Run (opening reached.scopes) (reached.events ++ event ∷ []) (reached.answers ++ answer ∷ [])
      × (after (opening reached.scopes) (reached.events ++ event ∷ []) (reached.answers ++ answer ∷ []) ≡ next (after (opening reached.scopes) reached.events reached.answers) event answer)
  further = run_push reached.events reached.answers (opening reached.scopes) event answer reached.run (subst (λ q. Answers q event answer) (sym reached.is) given)

  pub reached_next : IsReached (next p event answer)
  reached_next = record {
    scopes = reached.scopes;
    events = reached.events ++ event ∷ [];
    answers = reached.answers ++ answer ∷ [];
    run = further.0;
    is = further.1 ∙ ap (λ q. next q event answer) reached.is;
  }

  pub named_next : AllByRecursion BringsNames reached.events → BringsNames event → AllByRecursion BringsNames reached_next.events
  unfolding reached_next
  named_next named brings = pushed reached.events event named brings

-- the next state of a base with these watchers too
pub next_state : (scopes : List Scope) (old new : BaseState) (event : Event) (answer : Answer) → BringsNames event → ((more : List Scope) → Steps (more ++ scopes) old event answer new) → HasState old → HasState new
next_state scopes old new event answer named steps h =
    let (g, are) = more_watchers old scopes h in
    let stands : StandsWith g.state (h.state.scopes ++ scopes) old = subst (λ s. StandsWith g.state s old) are g.stands in
    let (given, after_it) = steps h.state.scopes g.state stands in
    record {
      state = next g.state event answer;
      reached = reached_next g.state g.reached event answer given;
      named = named_next g.state g.reached event answer given g.named named;
      stands = subst (λ s. StandsWith (next g.state event answer) s new) (sym after_it.scopes_are) after_it;
    }

-- ---- the base without keyspaces and workflows

pub none_there : (keyspace : List ℕ) (n : ℕ) → primary_of [] keyspace n ≡ empty_primary
none_there keyspace n = refl

pub none_are : (scopes : List Scope) → ArePrimaries (opening scopes) []
none_are scopes = record {
  there = λ keyspace. refl;
  count = refl;
  cuts = λ keyspace. refl;
  ascend = λ keyspace. record { ascend = refl; few = omega arith };
  shards = λ keyspace there. absurd (true≢false (sym there));
  tables = λ keyspace shard within. absurd (omega (arith, within));
  denials = λ keyspace shard within. absurd (omega (arith, within));
}

pub opening_state : TopologyStands (opening []) empty_topology → RowsStand (opening []) no_primaries → HasState empty_base
opening_state topology rows = record {
  state = opening [];
  reached = reached;
  named = tt;
  stands = record {
    reached = reached;
    scopes_are = refl;
    topology = topology;
    rows = same_primaries (opening []) no_primaries (primary_of []) rows none_there;
    primaries = none_are [];
    workflows = record { each = λ name. tt; names = refl };
  };
}
  where
    reached : IsReached (opening [])
    reached = record { scopes = []; events = []; answers = []; run = tt; is = refl }
