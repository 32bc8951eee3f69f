-- What is kept of the ways stands for a state whatever is purged.
use Rattle.std.proofs.Common.{List, sym, ap, ◌∙◌}
use Rattle.mt_model.specs.declared.entries.Scope.{Scope}
use Rattle.mt_plain.specs.Plain.{Plain}
use Rattle.mt_stands.specs.Base.{BaseState, workflow_at}
use Rattle.mt_stands.specs.Purges.{PurgesBase}
use Rattle.mt_stands.specs.Stands.{StandsWith}
use Rattle.mt_stands.specs.Ways.{HasCoreState, CoreState, CoreStands, WaysStand, is_under_way}

module _ (p : Plain) (scopes : List Scope) (s : CoreState) (base : BaseState) (purges : PurgesBase s.base base) where
  ways-same : WaysStand p s.base s.ways → WaysStand p base s.ways
  ways-same ways = record {
    begun = ways.begun;
    journal = ways.journal;
    distinct = ways.distinct;
    there = λ name. ways.there name ∙ ap (λ ws. is_under_way ws name) (sym purges.workflows);
    each = λ name live w way o is_live found. ways.each name live w way o is_live (ap (λ ws. workflow_at ws name) (sym purges.workflows) ∙ found);
    written = ways.written;
    numbers = ways.numbers;
    apart = ways.apart;
  }

  pub site-purged : StandsWith p scopes base → CoreStands p scopes s → CoreStands p scopes (record s { base = base })
  site-purged stands before = record { base = stands; ways = ways-same before.ways }

pub state-purged : (s : CoreState) (base : BaseState) → PurgesBase s.base base → (h : HasCoreState s) → StandsWith h.state h.state.scopes base → HasCoreState (record s { base = base })
state-purged s base purges h stands = record {
  state = h.state;
  reached = h.reached;
  named = h.named;
  stands = site-purged h.state h.state.scopes s base purges stands h.stands;
}
