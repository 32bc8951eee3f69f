-- What is kept of a way that begins.
use Rattle.std.proofs.Common.{◌≡◌, ◌≢◌, ℕ, suc, Bool, true, List, None, Some, refl, sym, ap, ◌∙◌, ◌++◌, ◌∷◌, []}
use Rattle.mt_laws.proofs.StepUndoneLemmas.{nothing_done}
use Rattle.std.proofs.lemmas.Bool.{true≢false}
use Rattle.std.specs.Map.{set_value}
use Rattle.mt_names.specs.Names.{same_text}
use Rattle.mt_names.specs.declared.types.TypeSet.{TypeSet}
use Rattle.mt_model.specs.declared.entries.Scope.{Scope}
use Rattle.mt_plain.specs.Events.{Way}
use Rattle.mt_plain.specs.Plain.{Live, Plain, create_back, live_at}
use Rattle.mt_stands.specs.Base.{workflow_at}
use Rattle.mt_stands.specs.Switching.{way_to, with_way}
use Rattle.mt_stands.specs.Ways.{IsOpenOn, CoreStands, CoreState, WaysStand}
use Rattle.mt_steps.proofs.BackLemmas.{new_log_of}
use Rattle.mt_steps.specs.declared.log.OpenWay.{OpenWay}
use Rattle.mt_steps.specs.Undo.{new_log}
use Rattle.mt_workflow.specs.Workflows.{WorkflowState}
use Rattle.mt_refinement.proofs.PrimaryNextLemmas.{none_refreshed}
use Rattle.mt_refinement.proofs.RecordOpenLemmas.{begins, unused_yet}

module _ (p q : Plain) (scopes : List Scope) (s : CoreState) (stands : CoreStands p scopes s) (name : List ℕ) (w : WorkflowState) (backward : Bool) (types : TypeSet)
    (found : workflow_at s.base.workflows name ≡ Some w) (rests : w.way ≡ None) (w_named : w.name ≡ name) where
  abbrev fresh : Way
  fresh = way_to w backward types

  abbrev now : CoreState
  now = with_way s w fresh

  abbrev v : WorkflowState
  v = record w { way = Some fresh }

  abbrev u : OpenWay
  u = record { number = suc s.ways.begun; log = new_log w }

  workflows_now : now.base.workflows ≡ set_value (same_text name) s.base.workflows v
  workflows_now = ap (λ k. set_value (same_text k) s.base.workflows v) w_named

  open_now : now.ways.opened ≡ s.ways.opened ++ (name, u) ∷ []
  open_now = ap (λ k. s.ways.opened ++ (k, u) ∷ []) w_named

  here : (live : Live) → IsOpenOn now.ways.journal live v fresh u
  here live = record {
    kept = record { entries = (new_log_of w).entries; listed = (new_log_of w).listed; slots = (new_log_of w).slots };
    unused = λ f. unused_yet p q s.base now.base s.ways now.ways stands.ways name w v fresh u found rests refl refl workflows_now open_now refl refl;
    undo = λ f. record {
      entries = λ n t. absurd (true≢false (sym t ∙ nothing_done fresh n refl));
      listed = λ shard below t. absurd (true≢false (sym t ∙ none_refreshed fresh true shard refl));
      slots = λ t. absurd (true≢false (sym t ∙ nothing_done fresh create_back refl));
    };
  }

  pub begin_stays : ((n : List ℕ) → name ≢ n → live_at q n ≡ live_at p n) → q.ways ≡ suc p.ways → q.journal ≡ p.journal → WaysStand q now.base now.ways
  begin_stays elsewhere one_way as_many =
      begins p q s.base now.base s.ways now.ways stands.ways name w v fresh u found rests refl refl workflows_now open_now refl refl elsewhere here one_way as_many
