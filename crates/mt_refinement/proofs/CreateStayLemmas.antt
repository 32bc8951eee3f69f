-- A Create that is taken is taken with more watchers too, and leaves a base.
use Rattle.std.proofs.Common.{◌≡◌, ℕ, Bool, not, List, ◌++◌, length, Option, None, Some, is_some, refl, sym, ap, subst, ◌∙◌}
use Rattle.std.proofs.lemmas.Bool.{not-false, or_right}
use Rattle.std.proofs.lemmas.List.Folds.{list_any-append}
use Rattle.std.specs.Prelude.{◌==◌, Ok}
use Rattle.mt_names.specs.Names.{same_text}
use Rattle.mt_model.specs.declared.entries.Entry.{Entry}
use Rattle.mt_model.specs.declared.entries.Scope.{Scope}
use Rattle.mt_model.specs.declared.entries.Scope.TheVariants as scope
use Rattle.mt_watch.specs.Asking.{Answering, AsksEach}
use Rattle.mt_watch.specs.Notices.{notice_of}
use Rattle.mt_watch.specs.Scopes.{has_scope, same_scope}
use Rattle.mt_plain.specs.Events.{Answer, done, row, advanced, shown, refused, Refusal, memory, watcher_refused, create, full, no_keyspace, no_tables, no_watcher, same_keyspace, sharded_source, workflow_exists}
use Rattle.mt_plain.specs.Next.{next}
use Rattle.mt_plain.specs.Plain.{Plain, each_once}
use Rattle.mt_plain.specs.Refuse.{or_else, refusal_of, refuse_if}
use Rattle.mt_primary.specs.Primaries.{has_primaries}
use Rattle.mt_stands.specs.Base.{BaseState, workflow_at}
use Rattle.mt_stands.specs.Stands.{IsBase, StandsWith, Steps}
use Rattle.mt_stands.specs.Workflows.{CreatesSet, change_of, create_refusal, is_full, is_sharded, new_of, tables_refusal, with_created}
use Rattle.mt_laws.proofs.RefusalLemmas.{or_else-none, refuse_if-none}

-- ---- more watchers

else_still : (o m n : Option Refusal) → (m ≡ None → n ≡ None) → or_else o m ≡ None → or_else o n ≡ None
else_still None m n each none = each none
else_still (Some refusal) m n each none = absurd cc

-- what no test refuses with some watchers none refuses with more before them
pub still_taken : (base : BaseState) (more scopes : List Scope) (workflow source target : List ℕ) (tables : List (List ℕ))
    → create_refusal base scopes workflow source target tables ≡ None → create_refusal base (more ++ scopes) workflow source target tables ≡ None
still_taken base more scopes workflow source target tables =
    else_still (refuse_if (is_some (workflow_at base.workflows workflow)) workflow_exists) _ _
    (else_still (refuse_if (length tables == 0) no_tables) _ _
    (else_still (refuse_if (same_text source target) same_keyspace) _ _
    (else_still (refuse_if (not (has_primaries base.primaries source)) no_keyspace) _ _
    (else_still (refuse_if (not (has_primaries base.primaries target)) no_keyspace) _ _
    (else_still (refuse_if (is_sharded base source) sharded_source) _ _
    (else_still (tables_refusal base source target tables) (watched scopes) (watched (more ++ scopes)) watcher))))))
  where
    has : List Scope → Bool
    has these = has_scope these (scope.Primary target)

    limits : Option Refusal
    limits = refuse_if (is_full base source target tables) full

    watched : List Scope → Option Refusal
    watched these = or_else (refuse_if (not (has these)) no_watcher) limits

    watcher : watched scopes ≡ None → watched (more ++ scopes) ≡ None
    watcher none =
        let (here, behind) = or_else-none (refuse_if (not (has scopes)) no_watcher) limits none in
        ap (λ b. or_else (refuse_if (not b) no_watcher) limits)
        (list_any-append (λ other. same_scope other (scope.Primary target)) more scopes
        ∙ or_right (has more) (has scopes) (not-false (has scopes) (refuse_if-none (not (has scopes)) no_watcher here)))
        ∙ behind

-- ---- the base that is left

module _ (scopes : List Scope) (may_answer : Answering) (old new : BaseState) (workflow source target : List ℕ) (tables : List (List ℕ))
    (same : (p : Plain) (wide : List Scope) → StandsWith p wide old → create_refusal old wide workflow source target (each_once tables) ≡ refusal_of p (create workflow source target tables))
    (made : (p : Plain) (wide : List Scope) → StandsWith p wide old → refusal_of p (create workflow source target tables) ≡ None
    → StandsWith (next p (create workflow source target tables) done) wide
    (with_created old (new_of old workflow source target (each_once tables)) (notice_of (scope.Primary target) (change_of (new_of old workflow source target (each_once tables)))))) where
  -- a Create that is taken steps with more watchers before these too
  pub taken_steps : (notice : List Entry) → notice ≡ notice_of (scope.Primary target) (change_of (new_of old workflow source target (each_once tables)))
      → new ≡ with_created old (new_of old workflow source target (each_once tables)) notice → create_refusal old scopes workflow source target (each_once tables) ≡ None
      → (more : List Scope) → Steps (more ++ scopes) old (create workflow source target tables) done new
  taken_steps notice told is none more p stands = (
    (not_refused, refl),
    subst (λ base. StandsWith (next p (create workflow source target tables) done) (more ++ scopes) base)
        (ap (with_created old (new_of old workflow source target (each_once tables))) (sym told) ∙ sym is) (made p (more ++ scopes) stands not_refused),
  )
    where
      not_refused : refusal_of p (create workflow source target tables) ≡ None
      not_refused =
          sym (same p (more ++ scopes) stands)
          ∙ still_taken old more scopes workflow source target (each_once tables) none

  module _ (stays : ((more : List Scope) → Steps (more ++ scopes) old (create workflow source target tables) done new) → IsBase old → IsBase new) where
    unchanged : new ≡ old → IsBase old → IsBase new
    unchanged is = subst IsBase (sym is)

    pub leaves_a_base : (answer : Answer) → CreatesSet old scopes may_answer workflow source target (each_once tables) answer new → IsBase old → IsBase new
    leaves_a_base done creates = at creates.1
      where
        at : (notice : List Entry) × AsksEach scopes may_answer (scope.Primary target) (change_of (new_of old workflow source target (each_once tables))) (Ok notice)
            × (new ≡ with_created old (new_of old workflow source target (each_once tables)) notice)
            → IsBase old → IsBase new
        at (notice, asks, is) = stays (taken_steps notice asks.notice is creates.0)
    leaves_a_base (refused memory) creates = unchanged creates.1
    leaves_a_base (refused (watcher_refused index)) creates = unchanged creates.2
    leaves_a_base (refused other) creates = unchanged creates.1
    leaves_a_base (row r) creates = absurd creates
    leaves_a_base (advanced events rows) creates = absurd creates
    leaves_a_base (shown s) creates = absurd creates
