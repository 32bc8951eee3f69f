-- Which answers an undo and a cancel may get.
use Rattle.std.proofs.Common.{◌≡◌, ◌↔◌, inl, inr, ℕ, false, not, eqb, List, Option, None, Some, is_some, refl, sym, ap, ◌∙◌, subst}
use Rattle.std.proofs.lemmas.Bool.{true≢false, eq-eqb}
use Rattle.std.specs.Prelude.{◌||◌}
use Rattle.std.specs.Option.{option_map_or}
use Rattle.mt_names.specs.Types.{no_types}
use Rattle.mt_plain.specs.Answers.{Answers, Refuses, IsCut, reply_of}
use Rattle.mt_plain.specs.Events.{Event, undo, cancel, Refusal, memory, past_journal, stale, traffic_switched, under_way, nothing_under_way, watcher_refused, Answer, done, row, advanced, shown, refused, Way}
use Rattle.mt_plain.specs.Plain.{Live, Plain, live_at, stands_done, write_journal}
use Rattle.mt_plain.specs.Refuse.{cancel_refusal, in_workflow, may_grow, may_refuse, or_else, refusal_of, refuse_if, undo_refusal}

no_refusal : (p : Plain) (event : Event) (refusal : Refusal) → refusal_of p event ≡ None → may_grow p event ≡ false → ((index : ℕ) → may_refuse p event index ≡ false) → Refuses p event refusal → ⊥
no_refusal p event memory none grows asks r = true≢false (sym r.1 ∙ grows)
no_refusal p event (watcher_refused index) none grows asks r = true≢false (sym r.1 ∙ asks index)
no_refusal p event refusal none grows asks r = let h : None ≡ Some refusal = sym none ∙ r in absurd cc

-- an event that is told that it is done, that grows nothing and asks no watcher, gets that answer alone
is_done : (p : Plain) (event : Event) (answer : Answer) → reply_of p event ≡ done → ((events rows : ℕ) → IsCut p event events rows → ⊥) → refusal_of p event ≡ None → may_grow p event ≡ false → ((index : ℕ) → may_refuse p event index ≡ false)
    → Answers p event answer ↔ (answer ≡ done)
is_done p event answer reply cuts none grows asks = (from answer, λ e. subst (Answers p event) (sym e) (none, sym reply))
  where
    from : (a : Answer) → Answers p event a → a ≡ done
    from done given = refl
    from (row r) given = given.1 ∙ reply
    from (shown s) given = given.1 ∙ reply
    from (advanced events rows) (e, inl is) = is ∙ reply
    from (advanced events rows) (e, inr cut) = absurd (cuts events rows cut)
    from (refused refusal) given = absurd (no_refusal p event refusal none grows asks given)

pub undo_is_done : (p : Plain) (name : List ℕ) (w : Live) (way : Way) → live_at p name ≡ Some w → w.way ≡ Some way → stands_done way write_journal ≡ false → (answer : Answer) → Answers p (undo name way.done) answer ↔ (answer ≡ done)
undo_is_done p name w way live opens before answer = is_done p (undo name way.done) answer refl (λ events rows cut. cut) none refl (λ index. refl)
  where
    test : Way → Option Refusal
    test v = or_else (refuse_if (stands_done v write_journal) past_journal) (refuse_if (not (eqb way.done v.done)) (stale v.done))

    passes : test way ≡ None
    passes = rw (before, eq-eqb way.done way.done refl) refl

    none : refusal_of p (undo name way.done) ≡ None
    none = ap (λ o. in_workflow o (undo_refusal way.done)) live ∙ ap (λ o. option_map_or test o (Some nothing_under_way)) opens ∙ passes

pub cancel_is_done : (p : Plain) (name : List ℕ) (w : Live) → live_at p name ≡ Some w → w.way ≡ None → w.switched ≡ no_types → (answer : Answer) → Answers p (cancel name) answer ↔ (answer ≡ done)
cancel_is_done p name w live rests nothing answer = is_done p (cancel name) answer refl (λ events rows cut. cut) none refl (λ index. refl)
  where
    none : refusal_of p (cancel name) ≡ None
    none =
        ap (λ o. in_workflow o cancel_refusal) live
        ∙ ap (λ o. or_else (refuse_if (is_some o) under_way) (refuse_if (w.switched.primary || w.switched.replica || w.switched.rdonly) traffic_switched)) rests
        ∙ ap (λ t. refuse_if (t.primary || t.replica || t.rdonly) traffic_switched) nothing
