-- What a begin of a way and Complete are answered.
use Rattle.std.proofs.Common.{◌≡◌, inl, inr, ℕ, Bool, true, false, not, List, [], ◌∷◌, Option, None, Some, option_map, is_some, refl, sym, ap, ◌∙◌, subst}
use Rattle.std.proofs.lemmas.Bool.{true≢false}
use Rattle.std.specs.List.{list_all, list_any}
use Rattle.std.specs.Option.{option_map_or}
use Rattle.std.specs.Prelude.{◌&&◌, ◌||◌, nat_le}
use Rattle.mt_model.specs.declared.entries.Scope.{Scope}
use Rattle.mt_names.specs.declared.types.TypeSet.{TypeSet}
use Rattle.mt_plain.specs.Answers.{Answers}
use Rattle.mt_plain.specs.Events.{Answer, Event, begin_reverse, begin_switch, complete, refused, Refusal, no_workflow, under_way, nothing_to_switch, nothing_to_reverse, copying, full, not_all_switched, forward, Slot, Way}
use Rattle.mt_plain.specs.Next.{types_and, types_without}
use Rattle.mt_plain.specs.Plain.{Copied, ended, not_begun, up_to, Lane, Live, Plain, live_at}
use Rattle.mt_plain.specs.Refuse.{at_rest, begin_reverse_refusal, begin_switch_refusal, complete_refusal, copies_still, has_more, in_workflow, is_still_copying, most_ways, or_else, refusal_of, refuse_if, share_type}
use Rattle.mt_plain.specs.Slots.{slot_of}
use Rattle.mt_stream.specs.Streams.{StreamValue, has_ended}
use Rattle.mt_workflow.specs.Workflows.{WorkflowState, live_of}
use Rattle.mt_laws.proofs.AnswerLemmas.{refused_as_decided}
use Rattle.mt_laws.proofs.InPlaceLemmas.{live_in}
use Rattle.mt_laws.proofs.LaneLemmas.{IsNumbered, lane_at_it, reached_numbered}
use Rattle.mt_laws.proofs.LiveLemmas.{IsIn}
use Rattle.mt_stands.specs.Rows.{stream_of}
use Rattle.mt_stands.specs.Base.{workflow_at}
use Rattle.mt_stands.specs.Stands.{StandsFor}
use Rattle.mt_stands.proofs.LaneLemmas.{all_lanes, slot_is}
use Rattle.mt_stands.specs.Switching.{BeginsReverse, BeginsReverseAt, BeginsSwitch, BeginsSwitchAt, Completes, CompletesAt, completed, has_copied_at, is_copying, no_number_left, way_to, with_way}
use Rattle.mt_stands.specs.Ways.{CoreState, CoreStands}
use Rattle.mt_refinement.proofs.ShowLemmas.{forward_there}
use Rattle.mt_refinement.proofs.WaysFoundLemmas.{live_found, no_live}
use Rattle.mt_refinement.proofs.RefusalLemmas.{does_answer}

-- ---- whether rows are still to be copied

not_ended : (c : Copied) → not (has_ended c) ≡ is_still_copying c
not_ended not_begun = refl
not_ended (up_to table key) = refl
not_ended ended = refl

copies : (w : Live) (lane : Lane) (o : Option Slot) → is_some o ≡ true
    → not (option_map_or (λ (s : StreamValue). has_ended s.copied) (option_map (stream_of w lane) o) false) ≡ is_still_copying lane.copied
copies w lane None e = absurd cc
copies w lane (Some s) e = not_ended lane.copied

-- ---- what refuses

-- each lane has copied its rows just where none has rows to copy
none_copies : (test : Lane → Bool) (lanes : List Lane) → ((lane : Lane) → IsIn lane lanes → not (test lane) ≡ is_still_copying lane.copied)
    → not (list_all test lanes) ≡ list_any (λ lane. is_still_copying lane.copied) lanes
none_copies test [] same = refl
none_copies test (lane ∷ lanes) same =
    by (test lane) ∙ ap (λ b. b || not (list_all test lanes)) (same lane (inl refl)) ∙ ap (λ b. is_still_copying lane.copied || b) (none_copies test lanes (λ x is. same x (inr is)))
  where
    by : (b : Bool) → not (b && list_all test lanes) ≡ (not b || not (list_all test lanes))
    by true = refl
    by false = refl

module _ (p : Plain) (live : Live) (w : WorkflowState) (stands : StandsFor p live w) (numbered : IsNumbered live) where
  copying_same : is_copying w ≡ copies_still live
  copying_same =
      ap not (all_lanes p live w stands numbered (has_copied_at w))
      ∙ none_copies (λ lane. has_copied_at w lane.shard) live.lanes (λ lane is_in.
      ap (λ o. not (option_map_or (λ (s : StreamValue). has_ended s.copied) o false)) (slot_is p live w stands numbered lane.shard lane (lane_at_it live numbered lane is_in) forward)
      ∙ copies live lane (slot_of live lane forward) (forward_there live lane live.way))

  switch_same : (types : TypeSet) (begun : ℕ) → begun ≡ p.ways
      → at_rest (live_of w) (or_else (refuse_if (not (has_more types w.switched)) nothing_to_switch) (or_else (refuse_if (is_copying w) copying) (refuse_if (nat_le most_ways begun) full)))
      ≡ begin_switch_refusal p types live
  switch_same types begun same = by w.way stands.way w.switched stands.switched (is_copying w) copying_same begun same
    where
      by : (way : Option Way) → way ≡ live.way → (switched : TypeSet) → switched ≡ live.switched → (still : Bool) → still ≡ copies_still live → (n : ℕ) → n ≡ p.ways
          → or_else (refuse_if (is_some way) under_way) (or_else (refuse_if (not (has_more types switched)) nothing_to_switch) (or_else (refuse_if still copying) (refuse_if (nat_le most_ways n) full)))
          ≡ begin_switch_refusal p types live
      by way a switched b still c n d = rw (a, b, c, d) refl

  reverse_same : (types : TypeSet) (begun : ℕ) → begun ≡ p.ways
      → at_rest (live_of w) (or_else (refuse_if (not (share_type types w.switched)) nothing_to_reverse) (refuse_if (nat_le most_ways begun) full)) ≡ begin_reverse_refusal p types live
  reverse_same types begun same = by w.way stands.way w.switched stands.switched begun same
    where
      by : (way : Option Way) → way ≡ live.way → (switched : TypeSet) → switched ≡ live.switched → (n : ℕ) → n ≡ p.ways
          → or_else (refuse_if (is_some way) under_way) (or_else (refuse_if (not (share_type types switched)) nothing_to_reverse) (refuse_if (nat_le most_ways n) full)) ≡ begin_reverse_refusal p types live
      by way a switched b n c = rw (a, b, c) refl

  complete_same : complete_refusal (live_of w) ≡ complete_refusal live
  complete_same = by w.way stands.way w.switched stands.switched
    where
      by : (way : Option Way) → way ≡ live.way → (types : TypeSet) → types ≡ live.switched
          → or_else (refuse_if (is_some way) under_way) (refuse_if (not (types.primary && types.replica && types.rdonly)) not_all_switched) ≡ complete_refusal live
      by way a types b = rw (a, b) refl

-- ---- what is answered

module _ (p : Plain) (scopes : List Scope) (old new : CoreState) (stands : CoreStands p scopes old) (workflow : List ℕ) where
  numbered : (live : Live) → live_at p workflow ≡ Some live → IsNumbered live
  numbered live is_live = reached_numbered p stands.base.reached live (live_in p workflow live is_live)

  -- where no workflow is found, none is live
  unnamed : (event : Event) (test : Live → Option Refusal) → refusal_of p event ≡ in_workflow (live_at p workflow) test → (answer : Answer) → answer ≡ refused no_workflow
      → workflow_at old.base.workflows workflow ≡ None → Answers p event answer
  unnamed event test same answer is none =
      subst (Answers p event) (sym is)
      (refused_as_decided p event no_workflow
      (same ∙ ap (λ o. in_workflow o test) (no_live p (live_at p workflow) (workflow_at old.base.workflows workflow) none (stands.base.workflows.each workflow))))

  pub switch_answers : (types : TypeSet) (answer : Answer) → BeginsSwitch old workflow types answer new → Answers p (begin_switch workflow types) answer
  switch_answers types answer = by (workflow_at old.base.workflows workflow) refl
    where
      by : (o : Option WorkflowState) → workflow_at old.base.workflows workflow ≡ o → BeginsSwitchAt o old types answer new → Answers p (begin_switch workflow types) answer
      by None none is = unnamed (begin_switch workflow types) (begin_switch_refusal p types) refl answer is.0 none
      by (Some w) found is =
          let r = live_found p (live_at p workflow) (workflow_at old.base.workflows workflow) w found (stands.base.workflows.each workflow) in
          does_answer p (begin_switch workflow types) old (with_way old w (way_to w false (types_and w.switched types))) new
          (at_rest (live_of w) (or_else (refuse_if (not (has_more types w.switched)) nothing_to_switch) (or_else (refuse_if (is_copying w) copying) (no_number_left old))))
          (ap (λ o. in_workflow o (begin_switch_refusal p types)) r.1 ∙ sym (switch_same p r.0 w r.2 (numbered r.0 r.1) types old.ways.begun stands.ways.begun)) refl true (λ h. refl) answer is

  pub reverse_answers : (types : TypeSet) (answer : Answer) → BeginsReverse old workflow types answer new → Answers p (begin_reverse workflow types) answer
  reverse_answers types answer = by (workflow_at old.base.workflows workflow) refl
    where
      by : (o : Option WorkflowState) → workflow_at old.base.workflows workflow ≡ o → BeginsReverseAt o old types answer new → Answers p (begin_reverse workflow types) answer
      by None none is = unnamed (begin_reverse workflow types) (begin_reverse_refusal p types) refl answer is.0 none
      by (Some w) found is =
          let r = live_found p (live_at p workflow) (workflow_at old.base.workflows workflow) w found (stands.base.workflows.each workflow) in
          does_answer p (begin_reverse workflow types) old (with_way old w (way_to w true (types_without w.switched types))) new
          (at_rest (live_of w) (or_else (refuse_if (not (share_type types w.switched)) nothing_to_reverse) (no_number_left old)))
          (ap (λ o. in_workflow o (begin_reverse_refusal p types)) r.1 ∙ sym (reverse_same p r.0 w r.2 (numbered r.0 r.1) types old.ways.begun stands.ways.begun)) refl true (λ h. refl) answer is

  pub complete_answers : (answer : Answer) → Completes old workflow answer new → Answers p (complete workflow) answer
  complete_answers answer = by (workflow_at old.base.workflows workflow) refl
    where
      by : (o : Option WorkflowState) → workflow_at old.base.workflows workflow ≡ o → CompletesAt o old answer new → Answers p (complete workflow) answer
      by None none is = unnamed (complete workflow) complete_refusal refl answer is.0 none
      by (Some w) found is =
          let r = live_found p (live_at p workflow) (workflow_at old.base.workflows workflow) w found (stands.base.workflows.each workflow) in
          does_answer p (complete workflow) old (record old { base = completed old.base w }) new (complete_refusal (live_of w))
          (ap (λ o. in_workflow o complete_refusal) r.1 ∙ sym (complete_same p r.0 w r.2 (numbered r.0 r.1))) refl false (λ h. absurd (true≢false (sym h))) answer is
