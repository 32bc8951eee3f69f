-- Only an advance of a lane's own stream raises how much was fed to it.
use Rattle.std.proofs.Common.{◌≡◌, ℕ, ◌<◌, Bool, true, false, cond, eqb, List, Option, None, Some, option_map, refl, sym, ap, ◌∙◌, subst, arith, eqb-true}
use Rattle.std.proofs.lemmas.Bool.{true≢false}
use Rattle.mt_names.specs.Names.{same_text}
use Rattle.mt_names.proofs.SameLemmas.{same_text_decides}
use Rattle.mt_plain.specs.Answers.{Answers}
use Rattle.mt_plain.specs.Events.{Event, advance, StreamName, Answer, done, row, advanced, shown, refused}
use Rattle.mt_plain.specs.Next.{lane_stepped, next}
use Rattle.mt_plain.specs.Plain.{Lane, Live, Plain, lane_at, live_at}
use Rattle.mt_plain.specs.Refuse.{advance_at, advance_refusal, in_lane_at, refusal_of}
use Rattle.mt_plain.specs.Slots.{lane_advanced, live_advanced, running_at, slot_of}
use Rattle.mt_laws.specs.Advances.{advanced_live}
use Rattle.mt_laws.specs.Changes.{IsAdvance}
use Rattle.mt_laws.specs.Copies.{Feeds}
use Rattle.mt_laws.specs.WayBack.{IsReached}
use Rattle.mt_laws.proofs.AdvanceLemmas.{after_advance}
use Rattle.mt_laws.proofs.CopyLemmas.{advance_runs, fed-stepped}
use Rattle.mt_laws.proofs.ChangeLemmas.{live_after, lives_after}
use Rattle.mt_laws.proofs.KeepLemmas.{next_has}
use Rattle.mt_laws.proofs.ReachLemmas.{live_by_name, reached_has_parts}
use Rattle.mt_laws.proofs.LaneLemmas.{EachLane, IsNumbered, KeepsLane, in_map, lane_at_it, lane_found, lanes_kept, reached_numbered, shard-advanced, shard-stepped}
use Rattle.mt_laws.proofs.LiveLemmas.{IsIn, find_some}
use Rattle.mt_laws.proofs.RefusalLemmas.{in_workflow-none}
use Rattle.mt_laws.proofs.StreamLemmas.{runs_at_the_owner}
use Rattle.mt_laws.proofs.UntouchedLemmas.{same_workflow}

-- the lane that an advance is taken of
taken_lane : (p : Plain) (w : Live) (stream : StreamName) (shard at at_most : ℕ) (o : Option Lane) → lane_at w shard ≡ o → in_lane_at o (λ lane. advance_at p w lane stream at at_most (running_at (slot_of w lane stream))) ≡ None
    → (lane : Lane) × (lane_at w shard ≡ Some lane) × (advance_at p w lane stream at at_most (running_at (slot_of w lane stream)) ≡ None)
taken_lane p w stream shard at at_most None e none = absurd cc
taken_lane p w stream shard at at_most (Some lane) e none = (lane, e, none)

module _ (p : Plain) (reached : IsReached p) (name : List ℕ) (w v : Live) (before : live_at p name ≡ Some w) (own : ℕ) (lane later : Lane) (found : lane_at w own ≡ Some lane) (there : lane_at v own ≡ Some later) (more : lane.fed < later.fed) where
  in_it : IsIn w p.lives
  in_it = (find_some (λ x. same_text x.name name) p.lives w before).0

  named : w.name ≡ name
  named = (same_text_decides w.name name).0 (find_some (λ x. same_text x.name name) p.lives w before).1

  -- the lanes are not all as they were
  changed : {X : Type 0} → v.lanes ≡ w.lanes → X
  changed same =
      let e : Some later ≡ Some lane = sym there ∙ ap (λ lanes. lane_at (record w { lanes = lanes }) own) same ∙ found in
      let one : later ≡ lane = cc in
      let fed = ap (λ l. l.fed) one in
      absurd (omega arith)

  -- nor is this one beside the one that is advanced
  its_own : (stream : StreamName) (shard at at_most events rows : ℕ) → v ≡ live_advanced p w stream shard at at_most events rows → shard ≡ lane.shard
  its_own stream shard at at_most events rows is =
      let numbered = reached_numbered p reached w in_it in
      let f = λ (l : Lane). cond (eqb l.shard shard) (lane_advanced p w l stream at at_most events rows) l in
      let r = in_map f w.lanes later (subst (λ x. IsIn later x.lanes) is (lane_found v own later there).0) in
      by r.0 r.1 (eqb r.0.shard shard) refl r.2 numbered
    where
      by : (x : Lane) → IsIn x w.lanes → (t : Bool) → eqb x.shard shard ≡ t → cond (eqb x.shard shard) (lane_advanced p w x stream at at_most events rows) x ≡ later → IsNumbered w → shard ≡ lane.shard
      by x is_in true t e numbered =
          let same : lane_advanced p w x stream at at_most events rows ≡ later = sym (ap (λ b. cond b (lane_advanced p w x stream at at_most events rows) x) t) ∙ e in
          let a = ap (λ l. l.shard) same in
          let b = shard-advanced p w x stream at at_most events rows in
          let c = (lane_found v own later there).1 in
          let d = (lane_found w own lane found).1 in
          let g = eqb-true x.shard shard t in
          omega arith
      by x is_in false t e numbered =
          let same : x ≡ later = sym (ap (λ b. cond b (lane_advanced p w x stream at at_most events rows) x) t) ∙ e in
          let c : x.shard ≡ own = ap (λ l. l.shard) same ∙ (lane_found v own later there).1 in
          let d : Some x ≡ Some lane = sym (lane_at_it w numbered x is_in) ∙ ap (lane_at w) c ∙ found in
          let one : x ≡ lane = cc in
          let fed = ap (λ l. l.fed) one in
          let fed_later = ap (λ l. l.fed) same in
          absurd (omega arith)

  advanced_feeds : (workflow : List ℕ) (stream : StreamName) (shard at at_most events rows : ℕ) → refusal_of p (advance workflow stream shard at at_most) ≡ None
      → live_at (next p (advance workflow stream shard at at_most) (advanced events rows)) name ≡ Some v → Feeds w lane (advance workflow stream shard at at_most)
  advanced_feeds workflow stream shard at at_most events rows none now = by (same_text workflow name) refl
    where
      by : (t : Bool) → same_text workflow name ≡ t → Feeds w lane (advance workflow stream shard at at_most)
      by false t =
          let e : Some v ≡ Some w = sym now ∙ same_workflow p (advance workflow stream shard at at_most) (advanced events rows) name (λ of. true≢false (sym ((same_text_decides workflow name).1 of) ∙ t)) ∙ before in
          let one : v ≡ w = cc in
          changed (ap (λ x. x.lanes) one)
      by true t =
          let is : workflow ≡ name = (same_text_decides workflow name).0 t in
          let r = in_workflow-none (live_at p workflow) (advance_refusal p stream shard at at_most) none in
          let e : Some r.0 ≡ Some w = sym r.1 ∙ ap (live_at p) is ∙ before in
          let one : r.0 ≡ w = cc in
          let here : live_at p workflow ≡ Some w = ap (live_at p) is ∙ before in
          let taken = taken_lane p w stream shard at at_most (lane_at w shard) refl (subst (λ x. advance_refusal p stream shard at at_most x ≡ None) one r.2) in
          let after_it = (after_advance p workflow w here taken.0 stream shard at at_most events rows taken.1).live name in
          let f : Some v ≡ Some (advanced_live p workflow stream shard at at_most events rows w) = sym now ∙ after_it ∙ ap (option_map (advanced_live p workflow stream shard at at_most events rows)) before in
          let g : v ≡ advanced_live p workflow stream shard at at_most events rows w = cc in
          let own_name : same_text w.name workflow ≡ true = (same_text_decides w.name workflow).1 (named ∙ sym is) in
          let h : v ≡ live_advanced p w stream shard at at_most events rows = g ∙ ap (λ b. cond b (live_advanced p w stream shard at at_most events rows) w) own_name in
          let runs = advance_runs p w taken.0 stream at at_most (running_at (slot_of w taken.0 stream)) taken.2 in
          (is ∙ sym named, its_own stream shard at at_most events rows h, runs_at_the_owner p reached workflow w here taken.0 stream at runs)

  -- as far as another event goes, each lane is fed as it was
  abbrev KeepsFed : Live → Lane → Type 0
  KeepsFed x y = (l : Lane) → lane_at w y.shard ≡ Some l → y.fed ≡ l.fed

  kept : (event : Event) → ¬ (IsAdvance event) → (l : Lane) → IsIn l w.lanes → KeepsLane KeepsFed p event w l
  kept event other l is = record {
    same = fed_as l refl refl;
    switch = λ types begins none. fed_as l refl refl;
    reverse = λ types begins none. fed_as l refl refl;
    steps = λ at way steps opens none. fed_as (lane_stepped p w way l) (shard-stepped p w way l) (fed-stepped p w way l);
    undoes = λ at way undoes opens none. fed_as l refl refl;
    advances = λ adv workflow stream shard at at_most events rows live here none given. absurd (other adv);
    beside = λ adv workflow stream shard at at_most events rows live other_lane none. absurd (other adv);
  }
    where
      fed_as : (y : Lane) → y.shard ≡ l.shard → y.fed ≡ l.fed → KeepsFed w y
      fed_as y shard fed x e =
          let same : Some x ≡ Some l = sym e ∙ ap (lane_at w) shard ∙ lane_at_it w (reached_numbered p reached w in_it) l is in
          let one : x ≡ l = cc in
          fed ∙ sym (ap (λ z. z.fed) one)

  other_event : (event : Event) (answer : Answer) → ¬ (IsAdvance event) → Answers p event answer → live_at (next p event answer) name ≡ Some v → Feeds w lane event
  other_event event answer other given now =
      let is = live_after p (next p event answer) event answer (lives_after p event answer) name w v before now in
      let each = next_has (EachLane KeepsFed) p w (live_by_name p (reached_has_parts p reached).apart w in_it) event answer
      (lanes_kept KeepsFed p event w (reached_numbered p reached w in_it) (λ x i. kept event other x i)) given in
      let r = lane_found v own later there in
      let e = subst (λ x. EachLane KeepsFed x) (sym is) each later r.0 lane (ap (lane_at w) r.1 ∙ found) in
      absurd (omega arith)

  pub raised_by_its_stream : (event : Event) (answer : Answer) → Answers p event answer → live_at (next p event answer) name ≡ Some v → Feeds w lane event
  raised_by_its_stream (advance workflow stream shard at at_most) (advanced events rows) given now = advanced_feeds workflow stream shard at at_most events rows given.0 now
  raised_by_its_stream (advance workflow stream shard at at_most) (refused refusal) given now = let e : Some v ≡ Some w = sym now ∙ before in let one : v ≡ w = cc in changed (ap (λ x. x.lanes) one)
  raised_by_its_stream (advance workflow stream shard at at_most) done given now = let e : Some v ≡ Some w = sym now ∙ before in let one : v ≡ w = cc in changed (ap (λ x. x.lanes) one)
  raised_by_its_stream (advance workflow stream shard at at_most) (row r) given now = let e : Some v ≡ Some w = sym now ∙ before in let one : v ≡ w = cc in changed (ap (λ x. x.lanes) one)
  raised_by_its_stream (advance workflow stream shard at at_most) (shown s) given now = let e : Some v ≡ Some w = sym now ∙ before in let one : v ≡ w = cc in changed (ap (λ x. x.lanes) one)
  raised_by_its_stream event answer given now = other_event event answer (λ h. h) given now
