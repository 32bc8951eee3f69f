-- The course of an open way, and the owners before and after it.
use Rattle.std.proofs.Common.{◌≡◌, ℕ, ◌<◌, Bool, true, false, not, cond, leb, ltb, List, Some, refl, sym, ap, ◌∙◌, arith, ltb-true}
use Rattle.std.proofs.lemmas.Bool.{and_parts}
use Rattle.std.specs.Option.{option_map_or}
use Rattle.mt_plain.specs.Events.{Way}
use Rattle.mt_plain.specs.Plain.{Live, Plain, behind_last, changes_primary, first_step, live_at, next_step, stands_done, write_journal}
use Rattle.mt_plain.specs.Refuse.{new_owner, old_owner}
use Rattle.mt_laws.specs.Reached.{HandsOver, IsOnCourse}
use Rattle.mt_laws.specs.WayBack.{IsReached}
use Rattle.mt_laws.proofs.InPlaceLemmas.{live_in}
use Rattle.mt_laws.proofs.LiveLemmas.{IsIn}
use Rattle.mt_laws.proofs.OpenWayLemmas.{reached_has_step, reached_shards}
use Rattle.mt_laws.proofs.OwnerLemmas.{reached_journaled}
use Rattle.mt_laws.proofs.PlainWords.{side_by}
use Rattle.mt_laws.proofs.ReachLemmas.{reached_has_parts}
use Rattle.mt_laws.proofs.StreamLemmas.{differ_to, reached_turned}
use Rattle.mt_laws.proofs.WritableLemmas.{owner-if}

module _ (p : Plain) (reached : IsReached p) (name : List ℕ) (w : Live) (live : live_at p name ≡ Some w) (way : Way) (opens : w.way ≡ Some way) where
  is_in : IsIn w p.lives
  is_in = live_in p name w live

  within : next_step way < behind_last way
  within = reached_has_step p reached w is_in way opens

  -- the journal is a step of a way that changes primary
  journals : stands_done way write_journal ≡ true → changes_primary way ≡ true
  journals stands = by (changes_primary way) refl
    where
      by : (t : Bool) → changes_primary way ≡ t → changes_primary way ≡ true
      by true t = t
      by false t =
          let behind = ltb-true write_journal (next_step way) (and_parts (leb (first_step way) write_journal) (ltb write_journal (next_step way)) stands).1 in
          let last : behind_last way ≡ 1 = ap (λ b. cond b 12 1) t in
          let le = within in
          absurd (omega arith)

  pub on_course : IsOnCourse w way
  on_course = record {
    shards = reached_shards p reached w is_in way opens;
    within = within;
    before = (reached_has_parts p reached).settled w is_in way opens;
    after = reached_journaled p reached w is_in way opens;
    journals = journals;
  }

  module _ (changes : changes_primary way ≡ true) where
    turned : way.before.primary ≡ way.back
    turned = reached_turned p reached w is_in way opens changes

    was : old_owner w ≡ side_by w way.before.primary
    was = ap (λ o. side_by w (option_map_or (λ v. v.before) o w.switched).primary) opens

    pub will : new_owner w ≡ side_by w (not way.before.primary)
    will = ap (λ o. cond (option_map_or (λ v. v.before) o w.switched).primary w.source w.target) opens ∙ by way.before.primary
      where
        by : (t : Bool) → cond t w.source w.target ≡ side_by w (not t)
        by true = refl
        by false = refl

    pub hands_over : HandsOver w way
    hands_over = record {
      before = turned;
      old = was ∙ ap (side_by w) turned;
      new = ap (λ o. cond (option_map_or (λ v. v.before) o w.switched).primary w.source w.target) opens ∙ ap (λ b. cond b w.source w.target) turned;
      owned = λ waits. owner-if w way.before.primary (ap (λ s. s.primary) (on_course.before waits)) ∙ sym was;
      handed = λ stands.
          owner-if w (not way.before.primary) (ap (λ s. s.primary) (on_course.after stands) ∙ differ_to way.before.primary way.after.primary changes) ∙ sym will;
    }
