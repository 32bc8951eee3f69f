-- What an event leaves of a live workflow's part, and what Cancel gives back.
use Rattle.std.proofs.Common.{◌≡◌, ◌⊎◌, inl, inr, ℕ, Bool, true, false, not, cond, List, [], ◌∷◌, find, None, Some, option_map, refl, sym, ap, ◌∙◌, subst}
use Rattle.std.proofs.lemmas.Bool.{true≢false}
use Rattle.std.specs.Option.{option_map_or}
use Rattle.mt_names.specs.Names.{same_text}
use Rattle.mt_names.proofs.SameLemmas.{same_text_decides}
use Rattle.mt_model.specs.declared.entries.EntryKey.{EntryKey}
use Rattle.mt_model.specs.declared.entries.EntryKey.TheVariants as about
use Rattle.mt_model.specs.Topology.{value_of}
use Rattle.mt_model.proofs.PartLemmas.{table_of}
use Rattle.mt_plain.specs.Answers.{Answers, Run, after}
use Rattle.mt_plain.specs.Events.{Event, create, cancel, complete, Answer, done, row, advanced, shown, refused}
use Rattle.mt_plain.specs.Next.{next}
use Rattle.mt_plain.specs.Plain.{Live, Plain, each_once, has_part, live_at, moves, part_owner}
use Rattle.mt_plain.specs.Refuse.{cancel_refusal}
use Rattle.mt_plain.specs.Serve.{served_by, served_entry}
use Rattle.mt_laws.specs.Changes.{HasSides}
use Rattle.mt_laws.specs.WayBack.{IsReached, SinceCreate, StaysLive, ends_workflow, in_part}
use Rattle.mt_laws.proofs.ChangeLemmas.{LivesAfter, ended, live_after, live_next, lives_after, made, made_live, mapped, sides-next}
use Rattle.mt_laws.proofs.LiveLemmas.{IsIn, find-filter_gone, find-filter_kept, find-map, find-push_none, find-push_some, find_nowhere, find_some, find_none, find_the_one, sides_joined, sides_same, unique}
use Rattle.mt_laws.proofs.PartLemmas.{HasParts, kept_from_part, moved_from_part, value-kept}
use Rattle.mt_laws.proofs.ReachLemmas.{IsNew, create-none, live_by_name, moved_new, next_has_parts, reached_has_parts, run_has_parts}
use Rattle.mt_laws.proofs.RefusalLemmas.{in_workflow-none}
use Rattle.mt_laws.proofs.WayLemmas.{WayChange, way_change}

-- ---- a part, by sides and tables

pub has_part-same : (v w : Live) → HasSides v w → (key : EntryKey) → has_part v key ≡ has_part w key
has_part-same v w same (about.Rule key) = rw (same.source, same.target, same.tables) refl
has_part-same v w same (about.Denied keyspace table) = rw (same.source, same.target, same.tables) refl
has_part-same v w same (about.Present keyspace table) = rw (same.target, same.tables) refl

-- ---- one event that does not end a workflow

-- Cancel and Complete end it where they are taken
ends_or_same-cancel : (p : Plain) (gone : List ℕ) (answer : Answer) → Answers p (cancel gone) answer → (ends_workflow gone (cancel gone) answer ≡ true) ⊎ (next p (cancel gone) answer ≡ p)
ends_or_same-cancel p gone done given = inl ((same_text_decides gone gone).1 refl)
ends_or_same-cancel p gone (row r) given = let h : row r ≡ done = given.1 in absurd cc
ends_or_same-cancel p gone (shown s) given = inr refl
ends_or_same-cancel p gone (advanced events rows) given = inr refl
ends_or_same-cancel p gone (refused refusal) given = inr refl

ends_or_same-complete : (p : Plain) (gone : List ℕ) (answer : Answer) → Answers p (complete gone) answer → (ends_workflow gone (complete gone) answer ≡ true) ⊎ (next p (complete gone) answer ≡ p)
ends_or_same-complete p gone done given = inl ((same_text_decides gone gone).1 refl)
ends_or_same-complete p gone (row r) given = let h : row r ≡ done = given.1 in absurd cc
ends_or_same-complete p gone (shown s) given = inr refl
ends_or_same-complete p gone (advanced events rows) given = inr refl
ends_or_same-complete p gone (refused refusal) given = inr refl

ends_or_same : (p : Plain) (event : Event) (answer : Answer) (gone : List ℕ) → (event ≡ cancel gone) ⊎ (event ≡ complete gone) → Answers p event answer → (ends_workflow gone event answer ≡ true) ⊎ (next p event answer ≡ p)
ends_or_same p event answer gone (inl e) given =
    subst (λ x. (ends_workflow gone x answer ≡ true) ⊎ (next p x answer ≡ p)) (sym e) (ends_or_same-cancel p gone answer (subst (λ x. Answers p x answer) e given))
ends_or_same p event answer gone (inr e) given =
    subst (λ x. (ends_workflow gone x answer ≡ true) ⊎ (next p x answer ≡ p)) (sym e) (ends_or_same-complete p gone answer (subst (λ x. Answers p x answer) e given))

stays_live : (p : Plain) (event : Event) (answer : Answer) (name : List ℕ) (w : Live) → live_at p name ≡ Some w → Answers p event answer → ends_workflow name event answer ≡ false
    → LivesAfter p (next p event answer) event answer → (v : Live) × (live_at (next p event answer) name ≡ Some v)
stays_live p event answer name w live given lives (mapped is) = (
  live_next p event answer w,
  ap (find (λ x. same_text x.name name)) is
      ∙ find-map (λ x. same_text x.name name) (live_next p event answer) p.lives (λ x. ap (λ n. same_text n name) (sym (sides-next p event answer x).name))
      ∙ ap (option_map (live_next p event answer)) live,
)
stays_live p event answer name w live given lives (made new source target tables e is same) =
    (w, ap (find (λ x. same_text x.name name)) is ∙ find-push_some (λ x. same_text x.name name) p.lives (made_live p new source target (each_once tables)) w live)
stays_live p event answer name w live given lives (ended gone e is same) = by (same_text name gone) refl
  where
    Stays : Type 0
    Stays = (v : Live) × (live_at (next p event answer) name ≡ Some v)

    by_end : name ≡ gone → (ends_workflow gone event answer ≡ true) ⊎ (next p event answer ≡ p) → (v : Live) × (live_at (next p event answer) name ≡ Some v)
    by_end f (inl ends) = absurd (true≢false (sym ends ∙ ap (λ n. ends_workflow n event answer) (sym f) ∙ lives))
    by_end f (inr unchanged) = (w, ap (λ q. live_at q name) unchanged ∙ live)

    by : (t : Bool) → same_text name gone ≡ t → (v : Live) × (live_at (next p event answer) name ≡ Some v)
    by true t = by_end ((same_text_decides name gone).0 t) (ends_or_same p event answer gone e given)
    by false t = (
      w,
      ap (find (λ x. same_text x.name name)) is
          ∙ find-filter_kept (λ x. same_text x.name name) (λ x. not (same_text x.name gone)) p.lives
          (λ x i f. ap not (ap (λ n. same_text n gone) ((same_text_decides x.name name).0 f) ∙ t))
          ∙ live,
    )

-- what an event leaves of it
pub record OneEvent (p q : Plain) (event : Event) (name : List ℕ) (w : Live) : Type 0 where
  pub later : Live
  pub live : live_at q name ≡ Some later
  pub sides : HasSides w later
  pub change : WayChange event w later
  pub values : (key : EntryKey) → has_part w key ≡ true → value_of q.topology key ≡ value_of p.topology key

pub one_event : (p : Plain) (event : Event) (answer : Answer) (name : List ℕ) (w : Live) → HasParts p → live_at p name ≡ Some w → Answers p event answer → ends_workflow name event answer ≡ false → OneEvent p (next p event answer) event name w
one_event p event answer name w has live given lives =
    let stays = stays_live p event answer name w live given lives (lives_after p event answer) in
    let found = find_some (λ x. same_text x.name name) p.lives w live in
    let is_next = live_after p (next p event answer) event answer (lives_after p event answer) name w stays.0 live stays.1 in
    record {
      later = stays.0;
      live = stays.1;
      sides = subst (HasSides w) (sym is_next) (sides-next p event answer w);
      change = subst (WayChange event w) (sym is_next) (way_change p event answer w (live_by_name p has.apart w found.0) given);
      values = λ key part. value-kept p w has found.0 key (kept_from_part w key part) event answer given
          (ap (λ n. ends_workflow n event answer) ((same_text_decides w.name name).0 found.1) ∙ lives);
    }

-- ---- a run that does not end it

pub record Lasts (p q : Plain) (name : List ℕ) (w : Live) : Type 0 where
  pub later : Live
  pub live : live_at q name ≡ Some later
  pub sides : HasSides w later
  pub values : (key : EntryKey) → has_part w key ≡ true → value_of q.topology key ≡ value_of p.topology key

lasts_on : (p q r : Plain) (name : List ℕ) (w : Live) (event : Event) (one : OneEvent p q event name w) → Lasts q r name one.later → Lasts p r name w
lasts_on p q r name w event one rest = record {
  later = rest.later;
  live = rest.live;
  sides = sides_joined w one.later rest.later one.sides rest.sides;
  values = λ key part. rest.values key (sym (has_part-same w one.later one.sides key) ∙ part) ∙ one.values key part;
}

lasts_run : (events : List Event) (answers : List Answer) (p : Plain) (name : List ℕ) (w : Live) → HasParts p → live_at p name ≡ Some w → Run p events answers → StaysLive name events answers → Lasts p (after p events answers) name w
lasts_run [] answers p name w has live run stays = record { later = w; live = live; sides = sides_same w; values = λ key part. refl }
lasts_run (event ∷ events) [] p name w has live run stays = record { later = w; live = live; sides = sides_same w; values = λ key part. refl }
lasts_run (event ∷ events) (answer ∷ answers) p name w has live run stays =
    let one = one_event p event answer name w has live run.0 stays.0 in
    lasts_on p (next p event answer) (after (next p event answer) events answers) name w event one
    (lasts_run events answers (next p event answer) name one.later (next_has_parts p event answer has run.0) one.live run.1 stays.1)

-- ---- the owner of an entry

pub in_part-of : (p : Plain) (name : List ℕ) (w : Live) (key : EntryKey) → live_at p name ≡ Some w → in_part p name key ≡ has_part w key
in_part-of p name w key live = ap (λ o. option_map_or (λ v. has_part v key) o false) live

one_owner : (p : Plain) (v w : Live) (key : EntryKey) → HasParts p → IsIn v p.lives → IsIn w p.lives → has_part v key ≡ true → has_part w key ≡ true → v ≡ w
one_owner p v w key has in_v in_w a b =
    unique p.lives v w has.apart in_v in_w (λ apart. apart.tables (table_of key) (moved_from_part v key a) (moved_from_part w key b))

pub owner_of_part : (p : Plain) (name : List ℕ) (w : Live) (key : EntryKey) → HasParts p → live_at p name ≡ Some w → has_part w key ≡ true → part_owner p key ≡ Some w
owner_of_part p name w key has live part =
    let found = find_some (λ x. same_text x.name name) p.lives w live in
    find_the_one (λ v. has_part v key) p.lives w has.apart
    (λ v a apart. apart.tables (table_of key) (moved_from_part v key a) (moved_from_part w key part)) found.0 part

-- ---- Cancel

module _ (p : Plain) (name : List ℕ) (w : Live) (key : EntryKey) (has : HasParts p) (live : live_at p name ≡ Some w) where
  abbrev keeps : Live → Bool
  keeps x = not (same_text x.name name)

  in_w : IsIn w p.lives × (same_text w.name name ≡ true)
  in_w = find_some (λ x. same_text x.name name) p.lives w live

  gone_owner : has_part w key ≡ true → part_owner (next p (cancel name) done) key ≡ None
  gone_owner part =
      find-filter_gone (λ x. has_part x key) keeps p.lives
      (λ x i a. ap not (ap (λ y. same_text y.name name) (one_owner p x w key has i in_w.0 a part) ∙ in_w.1))

  other_owner : has_part w key ≡ false → part_owner (next p (cancel name) done) key ≡ part_owner p key
  other_owner part =
      find-filter_kept (λ x. has_part x key) keeps p.lives (λ x i a. by x i a (same_text x.name name) refl)
    where
      by : (x : Live) → IsIn x p.lives → has_part x key ≡ true → (t : Bool) → same_text x.name name ≡ t → keeps x ≡ true
      by x i a false t = ap not t
      by x i a true t =
          let here : Some x ≡ Some w = sym (live_by_name p has.apart x i name t) ∙ live in
          let one : x ≡ w = cc in
          absurd (true≢false (sym a ∙ ap (λ v. has_part v key) one ∙ part))

  pub cancelled : has_part w key ≡ true → served_entry (next p (cancel name) done) key ≡ value_of p.topology key
  cancelled part = ap (λ o. option_map_or (λ v. served_by p.topology v key) o (value_of p.topology key)) (gone_owner part)

  pub not_cancelled : has_part w key ≡ false → served_entry (next p (cancel name) done) key ≡ served_entry p key
  not_cancelled part = ap (λ o. option_map_or (λ v. served_by p.topology v key) o (value_of p.topology key)) (other_owner part)

-- a Cancel that is taken is of a live workflow, and changes no entry outside of its part
pub cancel_touches_no_other : (p : Plain) → IsReached p → (name : List ℕ) → Answers p (cancel name) done → (key : EntryKey) → in_part p name key ≡ false → served_entry (next p (cancel name) done) key ≡ served_entry p key
cancel_touches_no_other p reached name taken key other =
    let r = in_workflow-none (live_at p name) cancel_refusal taken.0 in
    not_cancelled p name r.0 key (reached_has_parts p reached) r.1 (sym (in_part-of p name r.0 key r.1) ∙ other)

-- before Create no live workflow has an entry of the part
unowned : (p : Plain) (name source target : List ℕ) (tables : List (List ℕ)) (key : EntryKey) → IsNew p name source target tables → has_part (made_live p name source target tables) key ≡ true → part_owner p key ≡ None
unowned p name source target tables key new part = find_nowhere (λ x. has_part x key) p.lives (λ x is. by x is (has_part x key) refl)
  where
    moved : IsIn (table_of key) tables
    moved = moved_new p name source target tables new (made_live p name source target tables) refl refl refl refl (table_of key) (moved_from_part (made_live p name source target tables) key part)

    by : (x : Live) → IsIn x p.lives → (t : Bool) → has_part x key ≡ t → has_part x key ≡ false
    by x is true t = absurd (true≢false (sym (moved_from_part x key t) ∙ find_none (λ v. moves v (table_of key)) p.lives (new.each (table_of key) moved).1 x is))
    by x is false t = t

module _ (p : Plain) (reached : IsReached p) (name source target : List ℕ) (tables : List (List ℕ)) (created : Answers p (create name source target tables) done)
    (events : List Event) (answers : List Answer) (run : Run (next p (create name source target tables) done) events answers) (stays : StaysLive name events answers) where
  has : HasParts p
  has = reached_has_parts p reached

  new : IsNew p name source target (each_once tables)
  new = create-none p name source target tables created.0

  abbrev w : Live
  w = made_live p name source target (each_once tables)

  abbrev begins : Plain
  begins = next p (create name source target tables) done

  live : live_at begins name ≡ Some w
  live =
      find-push_none (λ x. same_text x.name name) p.lives w new.unnamed
      ∙ ap (λ t. cond t (Some w) None) ((same_text_decides name name).1 refl)

  begins_has : HasParts begins
  begins_has = next_has_parts p (create name source target tables) done has created

  lasts : Lasts begins (after begins events answers) name w
  lasts = lasts_run events answers begins name w begins_has live run stays

  before_has : HasParts (after begins events answers)
  before_has = run_has_parts events answers begins run begins_has

  pub cancel_gives_back : (key : EntryKey) → in_part (after begins events answers) name key ≡ true → served_entry (next (after begins events answers) (cancel name) done) key ≡ served_entry p key
  cancel_gives_back key part =
      let mine : has_part lasts.later key ≡ true = sym (in_part-of (after begins events answers) name lasts.later key lasts.live) ∙ part in
      let first : has_part w key ≡ true = has_part-same w lasts.later lasts.sides key ∙ mine in
      cancelled (after begins events answers) name lasts.later key before_has lasts.live mine
      ∙ lasts.values key first
      ∙ sym (ap (λ o. option_map_or (λ v. served_by p.topology v key) o (value_of p.topology key)) (unowned p name source target (each_once tables) key new first))

  pub cancel_leaves_others : (key : EntryKey) → in_part (after begins events answers) name key ≡ false → served_entry (next (after begins events answers) (cancel name) done) key ≡ served_entry (after begins events answers) key
  cancel_leaves_others key other =
      not_cancelled (after begins events answers) name lasts.later key before_has lasts.live (sym (in_part-of (after begins events answers) name lasts.later key lasts.live) ∙ other)

pub cancel_back : (name source target : List ℕ) (tables : List (List ℕ)) (p q : Plain) → IsReached p → SinceCreate name source target tables p q → Answers q (cancel name) done → (key : EntryKey) → in_part q name key ≡ true → served_entry (next q (cancel name) done) key ≡ served_entry p key
cancel_back name source target tables p q reached since taken key =
    subst (λ r. in_part r name key ≡ true → served_entry (next r (cancel name) done) key ≡ served_entry p key) since.is
    (cancel_gives_back p reached name source target tables since.created since.events since.answers since.run since.live key)

pub cancel_others : (name source target : List ℕ) (tables : List (List ℕ)) (p q : Plain) → IsReached p → SinceCreate name source target tables p q → Answers q (cancel name) done → (key : EntryKey) → in_part q name key ≡ false → served_entry (next q (cancel name) done) key ≡ served_entry q key
cancel_others name source target tables p q reached since taken key =
    subst (λ r. in_part r name key ≡ false → served_entry (next r (cancel name) done) key ≡ served_entry r key) since.is
    (cancel_leaves_others p reached name source target tables since.created since.events since.answers since.run since.live key)

-- the part is that of the sides and tables that Create was asked for
pub cancel_sides : (name source target : List ℕ) (tables : List (List ℕ)) (p q : Plain) → IsReached p → SinceCreate name source target tables p q → (w : Live) → live_at q name ≡ Some w → (w.source ≡ source) × (w.target ≡ target) × (w.tables ≡ each_once tables)
cancel_sides name source target tables p q reached since w now =
    let l = lasts p reached name source target tables since.created since.events since.answers since.run since.live in
    let found : Some w ≡ Some l.later = sym now ∙ ap (λ r. live_at r name) (sym since.is) ∙ l.live in
    let one : w ≡ l.later = cc in
    (ap (λ x. x.source) one ∙ sym l.sides.source, ap (λ x. x.target) one ∙ sym l.sides.target, ap (λ x. x.tables) one ∙ sym l.sides.tables)
