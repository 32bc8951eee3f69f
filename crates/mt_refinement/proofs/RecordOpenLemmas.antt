-- What is kept of the open ways, where that of one workflow changes.
use Rattle.std.proofs.Common.{◌≡◌, ◌≢◌, ◌⊎◌, inl, inr, ℕ, suc, ◌<◌, ◌≤◌, Bool, false, eqb, length, List, [], ◌∷◌, ◌++◌, Option, None, Some, option_map, is_some, refl, sym, ap, ◌∙◌, subst, ⊎_elim, arith, eqb-true}
use Rattle.std.proofs.lemmas.Bool.{false_from_ne_true}
use Rattle.std.specs.List.{AllByRecursion, IsDistinct}
use Rattle.std.specs.Map.{keys_of, lookup, set_value}
use Rattle.std.specs.Option.{option_map_or}
use Rattle.mt_names.specs.Names.{same_text}
use Rattle.mt_names.proofs.EntryLemmas.{IsDistinct-push, IsDistinct-remove_entry, IsDistinct-set_value, lookup-push_elsewhere, lookup-push_here, lookup-remove_entry_elsewhere, lookup-remove_entry_here, lookup-set_value_elsewhere, lookup-set_value_here, none_from, same_or_other}
use Rattle.mt_names.proofs.SameLemmas.{same_text_decides}
use Rattle.mt_journal.specs.declared.entry.JournalEntry.{JournalEntry}
use Rattle.mt_journal.specs.Journal.{entry_of}
use Rattle.mt_laws.proofs.LiveLemmas.{find-push_other}
use Rattle.mt_plain.specs.Events.{Way}
use Rattle.mt_plain.specs.Plain.{Live, Plain, live_at}
use Rattle.mt_stands.specs.Base.{BaseState, Workflows, workflow_at}
use Rattle.mt_stands.specs.Switching.{open_after}
use Rattle.mt_stands.specs.Ways.{IsGiven, IsOpenOn, WaysState, WaysStand, is_under_way, open_at}
use Rattle.mt_steps.specs.declared.log.OpenWay.{OpenWay}
use Rattle.mt_workflow.specs.Workflows.{WorkflowState}
use Rattle.mt_stands.proofs.KnownLemmas.{same_or, some_is}

-- ---- journals

-- a number that was given stays so as more are
later : (a b : ℕ) (es : List JournalEntry) → a ≤ b → AllByRecursion (λ e. IsGiven a e.id) es → AllByRecursion (λ e. IsGiven b e.id) es
later a b [] le all = tt
later a b (e ∷ es) le all = let was = all.0.1 in ((all.0.0, omega (arith, le, was)), later a b es le all.1)

pub written-push : (n : ℕ) (es : List JournalEntry) (e : JournalEntry) → AllByRecursion (λ x. IsGiven n x.id) es → IsGiven n e.id
    → AllByRecursion (λ x. IsGiven n x.id) (es ++ e ∷ [])
written-push n [] e all given = (given, tt)
written-push n (x ∷ es) e all given = (all.0, written-push n es e all.1 given)

-- a number that wasn't given yet has no entry
none_yet : (n m : ℕ) (es : List JournalEntry) → n < m → AllByRecursion (λ e. IsGiven n e.id) es → entry_of es m ≡ None
none_yet n m [] lt all = refl
none_yet n m (e ∷ es) lt all =
    let differs : eqb m e.id ≡ false = false_from_ne_true (eqb m e.id) (λ t. let same = eqb-true m e.id t in let le = all.0.1 in absurd (omega (arith, same, lt, le))) in
    rw differs (none_yet n m es lt all.1)

-- an entry of another number gives it none
pub none_pushed : (es : List JournalEntry) (e : JournalEntry) (n : ℕ) → n ≢ e.id → entry_of es n ≡ None → entry_of (es ++ e ∷ []) n ≡ None
none_pushed es e n other none = find-push_other (λ (x : JournalEntry). eqb n x.id) es e (false_from_ne_true (eqb n e.id) (λ t. other (eqb-true n e.id t))) ∙ none

-- ---- a workflow that is set

module _ (old new : Workflows) (name : List ℕ) (w v : WorkflowState) (found : workflow_at old name ≡ Some w) (workflows : new ≡ set_value (same_text name) old v) where
  workflow_here : workflow_at new name ≡ Some v
  workflow_here = ap (lookup (same_text name)) workflows ∙ lookup-set_value_here same_text same_text_decides old name v w found

  workflow_elsewhere : (n : List ℕ) → name ≢ n → workflow_at new n ≡ workflow_at old n
  workflow_elsewhere n other = ap (lookup (same_text n)) workflows ∙ lookup-set_value_elsewhere same_text same_text_decides old name n v other

abbrev pub under_way : Option WorkflowState → Bool
under_way o = option_map_or (λ (w : WorkflowState). is_some w.way) o false

-- ---- a way that goes on, or is closed

module _ (p q : Plain) (old new : BaseState) (ways now : WaysState) (stands : WaysStand p old ways) (name : List ℕ) (w v : WorkflowState) (o u : OpenWay)
    (found : workflow_at old.workflows name ≡ Some w) (is_open : open_at ways.opened name ≡ Some o) (number : u.number ≡ o.number)
    (workflows : new.workflows ≡ set_value (same_text name) old.workflows v) (opened : now.opened ≡ open_after ways.opened name u v.way) where
  open_here : open_at now.opened name ≡ option_map (λ (x : Way). u) v.way
  open_here = ap (lookup (same_text name)) opened ∙ by v.way
    where
      by : (x : Option Way) → lookup (same_text name) (open_after ways.opened name u x) ≡ option_map (λ (y : Way). u) x
      by None = lookup-remove_entry_here same_text same_text_decides ways.opened name stands.distinct
      by (Some x) = lookup-set_value_here same_text same_text_decides ways.opened name u o is_open

  open_elsewhere : (n : List ℕ) → name ≢ n → open_at now.opened n ≡ open_at ways.opened n
  open_elsewhere n other = ap (lookup (same_text n)) opened ∙ by v.way
    where
      by : (x : Option Way) → lookup (same_text n) (open_after ways.opened name u x) ≡ open_at ways.opened n
      by None = lookup-remove_entry_elsewhere same_text same_text_decides ways.opened name n other
      by (Some x) = lookup-set_value_elsewhere same_text same_text_decides ways.opened name n u other

  distinct : IsDistinct same_text (keys_of now.opened)
  distinct = subst (λ es. IsDistinct same_text (keys_of es)) (sym opened) (by v.way)
    where
      by : (x : Option Way) → IsDistinct same_text (keys_of (open_after ways.opened name u x))
      by None = IsDistinct-remove_entry same_text same_text_decides (same_text name) ways.opened stands.distinct
      by (Some x) = IsDistinct-set_value same_text same_text_decides ways.opened name u stands.distinct

  there : (n : List ℕ) → is_some (open_at now.opened n) ≡ is_under_way new.workflows n
  there n = ⊎_elim here elsewhere (same_or name n)
    where
      some : (x : Option Way) → is_some (option_map (λ (y : Way). u) x) ≡ is_some x
      some None = refl
      some (Some x) = refl

      here : name ≡ n → is_some (open_at now.opened n) ≡ is_under_way new.workflows n
      here e = subst (λ m. is_some (open_at now.opened m) ≡ is_under_way new.workflows m) e
          (ap is_some open_here ∙ some v.way ∙ sym (ap under_way (workflow_here old.workflows new.workflows name w v found workflows)))

      elsewhere : name ≢ n → is_some (open_at now.opened n) ≡ is_under_way new.workflows n
      elsewhere other = ap is_some (open_elsewhere n other) ∙ stands.there n ∙ sym (ap under_way (workflow_elsewhere old.workflows new.workflows name w v found workflows n other))

  -- what is kept now was kept before, under the same number
  was_kept : (n : List ℕ) (a : OpenWay) → open_at now.opened n ≡ Some a → (b : OpenWay) × (open_at ways.opened n ≡ Some b) × (a.number ≡ b.number)
  was_kept n a is = ⊎_elim here elsewhere (same_or name n)
    where
      same : (x : Option Way) → option_map (λ (y : Way). u) x ≡ Some a → a.number ≡ o.number
      same None e = absurd cc
      same (Some x) e = ap (λ (y : OpenWay). y.number) (sym (some_is u a e)) ∙ number

      here : name ≡ n → (b : OpenWay) × (open_at ways.opened n ≡ Some b) × (a.number ≡ b.number)
      here e = (o, subst (λ m. open_at ways.opened m ≡ Some o) e is_open, same v.way (sym open_here ∙ ap (open_at now.opened) e ∙ is))

      elsewhere : name ≢ n → (b : OpenWay) × (open_at ways.opened n ≡ Some b) × (a.number ≡ b.number)
      elsewhere other = (a, sym (open_elsewhere n other) ∙ is, refl)

  module _ (live_elsewhere : (n : List ℕ) → name ≢ n → live_at q n ≡ live_at p n)
      (unused : (x : ℕ) → x ≢ o.number → entry_of ways.journal x ≡ None → entry_of now.journal x ≡ None)
      (here : (live : Live) (way : Way) → live_at q name ≡ Some live → v.way ≡ Some way → IsOpenOn now.journal live v way u) where
    each : (n : List ℕ) (live : Live) (x : WorkflowState) (way : Way) (a : OpenWay) → live_at q n ≡ Some live → workflow_at new.workflows n ≡ Some x → x.way ≡ Some way
        → open_at now.opened n ≡ Some a → IsOpenOn now.journal live x way a
    each n live x way a is_live is_x opens is_a = ⊎_elim at_it at_other (same_or name n)
      where
        at_it : name ≡ n → IsOpenOn now.journal live x way a
        at_it e =
            let same : v ≡ x = some_is v x (sym (workflow_here old.workflows new.workflows name w v found workflows) ∙ ap (workflow_at new.workflows) e ∙ is_x) in
            let opens_v : v.way ≡ Some way = ap (λ (y : WorkflowState). y.way) same ∙ opens in
            let same_u : u ≡ a = some_is u a (sym (open_here ∙ ap (option_map (λ (y : Way). u)) opens_v) ∙ ap (open_at now.opened) e ∙ is_a) in
            subst (λ (y : WorkflowState). IsOpenOn now.journal live y way a) same
            (subst (λ (y : OpenWay). IsOpenOn now.journal live v way y) same_u (here live way (ap (live_at q) e ∙ is_live) opens_v))

        at_other : name ≢ n → IsOpenOn now.journal live x way a
        at_other other =
            let was : open_at ways.opened n ≡ Some a = sym (open_elsewhere n other) ∙ is_a in
            let before = stands.each n live x way a (sym (live_elsewhere n other) ∙ is_live)
            (sym (workflow_elsewhere old.workflows new.workflows name w v found workflows n other) ∙ is_x) opens was in
            record {
              kept = before.kept;
              unused = λ f. unused a.number (λ e. other (stands.apart name n o a is_open was (sym e))) (before.unused f);
              undo = before.undo;
            }

    pub goes_on : now.begun ≡ ways.begun → q.ways ≡ p.ways → length now.journal ≡ q.journal → AllByRecursion (λ e. IsGiven ways.begun e.id) now.journal → WaysStand q new now
    goes_on as_begun as_many count written = record {
      begun = as_begun ∙ stands.begun ∙ sym as_many;
      journal = count;
      distinct = distinct;
      there = there;
      each = each;
      written = subst (λ n. AllByRecursion (λ (e : JournalEntry). IsGiven n e.id) now.journal) (sym as_begun) written;
      numbers = λ n a is.
          let r = was_kept n a is in
          let given = stands.numbers n r.0 r.1 in
          let same = r.2 in
          (omega (arith, given.0, same), omega (arith, given.1, same, as_begun));
      apart = λ n m a b is_a is_b same. let r = was_kept n a is_a in let s = was_kept m b is_b in stands.apart n m r.0 s.0 r.1 s.1 (sym r.2 ∙ same ∙ s.2);
    }

-- ---- a way that begins

module _ (p q : Plain) (old new : BaseState) (ways now : WaysState) (stands : WaysStand p old ways) (name : List ℕ) (w v : WorkflowState) (fresh : Way) (u : OpenWay)
    (found : workflow_at old.workflows name ≡ Some w) (rests : w.way ≡ None) (fresh_is : v.way ≡ Some fresh) (number : u.number ≡ suc ways.begun)
    (workflows : new.workflows ≡ set_value (same_text name) old.workflows v) (opened : now.opened ≡ ways.opened ++ (name, u) ∷ []) (journal : now.journal ≡ ways.journal)
    (one_more : now.begun ≡ suc ways.begun) where
  none_open : open_at ways.opened name ≡ None
  none_open = none_from (open_at ways.opened name) (stands.there name ∙ ap under_way found ∙ ap is_some rests)

  begun_here : open_at now.opened name ≡ Some u
  begun_here = ap (lookup (same_text name)) opened ∙ lookup-push_here same_text same_text_decides ways.opened name u none_open

  begun_elsewhere : (n : List ℕ) → name ≢ n → open_at now.opened n ≡ open_at ways.opened n
  begun_elsewhere n other = ap (lookup (same_text n)) opened ∙ lookup-push_elsewhere same_text same_text_decides ways.opened name n u other

  there_begun : (n : List ℕ) → is_some (open_at now.opened n) ≡ is_under_way new.workflows n
  there_begun n = ⊎_elim here elsewhere (same_or name n)
    where
      here : name ≡ n → is_some (open_at now.opened n) ≡ is_under_way new.workflows n
      here e = subst (λ m. is_some (open_at now.opened m) ≡ is_under_way new.workflows m) e
          (ap is_some begun_here ∙ sym (ap under_way (workflow_here old.workflows new.workflows name w v found workflows) ∙ ap is_some fresh_is))

      elsewhere : name ≢ n → is_some (open_at now.opened n) ≡ is_under_way new.workflows n
      elsewhere other = ap is_some (begun_elsewhere n other) ∙ stands.there n ∙ sym (ap under_way (workflow_elsewhere old.workflows new.workflows name w v found workflows n other))

  -- the one that is kept at a name is the new one, or was kept before
  which : (n : List ℕ) (a : OpenWay) → open_at now.opened n ≡ Some a → ((name ≡ n) × (a.number ≡ suc ways.begun)) ⊎ (open_at ways.opened n ≡ Some a)
  which n a is = ⊎_elim here elsewhere (same_or name n)
    where
      here : name ≡ n → ((name ≡ n) × (a.number ≡ suc ways.begun)) ⊎ (open_at ways.opened n ≡ Some a)
      here e = inl (e, ap (λ (y : OpenWay). y.number) (sym (some_is u a (sym begun_here ∙ ap (open_at now.opened) e ∙ is))) ∙ number)

      elsewhere : name ≢ n → ((name ≡ n) × (a.number ≡ suc ways.begun)) ⊎ (open_at ways.opened n ≡ Some a)
      elsewhere other = inr (sym (begun_elsewhere n other) ∙ is)

  numbers_begun : (n : List ℕ) (a : OpenWay) → ((name ≡ n) × (a.number ≡ suc ways.begun)) ⊎ (open_at ways.opened n ≡ Some a) → IsGiven now.begun a.number
  numbers_begun n a (inl at) = let same = at.1 in (omega (arith, same), omega (arith, same, one_more))
  numbers_begun n a (inr was) = let given = stands.numbers n a was in (given.0, omega (arith, given.1, one_more))

  apart_begun : (n m : List ℕ) (a b : OpenWay) → a.number ≡ b.number → ((name ≡ n) × (a.number ≡ suc ways.begun)) ⊎ (open_at ways.opened n ≡ Some a)
      → ((name ≡ m) × (b.number ≡ suc ways.begun)) ⊎ (open_at ways.opened m ≡ Some b) → n ≡ m
  apart_begun n m a b same (inl at) (inl to) = sym at.0 ∙ to.0
  apart_begun n m a b same (inl at) (inr was) = let given = stands.numbers m b was in let is = at.1 in absurd (omega (arith, given.1, is, same))
  apart_begun n m a b same (inr was) (inl to) = let given = stands.numbers n a was in let is = to.1 in absurd (omega (arith, given.1, is, same))
  apart_begun n m a b same (inr was) (inr too) = stands.apart n m a b was too same

  pub unused_yet : entry_of now.journal u.number ≡ None
  unused_yet =
      ap (λ es. entry_of es u.number) journal ∙ ap (entry_of ways.journal) number ∙ none_yet ways.begun (suc ways.begun) ways.journal (omega arith) stands.written

  module _ (live_elsewhere : (n : List ℕ) → name ≢ n → live_at q n ≡ live_at p n) (here : (live : Live) → IsOpenOn now.journal live v fresh u) where
    each_begun : (n : List ℕ) (live : Live) (x : WorkflowState) (way : Way) (a : OpenWay) → live_at q n ≡ Some live → workflow_at new.workflows n ≡ Some x → x.way ≡ Some way
        → open_at now.opened n ≡ Some a → IsOpenOn now.journal live x way a
    each_begun n live x way a is_live is_x opens is_a = ⊎_elim at_it at_other (same_or name n)
      where
        at_it : name ≡ n → IsOpenOn now.journal live x way a
        at_it e =
            let same : v ≡ x = some_is v x (sym (workflow_here old.workflows new.workflows name w v found workflows) ∙ ap (workflow_at new.workflows) e ∙ is_x) in
            let same_way : fresh ≡ way = some_is fresh way (sym fresh_is ∙ ap (λ (y : WorkflowState). y.way) same ∙ opens) in
            let same_u : u ≡ a = some_is u a (sym begun_here ∙ ap (open_at now.opened) e ∙ is_a) in
            subst (λ (y : WorkflowState). IsOpenOn now.journal live y way a) same
            (subst (λ (y : Way). IsOpenOn now.journal live v y a) same_way (subst (λ (y : OpenWay). IsOpenOn now.journal live v fresh y) same_u (here live)))

        at_other : name ≢ n → IsOpenOn now.journal live x way a
        at_other other =
            let before = stands.each n live x way a (sym (live_elsewhere n other) ∙ is_live)
            (sym (workflow_elsewhere old.workflows new.workflows name w v found workflows n other) ∙ is_x) opens (sym (begun_elsewhere n other) ∙ is_a) in
            record { kept = before.kept; unused = λ f. ap (λ es. entry_of es a.number) journal ∙ before.unused f; undo = before.undo }

    pub begins : q.ways ≡ suc p.ways → q.journal ≡ p.journal → WaysStand q new now
    begins one_way as_many = record {
      begun = one_more ∙ ap suc stands.begun ∙ sym one_way;
      journal = ap length journal ∙ stands.journal ∙ sym as_many;
      distinct = subst (λ es. IsDistinct same_text (keys_of es)) (sym opened) (IsDistinct-push same_text same_text_decides ways.opened name u none_open stands.distinct);
      there = there_begun;
      each = each_begun;
      written = subst (λ es. AllByRecursion (λ (e : JournalEntry). IsGiven now.begun e.id) es) (sym journal) (later ways.begun now.begun ways.journal (omega (arith, one_more)) stands.written);
      numbers = λ n a is. numbers_begun n a (which n a is);
      apart = λ n m a b is_a is_b same. apart_begun n m a b same (which n a is_a) (which m b is_b);
    }
