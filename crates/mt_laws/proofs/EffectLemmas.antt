-- What a step and an undo change at an entry of the part, and on the primaries' own lists.
use Rattle.std.proofs.Common.{◌≡◌, ◌≢◌, ◌⊎◌, inl, inr, min, ℕ, zero, suc, ◌+◌, ◌-◌, ◌<◌, ◌≤◌, Bool, true, false, not, cond, eqb, ltb, leb, List, Option, None, Some, refl, sym, ap, ◌∙◌, subst, arith, eqb-true, ltb-true, lt-ltb, le-leb}
use Rattle.std.proofs.lemmas.Bool.{true≢false, and_from, and_parts, eq-eqb, false_from_ne_true, leb-false, leb-true}
use Rattle.std.specs.Cmp.{both_ways}
use Rattle.std.specs.Option.{option_map_or}
use Rattle.std.specs.Prelude.{◌&&◌, ◌||◌}
use Rattle.mt_names.specs.declared.keys.RuleKey.{RuleKey}
use Rattle.mt_names.specs.declared.types.TabletType.{TabletType}
use Rattle.mt_names.specs.declared.types.TabletType.TheVariants.{Primary, Replica, Rdonly}
use Rattle.mt_names.specs.declared.types.TypeSet.{TypeSet}
use Rattle.mt_names.specs.Names.{same_text}
use Rattle.mt_model.specs.declared.entries.Entry.TheVariants as entry
use Rattle.mt_model.specs.declared.entries.EntryKey.{EntryKey}
use Rattle.mt_model.specs.declared.entries.EntryKey.TheVariants as about
use Rattle.mt_model.specs.Topology.{TopologyState, rule_at}
use Rattle.mt_plain.specs.Next.{closes, live_stepped, live_undone}
use Rattle.mt_plain.specs.Events.{Way}
use Rattle.mt_plain.specs.Plain.{Live, Plain, allow_target, behind_last, before_way, changes_primary, deny_source, differ, first_step, in_keyspace, next_place, next_step, owner_by, place_of_refresh, refresh_source, refresh_target, repeated_step, stands_done, stands_done_at, step_at_place, write_journal, last_step}
use Rattle.mt_plain.specs.Serve.{is_denied_at, is_listed_at, list_types, refuses_by, rule_step, serve, serve_plain, serve_rule, served_by, step_of_entry, step_of_list, types_by}
use Rattle.mt_plain.proofs.PlaceLemmas.{step-behind, step-first}
use Rattle.mt_laws.specs.Changes.{HasSides}
use Rattle.mt_laws.specs.Effects.{entry_stepped, entry_undone, list_stepped, list_undone}
use Rattle.mt_laws.proofs.ChangeLemmas.{sides-live_stepped, sides-undone}
use Rattle.mt_laws.proofs.ListLemmas.{cond-ap, cond-either}
use Rattle.mt_laws.proofs.PlainWords.{changes_reads, list_types_by_way, types_by_way}
use Rattle.mt_laws.proofs.TrafficLemmas.{serve-same}
use Rattle.mt_laws.proofs.WayStepLemmas.{OneOn, at_first, fewer, first_step-le, more, now_done-in, one_on, repeated-ge, same_done, was_done, way-stepped, way-undone}

-- ---- sets of types that are alike as far as a step is concerned

-- step 0 looks at reads alone, each other step at writes alone
pub record Alike (n : ℕ) (a b : TypeSet) : Type 0 where
  pub reads : n ≡ 0 → (a.replica ≡ b.replica) × (a.rdonly ≡ b.rdonly)
  pub writes : n ≢ 0 → a.primary ≡ b.primary

pub alike-same : (n : ℕ) (a b : TypeSet) → a ≡ b → Alike n a b
alike-same n a b e = record { reads = λ at. (ap (λ t. t.replica) e, ap (λ t. t.rdonly) e); writes = λ at. ap (λ t. t.primary) e }

rule-alike : (u : TopologyState) (w : Live) (a b : TypeSet) (key : RuleKey) (type : Option TabletType) → Alike (rule_step type) a b → serve_rule u w a key type ≡ serve_rule u w b key type
rule-alike u w a b key None alike = by key.keyspace
  where
    same : a.primary ≡ b.primary
    same = alike.writes (λ e. absurd (omega arith))

    by : (keyspace : Option (List ℕ)) → serve_plain u w a key keyspace ≡ serve_plain u w b key keyspace
    by None = ap (λ t. Some (in_keyspace (cond t w.target w.source) key.table)) same
    by (Some keyspace) = ap (λ t. cond (same_text w.source keyspace) (cond t (Some (in_keyspace w.target key.table)) (rule_at u.rules key)) (cond t None (Some (in_keyspace w.source key.table)))) same
rule-alike u w a b key (Some Primary) alike = refl
rule-alike u w a b key (Some Replica) alike = ap (λ t. Some (in_keyspace (cond t w.target w.source) key.table)) (alike.reads refl).0
rule-alike u w a b key (Some Rdonly) alike = ap (λ t. Some (in_keyspace (cond t w.target w.source) key.table)) (alike.reads refl).1

denied-alike : (w : Live) (a b : TypeSet) (keyspace : List ℕ) → a.primary ≡ b.primary → is_denied_at w a keyspace ≡ is_denied_at w b keyspace
denied-alike w a b keyspace same = ap (λ t. cond (same_text w.source keyspace) t (not t)) same

not_first : (t : Bool) (n m : ℕ) → cond {A = ℕ} t (suc n) (suc m) ≢ 0
not_first true n m = λ e. absurd (omega arith)
not_first false n m = λ e. absurd (omega arith)

pub serve-alike : (u : TopologyState) (w : Live) (a b : TypeSet) (key : EntryKey) → Alike (step_of_entry w key) a b → serve u w a key ≡ serve u w b key
serve-alike u w a b (about.Rule key) alike = ap (entry.Rule key) (rule-alike u w a b key key.tablet_type alike)
serve-alike u w a b (about.Denied keyspace table) alike =
    ap (entry.Denied keyspace table) (denied-alike w a b keyspace (alike.writes (not_first (same_text (owner_by w (before_way w)) keyspace) 0 6)))
serve-alike u w a b (about.Present keyspace table) alike = refl

listed-alike : (w : Live) (a b : TypeSet) (keyspace : List ℕ) → Alike (step_of_list w keyspace) a b → is_listed_at w a keyspace ≡ is_listed_at w b keyspace
listed-alike w a b keyspace alike =
    ap (λ t. (same_text w.source keyspace || same_text w.target keyspace) && t) (denied-alike w a b keyspace (alike.writes (not_first (same_text (owner_by w (before_way w)) keyspace) 1 7)))

-- ---- the steps of entries and of own lists

either_le : (t : Bool) (n m : ℕ) → n ≤ 11 → m ≤ 11 → cond {A = ℕ} t n m ≤ 11
either_le t n m a b = cond-either (λ k. k ≤ 11) t n m a b

rule_step-le : (type : Option TabletType) → rule_step type ≤ 11
rule_step-le None = omega arith
rule_step-le (Some Primary) = omega arith
rule_step-le (Some Replica) = omega arith
rule_step-le (Some Rdonly) = omega arith

step_of_entry-le : (w : Live) (key : EntryKey) → step_of_entry w key ≤ 11
step_of_entry-le w (about.Rule key) = rule_step-le key.tablet_type
step_of_entry-le w (about.Denied keyspace table) = either_le (same_text (owner_by w (before_way w)) keyspace) deny_source allow_target (omega arith) (omega arith)
step_of_entry-le w (about.Present keyspace table) = omega arith

step_of_list-le : (w : Live) (keyspace : List ℕ) → step_of_list w keyspace ≤ 11
step_of_list-le w keyspace = either_le (same_text (owner_by w (before_way w)) keyspace) refresh_source refresh_target (omega arith) (omega arith)

-- they hang on the owner before the way alone
owner-same : (v w : Live) → HasSides w v → before_way v ≡ before_way w → (keyspace : List ℕ) → same_text (owner_by v (before_way v)) keyspace ≡ same_text (owner_by w (before_way w)) keyspace
owner-same v w same before keyspace =
    ap (λ (t : TypeSet). same_text (cond t.primary v.target v.source) keyspace) before
    ∙ ap (λ k. same_text (cond (before_way w).primary k v.source) keyspace) (sym same.target)
    ∙ ap (λ k. same_text (cond (before_way w).primary w.target k) keyspace) (sym same.source)

entry_step-same : (v w : Live) → HasSides w v → before_way v ≡ before_way w → (key : EntryKey) → step_of_entry v key ≡ step_of_entry w key
entry_step-same v w same before (about.Rule key) = refl
entry_step-same v w same before (about.Denied keyspace table) = ap (λ t. cond {A = ℕ} t deny_source allow_target) (owner-same v w same before keyspace)
entry_step-same v w same before (about.Present keyspace table) = refl

list_step-same : (v w : Live) → HasSides w v → before_way v ≡ before_way w → (keyspace : List ℕ) → step_of_list v keyspace ≡ step_of_list w keyspace
list_step-same v w same before keyspace = ap (λ t. cond {A = ℕ} t refresh_source refresh_target) (owner-same v w same before keyspace)

-- ---- the last step

pub differ-false : (a b : Bool) → differ a b ≡ false → b ≡ a
differ-false true true e = refl
differ-false true false e = absurd (true≢false e)
differ-false false true e = absurd (true≢false e)
differ-false false false e = refl

pub or-false : (a b : Bool) → (a || b) ≡ false → (a ≡ false) × (b ≡ false)
or-false true b e = absurd (true≢false e)
or-false false b e = (refl, e)

-- the types after a way are those before it as far as the steps are concerned that do not stand done when it closes
closing-alike : (way : Way) → closes way ≡ true → (n : ℕ) → n ≤ 11 → eqb (next_step way) n ≡ false → stands_done way n ≡ false → Alike n way.after way.before
closing-alike way closing n le other not_done = by (changes_primary way) refl (eqb-true (suc (next_step way)) (behind_last way) closing)
  where
    apart : next_step way ≢ n
    apart e = true≢false (sym (eq-eqb (next_step way) n e) ∙ other)

    -- with all reads and writes done but the last, the step is the first of a way that changes no reads
    reads_kept : next_step way ≡ 11 → n ≡ 0
    reads_kept at = cases (leb (first_step way) n) refl
      where
        below : ltb n (next_step way) ≡ true
        below = lt-ltb n (next_step way) (omega (arith, at, le, apart))

        cases : (t : Bool) → leb (first_step way) n ≡ t → n ≡ 0
        cases true t = absurd (true≢false (sym (and_from (leb (first_step way) n) (ltb n (next_step way)) t below) ∙ not_done))
        cases false t =
            let few = first_step-le way in
            let short : (first_step way ≤ n) → ⊥ = λ h. true≢false (sym (le-leb (first_step way) n h) ∙ t) in
            omega (arith, few, short)

    no_reads : n ≡ 0 → changes_reads way ≡ false
    no_reads at = cases (changes_reads way) refl
      where
        cases : (t : Bool) → changes_reads way ≡ t → changes_reads way ≡ false
        cases false t = t
        cases true t =
            let first : first_step way ≡ 0 = ap (λ b. cond {A = ℕ} b 0 1) t in
            let done : stands_done way n ≡ false → next_step way ≡ n = λ h. by_reads first (ltb n (next_step way)) refl in
            absurd (apart (done not_done))
          where
            by_reads : first_step way ≡ 0 → (b : Bool) → ltb n (next_step way) ≡ b → next_step way ≡ n
            by_reads first true b =
                absurd (true≢false (sym (and_from (leb (first_step way) n) (ltb n (next_step way)) (le-leb (first_step way) n (omega (arith, first, at))) b) ∙ not_done))
            by_reads first false b =
                let not_below : (n < next_step way) → ⊥ = λ h. true≢false (sym (lt-ltb n (next_step way) h) ∙ b) in
                omega (arith, at, not_below)

    by : (t : Bool) → changes_primary way ≡ t → suc (next_step way) ≡ behind_last way → Alike n way.after way.before
    by true t last =
        let at : next_step way ≡ 11 = omega (arith, last ∙ ap (λ b. cond {A = ℕ} b 12 1) t) in
        let zeroth : n ≡ 0 = reads_kept at in
        let none = or-false (differ way.before.replica way.after.replica) (differ way.before.rdonly way.after.rdonly) (no_reads zeroth) in
        record {
          reads = λ e. (differ-false way.before.replica way.after.replica none.0, differ-false way.before.rdonly way.after.rdonly none.1);
          writes = λ e. absurd (e zeroth);
        }
    by false t last =
        let at : next_step way ≡ 0 = omega (arith, last ∙ ap (λ b. cond {A = ℕ} b 12 1) t) in
        record {
          reads = λ e. absurd (apart (at ∙ sym e));
          writes = λ e. differ-false way.before.primary way.after.primary t;
        }

-- ---- the types at an entry, behind a step

abbrev at_way : Way → Bool → TypeSet
at_way way t = cond t way.after way.before

module _ (w v : Live) (way : Way) (opens : w.way ≡ Some way) where
  types_at : (n : ℕ) → types_by w n ≡ at_way way (stands_done way n)
  types_at n = ap (λ o. types_by_way w.switched o n) opens

  module _ (now : v.way ≡ cond (closes way) None (Some (more way))) (switched : closes way ≡ true → v.switched ≡ way.after) where
    stepped-alike : (n m : ℕ) → n ≤ 11 → n ≢ repeated_step way → (closes way ≡ false → m ≡ n) → Alike n (types_by v m) (cond (eqb (next_step way) n) way.after (types_by w n))
    stepped-alike n m le once same = by (closes way) refl
      where
        closed : closes way ≡ true → types_by v m ≡ way.after
        closed t = ap (λ o. types_by_way v.switched o m) (now ∙ ap (λ b. cond b None (Some (more way))) t) ∙ switched t

        at_last : closes way ≡ true → (b : Bool) → eqb (next_step way) n ≡ b → Alike n way.after (cond (eqb (next_step way) n) way.after (types_by w n))
        at_last t true b = alike-same n way.after _ (sym (ap (λ x. cond x way.after (types_by w n)) b))
        at_last t false b = subst (Alike n way.after) (sym (ap (λ x. cond x way.after (types_by w n)) b ∙ types_at n)) (done (stands_done way n) refl)
          where
            done : (d : Bool) → stands_done way n ≡ d → Alike n way.after (at_way way (stands_done way n))
            done true d = alike-same n way.after _ (sym (ap (at_way way) d))
            done false d = subst (Alike n way.after) (sym (ap (at_way way) d)) (closing-alike way t n le b d)

        goes : (b : Bool) → eqb (next_step way) n ≡ b → at_way way (stands_done (more way) n) ≡ cond (eqb (next_step way) n) way.after (types_by w n)
        goes true b = ap (at_way way) (now_done-in way n once b) ∙ sym (ap (λ x. cond x way.after (types_by w n)) b)
        goes false b = ap (at_way way) (same_done way n b) ∙ sym (ap (λ x. cond x way.after (types_by w n)) b ∙ types_at n)

        by : (t : Bool) → closes way ≡ t → Alike n (types_by v m) (cond (eqb (next_step way) n) way.after (types_by w n))
        by true t = subst (λ a. Alike n a (cond (eqb (next_step way) n) way.after (types_by w n))) (sym (closed t)) (at_last t (eqb (next_step way) n) refl)
        by false t =
            let going : v.way ≡ Some (more way) = now ∙ ap (λ b. cond b None (Some (more way))) t in
            alike-same n (types_by v m) _ (ap (types_by v) (same t) ∙ ap (λ o. types_by_way v.switched o n) going ∙ goes (eqb (next_step way) n) refl)

  module _ (now : v.way ≡ cond (eqb (way.done - 1) 0) None (Some (fewer way))) (switched : v.switched ≡ way.before) where
    -- behind an undo
    undone-types : (n : ℕ) → types_by v n ≡ cond (eqb (last_step way) n) way.before (types_by w n)
    undone-types n = by (eqb (way.done - 1) 0) refl
      where
        here_or_done : (b : Bool) → eqb (last_step way) n ≡ b → (x : TypeSet) → (b ≡ true → x ≡ way.before) → (b ≡ false → x ≡ at_way way (stands_done way n)) → x ≡ cond (eqb (last_step way) n) way.before (types_by w n)
        here_or_done true b x here there = here refl ∙ sym (ap (λ y. cond y way.before (types_by w n)) b)
        here_or_done false b x here there = there refl ∙ sym (ap (λ y. cond y way.before (types_by w n)) b ∙ types_at n)

        -- where none is left, none but the last stood done
        none_else : way.done - 1 ≡ 0 → eqb (last_step way) n ≡ false → stands_done way n ≡ false
        none_else few other = false_from_ne_true (stands_done way n) (λ t.
            let r = and_parts (leb (first_step way) n) (ltb n (next_step way)) t in
            let above : first_step way ≤ n = leb-true (first_step way) n r.0 in
            let below = ltb-true n (next_step way) r.1 in
            let low = first_step-le way in
            let high = repeated-ge way in
            let is : next_step way ≡ next_place way = step-first way (next_place way) (omega arith) in
            let last : last_step way ≡ next_place way - 1 = step-first way (next_place way - 1) (omega arith) in
            true≢false (sym (eq-eqb (last_step way) n (omega arith)) ∙ other))

        -- the places of a way with one step less
        short : 1 ≤ way.done → next_step (fewer way) ≡ last_step way
        short le = let e : first_step way + (way.done - 1) ≡ next_place way - 1 = omega arith in ap (step_at_place way) e

        some : (d : ℕ) → way.done ≡ d → stands_done way n ≡ true → 1 ≤ way.done
        some zero e t =
            let r = and_parts (leb (first_step way) n) (ltb n (next_step way)) t in
            let above = leb-true (first_step way) n r.0 in
            let below = ltb-true n (next_step way) r.1 in
            let is = at_first way e in absurd (omega arith)
        some (suc d) e t = omega arith

        fewer_at : eqb (last_step way) n ≡ true → stands_done (fewer way) n ≡ false
        fewer_at here = false_from_ne_true (stands_done (fewer way) n) (λ t.
            let le = some way.done refl (was_done way n t) in
            let r = and_parts (leb (first_step way) n) (ltb n (next_step (fewer way))) t in
            let below = ltb-true n (next_step (fewer way)) r.1 in
            let is = eqb-true (last_step way) n here in
            let same = short le in
            omega arith)

        fewer_else : (b : Bool) → eqb (last_step way) n ≡ false → stands_done way n ≡ b → stands_done (fewer way) n ≡ stands_done way n
        fewer_else true other b =
            let r = and_parts (leb (first_step way) n) (ltb n (next_step way)) b in
            let below = ltb-true n (next_step way) r.1 in
            let apart : last_step way ≢ n = λ e. true≢false (sym (eq-eqb (last_step way) n e) ∙ other) in
            let le = some way.done refl b in
            let e : suc (next_place way - 1) ≡ next_place way = omega arith in
            let is : next_step way ≡ step_at_place way (suc (next_place way - 1)) = ap (step_at_place way) (sym e) in
            let less = by (one_on way (next_place way - 1)) (λ f. apart f) (subst (λ x. suc n ≤ x) is below) in
            and_from (leb (first_step way) n) (ltb n (next_step (fewer way))) r.0 (lt-ltb n (next_step (fewer way)) (subst (λ x. suc n ≤ x) (sym (short le)) less)) ∙ sym b
          where
            by : OneOn (step_at_place way (suc (next_place way - 1))) (last_step way) (repeated_step way) → last_step way ≢ n
                → suc n ≤ step_at_place way (suc (next_place way - 1)) → suc n ≤ last_step way
            by (inl f) apart below = omega (arith, f, apart, below)
            by (inr f) apart below = let g = f.0 in omega (arith, g, below)
        fewer_else false other b = false_from_ne_true (stands_done (fewer way) n) (λ t. true≢false (sym (was_done way n t) ∙ b)) ∙ sym b

        by : (t : Bool) → eqb (way.done - 1) 0 ≡ t → types_by v n ≡ cond (eqb (last_step way) n) way.before (types_by w n)
        by true t =
            let rests : types_by v n ≡ way.before = ap (λ o. types_by_way v.switched o n) (now ∙ ap (λ b. cond b None (Some (fewer way))) t) ∙ switched in
            rests ∙ here_or_done (eqb (last_step way) n) refl way.before (λ here. refl)
            (λ there. sym (ap (at_way way) (none_else (eqb-true (way.done - 1) 0 t) there)))
        by false t =
            let going : types_by v n ≡ at_way way (stands_done (fewer way) n) = ap (λ o. types_by_way v.switched o n) (now ∙ ap (λ b. cond b None (Some (fewer way))) t) in
            going ∙ here_or_done (eqb (last_step way) n) refl (at_way way (stands_done (fewer way) n)) (λ here. ap (at_way way) (fewer_at here))
            (λ there. ap (at_way way) (fewer_else (stands_done way n) there refl))

listed-same : (w v : Live) → HasSides w v → (types : TypeSet) (keyspace : List ℕ) → is_listed_at v types keyspace ≡ is_listed_at w types keyspace
listed-same w v same types keyspace = rw (← same.source, ← same.target) refl

-- ---- a step

switched-closed : (p : Plain) (w : Live) (way : Way) → closes way ≡ true → (live_stepped p w way).switched ≡ way.after
switched-closed p w way t = ap (λ l. cond (l || eqb (next_step way) write_journal) way.after w.switched) t

-- no entry changes with a refresh
entry-once : (way : Way) (w : Live) (key : EntryKey) → step_of_entry w key ≢ repeated_step way
entry-once way w key = cond-either (λ n. step_of_entry w key ≢ n) way.back refresh_source refresh_target (no_refresh key).0 (no_refresh key).1
  where
    either : (t : Bool) (a b n : ℕ) → a ≢ n → b ≢ n → cond t a b ≢ n
    either true a b n e f = e
    either false a b n e f = f

    rules : (type : Option TabletType) → (rule_step type ≢ refresh_source) × (rule_step type ≢ refresh_target)
    rules None = (λ e. absurd (omega arith), λ e. absurd (omega arith))
    rules (Some Primary) = (λ e. absurd (omega arith), λ e. absurd (omega arith))
    rules (Some Replica) = (λ e. absurd (omega arith), λ e. absurd (omega arith))
    rules (Some Rdonly) = (λ e. absurd (omega arith), λ e. absurd (omega arith))

    no_refresh : (k : EntryKey) → (step_of_entry w k ≢ refresh_source) × (step_of_entry w k ≢ refresh_target)
    no_refresh (about.Rule k) = rules k.tablet_type
    no_refresh (about.Denied keyspace table) = (
      either (same_text (owner_by w (before_way w)) keyspace) deny_source allow_target refresh_source (λ e. absurd (omega arith)) (λ e. absurd (omega arith)),
      either (same_text (owner_by w (before_way w)) keyspace) deny_source allow_target refresh_target (λ e. absurd (omega arith)) (λ e. absurd (omega arith)),
    )
    no_refresh (about.Present keyspace table) = (λ e. absurd (omega arith), λ e. absurd (omega arith))

-- ---- the refreshes of shards

-- where the way closes they all stand done, or it changes no writes
closing-lists : (way : Way) (step shard : ℕ) → step ≤ 8 → closes way ≡ true → (stands_done_at way step shard ≡ true) ⊎ (changes_primary way ≡ false)
closing-lists way step shard le closing = by (changes_primary way) refl (eqb-true (suc (next_step way)) (behind_last way) closing)
  where
    most : (a b : Bool) → cond a step (step + (way.shards - 1)) + cond b (min shard (way.shards - 1)) 0 ≤ 8 + (way.shards - 1) + (way.shards - 1)
    most true true = omega (arith, le)
    most true false = omega (arith, le)
    most false true = omega (arith, le)
    most false false = omega (arith, le)

    -- the first refresh that is repeated is none that comes behind
    less : (a b : Bool) → leb step (repeated_step way) ≡ a → eqb step (repeated_step way) ≡ b → cond a step (step + (way.shards - 1)) + cond b (min shard (way.shards - 1)) 0 ≤ 8 + (way.shards - 1)
    less true true e f = omega (arith, le)
    less true false e f = omega (arith, le)
    less false true e f = let same = eqb-true step (repeated_step way) f in let high = leb-false step (repeated_step way) e in absurd (omega arith)
    less false false e f = omega (arith, le)

    small : repeated_step way ≤ 8
    small = cond-either (λ n. n ≤ 8) way.back refresh_source refresh_target (omega arith) (omega arith)

    far : (t : Bool) → leb (next_place way) (repeated_step way) ≡ t → next_step way ≡ 11 → 11 + (way.shards - 1) ≤ next_place way
    far true t at = let here = leb-true (next_place way) (repeated_step way) t in let is = step-first way (next_place way) here in let few = small in absurd (omega arith)
    far false t at =
        let behind = leb-false (next_place way) (repeated_step way) t in
        let is = step-behind way (next_place way) (omega arith) in let few = small in
        omega arith

    by : (t : Bool) → changes_primary way ≡ t → suc (next_step way) ≡ behind_last way → (stands_done_at way step shard ≡ true) ⊎ (changes_primary way ≡ false)
    by false t last = inr t
    by true t last =
        let at : next_step way ≡ 11 = omega (arith, last ∙ ap (λ b. cond {A = ℕ} b 12 1) t) in
        let place = less (leb step (repeated_step way)) (eqb step (repeated_step way)) refl refl in
        let there = far (leb (next_place way) (repeated_step way)) refl at in
        inl (lt-ltb (place_of_refresh way step shard) (next_place way) (omega arith))

-- none comes before the place of number 2
pub place-ge : (way : Way) (step shard : ℕ) → 2 ≤ step → 2 ≤ place_of_refresh way step shard
place-ge way step shard le = by (leb step (repeated_step way)) (eqb step (repeated_step way))
  where
    by : (a b : Bool) → 2 ≤ cond a step (step + (way.shards - 1)) + cond b (min shard (way.shards - 1)) 0
    by true true = omega (arith, le)
    by true false = omega (arith, le)
    by false true = omega (arith, le)
    by false false = omega (arith, le)

pub step_of_list-in : (w : Live) (keyspace : List ℕ) → (2 ≤ step_of_list w keyspace) × (step_of_list w keyspace ≤ 8)
step_of_list-in w keyspace = cond-either (λ n. (2 ≤ n) × (n ≤ 8)) (same_text (owner_by w (before_way w)) keyspace) refresh_source refresh_target (omega arith, omega arith) (omega arith, omega arith)

before_opens : (w : Live) (way : Way) → w.way ≡ Some way → before_way w ≡ way.before
before_opens w way opens = ap (λ o. option_map_or (λ (x : Way). x.before) o w.switched) opens

module _ (p : Plain) (w : Live) (way : Way) (opens : w.way ≡ Some way) where
  abbrev stepped : Live
  stepped = live_stepped p w way

  before-stepped : closes way ≡ false → before_way stepped ≡ before_way w
  before-stepped t =
      before_opens stepped (more way) (way-stepped p w way ∙ ap (λ b. cond b None (Some (more way))) t) ∙ sym (before_opens w way opens)

  pub served-stepped : (u : TopologyState) (key : EntryKey) → served_by u stepped key ≡ entry_stepped u w way key
  served-stepped u key =
      let n = step_of_entry w key in
      let at = types_by stepped (step_of_entry stepped key) in
      let alike = stepped-alike w stepped way opens (way-stepped p w way) (switched-closed p w way) n (step_of_entry stepped key) (step_of_entry-le w key) (entry-once way w key)
      (λ t. entry_step-same stepped w (sides-live_stepped p w way) (before-stepped t) key) in
      sym (serve-same u u w stepped at key (sides-live_stepped p w way) refl)
      ∙ serve-alike u w at _ key alike
      ∙ cond-ap (λ types. serve u w types key) (eqb (next_step way) n) way.after (types_by w n)

  pub refused-stepped : (keyspace : List ℕ) (shard : ℕ) → refuses_by stepped keyspace shard ≡ list_stepped w way keyspace shard
  refused-stepped keyspace shard = listed-same w stepped (sides-live_stepped p w way) (list_types stepped keyspace shard) keyspace ∙ by (closes way) refl
    where
      n : ℕ
      n = step_of_list w keyspace

      place : ℕ
      place = place_of_refresh way n shard

      was : list_types w keyspace shard ≡ at_way way (stands_done_at way n shard)
      was = ap (λ o. list_types_by_way w.switched o n shard) opens

      -- what the law says, by its test
      said : (b : Bool) → eqb (next_place way) place ≡ b → (x : TypeSet) → (b ≡ true → x ≡ way.after) → (b ≡ false → is_listed_at w x keyspace ≡ refuses_by w keyspace shard) → is_listed_at w x keyspace ≡ list_stepped w way keyspace shard
      said true b x here there = ap (λ y. is_listed_at w y keyspace) (here refl) ∙ sym (ap (λ y. cond y (is_listed_at w way.after keyspace) (refuses_by w keyspace shard)) b)
      said false b x here there = there refl ∙ sym (ap (λ y. cond y (is_listed_at w way.after keyspace) (refuses_by w keyspace shard)) b)

      by : (t : Bool) → closes way ≡ t → is_listed_at w (list_types stepped keyspace shard) keyspace ≡ list_stepped w way keyspace shard
      by true t =
          let now : list_types stepped keyspace shard ≡ way.after =
          ap (λ o. list_types_by_way stepped.switched o (step_of_list stepped keyspace) shard) (ap (λ b. cond b None (Some (more way))) t) ∙ switched-closed p w way t in
          ap (λ y. is_listed_at w y keyspace) now
          ∙ said (eqb (next_place way) place) refl way.after (λ e. refl) (λ e. last (closing-lists way n shard (step_of_list-in w keyspace).1 t))
        where
          last : (stands_done_at way n shard ≡ true) ⊎ (changes_primary way ≡ false) → is_listed_at w way.after keyspace ≡ refuses_by w keyspace shard
          last (inl done) = ap (λ y. is_listed_at w y keyspace) (sym (was ∙ ap (at_way way) done))
          last (inr none) =
              ap (λ d. (same_text w.source keyspace || same_text w.target keyspace) && d) (denied-alike w way.after (list_types w keyspace shard) keyspace (sym (ap (λ (y : TypeSet). y.primary) was ∙ primaries (stands_done_at way n shard))))
            where
              primaries : (b : Bool) → (at_way way b).primary ≡ way.after.primary
              primaries true = refl
              primaries false = sym (differ-false way.before.primary way.after.primary none)
      by false t =
          let going : stepped.way ≡ Some (more way) = ap (λ b. cond b None (Some (more way))) t in
          let now : list_types stepped keyspace shard ≡ at_way way (stands_done_at (more way) n shard) =
          ap (λ m. list_types_by_way stepped.switched stepped.way m shard) (list_step-same stepped w (sides-live_stepped p w way) (before-stepped t) keyspace)
          ∙ ap (λ o. list_types_by_way stepped.switched o n shard) going in
          ap (λ y. is_listed_at w y keyspace) now
          ∙ said (eqb (next_place way) place) refl (at_way way (stands_done_at (more way) n shard))
          (λ e. let here = eqb-true (next_place way) place e in ap (at_way way) (lt-ltb place (next_place (more way)) (omega arith)))
          (λ e. ap (λ y. is_listed_at w y keyspace) (ap (at_way way) (same e) ∙ sym was))
        where
          same : eqb (next_place way) place ≡ false → stands_done_at (more way) n shard ≡ stands_done_at way n shard
          same other = both_ways (stands_done_at (more way) n shard) (stands_done_at way n shard)
              (λ h. let lt = ltb-true place (next_place (more way)) h in
              let ne : next_place way ≢ place = λ is. true≢false (sym (eq-eqb (next_place way) place is) ∙ other) in
              lt-ltb place (next_place way) (omega arith))
              (λ h. let lt = ltb-true place (next_place way) h in lt-ltb place (next_place (more way)) (omega arith))

-- ---- an undo

pub switched-undone : (w : Live) (way : Way) → (live_undone w way).switched ≡ w.switched
switched-undone w way = refl

module _ (w : Live) (way : Way) (opens : w.way ≡ Some way) (settled : w.switched ≡ way.before) where
  abbrev undone : Live
  undone = live_undone w way

  before-undone : before_way undone ≡ before_way w
  before-undone = by (eqb (way.done - 1) 0) refl
    where
      by : (t : Bool) → eqb (way.done - 1) 0 ≡ t → before_way undone ≡ before_way w
      by true t =
          ap (λ o. option_map_or (λ (x : Way). x.before) o undone.switched) (way-undone w way ∙ ap (λ b. cond b None (Some (fewer way))) t)
          ∙ settled ∙ sym (before_opens w way opens)
      by false t =
          before_opens undone (fewer way) (way-undone w way ∙ ap (λ b. cond b None (Some (fewer way))) t) ∙ sym (before_opens w way opens)

  types-undone : (n : ℕ) → types_by undone n ≡ cond (eqb (last_step way) n) way.before (types_by w n)
  types-undone = undone-types w undone way opens (way-undone w way) settled

  pub served-undone : (u : TopologyState) (key : EntryKey) → served_by u undone key ≡ entry_undone u w way key
  served-undone u key =
      let n = step_of_entry w key in
      sym (serve-same u u w undone (types_by undone (step_of_entry undone key)) key (sides-undone w way) refl)
      ∙ ap (λ m. serve u w (types_by undone m) key) (entry_step-same undone w (sides-undone w way) before-undone key)
      ∙ ap (λ types. serve u w types key) (types-undone n)
      ∙ cond-ap (λ types. serve u w types key) (eqb (last_step way) n) way.before (types_by w n)

  pub refused-undone : (keyspace : List ℕ) (shard : ℕ) → refuses_by undone keyspace shard ≡ list_undone w way keyspace shard
  refused-undone keyspace shard =
      listed-same w undone (sides-undone w way) (list_types undone keyspace shard) keyspace
      ∙ ap (λ m. is_listed_at w (list_types_by_way undone.switched undone.way m shard) keyspace) (list_step-same undone w (sides-undone w way) before-undone keyspace)
      ∙ ap (λ y. is_listed_at w y keyspace) (by (eqb (way.done - 1) 0) refl)
      ∙ cond-ap (λ y. is_listed_at w y keyspace) (eqb (next_place way) (suc place)) way.before (list_types w keyspace shard)
    where
      n : ℕ
      n = step_of_list w keyspace

      place : ℕ
      place = place_of_refresh way n shard

      was : list_types w keyspace shard ≡ at_way way (stands_done_at way n shard)
      was = ap (λ o. list_types_by_way w.switched o n shard) opens

      said : (b : Bool) → eqb (next_place way) (suc place) ≡ b → (x : TypeSet) → (b ≡ true → x ≡ way.before) → (b ≡ false → x ≡ list_types w keyspace shard) → x ≡ cond (eqb (next_place way) (suc place)) way.before (list_types w keyspace shard)
      said true b x here there = here refl ∙ sym (ap (λ y. cond y way.before (list_types w keyspace shard)) b)
      said false b x here there = there refl ∙ sym (ap (λ y. cond y way.before (list_types w keyspace shard)) b)

      by : (t : Bool) → eqb (way.done - 1) 0 ≡ t → list_types_by_way undone.switched undone.way n shard ≡ cond (eqb (next_place way) (suc place)) way.before (list_types w keyspace shard)
      by true t =
          ap (λ o. list_types_by_way undone.switched o n shard) (ap (λ b. cond b None (Some (fewer way))) t) ∙ settled
          ∙ said (eqb (next_place way) (suc place)) refl way.before (λ e. refl) (λ e. sym (was ∙ ap (at_way way) none))
        where
          none : stands_done_at way n shard ≡ false
          none = false_from_ne_true (stands_done_at way n shard) (λ h.
              let lt = ltb-true place (next_place way) h in
              let few = eqb-true (way.done - 1) 0 t in
              let low = first_step-le way in
              let ge = place-ge way n shard (step_of_list-in w keyspace).0 in
              absurd (omega arith))
      by false t =
          ap (λ o. list_types_by_way undone.switched o n shard) (ap (λ b. cond b None (Some (fewer way))) t)
          ∙ said (eqb (next_place way) (suc place)) refl (at_way way (stands_done_at (fewer way) n shard)) (λ e. ap (at_way way) (gone e)) (λ e. ap (at_way way) (same e) ∙ sym was)
        where
          gone : eqb (next_place way) (suc place) ≡ true → stands_done_at (fewer way) n shard ≡ false
          gone e = let is = eqb-true (next_place way) (suc place) e in
              false_from_ne_true (stands_done_at (fewer way) n shard) (λ h. let lt = ltb-true place (next_place (fewer way)) h in let left = some way.done refl in absurd (omega arith))
            where
              some : (d : ℕ) → way.done ≡ d → 1 ≤ way.done
              some zero e = absurd (true≢false (sym (ap (λ d. eqb (d - 1) 0) e) ∙ t))
              some (suc d) e = omega arith

          same : eqb (next_place way) (suc place) ≡ false → stands_done_at (fewer way) n shard ≡ stands_done_at way n shard
          same other = both_ways (stands_done_at (fewer way) n shard) (stands_done_at way n shard)
              (λ h. let lt = ltb-true place (next_place (fewer way)) h in lt-ltb place (next_place way) (omega arith))
              (λ h. let lt = ltb-true place (next_place way) h in
              let ne : next_place way ≢ suc place = λ is. true≢false (sym (eq-eqb (next_place way) (suc place) is) ∙ other) in
              lt-ltb place (next_place (fewer way)) (omega arith))
