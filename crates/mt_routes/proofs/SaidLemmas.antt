-- What places say after an entry is written, after several, and once what doesn't stand is left out.
use Rattle.std.proofs.Common.{◌≡◌, ◌≢◌, ◌⊎◌, inl, inr, ℕ, zero, suc, ◌<◌, slice_index_or, List, [], ◌∷◌, All, Contains, fold, Option, None, Some, Bool, is_some, unwrap_or, refl, ap, sym, subst, ◌∙◌, arith}
use Rattle.std.proofs.lemmas.List.Elements.{All-head, All-tail, Contains-append_cases}
use Rattle.std.proofs.lemmas.Map.Entries.{lookup-filter-values, option_filter}
use Rattle.std.specs.Cmp.{decided}
use Rattle.std.specs.List.{list_any}
use Rattle.std.specs.Map.{lookup}
use Rattle.mt_names.specs.declared.keys.RuleTarget.{RuleTarget}
use Rattle.mt_names.specs.Names.{same_text}
use Rattle.mt_names.specs.Same.{same_key}
use Rattle.mt_names.proofs.EntryLemmas.{same_or_other}
use Rattle.mt_names.proofs.SameLemmas.{same_key_decides, same_text_decides}
use Rattle.mt_model.specs.declared.entries.Entry.{Entry}
use Rattle.mt_model.specs.declared.entries.Entry.TheVariants as entry
use Rattle.mt_model.specs.declared.entries.EntryKey.{EntryKey}
use Rattle.mt_model.specs.declared.entries.EntryKey.TheVariants as about
use Rattle.mt_model.specs.Topology.{key_of}
use Rattle.mt_routes.specs.LookUp.{said_by}
use Rattle.mt_routes.specs.Places.{Agrees, ArePlaces, PlacesState, are_any, holders_of, is_held, said_in, standing, with_entry, with_holder}
use Rattle.mt_routes.proofs.HolderLemmas.{other-holder, this-holder}
use Rattle.mt_routes.proofs.MapLemmas.{set-elsewhere, set-here}

-- ---- an entry written

-- a table has the keyspaces that were set, and another one those that it had
holders-here : (p : PlacesState) (k t : List ℕ) (mark : Bool) → holders_of (with_entry p (entry.Present k t mark)) t ≡ with_holder (holders_of p t) k mark
holders-here p k t mark = ap (λ o. unwrap_or o []) (set-here same_text same_text_decides p.tables t (with_holder (holders_of p t) k mark))

holders-elsewhere : (p : PlacesState) (k t : List ℕ) (mark : Bool) (w : List ℕ) → t ≢ w → holders_of (with_entry p (entry.Present k t mark)) w ≡ holders_of p w
holders-elsewhere p k t mark w other = ap (λ o. unwrap_or o []) (set-elsewhere same_text same_text_decides p.tables t (with_holder (holders_of p t) k mark) w other)

held-elsewhere : (p : PlacesState) (k t : List ℕ) (mark : Bool) (q w : List ℕ) → (k ≡ q → t ≡ w → ⊥) → is_held (with_entry p (entry.Present k t mark)) q w ≡ is_held p q w
held-elsewhere p k t mark q w other =
    elim (same_or_other same_text same_text_decides t w) [
      | inl same ↦
          subst (λ x. is_held (with_entry p (entry.Present k t mark)) q x ≡ is_held p q x) same
          (ap (list_any (same_text q)) (holders-here p k t mark) ∙ other-holder (holders_of p t) k mark q (λ h. other h same))
      | inr apart ↦ ap (list_any (same_text q)) (holders-elsewhere p k t mark w apart)
    ]

-- it is what is then said at its key, unless it is a denial
said-here : (p : PlacesState) (e : Entry) (routes : List Entry) → said_by routes (key_of e) ≡ e → said_in (with_entry p e) (key_of e) ≡ e
said-here p (entry.Rule k target) routes says = ap (λ o. entry.Rule k (unwrap_or o None)) (set-here same_key same_key_decides p.rules k target)
said-here p (entry.Denied k t mark) routes says = says
said-here p (entry.Present k t mark) routes says =
    ap (entry.Present k t) (ap (list_any (same_text k)) (holders-here p k t mark) ∙ this-holder (holders_of p t) k mark)

-- and nothing else is said of another key
said-elsewhere : (p : PlacesState) (e : Entry) (key : EntryKey) → key ≢ key_of e → said_in (with_entry p e) key ≡ said_in p key
said-elsewhere p (entry.Rule k target) (about.Rule q) other =
    ap (λ o. entry.Rule q (unwrap_or o None)) (set-elsewhere same_key same_key_decides p.rules k target q (λ h. other (ap about.Rule (sym h))))
said-elsewhere p (entry.Rule k target) (about.Denied q w) other = refl
said-elsewhere p (entry.Rule k target) (about.Present q w) other = refl
said-elsewhere p (entry.Denied k t mark) key other = refl
said-elsewhere p (entry.Present k t mark) (about.Rule q) other = refl
said-elsewhere p (entry.Present k t mark) (about.Denied q w) other = refl
said-elsewhere p (entry.Present k t mark) (about.Present q w) other =
    ap (entry.Present q w) (held-elsewhere p k t mark q w (λ h i. other (ap (λ x. about.Present x w) (sym h) ∙ ap (about.Present k) (sym i))))

-- ---- several entries written

same-or-other-key : (a b : EntryKey) → (a ≡ b) ⊎ (a ≢ b)
same-or-other-key (about.Rule k) (about.Rule q) =
    elim (same_or_other same_key same_key_decides k q) [
      | inl same ↦ inl (ap about.Rule same)
      | inr other ↦ inr (λ h. other (cc (h)))
    ]
same-or-other-key (about.Rule k) (about.Denied q w) = inr (λ h. cc (h))
same-or-other-key (about.Rule k) (about.Present q w) = inr (λ h. cc (h))
same-or-other-key (about.Denied k t) (about.Rule q) = inr (λ h. cc (h))
same-or-other-key (about.Denied k t) (about.Denied q w) =
    elim (same_or_other same_text same_text_decides k q) [
      | inl same ↦
          elim (same_or_other same_text same_text_decides t w) [
            | inl alike ↦ inl (ap (λ x. about.Denied x t) same ∙ ap (about.Denied q) alike)
            | inr other ↦ inr (λ h. other (cc (h)))
          ]
      | inr other ↦ inr (λ h. other (cc (h)))
    ]
same-or-other-key (about.Denied k t) (about.Present q w) = inr (λ h. cc (h))
same-or-other-key (about.Present k t) (about.Rule q) = inr (λ h. cc (h))
same-or-other-key (about.Present k t) (about.Denied q w) = inr (λ h. cc (h))
same-or-other-key (about.Present k t) (about.Present q w) =
    elim (same_or_other same_text same_text_decides k q) [
      | inl same ↦
          elim (same_or_other same_text same_text_decides t w) [
            | inl alike ↦ inl (ap (λ x. about.Present x t) same ∙ ap (about.Present q) alike)
            | inr other ↦ inr (λ h. other (cc (h)))
          ]
      | inr other ↦ inr (λ h. other (cc (h)))
    ]

pub key-of-said : (routes : List Entry) (key : EntryKey) → key_of (said_by routes key) ≡ key
key-of-said routes (about.Rule q) = refl
key-of-said routes (about.Denied q w) = refl
key-of-said routes (about.Present q w) = refl

pub none-there : {X : Type 0} (x : X) → Contains [] x → ⊥
none-there x has = omega (arith, has.1)

pub only : {X : Type 0} (x y : X) → Contains (x ∷ []) y → x ≡ y
only x y has = at has.0 has.1 has.2
  where
    at : (k : ℕ) → k < 1 → slice_index_or (x ∷ []) k y ≡ y → x ≡ y
    at zero within is = is
    at (suc k) within is = absurd (omega (arith, within))

-- what is in a list is the first, or among the others
pub split : {X : Type 0} (x y : X) (xs : List X) → Contains (x ∷ xs) y → (x ≡ y) ⊎ Contains xs y
split x y xs has =
    elim (Contains-append_cases (x ∷ []) xs y has) [
      | inl first ↦ inl (only x y first)
      | inr later ↦ inr later
    ]

-- what is said at a key afterwards, where each entry says what these routes say
writes-agree : (es : List Entry) (p : PlacesState) (routes : List Entry) → All (λ e. said_by routes (key_of e) ≡ e) es → (key : EntryKey)
    → (said_in p key ≡ said_by routes key) ⊎ Contains es (said_by routes key) → said_in (fold with_entry p es) key ≡ said_by routes key
writes-agree [] p routes each key (inl is) = is
writes-agree [] p routes each key (inr has) = absurd (none-there (said_by routes key) has)
writes-agree (e ∷ es) p routes each key is =
    writes-agree es (with_entry p e) routes (All-tail (λ x. said_by routes (key_of x) ≡ x) e es each) key (next (same-or-other-key key (key_of e)) is)
  where
    says : said_by routes (key_of e) ≡ e
    says = All-head (λ x. said_by routes (key_of x) ≡ x) e es each

    next : (key ≡ key_of e) ⊎ (key ≢ key_of e) → (said_in p key ≡ said_by routes key) ⊎ Contains (e ∷ es) (said_by routes key)
        → (said_in (with_entry p e) key ≡ said_by routes key) ⊎ Contains es (said_by routes key)
    next (inl same) is = inl (subst (λ k. said_in (with_entry p e) k ≡ said_by routes k) (sym same) (said-here p e routes says ∙ sym says))
    next (inr other) (inl is) = inl (said-elsewhere p e key other ∙ is)
    next (inr other) (inr has) =
        elim (split e (said_by routes key) es has) [
          | inl first ↦ absurd (other (sym (key-of-said routes key) ∙ ap key_of (sym first)))
          | inr later ↦ inr later
        ]

-- places agree with routes, once all is written that they said otherwise
pub agree : (es : List Entry) (p : PlacesState) (routes : List Entry) → All (λ e. said_by routes (key_of e) ≡ e) es
    → ((key : EntryKey) → (said_in p key ≡ said_by routes key) ⊎ Contains es (said_by routes key)) → Agrees (fold with_entry p es) routes
agree es p routes each covers key = writes-agree es p routes each key (covers key)

-- ---- what stands

standing-rule : (o : Option (Option RuleTarget)) → unwrap_or (option_filter is_some o) None ≡ unwrap_or o None
standing-rule None = refl
standing-rule (Some None) = refl
standing-rule (Some (Some target)) = refl

standing-holders : (o : Option (List (List ℕ))) → unwrap_or (option_filter are_any o) [] ≡ unwrap_or o []
standing-holders None = refl
standing-holders (Some []) = refl
standing-holders (Some (k ∷ ks)) = refl

-- what doesn't stand says nothing
pub said-standing : (p : PlacesState) (key : EntryKey) → ArePlaces p → said_in (standing p) key ≡ said_in p key
said-standing p (about.Rule q) are =
    ap (entry.Rule q) (ap (λ o. unwrap_or o None) (lookup-filter-values (decided same_key same_key_decides) is_some q p.rules are.rules) ∙ standing-rule (lookup (same_key q) p.rules))
said-standing p (about.Denied k t) are = refl
said-standing p (about.Present k t) are =
    ap (λ hs. entry.Present k t (list_any (same_text k) hs))
    (ap (λ o. unwrap_or o []) (lookup-filter-values (decided same_text same_text_decides) are_any t p.tables are.tables) ∙ standing-holders (lookup (same_text t) p.tables))
