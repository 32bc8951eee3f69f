-- Places that are dropped, in whatever order: what is left is the same.
use Rattle.std.proofs.Common.{◌≡◌, ℕ, Bool, true, false, cond, List, [], ◌∷◌, ◌++◌, fold, reverse, Option, None, Some, is_some, refl, sym, ap, subst, ◌∙◌}
use Rattle.std.proofs.lemmas.Grind.{flat_map-append}
use Rattle.std.proofs.lemmas.List.{append-nil, reverse-append}
use Rattle.std.proofs.lemmas.List.Sums.{fold-append}
use Rattle.std.specs.Bool.{Decides}
use Rattle.std.specs.List.{flat_map}
use Rattle.std.specs.Map.{remove_entry, set_value}
use Rattle.std.specs.Option.{option_map_or}
use Rattle.mt_names.specs.declared.keys.RuleKey.{RuleKey}
use Rattle.mt_names.specs.declared.keys.RuleTarget.{RuleTarget}
use Rattle.mt_names.specs.Names.{same_text}
use Rattle.mt_names.specs.Same.{same_key}
use Rattle.mt_names.proofs.SameLemmas.{same_key_decides, same_text_decides}
use Rattle.mt_model.specs.declared.entries.EntryKey.{EntryKey}
use Rattle.mt_model.specs.declared.entries.EntryKey.TheVariants as about
use Rattle.mt_model.specs.Part.{part_keys, table_part_keys, without_place, without_places}
use Rattle.mt_model.specs.Topology.{TopologyState, Keyspaces, KeyspaceState, Marks, Rules, is_marked, keyspace_at, rule_at, with_keyspace_state, without_denied_place, without_mark_place, without_rule_place, without_table_place}

-- ---- steps of which two can be turned

module _ {A B : Type 0} (f : B → A → B) (turned : (b : B) (x y : A) → f (f b x) y ≡ f (f b y) x) where
  one_last : (b : B) (x : A) (ys : List A) → fold f (f b x) ys ≡ f (fold f b ys) x
  one_last b x [] = refl
  one_last b x (y ∷ ys) = ap (λ c. fold f c ys) (turned b x y) ∙ one_last (f b y) x ys

  all_last : (b : B) (xs ys : List A) → fold f (fold f b xs) ys ≡ fold f (fold f b ys) xs
  all_last b [] ys = refl
  all_last b (x ∷ xs) ys = all_last (f b x) xs ys ∙ ap (λ c. fold f c xs) (one_last b x ys)

  pub in_reverse : (b : B) (xs : List A) → fold f b (reverse xs) ≡ fold f b xs
  in_reverse b [] = refl
  in_reverse b (x ∷ xs) =
      ap (fold f b) (reverse-append (x ∷ []) xs) ∙ fold-append f b (reverse xs) (x ∷ []) ∙ ap (λ c. f c x) (in_reverse b xs) ∙ sym (one_last b x xs)

-- ---- two places dropped from a list

module _ {K V : Type 0} (same : K → K → Bool) (decides : (a b : K) → Decides (same a b) (a ≡ b)) (keeps : V → Bool) where
  -- without the first entry of the key, unless its value is kept
  abbrev dropped : List (K × V) → K → List (K × V)
  dropped [] k = []
  dropped (e ∷ es) k = cond (same k e.0) (cond (keeps e.1) (e ∷ es) es) (e ∷ dropped es k)

  dropped_turned : (es : List (K × V)) (a b : K) → dropped (dropped es a) b ≡ dropped (dropped es b) a
  dropped_turned [] a b = refl
  dropped_turned (e ∷ es) a b = by (dropped_turned es a b) (same a e.0) refl (same b e.0) refl (keeps e.1) refl
    where
      by : dropped (dropped es a) b ≡ dropped (dropped es b) a → (s : Bool) → same a e.0 ≡ s → (t : Bool) → same b e.0 ≡ t → (u : Bool) → keeps e.1 ≡ u → dropped (dropped (e ∷ es) a) b ≡ dropped (dropped (e ∷ es) b) a
      by again true s true t u v =
          let is : a ≡ b = (decides a e.0).0 s ∙ sym ((decides b e.0).0 t) in
          subst (λ k. dropped (dropped (e ∷ es) a) k ≡ dropped (dropped (e ∷ es) k) a) is refl
      by again true s false t true v = rw (s, v, t, s, v) refl
      by again true s false t false v = rw (s, v, t, s, v) refl
      by again false s true t true v = rw (s, t, v, s) refl
      by again false s true t false v = rw (s, t, v) refl
      by again false s false t u v = rw (s, t, s) (ap (λ l. e ∷ l) again)

rules_dropped : (rules : Rules) (key : RuleKey) → without_rule_place rules key ≡ dropped same_key same_key_decides is_some rules key
rules_dropped [] key = refl
rules_dropped (e ∷ es) key = by (rules_dropped es key) (same_key key e.0) refl
  where
    here : (r : Option RuleTarget) → option_map_or (λ target. e ∷ es) r es ≡ cond (is_some r) (e ∷ es) es
    here None = refl
    here (Some target) = refl

    later : (r : Option RuleTarget) → option_map_or (λ target. e ∷ es) r (e ∷ remove_entry (same_key key) es) ≡ e ∷ option_map_or (λ target. es) r (remove_entry (same_key key) es)
    later None = refl
    later (Some target) = refl

    by : without_rule_place es key ≡ dropped same_key same_key_decides is_some es key → (t : Bool) → same_key key e.0 ≡ t → without_rule_place (e ∷ es) key ≡ dropped same_key same_key_decides is_some (e ∷ es) key
    by again true t = rw t (here e.1)
    by again false t = rw t (later (rule_at es key) ∙ ap (λ l. e ∷ l) again)

marks_dropped : (marks : Marks) (name : List ℕ) → without_mark_place marks name ≡ dropped same_text same_text_decides (λ mark. mark) marks name
marks_dropped [] name = refl
marks_dropped (e ∷ es) name = by (marks_dropped es name) (same_text name e.0) refl
  where
    later : (b : Bool) → cond b (e ∷ es) (e ∷ remove_entry (same_text name) es) ≡ e ∷ cond b es (remove_entry (same_text name) es)
    later true = refl
    later false = refl

    by : without_mark_place es name ≡ dropped same_text same_text_decides (λ mark. mark) es name → (t : Bool) → same_text name e.0 ≡ t → without_mark_place (e ∷ es) name ≡ dropped same_text same_text_decides (λ mark. mark) (e ∷ es) name
    by again true t = rw t refl
    by again false t = rw t (later (is_marked es name) ∙ ap (λ l. e ∷ l) again)

rules_turned : (rules : Rules) (a b : RuleKey) → without_rule_place (without_rule_place rules a) b ≡ without_rule_place (without_rule_place rules b) a
rules_turned rules a b =
    let D : Rules → RuleKey → Rules = dropped same_key same_key_decides is_some in
    rules_dropped (without_rule_place rules a) b ∙ ap (λ l. D l b) (rules_dropped rules a) ∙ dropped_turned same_key same_key_decides is_some rules a b
    ∙ ap (λ l. D l a) (sym (rules_dropped rules b)) ∙ sym (rules_dropped (without_rule_place rules b) a)

marks_turned : (marks : Marks) (a b : List ℕ) → without_mark_place (without_mark_place marks a) b ≡ without_mark_place (without_mark_place marks b) a
marks_turned marks a b =
    let D : Marks → List ℕ → Marks = dropped same_text same_text_decides (λ mark. mark) in
    marks_dropped (without_mark_place marks a) b ∙ ap (λ l. D l b) (marks_dropped marks a) ∙ dropped_turned same_text same_text_decides (λ mark. mark) marks a b
    ∙ ap (λ l. D l a) (sym (marks_dropped marks b)) ∙ sym (marks_dropped (without_mark_place marks b) a)

-- ---- two keyspaces changed, or one twice

-- the first of the name changed
abbrev changed : (KeyspaceState → KeyspaceState) → Keyspaces → List ℕ → Keyspaces
changed change [] name = []
changed change (k ∷ ks) name = cond (same_text name k.0) ((k.0, change k.1) ∷ ks) (k ∷ changed change ks name)

is_changed : (change : KeyspaceState → KeyspaceState) (ks : Keyspaces) (name : List ℕ) → with_keyspace_state change ks name ≡ changed change ks name
is_changed change [] name = refl
is_changed change (k ∷ ks) name = by (is_changed change ks name) (same_text name k.0) refl
  where
    later : (r : Option KeyspaceState) → option_map_or (λ state. k ∷ set_value (same_text name) ks (change state)) r (k ∷ ks) ≡ k ∷ option_map_or (λ state. set_value (same_text name) ks (change state)) r ks
    later None = refl
    later (Some state) = refl

    by : with_keyspace_state change ks name ≡ changed change ks name → (t : Bool) → same_text name k.0 ≡ t → with_keyspace_state change (k ∷ ks) name ≡ changed change (k ∷ ks) name
    by again true t = rw t refl
    by again false t = rw t (later (keyspace_at ks name) ∙ ap (λ l. k ∷ l) again)

module _ (f g : KeyspaceState → KeyspaceState) (turned : (state : KeyspaceState) → g (f state) ≡ f (g state)) where
  changed_turned : (ks : Keyspaces) (a b : List ℕ) → changed g (changed f ks a) b ≡ changed f (changed g ks b) a
  changed_turned [] a b = refl
  changed_turned (k ∷ ks) a b = by (changed_turned ks a b) (same_text a k.0) refl (same_text b k.0) refl
    where
      by : changed g (changed f ks a) b ≡ changed f (changed g ks b) a → (s : Bool) → same_text a k.0 ≡ s → (t : Bool) → same_text b k.0 ≡ t → changed g (changed f (k ∷ ks) a) b ≡ changed f (changed g (k ∷ ks) b) a
      by again true s true t = rw (s, t, s) (ap (λ state. (k.0, state) ∷ ks) (turned k.1))
      by again true s false t = rw (s, t, s) refl
      by again false s true t = rw (s, t, s) refl
      by again false s false t = rw (s, t, s) (ap (λ l. k ∷ l) again)

  keyspaces_turned : (ks : Keyspaces) (a b : List ℕ) → with_keyspace_state g (with_keyspace_state f ks a) b ≡ with_keyspace_state f (with_keyspace_state g ks b) a
  keyspaces_turned ks a b =
      is_changed g (with_keyspace_state f ks a) b ∙ ap (λ l. changed g l b) (is_changed f ks a) ∙ changed_turned ks a b
      ∙ ap (λ l. changed f l a) (sym (is_changed g ks b)) ∙ sym (is_changed f (with_keyspace_state g ks b) a)

-- ---- the places of keys

place_turned : (t : TopologyState) (x y : EntryKey) → without_place (without_place t x) y ≡ without_place (without_place t y) x
place_turned t (about.Rule a) (about.Rule b) = ap (λ rules. record t { rules = rules }) (rules_turned t.rules a b)
place_turned t (about.Rule a) (about.Denied l v) = refl
place_turned t (about.Rule a) (about.Present l v) = refl
place_turned t (about.Denied k u) (about.Rule b) = refl
place_turned t (about.Denied k u) (about.Denied l v) =
    ap (λ keyspaces. record t { keyspaces = keyspaces })
    (keyspaces_turned (without_denied_place u) (without_denied_place v) (λ state. ap (λ marks. record state { denied = marks }) (marks_turned state.denied u v)) t.keyspaces k l)
place_turned t (about.Denied k u) (about.Present l v) =
    ap (λ keyspaces. record t { keyspaces = keyspaces }) (keyspaces_turned (without_denied_place u) (without_table_place v) (λ state. refl) t.keyspaces k l)
place_turned t (about.Present k u) (about.Rule b) = refl
place_turned t (about.Present k u) (about.Denied l v) =
    ap (λ keyspaces. record t { keyspaces = keyspaces }) (keyspaces_turned (without_table_place u) (without_denied_place v) (λ state. refl) t.keyspaces k l)
place_turned t (about.Present k u) (about.Present l v) =
    ap (λ keyspaces. record t { keyspaces = keyspaces })
    (keyspaces_turned (without_table_place u) (without_table_place v) (λ state. ap (λ marks. record state { tables = marks }) (marks_turned state.tables u v)) t.keyspaces k l)

-- ---- the keys of tables, those of the last of them first

module _ (f : TopologyState → EntryKey → TopologyState) (turned : (t : TopologyState) (x y : EntryKey) → f (f t x) y ≡ f (f t y) x) where
  last_first : (t new : TopologyState) (keys last : List EntryKey) → new ≡ fold f t last → fold f new keys ≡ fold f t (keys ++ last)
  last_first t new keys last is = ap (λ u. fold f u keys) is ∙ all_last f turned t last keys ∙ sym (fold-append f t keys last)

  -- the last table that is left, and those before it
  keys_less : (keys_of : List ℕ → List EntryKey) (t now new : TopologyState) (tables left less : List (List ℕ)) (table : List ℕ) (keys : List EntryKey) → left ≡ less ++ table ∷ [] → keys ≡ keys_of table
      → new ≡ fold f now keys → fold f now (flat_map keys_of left) ≡ fold f t (flat_map keys_of tables) → fold f new (flat_map keys_of less) ≡ fold f t (flat_map keys_of tables)
  keys_less keys_of t now new tables left less table keys split all is before =
      let more : flat_map keys_of left ≡ flat_map keys_of less ++ keys =
      ap (flat_map keys_of) split ∙ flat_map-append keys_of less (table ∷ []) ∙ ap (λ k. flat_map keys_of less ++ k) (append-nil (keys_of table) ∙ sym all) in
      last_first now new (flat_map keys_of less) keys is ∙ ap (fold f now) (sym more) ∙ before

-- the places of the last table that is left, and of those before it
pub table_less : (t now new : TopologyState) (source target : List ℕ) (tables left less : List (List ℕ)) (table : List ℕ) (keys : List EntryKey) → left ≡ less ++ table ∷ [] → keys ≡ table_part_keys source target table
    → new ≡ without_places now (reverse keys) → without_places now (part_keys source target left) ≡ without_places t (part_keys source target tables)
    → without_places new (part_keys source target less) ≡ without_places t (part_keys source target tables)
table_less t now new source target tables left less table keys split all is before =
    keys_less without_place place_turned (table_part_keys source target) t now new tables left less table keys split all (is ∙ in_reverse without_place place_turned now keys) before
