-- The topology that is served, as a list of entries, says at each entry what the part says in which the entry lies.
use Rattle.std.proofs.Common.{◌≡◌, ◌⊎◌, inl, inr, ℕ, Bool, true, false, cond, List, [], ◌∷◌, ◌++◌, Option, None, Some, refl, sym, ap, ◌∙◌, subst}
use Rattle.std.specs.Cmp.{both_ways}
use Rattle.std.proofs.Math.Bool.{and-true, and-false}
use Rattle.std.proofs.lemmas.List.Folds.{list_any-append}
use Rattle.std.proofs.lemmas.Bool.{true≢false, false_from_ne_true, and_from, and_parts, or_left, or_right}
use Rattle.std.specs.List.{AllByRecursion, flat_map, fold, list_any}
use Rattle.std.specs.Map.{lookup, remove_entry, set_value}
use Rattle.std.specs.Option.{option_map_or}
use Rattle.std.specs.Prelude.{◌&&◌, ◌||◌, find, is_some, map, option_map, unwrap_or}
use Rattle.mt_names.specs.declared.keys.RuleKey.{RuleKey}
use Rattle.mt_names.specs.declared.keys.RuleTarget.{RuleTarget}
use Rattle.mt_names.specs.declared.types.TabletType.{TabletType}
use Rattle.mt_names.specs.declared.types.TabletType.TheVariants.{Primary, Replica, Rdonly}
use Rattle.mt_names.specs.declared.types.TypeSet.{TypeSet}
use Rattle.mt_names.specs.Names.{same_text}
use Rattle.mt_names.specs.Same.{same_key}
use Rattle.mt_names.proofs.EntryLemmas.{lookup-set_value_elsewhere, lookup-set_value_here, same_itself, apart, same_turned, some_from}
use Rattle.mt_names.proofs.SameLemmas.{same_key_decides, same_text_decides}
use Rattle.mt_model.specs.declared.entries.Entry.TheVariants as entry
use Rattle.mt_model.specs.declared.entries.EntryKey.{EntryKey}
use Rattle.mt_model.specs.declared.entries.EntryKey.TheVariants as about
use Rattle.mt_model.specs.Part.{keys_of_name}
use Rattle.mt_model.specs.Topology.{KeyspaceState, Keyspaces, Marks, Rules, TopologyState, is_denied, is_marked, is_present, keyspace_at, rule_at, value_of, with_keyspace_state}
use Rattle.mt_plain.specs.Plain.{Live, has_part, is_side, moves, rule_keys, twelve_keys}
use Rattle.mt_plain.specs.Serve.{denials_over, keyspaces_over, mark_in, rule_in, rules_over, serve_plain, serve_rule, served_by, types_by, step_of_entry, with_part_at, with_workflow}
use Rattle.mt_laws.specs.Parts.{AreApart, HasSides}
use Rattle.mt_laws.proofs.EntryValueLemmas.{lookup-without as lookup-removed}
use Rattle.mt_laws.proofs.LiveLemmas.{any-in}
use Rattle.mt_laws.proofs.ListLemmas.{append-all, each-mapped, flat_map-all}

-- ---- the rule keys of a part

any-append : {A : Type 0} (p : A → Bool) (xs ys : List A) → (list_any p xs ≡ true) ⊎ (list_any p ys ≡ true) → list_any p (xs ++ ys) ≡ true
any-append p xs ys (inl is) = list_any-append p xs ys ∙ or_left (list_any p xs) (list_any p ys) is
any-append p xs ys (inr is) = list_any-append p xs ys ∙ or_right (list_any p xs) (list_any p ys) is

four-any : {A : Type 0} (p : A → Bool) (a b c d : A) → (p a ≡ true) ⊎ ((p b ≡ true) ⊎ ((p c ≡ true) ⊎ (p d ≡ true))) → list_any p (a ∷ b ∷ c ∷ d ∷ []) ≡ true
four-any p a b c d (inl is) = or_left (p a) (p b || (p c || (p d || false))) is
four-any p a b c d (inr (inl is)) = or_right (p a) (p b || (p c || (p d || false))) (or_left (p b) (p c || (p d || false)) is)
four-any p a b c d (inr (inr (inl is))) = or_right (p a) (p b || (p c || (p d || false))) (or_right (p b) (p c || (p d || false)) (or_left (p c) (p d || false) is))
four-any p a b c d (inr (inr (inr is))) = or_right (p a) (p b || (p c || (p d || false))) (or_right (p b) (p c || (p d || false)) (or_right (p c) (p d || false) (or_left (p d) false is)))

abbrev named_for : Option (List ℕ) → List ℕ → Option TabletType → RuleKey
named_for o table type = record { keyspace = o; table = table; tablet_type = type }

same_named : (o : Option (List ℕ)) (table : List ℕ) (type : Option TabletType) → same_key (named_for o table type) (named_for o table type) ≡ true
same_named o table type = same_itself same_key same_key_decides (named_for o table type)

keys_of_name-any : (o : Option (List ℕ)) (table : List ℕ) (type : Option TabletType) → list_any (same_key (named_for o table type)) (keys_of_name o table) ≡ true
keys_of_name-any o table type =
    four-any (same_key (named_for o table type)) (named_for o table None) (named_for o table (Some Primary)) (named_for o table (Some Replica)) (named_for o table (Some Rdonly)) (place type)
  where
    place : (type : Option TabletType) → (same_key (named_for o table type) (named_for o table None) ≡ true)
        ⊎ ((same_key (named_for o table type) (named_for o table (Some Primary)) ≡ true) ⊎ ((same_key (named_for o table type) (named_for o table (Some Replica)) ≡ true) ⊎ (same_key (named_for o table type) (named_for o table (Some Rdonly)) ≡ true)))
    place None = inl (same_named o table None)
    place (Some Primary) = inr (inl (same_named o table (Some Primary)))
    place (Some Replica) = inr (inr (inl (same_named o table (Some Replica))))
    place (Some Rdonly) = inr (inr (inr (same_named o table (Some Rdonly))))

twelve_keys-any : (w : Live) (o : Option (List ℕ)) (table : List ℕ) (type : Option TabletType) → option_map_or (is_side w) o true ≡ true → list_any (same_key (record { keyspace = o; table = table; tablet_type = type })) (twelve_keys w.source w.target table) ≡ true
twelve_keys-any w None table type side =
    any-append (same_key (named_for None table type)) (keys_of_name None table ++ keys_of_name (Some w.source) table) (keys_of_name (Some w.target) table)
    (inl (any-append (same_key (named_for None table type)) (keys_of_name None table) (keys_of_name (Some w.source) table) (inl (keys_of_name-any None table type))))
twelve_keys-any w (Some keyspace) table type side = by (same_text w.source keyspace) refl
  where
    key : RuleKey
    key = record { keyspace = Some keyspace; table = table; tablet_type = type }

    by : (t : Bool) → same_text w.source keyspace ≡ t → list_any (same_key key) (twelve_keys w.source w.target table) ≡ true
    by true t =
        any-append (same_key key) (keys_of_name None table ++ keys_of_name (Some w.source) table) (keys_of_name (Some w.target) table)
        (inl (any-append (same_key key) (keys_of_name None table) (keys_of_name (Some w.source) table)
        (inr (subst (λ k. list_any (same_key key) (keys_of_name (Some k) table) ≡ true) (sym ((same_text_decides w.source keyspace).0 t)) (keys_of_name-any (Some keyspace) table type)))))
    by false t =
        let at_target : same_text w.target keyspace ≡ true = rw t at side in
        any-append (same_key key) (keys_of_name None table ++ keys_of_name (Some w.source) table) (keys_of_name (Some w.target) table)
        (inr (subst (λ k. list_any (same_key key) (keys_of_name (Some k) table) ≡ true) (sym ((same_text_decides w.target keyspace).0 at_target)) (keys_of_name-any (Some keyspace) table type)))

-- a key of the part is among them
keys-any : (w : Live) (key : RuleKey) (tables : List (List ℕ)) → option_map_or (is_side w) key.keyspace true ≡ true → list_any (λ t. same_text t key.table) tables ≡ true → list_any (same_key key) (flat_map (twelve_keys w.source w.target) tables) ≡ true
keys-any w key [] side moved = absurd (true≢false (sym moved))
keys-any w key (t ∷ ts) side moved = by (keys-any w key ts side) (same_text t key.table) refl
  where
    by : (list_any (λ t. same_text t key.table) ts ≡ true → list_any (same_key key) (flat_map (twelve_keys w.source w.target) ts) ≡ true) → (b : Bool) → same_text t key.table ≡ b → list_any (same_key key) (flat_map (twelve_keys w.source w.target) (t ∷ ts)) ≡ true
    by again true b =
        any-append (same_key key) (twelve_keys w.source w.target t) (flat_map (twelve_keys w.source w.target) ts)
        (inl (subst (λ n. list_any (same_key key) (twelve_keys w.source w.target n) ≡ true) (sym ((same_text_decides t key.table).0 b)) (twelve_keys-any w key.keyspace key.table key.tablet_type side)))
    by again false b =
        any-append (same_key key) (twelve_keys w.source w.target t) (flat_map (twelve_keys w.source w.target) ts) (inr (again (rw b at moved)))

-- and each of them is a key of the part
abbrev OfPart : Live → RuleKey → Type 0
OfPart w key = has_part w (about.Rule key) ≡ true

any-of : {A : Type 0} (P : A → Type 0) (p : A → Bool) (Q : Type 0) (xs : List A) → ((x : A) → P x → p x ≡ true → Q) → AllByRecursion P xs → list_any p xs ≡ true → Q
any-of P p Q [] each all any = absurd (true≢false (sym any))
any-of P p Q (x ∷ xs) each all any = by (any-of P p Q xs each all.1) (p x) refl
  where
    by : (list_any p xs ≡ true → Q) → (t : Bool) → p x ≡ t → Q
    by again true t = each x all.0 t
    by again false t = again (rw t at any)

each_moved : (all tables : List (List ℕ)) → ((t : List ℕ) → list_any (λ s. same_text s t) tables ≡ true → list_any (λ s. same_text s t) all ≡ true) → AllByRecursion (λ t. list_any (λ s. same_text s t) all ≡ true) tables
each_moved all [] each = tt
each_moved all (t ∷ ts) each = (each t (or_left (same_text t t) (list_any (λ s. same_text s t) ts) (same_itself same_text same_text_decides t)), each_moved all ts (λ r is. each r (or_right (same_text t r) (list_any (λ s. same_text s r) ts) is)))

twelve_keys-of : (w : Live) (table : List ℕ) → moves w table ≡ true → AllByRecursion (OfPart w) (twelve_keys w.source w.target table)
twelve_keys-of w table moved =
    append-all (OfPart w) (keys_of_name None table ++ keys_of_name (Some w.source) table) (keys_of_name (Some w.target) table)
    (append-all (OfPart w) (keys_of_name None table) (keys_of_name (Some w.source) table) (named None refl)
    (named (Some w.source) (or_left (same_text w.source w.source) (same_text w.target w.source) (same_itself same_text same_text_decides w.source))))
    (named (Some w.target) (or_right (same_text w.source w.target) (same_text w.target w.target) (same_itself same_text same_text_decides w.target)))
  where
    named : (o : Option (List ℕ)) → option_map_or (is_side w) o true ≡ true → AllByRecursion (OfPart w) (keys_of_name o table)
    named o side =
        each-mapped (OfPart w) (λ type. record { keyspace = o; table = table; tablet_type = type }) (None ∷ Some Primary ∷ Some Replica ∷ Some Rdonly ∷ [])
        (λ type. and_from (moves w table) (option_map_or (is_side w) o true) moved side)

pub key_in_part : (w : Live) (key : RuleKey) → list_any (same_key key) (rule_keys w) ≡ has_part w (about.Rule key)
key_in_part w key = both_ways (list_any (same_key key) (rule_keys w)) (has_part w (about.Rule key)) there back
  where
    of_each : AllByRecursion (OfPart w) (rule_keys w)
    of_each = flat_map-all (λ t. moves w t ≡ true) (OfPart w) (twelve_keys w.source w.target) w.tables (twelve_keys-of w) (each_moved w.tables w.tables (λ t is. is))

    there : list_any (same_key key) (rule_keys w) ≡ true → OfPart w key
    there any = any-of (OfPart w) (same_key key) (OfPart w key) (rule_keys w) (λ k of same. subst (OfPart w) (sym ((same_key_decides key k).0 same)) of) of_each any

    back : OfPart w key → list_any (same_key key) (rule_keys w) ≡ true
    back of =
        let (moved, side) = and_parts (moves w key.table) (option_map_or (is_side w) key.keyspace true) of in
        keys-any w key w.tables side moved

-- ---- rules

lookup-over : (f : RuleKey → Option RuleTarget) (keys : List RuleKey) (rest : Rules) (key : RuleKey) → lookup (same_key key) (map (λ k. (k, f k)) keys ++ rest) ≡ cond (list_any (same_key key) keys) (Some (f key)) (lookup (same_key key) rest)
lookup-over f [] rest key = refl
lookup-over f (k ∷ ks) rest key = by (lookup-over f ks rest key) (same_key key k) refl
  where
    by : lookup (same_key key) (map (λ k. (k, f k)) ks ++ rest) ≡ cond (list_any (same_key key) ks) (Some (f key)) (lookup (same_key key) rest) → (t : Bool) → same_key key k ≡ t → cond t (Some (f k)) (lookup (same_key key) (map (λ k. (k, f k)) ks ++ rest)) ≡ cond (t || list_any (same_key key) ks) (Some (f key)) (lookup (same_key key) rest)
    by again true t = ap (λ j. Some (f j)) (sym ((same_key_decides key k).0 t))
    by again false t = again

lookup-without : (rules : Rules) (keys : List RuleKey) (key : RuleKey) → list_any (same_key key) keys ≡ false → lookup (same_key key) (fold (λ rules key. remove_entry (same_key key) rules) rules keys) ≡ lookup (same_key key) rules
lookup-without rules keys key none =
    lookup-removed same_key same_key_decides keys rules key
    (λ k is e. true≢false (sym (any-in (same_key key) keys k is ((same_key_decides key k).1 (sym e))) ∙ none))

rule_at-over : (u : TopologyState) (w : Live) (key : RuleKey) → rule_at (rules_over u w) key ≡ cond (has_part w (about.Rule key)) (rule_in (served_by u w (about.Rule key))) (rule_at u.rules key)
rule_at-over u w key =
    ap (λ o. unwrap_or o None) (lookup-over served_rule (rule_keys w) without key) ∙ by (list_any (same_key key) (rule_keys w)) refl
    ∙ ap (λ b. cond b (served_rule key) (rule_at u.rules key)) (key_in_part w key)
  where
    served_rule : RuleKey → Option RuleTarget
    served_rule k = rule_in (served_by u w (about.Rule k))

    without : Rules
    without = fold (λ rules k. remove_entry (same_key k) rules) u.rules (rule_keys w)

    by : (t : Bool) → list_any (same_key key) (rule_keys w) ≡ t → unwrap_or (cond (list_any (same_key key) (rule_keys w)) (Some (served_rule key)) (lookup (same_key key) without)) None ≡ cond (list_any (same_key key) (rule_keys w)) (served_rule key) (rule_at u.rules key)
    by true t = rw t refl
    by false t = rw t (ap (λ o. unwrap_or o None) (lookup-without u.rules (rule_keys w) key t))

-- ---- tables and denials

is_marked-over : (f : List ℕ → Bool) (tables : List (List ℕ)) (marks : Marks) (name : List ℕ) → is_marked (map (λ t. (t, f t)) tables ++ marks) name ≡ cond (list_any (λ t. same_text t name) tables) (f name) (is_marked marks name)
is_marked-over f [] marks name = refl
is_marked-over f (t ∷ ts) marks name =
    ap (λ b. unwrap_or (cond b (Some (f t)) (lookup (same_text name) (map (λ t. (t, f t)) ts ++ marks))) false) (same_turned same_text same_text_decides name t) ∙ by (is_marked-over f ts marks name) (same_text t name) refl
  where
    by : is_marked (map (λ t. (t, f t)) ts ++ marks) name ≡ cond (list_any (λ t. same_text t name) ts) (f name) (is_marked marks name) → (b : Bool) → same_text t name ≡ b
        → unwrap_or (cond b (Some (f t)) (lookup (same_text name) (map (λ t. (t, f t)) ts ++ marks))) false ≡ cond (b || list_any (λ t. same_text t name) ts) (f name) (is_marked marks name)
    by again true b = ap f ((same_text_decides t name).0 b)
    by again false b = again

-- a keyspace that is changed, and another one
keyspace_at-changed : (change : KeyspaceState → KeyspaceState) (keyspaces : Keyspaces) (name other : List ℕ) → keyspace_at (with_keyspace_state change keyspaces name) other ≡ cond (same_text name other) (option_map change (keyspace_at keyspaces other)) (keyspace_at keyspaces other)
keyspace_at-changed change keyspaces name other = by (keyspace_at keyspaces name) (same_text name other) refl refl
  where
    by : (o : Option KeyspaceState) (t : Bool) → keyspace_at keyspaces name ≡ o → same_text name other ≡ t → keyspace_at (option_map_or (λ state. set_value (same_text name) keyspaces (change state)) (keyspace_at keyspaces name) keyspaces) other ≡ cond (same_text name other) (option_map change (keyspace_at keyspaces other)) (keyspace_at keyspaces other)
    by None true o t =
        let here : keyspace_at keyspaces other ≡ None = subst (λ n. keyspace_at keyspaces n ≡ None) ((same_text_decides name other).0 t) o in
        rw o (rw t (here ∙ sym (ap (λ x. option_map change x) here)))
    by None false o t = rw o (rw t refl)
    by (Some state) true o t =
        let is : name ≡ other = (same_text_decides name other).0 t in
        let here : keyspace_at keyspaces other ≡ Some state = subst (λ n. keyspace_at keyspaces n ≡ Some state) is o in
        let set : keyspace_at (set_value (same_text name) keyspaces (change state)) other ≡ Some (change state) = subst (λ n. keyspace_at (set_value (same_text name) keyspaces (change state)) n ≡ Some (change state)) is (lookup-set_value_here same_text same_text_decides keyspaces name (change state) state o) in
        rw o (rw t (set ∙ sym (ap (λ x. option_map change x) here)))
    by (Some state) false o t =
        let set : keyspace_at (set_value (same_text name) keyspaces (change state)) other ≡ keyspace_at keyspaces other = lookup-set_value_elsewhere same_text same_text_decides keyspaces name other (change state) (λ e. true≢false (sym ((same_text_decides name other).1 e) ∙ t)) in
        rw o (rw t set)

module _ (u : TopologyState) (w : Live) (sides : HasSides u w) where
  abbrev at_target : KeyspaceState → KeyspaceState
  at_target state = with_part_at u w w.target (map (λ t. (t, true)) w.tables) state

  abbrev at_source : KeyspaceState → KeyspaceState
  at_source state = with_part_at u w w.source [] state

  -- the source, the target, and each other keyspace
  keyspace_at-over : (name : List ℕ) → keyspace_at (keyspaces_over u w) name ≡ cond (same_text w.target name) (option_map at_target (keyspace_at u.keyspaces name)) (cond (same_text w.source name) (option_map at_source (keyspace_at u.keyspaces name)) (keyspace_at u.keyspaces name))
  keyspace_at-over name =
      keyspace_at-changed at_target (with_keyspace_state at_source u.keyspaces w.source) w.target name ∙ by (same_text w.target name) refl
    where
      inner : keyspace_at (with_keyspace_state at_source u.keyspaces w.source) name ≡ cond (same_text w.source name) (option_map at_source (keyspace_at u.keyspaces name)) (keyspace_at u.keyspaces name)
      inner = keyspace_at-changed at_source u.keyspaces w.source name

      by : (t : Bool) → same_text w.target name ≡ t → cond t (option_map at_target (keyspace_at (with_keyspace_state at_source u.keyspaces w.source) name)) (keyspace_at (with_keyspace_state at_source u.keyspaces w.source) name) ≡ cond t (option_map at_target (keyspace_at u.keyspaces name)) (cond (same_text w.source name) (option_map at_source (keyspace_at u.keyspaces name)) (keyspace_at u.keyspaces name))
      by true t =
          let not_source : same_text w.source name ≡ false = false_from_ne_true (same_text w.source name) (λ e. sides.apart ((same_text_decides w.source name).0 e ∙ sym ((same_text_decides w.target name).0 t))) in
          ap (λ o. option_map at_target o) (inner ∙ ap (λ b. cond b (option_map at_source (keyspace_at u.keyspaces name)) (keyspace_at u.keyspaces name)) not_source)
      by false t = inner

  some_at : (name side : List ℕ) → is_some (keyspace_at u.keyspaces side) ≡ true → same_text side name ≡ true → (s : KeyspaceState) × (keyspace_at u.keyspaces name ≡ Some s)
  some_at name side has same = some_from (keyspace_at u.keyspaces name) (subst (λ n. is_some (keyspace_at u.keyspaces n) ≡ true) ((same_text_decides side name).0 same) has)

  is_denied-over : (keyspace table : List ℕ) → is_denied (keyspaces_over u w) keyspace table ≡ cond (has_part w (about.Denied keyspace table)) (mark_in (served_by u w (about.Denied keyspace table))) (is_denied u.keyspaces keyspace table)
  is_denied-over keyspace table =
      ap (λ o. option_map_or (λ state. is_marked state.denied table) o false) (keyspace_at-over keyspace) ∙ by (same_text w.target keyspace) (same_text w.source keyspace) refl refl
    where
      said : (side : List ℕ) (s : KeyspaceState) → side ≡ keyspace → is_marked (denials_over u w side ++ s.denied) table ≡ cond (moves w table) (mark_in (served_by u w (about.Denied keyspace table))) (is_marked s.denied table)
      said side s is = subst (λ k. is_marked (denials_over u w k ++ s.denied) table ≡ cond (moves w table) (mark_in (served_by u w (about.Denied keyspace table))) (is_marked s.denied table)) (sym is) (is_marked-over (λ t. mark_in (served_by u w (about.Denied keyspace t))) w.tables s.denied table)

      denied_in : Option KeyspaceState → Bool
      denied_in o = option_map_or (λ state. is_marked state.denied table) o false

      -- a side that is there
      of_side : (side : List ℕ) (change : KeyspaceState → KeyspaceState) (s : KeyspaceState) → side ≡ keyspace → (keyspace_at u.keyspaces keyspace) ≡ Some s → ((same_text w.source keyspace) || (same_text w.target keyspace)) ≡ true → (change s).denied ≡ denials_over u w side ++ s.denied → denied_in (option_map change (keyspace_at u.keyspaces keyspace)) ≡ cond (moves w table && ((same_text w.source keyspace) || (same_text w.target keyspace))) (mark_in (served_by u w (about.Denied keyspace table))) (denied_in (keyspace_at u.keyspaces keyspace))
      of_side side change s is found one made =
          ap (λ o. denied_in (option_map change o)) found ∙ ap (λ m. is_marked m table) made ∙ said side s is ∙ ap (λ o. cond (moves w table) (mark_in (served_by u w (about.Denied keyspace table))) (denied_in o)) (sym found)
          ∙ ap (λ b. cond b (mark_in (served_by u w (about.Denied keyspace table))) (denied_in (keyspace_at u.keyspaces keyspace))) (sym (ap (λ b. moves w table && b) one ∙ and-true (moves w table)))

      by : (t s : Bool) → (same_text w.target keyspace) ≡ t → (same_text w.source keyspace) ≡ s → denied_in (cond (same_text w.target keyspace) (option_map at_target (keyspace_at u.keyspaces keyspace)) (cond (same_text w.source keyspace) (option_map at_source (keyspace_at u.keyspaces keyspace)) (keyspace_at u.keyspaces keyspace))) ≡ cond (moves w table && ((same_text w.source keyspace) || (same_text w.target keyspace))) (mark_in (served_by u w (about.Denied keyspace table))) (denied_in (keyspace_at u.keyspaces keyspace))
      by true s t s' =
          let (there, found) = some_at keyspace w.target sides.target t in
          ap (λ b. denied_in (cond b (option_map at_target (keyspace_at u.keyspaces keyspace)) (cond (same_text w.source keyspace) (option_map at_source (keyspace_at u.keyspaces keyspace)) (keyspace_at u.keyspaces keyspace)))) t
          ∙ of_side w.target at_target there ((same_text_decides w.target keyspace).0 t) found (or_right (same_text w.source keyspace) (same_text w.target keyspace) t) refl
      by false true t s =
          let (there, found) = some_at keyspace w.source sides.source s in
          ap (λ b. denied_in (cond b (option_map at_target (keyspace_at u.keyspaces keyspace)) (cond (same_text w.source keyspace) (option_map at_source (keyspace_at u.keyspaces keyspace)) (keyspace_at u.keyspaces keyspace)))) t
          ∙ ap (λ b. denied_in (cond b (option_map at_source (keyspace_at u.keyspaces keyspace)) (keyspace_at u.keyspaces keyspace))) s ∙ of_side w.source at_source there ((same_text_decides w.source keyspace).0 s) found (or_left (same_text w.source keyspace) (same_text w.target keyspace) s) refl
      by false false t s =
          ap (λ b. denied_in (cond b (option_map at_target (keyspace_at u.keyspaces keyspace)) (cond (same_text w.source keyspace) (option_map at_source (keyspace_at u.keyspaces keyspace)) (keyspace_at u.keyspaces keyspace)))) t
          ∙ ap (λ b. denied_in (cond b (option_map at_source (keyspace_at u.keyspaces keyspace)) (keyspace_at u.keyspaces keyspace))) s
          ∙ sym (ap (λ b. cond (moves w table && (b || (same_text w.target keyspace))) (mark_in (served_by u w (about.Denied keyspace table))) (denied_in (keyspace_at u.keyspaces keyspace))) s ∙ ap (λ b. cond (moves w table && b) (mark_in (served_by u w (about.Denied keyspace table))) (denied_in (keyspace_at u.keyspaces keyspace))) t ∙ ap (λ b. cond b (mark_in (served_by u w (about.Denied keyspace table))) (denied_in (keyspace_at u.keyspaces keyspace))) (and-false (moves w table)))

  is_present-over : (keyspace table : List ℕ) → is_present (keyspaces_over u w) keyspace table ≡ cond (has_part w (about.Present keyspace table)) true (is_present u.keyspaces keyspace table)
  is_present-over keyspace table =
      ap present_in (keyspace_at-over keyspace) ∙ by (same_text w.target keyspace) (same_text w.source keyspace) refl refl
    where
      present_in : Option KeyspaceState → Bool
      present_in o = option_map_or (λ state. is_marked state.tables table) o false

      by : (t s : Bool) → same_text w.target keyspace ≡ t → same_text w.source keyspace ≡ s → present_in (cond (same_text w.target keyspace) (option_map at_target (keyspace_at u.keyspaces keyspace)) (cond (same_text w.source keyspace) (option_map at_source (keyspace_at u.keyspaces keyspace)) (keyspace_at u.keyspaces keyspace)))
          ≡ cond (moves w table && same_text w.target keyspace) true (present_in (keyspace_at u.keyspaces keyspace))
      by true s t s' =
          let (state, found) = some_at keyspace w.target sides.target t in
          rw t (rw found (is_marked-over (λ t. true) w.tables state.tables table ∙ ap (λ b. cond b true (is_marked state.tables table)) (sym (and-true (moves w table)))))
      by false true t s =
          let (state, found) = some_at keyspace w.source sides.source s in
          rw t (rw s (rw found (sym (ap (λ b. cond b true (is_marked state.tables table)) (and-false (moves w table))))))
      by false false t s = rw t (rw s (sym (ap (λ b. cond b true (present_in (keyspace_at u.keyspaces keyspace))) (and-false (moves w table)))))

  pub value_of-over : (key : EntryKey) → value_of (with_workflow u w) key ≡ cond (has_part w key) (served_by u w key) (value_of u key)
  value_of-over (about.Rule key) = ap (λ r. entry.Rule key r) (rule_at-over u w key) ∙ by (has_part w (about.Rule key))
    where
      by : (t : Bool) → entry.Rule key (cond t (rule_in (served_by u w (about.Rule key))) (rule_at u.rules key)) ≡ cond t (served_by u w (about.Rule key)) (value_of u (about.Rule key))
      by true = refl
      by false = refl
  value_of-over (about.Denied keyspace table) = ap (λ m. entry.Denied keyspace table m) (is_denied-over keyspace table) ∙ by (has_part w (about.Denied keyspace table))
    where
      by : (t : Bool) → entry.Denied keyspace table (cond t (mark_in (served_by u w (about.Denied keyspace table))) (is_denied u.keyspaces keyspace table)) ≡ cond t (served_by u w (about.Denied keyspace table)) (value_of u (about.Denied keyspace table))
      by true = refl
      by false = refl
  value_of-over (about.Present keyspace table) = ap (λ m. entry.Present keyspace table m) (is_present-over keyspace table) ∙ by (has_part w (about.Present keyspace table))
    where
      by : (t : Bool) → entry.Present keyspace table (cond t true (is_present u.keyspaces keyspace table)) ≡ cond t (served_by u w (about.Present keyspace table)) (value_of u (about.Present keyspace table))
      by true = refl
      by false = refl

  -- the keyspaces stay
  keyspace-stays : (name : List ℕ) → is_some (keyspace_at (keyspaces_over u w) name) ≡ is_some (keyspace_at u.keyspaces name)
  keyspace-stays name = ap (λ o. is_some o) (keyspace_at-over name) ∙ by (same_text w.target name) (same_text w.source name) (keyspace_at u.keyspaces name)
    where
      by : (t s : Bool) (o : Option KeyspaceState) → is_some (cond t (option_map at_target o) (cond s (option_map at_source o) o)) ≡ is_some o
      by true s None = refl
      by true s (Some state) = refl
      by false true None = refl
      by false true (Some state) = refl
      by false false o = refl

  sides-stay : (v : Live) → HasSides u v → HasSides (with_workflow u w) v
  sides-stay v has = record { source = keyspace-stays v.source ∙ has.source; target = keyspace-stays v.target ∙ has.target; apart = has.apart }

  all-sides-stay : (vs : List Live) → AllByRecursion (HasSides u) vs → AllByRecursion (HasSides (with_workflow u w)) vs
  all-sides-stay [] all = tt
  all-sides-stay (v ∷ vs) all = (sides-stay v all.0, all-sides-stay vs all.1)

-- ---- several workflows

-- what a part serves looks no further than the entry itself
serve_rule-same : (u t : TopologyState) (v : Live) (types : TypeSet) (key : RuleKey) (type : Option TabletType) → rule_at t.rules key ≡ rule_at u.rules key → serve_rule t v types key type ≡ serve_rule u v types key type
serve_rule-same u t v types key None same = by key.keyspace
  where
    by : (o : Option (List ℕ)) → serve_plain t v types key o ≡ serve_plain u v types key o
    by None = refl
    by (Some keyspace) = rw same refl
serve_rule-same u t v types key (Some Primary) same = refl
serve_rule-same u t v types key (Some Replica) same = refl
serve_rule-same u t v types key (Some Rdonly) same = refl

served_by-same : (u t : TopologyState) (v : Live) (key : EntryKey) → value_of t key ≡ value_of u key → served_by t v key ≡ served_by u v key
served_by-same u t v (about.Rule key) same =
    ap (λ r. entry.Rule key r) (serve_rule-same u t v (types_by v (step_of_entry v (about.Rule key))) key key.tablet_type (ap rule_in same))
served_by-same u t v (about.Denied keyspace table) same = refl
served_by-same u t v (about.Present keyspace table) same = refl

-- no other workflow has the entry
found-none : (key : EntryKey) (ws : List Live) → AllByRecursion (λ v. has_part v key ≡ false) ws → find (λ v. has_part v key) ws ≡ None
found-none key [] none = refl
found-none key (v ∷ vs) none = rw none.0 (found-none key vs none.1)

apart-at : (w : Live) (key : EntryKey) (ws : List Live) → has_part w key ≡ true → AllByRecursion (λ v. (k : EntryKey) → has_part w k ≡ true → has_part v k ≡ false) ws → AllByRecursion (λ v. has_part v key ≡ false) ws
apart-at w key [] has all = tt
apart-at w key (v ∷ vs) has all = (all.0 key has, apart-at w key vs has all.1)

served-same : (u t : TopologyState) (key : EntryKey) (o : Option Live) → value_of t key ≡ value_of u key → option_map_or (λ v. served_by t v key) o (value_of t key) ≡ option_map_or (λ v. served_by u v key) o (value_of u key)
served-same u t key None same = same
served-same u t key (Some v) same = served_by-same u t v key same

pub value_of-served : (ws : List Live) (u : TopologyState) → AllByRecursion (HasSides u) ws → AreApart ws → (key : EntryKey) → value_of (fold with_workflow u ws) key ≡ option_map_or (λ v. served_by u v key) (find (λ v. has_part v key) ws) (value_of u key)
value_of-served [] u sides apart key = refl
value_of-served (w ∷ ws) u sides apart key =
    value_of-served ws (with_workflow u w) (all-sides-stay u w sides.0 ws sides.1) apart.1 key ∙ by (has_part w key) refl
  where
    t : TopologyState
    t = with_workflow u w

    is : value_of t key ≡ cond (has_part w key) (served_by u w key) (value_of u key)
    is = value_of-over u w sides.0 key

    by : (b : Bool) → has_part w key ≡ b → option_map_or (λ v. served_by t v key) (find (λ v. has_part v key) ws) (value_of t key) ≡ option_map_or (λ v. served_by u v key) (cond (has_part w key) (Some w) (find (λ v. has_part v key) ws)) (value_of u key)
    by true b =
        ap (λ o. option_map_or (λ v. served_by t v key) o (value_of t key)) (found-none key ws (apart-at w key ws b apart.0)) ∙ is
        ∙ ap (λ c. cond c (served_by u w key) (value_of u key)) b ∙ sym (ap (λ c. option_map_or (λ v. served_by u v key) (cond c (Some w) (find (λ v. has_part v key) ws)) (value_of u key)) b)
    by false b =
        served-same u t key (find (λ v. has_part v key) ws) (is ∙ ap (λ c. cond c (served_by u w key) (value_of u key)) b)
        ∙ sym (ap (λ c. option_map_or (λ v. served_by u v key) (cond c (Some w) (find (λ v. has_part v key) ws)) (value_of u key)) b)
