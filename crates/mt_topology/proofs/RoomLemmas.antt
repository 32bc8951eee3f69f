-- Where there is room for a part, each of its places is made in turn, out of memory aside.
use Rattle.std.proofs.Common.{◌≡◌, inl, inr, fold, ◌⊎◌, ℕ, suc, ◌+◌, ◌<◌, ◌≤◌, ◌==◌, ◌&&◌, ◌||◌, Bool, true, false, not, nat_lt, List, [], ◌∷◌, ◌++◌, map, length, filter, Option, None, Some, is_some, append_assoc, refl, sym, ap, subst, ◌∙◌, arith}
use Rattle.std.proofs.lemmas.Bool.{ltb-false, ne_eqb, true≢false}
use Rattle.std.proofs.lemmas.Grind.{flat_map-append}
use Rattle.std.proofs.lemmas.List.{length-append}
use Rattle.std.proofs.lemmas.List.Folds.{list_any-append}
use Rattle.std.specs.Bool.{Decides}
use Rattle.std.specs.List.{AllByRecursion, flat_map, list_any}
use Rattle.std.specs.Map.{lookup}
use Rattle.std.specs.Option.{option_map_or}
use Rattle.mt_names.specs.declared.keys.RuleKey.{RuleKey}
use Rattle.mt_names.specs.Names.{same_text}
use Rattle.mt_names.specs.Same.{same_key}
use Rattle.mt_names.proofs.EntryLemmas.{other_from, same_itself}
use Rattle.mt_names.proofs.SameLemmas.{same_key_decides, same_text_decides}
use Rattle.mt_names.proofs.BoolLemmas.{both}
use Rattle.mt_model.specs.declared.entries.EntryKey.{EntryKey}
use Rattle.mt_model.specs.declared.entries.EntryKey.TheVariants as about
use Rattle.mt_model.specs.declared.faults.TopologyFault.{TopologyFault}
use Rattle.mt_model.specs.declared.faults.TopologyFault.TheVariants.{NoKeyspace}
use Rattle.mt_model.specs.Limits.{most_rules, most_tables_in_keyspace}
use Rattle.mt_model.specs.Part.{part_keys, table_part_keys, table_rule_keys, with_place}
use Rattle.mt_model.specs.Topology.{TopologyState, Keyspaces, KeyspaceState, Marks, Rules, keyspace_at, with_keyspace_state, with_denied_place, with_rule_place, with_table_place}
use Rattle.mt_model.specs.Order.{key_before}
use Rattle.mt_model.proofs.OrderLemmas.{length-put_by, put_placed-stays, put_placed-there}
use Rattle.mt_model.proofs.PlaceLemmas.{place-push}
use Rattle.mt_model.proofs.TopologyLemmas.{keyspace_at-changed_elsewhere, keyspace_at-changed_here}
use Rattle.mt_rules.specs.Rules.{has_rule_place}
use Rattle.mt_rules.proofs.RulesLemmas.{with_rule_place-new}
use Rattle.mt_keyspace.specs.Edits.{refusal_at}
use Rattle.mt_keyspace.specs.Room.{lacking_marks, mark_place_refusal}
use Rattle.mt_keyspace.proofs.LoadLemmas.{all-append}
use Rattle.mt_topology.specs.Edits.{lacks_rule_place}
use Rattle.mt_topology.specs.Part.{has_part_room, lacking_rules, place_refusal, places_refusal, reserve_refusal}
use Rattle.mt_topology.proofs.ReserveLemmas.{rules_there}

-- ---- how many names lack a place

-- a test that passes no more passes no more often
no_more : {K : Type 0} (p q : K → Bool) → ((x : K) → p x ≡ false → q x ≡ false) → (xs : List K) → length (filter q xs) ≤ length (filter p xs)
no_more p q less [] = omega arith
no_more {K} p q less (x ∷ xs) = by (no_more p q less xs) (p x) refl (q x) refl
  where
    by : length (filter q xs) ≤ length (filter p xs) → (a : Bool) → p x ≡ a → (b : Bool) → q x ≡ b → length (filter q (x ∷ xs)) ≤ length (filter p (x ∷ xs))
    by again true a true b = rw (a, b) (omega (arith, again))
    by again true a false b = rw (a, b) (omega (arith, again))
    by again false a true b = absurd (true≢false (sym b ∙ less x a))
    by again false a false b = rw (a, b) again

module _ {K : Type 0} (same : K → K → Bool) (decides : (a b : K) → Decides (same a b) (a ≡ b)) where
  -- and less often, where one name no longer passes
  less_by_one : (p q : K → Bool) → ((x : K) → p x ≡ false → q x ≡ false) → (k : K) → p k ≡ true → q k ≡ false → (xs : List K) → list_any (same k) xs ≡ true → length (filter q xs) < length (filter p xs)
  less_by_one p q less k passes fails [] e = absurd (true≢false (sym e))
  less_by_one p q less k passes fails (x ∷ xs) e = by (less_by_one p q less k passes fails xs) (same k x) refl (p x) refl (q x) refl
    where
      by : (list_any (same k) xs ≡ true → length (filter q xs) < length (filter p xs)) → (t : Bool) → same k x ≡ t → (a : Bool) → p x ≡ a → (b : Bool) → q x ≡ b → length (filter q (x ∷ xs)) < length (filter p (x ∷ xs))
      by again true t true a true b = absurd (true≢false (sym b ∙ ap q (sym ((decides k x).0 t)) ∙ fails))
      by again true t true a false b = rw (a, b) (let few = no_more p q less xs in omega (arith, few))
      by again true t false a b is = absurd (true≢false (sym passes ∙ ap p ((decides k x).0 t) ∙ a))
      by again false t true a true b = rw (a, b) (let few = again (rw t at e) in omega (arith, few))
      by again false t true a false b = rw (a, b) (let few = again (rw t at e) in omega (arith, few))
      by again false t false a true b = absurd (true≢false (sym b ∙ less x a))
      by again false t false a false b = rw (a, b) (again (rw t at e))

  -- each of some names is among these with others
  each_among : (before ks after : List K) → AllByRecursion (λ k. list_any (same k) (before ++ (ks ++ after)) ≡ true) ks
  each_among before [] after = tt
  each_among before (k ∷ ks) after = (
    list_any-append (same k) before (k ∷ (ks ++ after)) ∙ here (list_any (same k) before),
    subst (λ all. AllByRecursion (λ j. list_any (same j) all ≡ true) ks) (append_assoc before (k ∷ []) (ks ++ after)) (each_among (before ++ k ∷ []) ks after),
  )
    where
      here : (b : Bool) → (b || list_any (same k) (k ∷ (ks ++ after))) ≡ true
      here true = refl
      here false = rw (same_itself same decides k) refl

has_one : (b : Bool) → not b ≡ false → b ≡ true
has_one true e = refl
has_one false e = absurd (true≢false e)

module _ {K V : Type 0} (same : K → K → Bool) (decides : (a b : K) → Decides (same a b) (a ≡ b)) where
  abbrev lacks : List (K × V) → K → Bool
  lacks es k = not (is_some (lookup (same k) es))

  -- a place more leaves one name less that lacks it
  fits-made : (es more : List (K × V)) (k : K) (ks : List K) (most : ℕ) → list_any (same k) ks ≡ true → lacks es k ≡ true → lacks more k ≡ false → ((x : K) → lacks es x ≡ false → lacks more x ≡ false) → length more ≡ suc (length es)
      → length es + length (filter (lacks es) ks) ≤ most → length more + length (filter (lacks more) ks) ≤ most
  fits-made es more k ks most among none made kept longer fits = let less = less_by_one same decides (lacks es) (lacks more) kept k none made ks among in omega (arith, fits, less, longer)

  -- that of a place at the end
  fits-pushed : (es : List (K × V)) (k : K) (blank : V) (ks : List K) (most : ℕ) → list_any (same k) ks ≡ true → length es + length (filter (lacks es) ks) ≤ most
      → length (option_map_or (λ old. es) (lookup (same k) es) (es ++ (k, blank) ∷ [])) + length (filter (lacks (option_map_or (λ old. es) (lookup (same k) es) (es ++ (k, blank) ∷ []))) ks) ≤ most
  fits-pushed es k blank ks most among fits = by (lookup (same k) es) refl
    where
      kept : (x : K) → lacks es x ≡ false → lacks (es ++ (k, blank) ∷ []) x ≡ false
      kept x e = ap not (place-push (same x) es (k, blank) (has_one (is_some (lookup (same x) es)) e))

      last : (xs : List (K × V)) → lacks (xs ++ (k, blank) ∷ []) k ≡ false
      last [] = rw (same_itself same decides k) refl
      last (x ∷ xs) = here (last xs) (same k x.0) refl
        where
          here : lacks (xs ++ (k, blank) ∷ []) k ≡ false → (t : Bool) → same k x.0 ≡ t → lacks (x ∷ (xs ++ (k, blank) ∷ [])) k ≡ false
          here again true t = rw t refl
          here again false t = rw t again

      longer : length (es ++ (k, blank) ∷ []) ≡ suc (length es)
      longer = let is = length-append es ((k, blank) ∷ []) in omega (arith, is)

      by : (r : Option V) → lookup (same k) es ≡ r → length (option_map_or (λ old. es) r (es ++ (k, blank) ∷ [])) + length (filter (lacks (option_map_or (λ old. es) r (es ++ (k, blank) ∷ []))) ks) ≤ most
      by (Some old) some = fits
      by None none = fits-made es (es ++ (k, blank) ∷ []) k ks most among (ap (λ r. not (is_some r)) none) (last es) kept longer fits

  -- where a name lacks a place there is room for it
  room_for_one : (es : List (K × V)) (k : K) (ks : List K) (most : ℕ) → list_any (same k) ks ≡ true → length es + length (filter (lacks es) ks) ≤ most → (lacks es k && (length es == most)) ≡ false
  room_for_one es k ks most among fits = by (lacks es k) refl
    where
      by : (b : Bool) → lacks es k ≡ b → (b && (length es == most)) ≡ false
      by false e = refl
      by true e =
          let some = less_by_one same decides (lacks es) (λ x. false) (λ x f. refl) k e refl ks among in
          ne_eqb (length es) most (λ full. absurd (omega (arith, fits, some, full)))

-- ---- room at a keyspace

abbrev Fits : Marks → List (List ℕ) → Type 0
Fits marks tables = length marks + lacking_marks marks tables ≤ most_tables_in_keyspace

-- the keyspace is there, and has room among the marks that are read
abbrev HasRoomAt : (KeyspaceState → Marks) → Keyspaces → List ℕ → List (List ℕ) → Type 0
HasRoomAt read keyspaces name tables = (state : KeyspaceState) × (keyspace_at keyspaces name ≡ Some state) × Fits (read state) tables

room-changed : (read : KeyspaceState → Marks) (change : KeyspaceState → KeyspaceState) (keyspaces : Keyspaces) (name other : List ℕ) (tables : List (List ℕ)) → ((state : KeyspaceState) → Fits (read state) tables → Fits (read (change state)) tables)
    → HasRoomAt read keyspaces other tables → HasRoomAt read (with_keyspace_state change keyspaces name) other tables
room-changed read change keyspaces name other tables keeps (state, found, fits) = by (same_text name other) refl
  where
    by : (t : Bool) → same_text name other ≡ t → HasRoomAt read (with_keyspace_state change keyspaces name) other tables
    by true t =
        let e : name ≡ other = (same_text_decides name other).0 t in
        (change state, subst (λ n. keyspace_at (with_keyspace_state change keyspaces n) other ≡ Some (change state)) (sym e) (keyspace_at-changed_here change keyspaces other state found), keeps state fits)
    by false f = (state, keyspace_at-changed_elsewhere change keyspaces name other (other_from same_text same_text_decides name other f) ∙ found, fits)

-- ---- room for a part

record HasRoom (t : TopologyState) (source target : List ℕ) (tables : List (List ℕ)) : Type 0 where
  pub rules : length t.rules + lacking_rules t.rules (flat_map (table_rule_keys source target) tables) ≤ most_rules
  pub at_source : HasRoomAt (λ state. state.denied) t.keyspaces source tables
  pub at_target : HasRoomAt (λ state. state.denied) t.keyspaces target tables
  pub for_tables : HasRoomAt (λ state. state.tables) t.keyspaces target tables

-- a key is one of the part
abbrev IsOf : (source target : List ℕ) → List (List ℕ) → EntryKey → Type 0
IsOf source target tables (about.Rule key) = list_any (same_key key) (flat_map (table_rule_keys source target) tables) ≡ true
IsOf source target tables (about.Denied keyspace table) = ((keyspace ≡ source) ⊎ (keyspace ≡ target)) × (list_any (same_text table) tables ≡ true)
IsOf source target tables (about.Present keyspace table) = (keyspace ≡ target) × (list_any (same_text table) tables ≡ true)

-- a rule's place in the order of the keys leaves room likewise
rules_fit : (rules : Rules) (key : RuleKey) (keys : List RuleKey) → list_any (same_key key) keys ≡ true → length rules + lacking_rules rules keys ≤ most_rules → length (with_rule_place rules key) + lacking_rules (with_rule_place rules key) keys ≤ most_rules
rules_fit rules key keys among fits = by (has_rule_place rules key) refl
  where
    kept : (x : RuleKey) → lacks_rule_place rules x ≡ false → lacks_rule_place (with_rule_place rules key) x ≡ false
    kept x e = ap not (put_placed-stays key_before same_key same_key_decides None rules key x (has_one (has_rule_place rules x) e))

    by : (b : Bool) → has_rule_place rules key ≡ b → length (with_rule_place rules key) + lacking_rules (with_rule_place rules key) keys ≤ most_rules
    by true there = subst (λ l. length l + lacking_rules l keys ≤ most_rules) (sym (rules_there rules key there)) fits
    by false none =
        fits-made same_key same_key_decides rules (with_rule_place rules key) key keys most_rules among (ap not none) (ap not (put_placed-there key_before same_key same_key_decides None rules key)) kept
        (ap length (with_rule_place-new rules key none) ∙ length-put_by key_before rules (key, None)) fits

has_room-kept : (t : TopologyState) (source target : List ℕ) (tables : List (List ℕ)) (key : EntryKey) → HasRoom t source target tables → IsOf source target tables key → HasRoom (with_place t key) source target tables
has_room-kept t source target tables (about.Rule key) room is = record {
  rules = rules_fit t.rules key (flat_map (table_rule_keys source target) tables) is room.rules;
  at_source = room.at_source;
  at_target = room.at_target;
  for_tables = room.for_tables;
}
has_room-kept t source target tables (about.Denied keyspace table) room is =
    let keeps : (state : KeyspaceState) → Fits state.denied tables → Fits (with_denied_place table state).denied tables = λ state fits. fits-pushed same_text same_text_decides state.denied table false tables most_tables_in_keyspace is.1 fits in record {
      rules = room.rules;
      at_source = room-changed (λ state. state.denied) (with_denied_place table) t.keyspaces keyspace source tables keeps room.at_source;
      at_target = room-changed (λ state. state.denied) (with_denied_place table) t.keyspaces keyspace target tables keeps room.at_target;
      for_tables = room-changed (λ state. state.tables) (with_denied_place table) t.keyspaces keyspace target tables (λ state fits. fits) room.for_tables;
    }
has_room-kept t source target tables (about.Present keyspace table) room is =
    let keeps : (state : KeyspaceState) → Fits state.tables tables → Fits (with_table_place table state).tables tables = λ state fits. fits-pushed same_text same_text_decides state.tables table false tables most_tables_in_keyspace is.1 fits in record {
      rules = room.rules;
      at_source = room-changed (λ state. state.denied) (with_table_place table) t.keyspaces keyspace source tables (λ state fits. fits) room.at_source;
      at_target = room-changed (λ state. state.denied) (with_table_place table) t.keyspaces keyspace target tables (λ state fits. fits) room.at_target;
      for_tables = room-changed (λ state. state.tables) (with_table_place table) t.keyspaces keyspace target tables keeps room.for_tables;
    }

mark-free : (read : KeyspaceState → Marks) (keyspaces : Keyspaces) (name table : List ℕ) (tables : List (List ℕ)) → HasRoomAt read keyspaces name tables → list_any (same_text table) tables ≡ true
    → option_map_or (λ state. mark_place_refusal (read state) table) (keyspace_at keyspaces name) (Some NoKeyspace) ≡ None
mark-free read keyspaces name table tables (state, found, fits) among = rw (found, room_for_one same_text same_text_decides (read state) table tables most_tables_in_keyspace among fits) refl

-- no key of the part is refused
is_free : (t : TopologyState) (source target : List ℕ) (tables : List (List ℕ)) (key : EntryKey) → HasRoom t source target tables → IsOf source target tables key → place_refusal t key ≡ None
is_free t source target tables (about.Rule key) room is = rw (room_for_one same_key same_key_decides t.rules key (flat_map (table_rule_keys source target) tables) most_rules is room.rules) refl
is_free t source target tables (about.Denied keyspace table) room (inl e, among) = rw e (mark-free (λ state. state.denied) t.keyspaces source table tables room.at_source among)
is_free t source target tables (about.Denied keyspace table) room (inr e, among) = rw e (mark-free (λ state. state.denied) t.keyspaces target table tables room.at_target among)
is_free t source target tables (about.Present keyspace table) room (e, among) = rw e (mark-free (λ state. state.tables) t.keyspaces target table tables room.for_tables among)

all_free : (t : TopologyState) (source target : List ℕ) (tables : List (List ℕ)) (keys : List EntryKey) → HasRoom t source target tables → AllByRecursion (IsOf source target tables) keys → places_refusal t keys ≡ None
all_free t source target tables [] room all = refl
all_free t source target tables (key ∷ keys) room all =
    rw (is_free t source target tables key room all.0) (all_free (with_place t key) source target tables keys (has_room-kept t source target tables key room all.0) all.1)

-- ---- the keys of the part

all-map : {A B : Type 0} (P : B → Type 0) (f : A → B) (xs : List A) → AllByRecursion (λ x. P (f x)) xs → AllByRecursion P (map f xs)
all-map P f [] all = tt
all-map P f (x ∷ xs) all = (all.0, all-map P f xs all.1)

each_is : (source target : List ℕ) (before tables : List (List ℕ)) → AllByRecursion (IsOf source target (before ++ tables)) (part_keys source target tables)
each_is source target before [] = tt
each_is source target before (table ∷ tables) =
    let f = table_rule_keys source target in
    let all = before ++ table ∷ tables in
    let among : list_any (same_text table) all ≡ true = (each_among same_text same_text_decides before (table ∷ []) tables).0 in
    let ruled : AllByRecursion (λ k. list_any (same_key k) (flat_map f all) ≡ true) (f table) =
    subst (λ ks. AllByRecursion (λ k. list_any (same_key k) ks ≡ true) (f table)) (sym (flat_map-append f before (table ∷ tables))) (each_among same_key same_key_decides (flat_map f before) (f table) (flat_map f tables)) in
    all-append (IsOf source target all) (table_part_keys source target table) (part_keys source target tables)
    (all-append (IsOf source target all) (map about.Rule (f table)) (about.Denied source table ∷ about.Denied target table ∷ about.Present target table ∷ [])
    (all-map (IsOf source target all) about.Rule (f table) ruled) ((inl refl, among), ((inr refl, among), ((refl, among), tt))))
    (subst (λ l. AllByRecursion (IsOf source target l) (part_keys source target tables)) (append_assoc before (table ∷ []) tables) (each_is source target (before ++ table ∷ []) tables))

-- ---- the test of a part's room

within : (most n : ℕ) → not (nat_lt most n) ≡ true → n ≤ most
within most n e = by (nat_lt most n) refl e
  where
    by : (t : Bool) → nat_lt most n ≡ t → not t ≡ true → n ≤ most
    by true t e = absurd (true≢false (sym e))
    by false t e = ltb-false most n t

part_room : (t : TopologyState) (source target : List ℕ) (tables : List (List ℕ)) (at_source at_target : KeyspaceState) → keyspace_at t.keyspaces source ≡ Some at_source → keyspace_at t.keyspaces target ≡ Some at_target
    → has_part_room t.rules (flat_map (table_rule_keys source target) tables) at_source at_target tables ≡ true → HasRoom t source target tables
part_room t source target tables at_source at_target here there e =
    let third = both _ _ e in
    let second = both _ _ third.0 in
    let first = both _ _ second.0 in record {
      rules = within most_rules _ first.0;
      at_source = (at_source, here, within most_tables_in_keyspace _ first.1);
      at_target = (at_target, there, within most_tables_in_keyspace _ second.1);
      for_tables = (at_target, there, within most_tables_in_keyspace _ third.1);
    }

-- where a part isn't refused, none of its places is
pub part_free : (t : TopologyState) (source target : List ℕ) (tables : List (List ℕ)) → reserve_refusal t source target tables ≡ None → places_refusal t (part_keys source target tables) ≡ None
part_free t source target tables free = by (keyspace_at t.keyspaces source) refl (keyspace_at t.keyspaces target) refl
  where
    by : (s : Option KeyspaceState) → keyspace_at t.keyspaces source ≡ s → (g : Option KeyspaceState) → keyspace_at t.keyspaces target ≡ g → places_refusal t (part_keys source target tables) ≡ None
    by None none g is = absurd (let h = rw none at free in cc)
    by (Some s) some None none = absurd (let h = rw (some, none) at free in cc)
    by (Some s) here (Some g) there = fits (has_part_room t.rules (flat_map (table_rule_keys source target) tables) s g tables) refl
      where
        fits : (b : Bool) → has_part_room t.rules (flat_map (table_rule_keys source target) tables) s g tables ≡ b → places_refusal t (part_keys source target tables) ≡ None
        fits true e = all_free t source target tables (part_keys source target tables) (part_room t source target tables s g here there e) (each_is source target [] tables)
        fits false e = absurd (let h = rw (here, there, e) at free in cc)

-- ---- one part after another

pub places_refusal-append : (t : TopologyState) (keys more : List EntryKey) → places_refusal t (keys ++ more) ≡ None → (places_refusal t keys ≡ None) × ((now : TopologyState) → now ≡ fold with_place t keys → places_refusal now more ≡ None)
places_refusal-append t [] more free = (refl, λ now is. ap (λ u. places_refusal u more) is ∙ free)
places_refusal-append t (key ∷ keys) more free = by (places_refusal-append (with_place t key) keys more) (place_refusal t key) refl
  where
    by : (places_refusal (with_place t key) (keys ++ more) ≡ None → (places_refusal (with_place t key) keys ≡ None) × ((now : TopologyState) → now ≡ fold with_place (with_place t key) keys → places_refusal now more ≡ None))
        → (r : Option TopologyFault) → place_refusal t key ≡ r → (places_refusal t (key ∷ keys) ≡ None) × ((now : TopologyState) → now ≡ fold with_place t (key ∷ keys) → places_refusal now more ≡ None)
    by again None none = let h = again (rw none at free) in (rw none h.0, h.1)
    by again (Some fault) some = absurd (let h = rw some at free in cc)

-- the first of some keys isn't refused a place, and those after it aren't once it has that
pub first_free : (t : TopologyState) (key : EntryKey) (keys : List EntryKey) → places_refusal t (key ∷ keys) ≡ None → (place_refusal t key ≡ None) × ((now : TopologyState) → now ≡ with_place t key → places_refusal now keys ≡ None)
first_free t key keys free = by (place_refusal t key) refl
  where
    by : (r : Option TopologyFault) → place_refusal t key ≡ r → (place_refusal t key ≡ None) × ((now : TopologyState) → now ≡ with_place t key → places_refusal now keys ≡ None)
    by None none = (none, λ now is. ap (λ u. places_refusal u keys) is ∙ (rw none at free))
    by (Some fault) some = absurd (let h = rw some at free in cc)

-- ---- a keyspace that isn't refused is there

pub is_there : (refusal : KeyspaceState → Option TopologyFault) (keyspaces : Keyspaces) (name : List ℕ) → refusal_at refusal keyspaces name ≡ None → is_some (keyspace_at keyspaces name) ≡ true
is_there refusal keyspaces name free = by (keyspace_at keyspaces name) refl
  where
    by : (r : Option KeyspaceState) → keyspace_at keyspaces name ≡ r → is_some (keyspace_at keyspaces name) ≡ true
    by None none = absurd (let h = rw none at free in cc)
    by (Some state) some = ap is_some some
