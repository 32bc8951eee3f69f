-- Lists that are tested alike, and what holds of each element.
use Rattle.std.proofs.Common.{◌≡◌, ℕ, Bool, true, false, cond, List, [], ◌∷◌, ◌++◌, filter, find, flat_map, map, None, Some, refl, sym, ap, subst, ◌∙◌}
use Rattle.std.proofs.lemmas.Bool.{or_left, or_right, true≢false}
use Rattle.std.specs.List.{AllByRecursion, list_any}
use Rattle.mt_names.specs.declared.keys.RuleKey.{RuleKey}
use Rattle.mt_names.specs.declared.types.TabletType.{TabletType}
use Rattle.mt_names.specs.declared.types.TabletType.TheVariants.{Primary, Replica, Rdonly}
use Rattle.mt_names.specs.Names.{same_text}
use Rattle.mt_names.proofs.SameLemmas.{same_text_decides}
use Rattle.mt_model.specs.Part.{table_rule_keys}
use Rattle.std.specs.Prelude.{Option}
use Rattle.mt_laws.proofs.PendingLemmas.{map_same}

-- ---- tests that agree on a list

pub find_same : {X : Type 0} (f g : X → Bool) (xs : List X) → AllByRecursion (λ x. f x ≡ g x) xs → find f xs ≡ find g xs
find_same f g [] each = refl
find_same f g (x ∷ xs) each = ap (λ b. cond b (Some x) (find f xs)) each.0 ∙ ap (cond (g x) (Some x)) (find_same f g xs each.1)

pub filter_same : {X : Type 0} (f g : X → Bool) (xs : List X) → AllByRecursion (λ x. f x ≡ g x) xs → filter f xs ≡ filter g xs
filter_same f g [] each = refl
filter_same f g (x ∷ xs) each = ap (λ b. cond b (x ∷ filter f xs) (filter f xs)) each.0 ∙ ap (λ l. cond (g x) (x ∷ l) l) (filter_same f g xs each.1)

pub filter_all : {X : Type 0} (f : X → Bool) (xs : List X) → AllByRecursion (λ x. f x ≡ true) xs → filter f xs ≡ xs
filter_all f [] each = refl
filter_all f (x ∷ xs) each = ap (λ b. cond b (x ∷ filter f xs) (filter f xs)) each.0 ∙ ap (λ l. x ∷ l) (filter_all f xs each.1)

pub all_more : {X : Type 0} (P Q : X → Type 0) → ((x : X) → P x → Q x) → (xs : List X) → AllByRecursion P xs → AllByRecursion Q xs
all_more P Q more [] each = tt
all_more P Q more (x ∷ xs) each = (more x each.0, all_more P Q more xs each.1)

-- ---- names

pub at_named : (P : List ℕ → Type 0) (names : List (List ℕ)) → AllByRecursion P names → (name : List ℕ) → list_any (λ n. same_text n name) names ≡ true → P name
at_named P [] each name is = absurd (true≢false (sym is))
at_named P (n ∷ ns) each name is = by (at_named P ns each.1 name) (same_text n name) refl
  where
    by : (list_any (λ m. same_text m name) ns ≡ true → P name) → (b : Bool) → same_text n name ≡ b → P name
    by again true b = subst P ((same_text_decides n name).0 b) each.0
    by again false b = again (rw b at is)

-- what holds of each name among some
pub each_named : (P : List ℕ → Type 0) (names : List (List ℕ)) → ((name : List ℕ) → list_any (λ n. same_text n name) names ≡ true → P name) → AllByRecursion P names
each_named P [] each = tt
each_named P (n ∷ ns) each = (
  each n (or_left (same_text n n) (list_any (λ m. same_text m n) ns) ((same_text_decides n n).1 refl)),
  each_named P ns (λ name is. each name (or_right (same_text n name) (list_any (λ m. same_text m name) ns) is)),
)

-- ---- lists that are made alike

pub flat_map_same : {X Y : Type 0} (f g : X → List Y) (xs : List X) → AllByRecursion (λ x. f x ≡ g x) xs → flat_map f xs ≡ flat_map g xs
flat_map_same f g [] each = refl
flat_map_same f g (x ∷ xs) each = ap (λ l. l ++ flat_map f xs) each.0 ∙ ap (λ l. g x ++ l) (flat_map_same f g xs each.1)

-- ---- the twelve keys of a table

pub each_side_key : (P : RuleKey → Type 0) (source target table : List ℕ)
    → ((tablet_type : Option TabletType) → P (record { keyspace = None; table = table; tablet_type = tablet_type }))
    → ((tablet_type : Option TabletType) → P (record { keyspace = Some source; table = table; tablet_type = tablet_type }))
    → ((tablet_type : Option TabletType) → P (record { keyspace = Some target; table = table; tablet_type = tablet_type }))
    → AllByRecursion P (table_rule_keys source target table)
each_side_key P source target table none s t = (
  none None,
  (
    none (Some Primary),
    (
      none (Some Replica),
      (
        none (Some Rdonly),
        (s None, (s (Some Primary), (s (Some Replica), (s (Some Rdonly), (t None, (t (Some Primary), (t (Some Replica), (t (Some Rdonly), tt)))))))),
      ),
    ),
  ),
)

pub each_key : (P : RuleKey → Type 0) (source target table : List ℕ)
    → ((keyspace : Option (List ℕ)) (tablet_type : Option TabletType) → P (record { keyspace = keyspace; table = table; tablet_type = tablet_type }))
    → AllByRecursion P (table_rule_keys source target table)
each_key P source target table each = each_side_key P source target table (each None) (each (Some source)) (each (Some target))
