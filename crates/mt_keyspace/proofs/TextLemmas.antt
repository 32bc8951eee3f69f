-- The texts that were written, in the order of their keys, are the lists of the dump.
use Rattle.std.proofs.Common.{◌≡◌, ℕ, Option, None, Some, true, false, List, [], ◌∷◌, ◌++◌, codes, map, flat_map, fold, append_assoc, append-nil, refl, sym, ap, ◌∙◌}
use Rattle.std.proofs.lemmas.List.{map-append}
use Rattle.std.specs.List.{AllByRecursion}
use Rattle.mt_names.specs.declared.keys.RuleTarget.{RuleTarget}
use Rattle.mt_names.specs.Keys.{IsRuleTarget, dot, key_text, qualifier_text}
use Rattle.mt_names.specs.Names.{IsKeyspaceName, IsTableName}
use Rattle.mt_names.proofs.KeyLemmas.{read_target-target_text}
use Rattle.mt_model.specs.Documents.{denied_text, denied_texts, marked, put_by_text, quoted, sorted_by_text, sorted_texts}
use Rattle.mt_model.specs.Topology.{Keyspaces, KeyspaceState, Marks}
use Rattle.mt_rules.specs.Written.{quoted_item}
use Rattle.mt_rules.proofs.AscendLemmas.{seconds, sort-map, under}
use Rattle.mt_rules.proofs.PutLemmas.{all-put, of_seconds}
use Rattle.mt_keyspace.specs.Values.{IsDenialText, IsNamedKeyspace, by_themselves}
use Rattle.mt_keyspace.specs.Written.{items_behind, keyspace_item}
use Rattle.mt_keyspace.proofs.LoadLemmas.{all-append}

-- ---- items under their names

module _ {A : Type 0} (name written : A → List ℕ) where
  abbrev pub items : List A → List (List ℕ × List ℕ)
  items xs = map (λ x. (name x, written x)) xs

  named : (xs : List A) → map (under written) (map (λ x. (name x, x)) xs) ≡ items xs
  named [] = refl
  named (x ∷ xs) = ap (λ l. (name x, written x) ∷ l) (named xs)

  pub firsts : (xs : List A) → map (λ x. x.0) (items xs) ≡ map name xs
  firsts [] = refl
  firsts (x ∷ xs) = ap (λ l. name x ∷ l) (firsts xs)

  pub items_sorted : (xs : List A) → map (λ x. x.1) (fold put_by_text [] (items xs)) ≡ map written (sorted_by_text name xs)
  items_sorted xs =
      let pairs = map (λ x. (name x, x)) xs in
      ap (λ l. map (λ x. x.1) (fold put_by_text [] l)) (sym (named xs)) ∙ ap (map (λ x. x.1)) (sym (sort-map written [] pairs)) ∙ seconds written (fold put_by_text [] pairs)

-- ---- what holds of all holds of the sorted

all-sort : {A : Type 0} (P : List ℕ × A → Type 0) (xs left : List (List ℕ × A)) → AllByRecursion P xs → AllByRecursion P left → AllByRecursion P (fold put_by_text xs left)
all-sort P xs [] all rest = all
all-sort P xs (x ∷ left) all rest = all-sort P (put_by_text xs x) left (all-put P xs x rest.0 all) rest.1

all-themselves : (P : List ℕ → Type 0) (texts : List (List ℕ)) → AllByRecursion P texts → AllByRecursion (λ x. P x.1) (by_themselves texts)
all-themselves P [] all = tt
all-themselves P (t ∷ ts) all = (all.0, all-themselves P ts all.1)

pub all-sorted : (P : List ℕ → Type 0) (texts : List (List ℕ)) → AllByRecursion P texts → AllByRecursion P (sorted_texts texts)
all-sorted P texts all = of_seconds P (fold put_by_text [] (by_themselves texts)) (all-sort (λ x. P x.1) [] (by_themselves texts) tt (all-themselves P texts all))

-- ---- a name as a key for all types

pub text_of_name : (keyspace : Option (List ℕ)) (table : List ℕ) → key_text (record { keyspace = keyspace; table = table; tablet_type = None }) ≡ qualifier_text keyspace ++ table
text_of_name None table = simp append-nil
text_of_name (Some k) table = simp append-nil

-- ---- one name after another

-- what the names that are left complete to the whole
pub record AddsNames (before : List ℕ) (old now : List (List ℕ × List ℕ)) (left all : Marks) : Type 0 where
  pub texts : now ++ items_behind before left ≡ old ++ items_behind before all
  pub named : AllByRecursion IsTableName (marked left) → AllByRecursion IsTableName (marked all)

module _ (before : List ℕ) (old : List (List ℕ × List ℕ)) (all : Marks) where
  pub AddsNames-none : AddsNames before old old all all
  AddsNames-none = record { texts = refl; named = λ named. named }

  pub AddsNames-skip : (now : List (List ℕ × List ℕ)) (table : List ℕ) (left : Marks) → AddsNames before old now ((table, false) ∷ left) all → AddsNames before old now left all
  AddsNames-skip now table left a = record { texts = a.texts; named = a.named }

  pub AddsNames-put : (now : List (List ℕ × List ℕ)) (table : List ℕ) (left : Marks) → IsTableName table → AddsNames before old now ((table, true) ∷ left) all
      → AddsNames before old (now ++ quoted_item (before ++ table) ∷ []) left all
  AddsNames-put now table left named a = record { texts = append_assoc now (quoted_item (before ++ table) ∷ []) (items_behind before left) ∙ a.texts; named = λ later. a.named (named, later) }

  pub AddsNames-all : (now : List (List ℕ × List ℕ)) → AddsNames before old now [] all → now ≡ old ++ items_behind before all
  AddsNames-all now a = sym (append-nil now) ∙ a.texts

-- ---- one keyspace after another

pub record WritesKeyspaces (now : List (List ℕ × List ℕ)) (left all : Keyspaces) : Type 0 where
  pub texts : now ++ map keyspace_item left ≡ map keyspace_item all
  pub named : AllByRecursion IsNamedKeyspace left → AllByRecursion IsNamedKeyspace all

pub WritesKeyspaces-none : (all : Keyspaces) → WritesKeyspaces [] all all
WritesKeyspaces-none all = record { texts = refl; named = λ named. named }

pub WritesKeyspaces-put : (now : List (List ℕ × List ℕ)) (k : List ℕ × KeyspaceState) (left all : Keyspaces) → IsNamedKeyspace k → WritesKeyspaces now (k ∷ left) all → WritesKeyspaces (now ++ keyspace_item k ∷ []) left all
WritesKeyspaces-put now k left all named w = record { texts = append_assoc now (keyspace_item k ∷ []) (map keyspace_item left) ∙ w.texts; named = λ later. w.named (named, later) }

pub WritesKeyspaces-all : (now : List (List ℕ × List ℕ)) (all : Keyspaces) → WritesKeyspaces now [] all → now ≡ map keyspace_item all
WritesKeyspaces-all now all w = sym (append-nil now) ∙ w.texts

-- ---- denials of one keyspace after another

pub is_denial : (k t : List ℕ) → IsKeyspaceName k → IsTableName t → IsDenialText (denied_text k t)
is_denial k t keyspace table =
    let target : RuleTarget = record { keyspace = k; table = t } in
    let named : IsRuleTarget target = record { keyspace = keyspace; table = table } in
    (target, named, refl, read_target-target_text target named)

pub are_denials : (k : List ℕ) (ts : List (List ℕ)) → IsKeyspaceName k → AllByRecursion IsTableName ts → AllByRecursion IsDenialText (map (denied_text k) ts)
are_denials k [] keyspace named = tt
are_denials k (t ∷ ts) keyspace named = (is_denial k t keyspace named.0, are_denials k ts keyspace named.1)

pub behind_keyspace : (before k : List ℕ) (ts : List (List ℕ)) → before ≡ k ++ codes "." → map (λ table. quoted_item (before ++ table)) ts ≡ map quoted_item (map (denied_text k) ts)
behind_keyspace before k [] is = refl
behind_keyspace before k (t ∷ ts) is =
    ap (λ text. quoted_item text ∷ map (λ table. quoted_item (before ++ table)) ts) (ap (λ b. b ++ t) is ∙ append_assoc k (dot ∷ []) t) ∙ ap (λ l. quoted_item (denied_text k t) ∷ l) (behind_keyspace before k ts is)

pub record WritesDenials (now : List (List ℕ × List ℕ)) (left all : Keyspaces) : Type 0 where
  pub texts : now ++ map quoted_item (flat_map denied_texts left) ≡ map quoted_item (flat_map denied_texts all)
  pub named : AllByRecursion IsDenialText (flat_map denied_texts left) → AllByRecursion IsDenialText (flat_map denied_texts all)
  pub names : AllByRecursion (λ k. IsKeyspaceName k.0) left → AllByRecursion (λ k. IsKeyspaceName k.0) all

pub WritesDenials-none : (all : Keyspaces) → WritesDenials [] all all
WritesDenials-none all = record { texts = refl; named = λ named. named; names = λ names. names }

pub WritesDenials-put : (now : List (List ℕ × List ℕ)) (k : List ℕ × KeyspaceState) (left all : Keyspaces) → AllByRecursion IsDenialText (denied_texts k) → IsKeyspaceName k.0 → WritesDenials now (k ∷ left) all
    → WritesDenials (now ++ map quoted_item (denied_texts k)) left all
WritesDenials-put now k left all named name w =
    let rest = flat_map denied_texts left in record {
      texts = append_assoc now (map quoted_item (denied_texts k)) (map quoted_item rest) ∙ ap (λ l. now ++ l) (sym (map-append quoted_item (denied_texts k) rest)) ∙ w.texts;
      named = λ later. w.named (all-append IsDenialText (denied_texts k) rest named later);
      names = λ later. w.names (name, later);
    }

pub WritesDenials-all : (now : List (List ℕ × List ℕ)) (all : Keyspaces) → WritesDenials now [] all → now ≡ map quoted_item (flat_map denied_texts all)
WritesDenials-all now all w = sym (append-nil now) ∙ w.texts

-- ---- what was appended in turn for a keyspace

pub keyspace_parts : (start first second third fourth fifth sixth all name shards tables : List ℕ) → start ≡ [] → first ≡ start ++ codes "{\"name\":\"" → second ≡ first ++ name → third ≡ second ++ codes "\",\"shards\":"
    → fourth ≡ third ++ shards → fifth ≡ fourth ++ codes ",\"tables\":" → sixth ≡ fifth ++ tables → all ≡ sixth ++ codes "}"
    → all ≡ 123 ∷ ((quoted (codes "name") ++ 58 ∷ quoted name) ++ 44 ∷ ((quoted (codes "shards") ++ 58 ∷ shards) ++ 44 ∷ (quoted (codes "tables") ++ 58 ∷ tables))) ++ 125 ∷ []
keyspace_parts start first second third fourth fifth sixth all name shards tables none one two three four five six seven =
    seven ∙ ap (λ t. t ++ codes "}") (six ∙ ap (λ t. t ++ tables) (five ∙ ap (λ t. t ++ codes ",\"tables\":") (four ∙ ap (λ t. t ++ shards) (three ∙ ap (λ t. t ++ codes "\",\"shards\":")
    (two ∙ ap (λ t. t ++ name) (one ∙ ap (λ t. t ++ codes "{\"name\":\"") none))))))
    ∙ in_turn (codes "{\"name\":\"") name (codes "\",\"shards\":") shards (codes ",\"tables\":") tables (codes "}") ∙ parts (quoted (codes "name")) name (quoted (codes "shards")) shards (quoted (codes "tables")) tables
  where
    in_turn : (a b c d e f g : List ℕ) → (((((a ++ b) ++ c) ++ d) ++ e) ++ f) ++ g ≡ a ++ (b ++ (c ++ (d ++ (e ++ (f ++ g)))))
    in_turn a b c d e f g = simp append_assoc

    parts : (p n r h s t : List ℕ) → 123 ∷ (p ++ 58 ∷ 34 ∷ (n ++ 34 ∷ 44 ∷ (r ++ 58 ∷ (h ++ 44 ∷ (s ++ 58 ∷ (t ++ 125 ∷ []))))))
        ≡ 123 ∷ ((p ++ 58 ∷ (34 ∷ (n ++ 34 ∷ []))) ++ 44 ∷ ((r ++ 58 ∷ h) ++ 44 ∷ (s ++ 58 ∷ t))) ++ 125 ∷ []
    parts p n r h s t = simp append_assoc
