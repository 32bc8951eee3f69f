-- Keys and targets are read back from their texts, and each has one.
use Rattle.std.proofs.Common.{◌≡◌, ◌≢◌, ℕ, ◌+◌, Bool, true, false, eqb, List, [], ◌∷◌, ◌++◌, length, Option, None, Some, Result, Ok, IsOk, IfSome, ◌↔◌, option_map, refl, sym, ap, subst, ◌∙◌, append_assoc, append-nil, is_ok, length-append, arith}
use Rattle.std.proofs.lemmas.Bool.{true≢false, ne_eqb}
use Rattle.mt_names.specs.declared.fault.NameFault.{NameFault}
use Rattle.mt_names.specs.declared.keys.RuleKey.{RuleKey}
use Rattle.mt_names.specs.declared.keys.RuleTarget.{RuleTarget}
use Rattle.mt_names.specs.declared.text.Alphabet.{Alphabet}
use Rattle.mt_names.specs.declared.text.Alphabet.TheVariants.{Plain, WithDollar}
use Rattle.mt_names.specs.declared.types.TabletType.{TabletType}
use Rattle.mt_names.specs.Keys.{IsRuleKey, IsRuleTarget, IsKeyText, IsTargetText, at_sign, dot, before, after, fault_behind, key_text, qualifier_text, suffix_text, target_text, read_key, read_key_type, read_plain_key, read_target, read_target_parts}
use Rattle.mt_names.specs.Names.{IsName, IsKeyspaceName, IsTableName, allows, read_keyspace, read_table}
use Rattle.mt_names.specs.Types.{type_text, read_type}
use Rattle.mt_names.proofs.CutLemmas.{Lacks, Lacks-append, Lacks-one, before-lacks, after-lacks, before-append, after-append, joined, joined-before}
use Rattle.mt_names.proofs.NameLemmas.{read_name-name, name_from_read}
use Rattle.mt_names.proofs.TypeLemmas.{read_type-type_text, text_from_read_type}
use Rattle.mt_names.proofs.ResultLemmas.{accepts, after_step, Ok-fault_behind}

-- ---- what a name lacks

pub name_lacks : (alphabet : Alphabet) (mark : ℕ) (bytes : List ℕ) → allows alphabet mark ≡ false → IsName alphabet bytes → Lacks mark bytes
name_lacks alphabet mark bytes refused name i h same =
    true≢false (sym (name.each i 0 h) ∙ ap (allows alphabet) same ∙ refused)

dot_not_in_keyspace : (bytes : List ℕ) → IsKeyspaceName bytes → Lacks dot bytes
dot_not_in_keyspace bytes name = name_lacks Plain dot bytes refl name

dot_not_in_table : (bytes : List ℕ) → IsTableName bytes → Lacks dot bytes
dot_not_in_table bytes name = name_lacks WithDollar dot bytes refl name

dot≢at : dot ≢ at_sign
dot≢at same = omega arith

keyspace_lacks_at : (keyspace : List ℕ) → IsKeyspaceName keyspace → Lacks at_sign keyspace
keyspace_lacks_at keyspace name = name_lacks Plain at_sign keyspace refl name

table_lacks_at : (table : List ℕ) → IsTableName table → Lacks at_sign table
table_lacks_at table name = name_lacks WithDollar at_sign table refl name

qualifier_lacks_at : (keyspace : List ℕ) → IsKeyspaceName keyspace → Lacks at_sign (keyspace ++ dot ∷ [])
qualifier_lacks_at keyspace name = Lacks-append at_sign keyspace (dot ∷ []) (keyspace_lacks_at keyspace name) (Lacks-one at_sign dot dot≢at)

-- a key without its type has no `@`
plain_lacks : (keyspace : Option (List ℕ)) (table : List ℕ) → IfSome keyspace IsKeyspaceName → IsTableName table → Lacks at_sign (qualifier_text keyspace ++ table)
plain_lacks None table k t = table_lacks_at table t
plain_lacks (Some keyspace) table k t = Lacks-append at_sign (keyspace ++ dot ∷ []) table (qualifier_lacks_at keyspace k) (table_lacks_at table t)

-- ---- a key is read back

read_target_parts-names : (keyspace table : List ℕ) → IsKeyspaceName keyspace → IsTableName table → read_target_parts keyspace table ≡ Ok (record { keyspace = keyspace; table = table })
read_target_parts-names keyspace table k t = rw (read_name-name Plain keyspace k, read_name-name WithDollar table t) refl

read_plain_key-names : (keyspace : Option (List ℕ)) (table : List ℕ) → IfSome keyspace IsKeyspaceName → IsTableName table
    → read_plain_key (before dot (qualifier_text keyspace ++ table)) (after dot (qualifier_text keyspace ++ table)) ≡ Ok (record { keyspace = keyspace; table = table; tablet_type = None })
read_plain_key-names None table k t =
    let lacks = dot_not_in_table table t in
    rw (before-lacks dot table lacks, after-lacks dot table lacks, read_name-name WithDollar table t) refl
read_plain_key-names (Some keyspace) table k t =
    let lacks = dot_not_in_keyspace keyspace k in
    rw (append_assoc, before-append dot keyspace table lacks, after-append dot keyspace table lacks, read_target_parts-names keyspace table k t) refl

-- what stands before the `@`, and after it
key_cut : (plain : List ℕ) (t : Option TabletType) → Lacks at_sign plain
    → (before at_sign (plain ++ suffix_text t) ≡ plain) × (after at_sign (plain ++ suffix_text t) ≡ option_map type_text t)
key_cut plain None lacks =
    (ap (before at_sign) (append-nil plain) ∙ before-lacks at_sign plain lacks, ap (after at_sign) (append-nil plain) ∙ after-lacks at_sign plain lacks)
key_cut plain (Some t) lacks = (before-append at_sign plain (type_text t) lacks, after-append at_sign plain (type_text t) lacks)

read_key_type-text : (key : RuleKey) (t : Option TabletType) → key.tablet_type ≡ None → read_key_type key (option_map type_text t) ≡ Ok (record key { tablet_type = t })
read_key_type-text key None e = ap Ok (λ i. record key { tablet_type = e i })
read_key_type-text key (Some t) e = rw (read_type-type_text t) refl

-- the text of a key is read as that key
pub read_key-key_text : (key : RuleKey) → IsRuleKey key → read_key (key_text key) ≡ Ok key
read_key-key_text key is =
    let plain : List ℕ = qualifier_text key.keyspace ++ key.table in
    let cut = key_cut plain key.tablet_type (plain_lacks key.keyspace key.table is.keyspace is.table) in
    rw (cut.0, cut.1, read_plain_key-names key.keyspace key.table is.keyspace is.table)
    (read_key_type-text (record { keyspace = key.keyspace; table = key.table; tablet_type = None }) key.tablet_type refl)

-- the text of a target is read as that target
pub read_target-target_text : (target : RuleTarget) → IsRuleTarget target → read_target (target_text target) ≡ Ok target
read_target-target_text target is =
    let lacks = dot_not_in_keyspace target.keyspace is.keyspace in
    let some : eqb (length (target_text target)) 0 ≡ false =
    ne_eqb (length (target_text target)) 0 (λ e. omega (arith, length-append target.keyspace (dot ∷ target.table))) in
    rw (some, before-append dot target.keyspace target.table lacks, after-append dot target.keyspace target.table lacks)
    (read_target_parts-names target.keyspace target.table is.keyspace is.table)

-- ---- what is read is a key, and has one text

target_from_parts : (keyspace table : List ℕ) (target : RuleTarget) → read_target_parts keyspace table ≡ Ok target → IsRuleTarget target × (target_text target ≡ keyspace ++ dot ∷ table)
target_from_parts keyspace table target e =
    let k = after_step (read_keyspace keyspace) _ target e in
    let t = after_step (fault_behind (length keyspace + 1) (read_table table)) _ target k.2 in
    let keyspace_name = name_from_read Plain keyspace k.0 k.1 in
    let table_name = name_from_read WithDollar table t.0 (Ok-fault_behind (length keyspace + 1) (read_table table) t.0 t.1) in
    let whole : record { keyspace = k.0; table = t.0 } ≡ target = cc in
    let parts : record { keyspace = keyspace; table = table } ≡ target = cc in
    subst (λ x. IsRuleTarget x × (target_text x ≡ keyspace ++ dot ∷ table)) parts
    (record { keyspace = keyspace_name.0; table = table_name.0 }, refl)

-- a key without a type, from the two parts of its text
record IsPlainKeyOf (name : List ℕ) (rest : Option (List ℕ)) (key : RuleKey) : Type 0 where
  is : IsRuleKey key
  text : qualifier_text key.keyspace ++ key.table ≡ joined dot name rest
  untyped : key.tablet_type ≡ None

plain_from_read : (name : List ℕ) (rest : Option (List ℕ)) (key : RuleKey) → read_plain_key name rest ≡ Ok key → IsPlainKeyOf name rest key
plain_from_read name None key e =
    let t = after_step (read_table name) _ key e in
    let table_name = name_from_read WithDollar name t.0 t.1 in
    let whole : record { keyspace = None; table = t.0; tablet_type = None } ≡ key = cc in
    let parts : record { keyspace = None; table = name; tablet_type = None } ≡ key = cc in
    subst (IsPlainKeyOf name None) parts
    (record { is = record { keyspace = tt; table = table_name.0 }; text = refl; untyped = refl })
plain_from_read name (Some table) key e =
    let t = after_step (read_target_parts name table) _ key e in
    let target = target_from_parts name table t.0 t.1 in
    let parts : record { keyspace = Some t.0.keyspace; table = t.0.table; tablet_type = None } ≡ key = cc in
    subst (IsPlainKeyOf name (Some table)) parts
    (record {
      is = record { keyspace = target.0.keyspace; table = target.0.table };
      text = append_assoc t.0.keyspace (dot ∷ []) t.0.table ∙ target.1;
      untyped = refl;
    })

-- a key with the type that the word names
record IsTypedKeyOf (before : RuleKey) (plain : List ℕ) (word : Option (List ℕ)) (key : RuleKey) : Type 0 where
  keyspace : key.keyspace ≡ before.keyspace
  table : key.table ≡ before.table
  text : plain ++ suffix_text key.tablet_type ≡ joined at_sign plain word

typed_from_read : (before : RuleKey) (plain : List ℕ) (word : Option (List ℕ)) (key : RuleKey) → read_key_type before word ≡ Ok key → before.tablet_type ≡ None → IsTypedKeyOf before plain word key
typed_from_read before plain None key e untyped =
    let same : before ≡ key = cc in
    subst (IsTypedKeyOf before plain None) same
    (record { keyspace = refl; table = refl; text = ap (λ t. plain ++ suffix_text t) untyped ∙ append-nil plain })
typed_from_read before plain (Some word) key e untyped =
    let t = after_step (read_type word) _ key e in
    let same : record before { tablet_type = Some t.0 } ≡ key = cc in
    subst (IsTypedKeyOf before plain (Some word)) same
    (record { keyspace = refl; table = refl; text = ap (λ w. plain ++ at_sign ∷ w) (sym (text_from_read_type word t.0 t.1)) })

-- what is read is a key, and the text is its only one
pub key_from_read : (text : List ℕ) (key : RuleKey) → read_key text ≡ Ok key → IsRuleKey key × (key_text key ≡ text)
key_from_read text key e =
    let name : List ℕ = before at_sign text in
    let first = after_step (read_plain_key (before dot name) (after dot name)) (λ k. read_key_type k (after at_sign text)) key e in
    let plain = plain_from_read (before dot name) (after dot name) first.0 first.1 in
    let typed = typed_from_read first.0 name (after at_sign text) key first.2 plain.untyped in
    let front : qualifier_text key.keyspace ++ key.table ≡ name =
    (λ i. qualifier_text (typed.keyspace i) ++ typed.table i) ∙ plain.text ∙ joined-before dot name in (
      record {
        keyspace = subst (λ k. IfSome k IsKeyspaceName) (sym typed.keyspace) plain.is.keyspace;
        table = subst IsTableName (sym typed.table) plain.is.table;
      },
      ap (λ p. p ++ suffix_text key.tablet_type) front ∙ typed.text ∙ joined-before at_sign text,
    )

-- what is read is a target, and the text is its only one
pub target_from_read : (text : List ℕ) (target : RuleTarget) → read_target text ≡ Ok target → IsRuleTarget target × (target_text target ≡ text)
target_from_read text target e = by (eqb (length text) 0) refl (after dot text) refl
  where
    by : (t : Bool) → eqb (length text) 0 ≡ t → (rest : Option (List ℕ)) → after dot text ≡ rest → IsRuleTarget target × (target_text target ≡ text)
    by true empty rest at_dot = absurd (let h = rw empty at e in cc)
    by false empty None at_dot = absurd (let h = rw (empty, at_dot) at e in cc)
    by false empty (Some table) at_dot =
        let target_is = target_from_parts (before dot text) table target (rw (empty, at_dot) at e) in
        (target_is.0, target_is.1 ∙ ap (joined dot (before dot text)) (sym at_dot) ∙ joined-before dot text)

-- ---- a text is read exactly where it is one

pub key_accepts : (text : List ℕ) (r : Result RuleKey NameFault) → r ≡ read_key text → IsOk r ↔ IsKeyText text
key_accepts text r e =
    accepts (IsKeyText text) (read_key text) r e (λ key is. let both = key_from_read text key is in (key, both.0, both.1)) (λ is. ap is_ok (ap read_key (sym is.2) ∙ read_key-key_text is.0 is.1))

pub target_accepts : (text : List ℕ) (r : Result RuleTarget NameFault) → r ≡ read_target text → IsOk r ↔ IsTargetText text
target_accepts text r e =
    accepts (IsTargetText text) (read_target text) r e (λ target is. let both = target_from_read text target is in (target, both.0, both.1)) (λ is. ap is_ok (ap read_target (sym is.2) ∙ read_target-target_text is.0 is.1))
