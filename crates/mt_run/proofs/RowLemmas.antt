-- A row that is asked for by a name is answered where the name leads.
use Rattle.std.proofs.Common.{◌≡◌, ℕ, true, false, List, ◌++◌, Some, Option, Result, Ok, Err, is_ok, refl, sym, ap, subst, ◌∙◌}
use Rattle.std.proofs.lemmas.Bool.{true≢false}
use Rattle.mt_event.specs.declared.reason.Reason.{Reason}
use Rattle.mt_event.specs.Reasons.{done_by}
use Rattle.mt_model.specs.declared.entries.Scope.{Scope}
use Rattle.mt_model.specs.declared.faults.TopologyFault.{TopologyFault}
use Rattle.mt_model.specs.declared.rows.Op.{Op}
use Rattle.mt_model.specs.Rows.{RowValue}
use Rattle.mt_model.specs.Topology.{resolution}
use Rattle.mt_names.proofs.CutLemmas.{Lacks, after-lacks, before-lacks}
use Rattle.mt_names.proofs.NameLemmas.{name_from_read}
use Rattle.mt_names.specs.declared.fault.NameFault.{NameFault}
use Rattle.mt_names.specs.declared.keys.RuleKey.{RuleKey}
use Rattle.mt_names.specs.declared.text.Alphabet.TheVariants.{WithDollar}
use Rattle.mt_names.specs.declared.types.TabletType.{TabletType}
use Rattle.mt_names.specs.declared.types.TabletType.TheVariants.{Primary}
use Rattle.mt_names.specs.Faults.{fault_text}
use Rattle.mt_names.specs.Keys.{at_sign, dot, read_key}
use Rattle.mt_names.specs.Names.{IsTableName, allows, read_table}
use Rattle.mt_names.specs.Results.{◌>>=◌}
use Rattle.mt_plain.specs.Events as plain
use Rattle.mt_plain.specs.Output.{line_feed, refused_text, told_request}
use Rattle.mt_plain.specs.Plain.{Plain}
use Rattle.mt_plain.specs.Script.{Command, change, get, read_through, request_of, type_of, write_through}
use Rattle.mt_plain.specs.Serve.{served}
use Rattle.mt_site.specs.ByHand.{read_from}
use Rattle.mt_stands.specs.Ways.{CoreStands, CoreState}
use Rattle.mt_run.specs.Names.{plain_key}
use Rattle.mt_run.specs.Rows.{ReadThrough, WrittenThrough}
use Rattle.mt_run.specs.Runs.{Tells, through_text}
use Rattle.mt_run.proofs.RunLemmas.{through_told}

-- ---- names

lacks : (name : List ℕ) → IsTableName name → (mark : ℕ) → allows WithDollar mark ≡ false → Lacks mark name
lacks name named mark refused i h e = true≢false (sym (named.each i 0 h) ∙ ap (allows WithDollar) e ∙ refused)

table_reads : (name : List ℕ) → IsTableName name → read_table name ≡ Ok name → read_key name ≡ Ok (plain_key name)
table_reads name named reads =
    let no_type = lacks name named at_sign refl in
    let no_keyspace = lacks name named dot refl in
    rw (before-lacks at_sign name no_type, after-lacks at_sign name no_type, before-lacks dot name no_keyspace, after-lacks dot name no_keyspace, reads) refl

-- a table's name alone is its key
pub table_key : (name : List ℕ) → true ≡ is_ok (read_table name) → read_key name ≡ Ok (plain_key name)
table_key name reads = by (read_table name) refl
  where
    by : (r : Result (List ℕ) NameFault) → read_table name ≡ r → read_key name ≡ Ok (plain_key name)
    by (Ok read) e = let both = name_from_read WithDollar name read e in table_reads name both.0 (e ∙ ap Ok both.1)
    by (Err fault) e = absurd (true≢false (reads ∙ ap is_ok e))

-- ---- answers

module _ (scopes : List Scope) (p : Plain) (old new : CoreState) (stands : CoreStands p scopes old) (name : List ℕ) where
  pub write_told : (op : Op) (key : RuleKey) (told : Result (Result Unit Reason) TopologyFault) → read_key name ≡ Ok key → WrittenThrough old key op told new
      → Tells scopes p (told_request p (request_of (change name op))) (Some (through_text done_by told)) new
  write_told op key told reads written =
      let ask : (keyspace table : List ℕ) → plain.Event = λ keyspace table. plain.write keyspace table op in
      subst (λ r. Tells scopes p (told_request p (r >>= λ k. Ok (write_through k op))) (Some (through_text done_by told)) new) (sym reads)
      (through_told _ scopes p old new (resolution (served p) key Primary) ask done_by told _ refl (written scopes p stands) (λ same. subst (CoreStands p scopes) (sym same) stands) stands)

  pub read_told : (number : ℕ) (key : RuleKey) (for_type : TabletType) (told : Result (Result (Option RowValue) Reason) TopologyFault) → new ≡ old → read_key name ≡ Ok key → for_type ≡ type_of key → ReadThrough old key number for_type told
      → Tells scopes p (told_request p (request_of (get name number))) (Some (through_text read_from told)) new
  read_told number key for_type told same reads is read =
      let ask : (keyspace table : List ℕ) → plain.Event = λ keyspace table. plain.read keyspace table number for_type in
      subst (Tells scopes p (told_request p (request_of (get name number))) (Some (through_text read_from told))) (sym same)
      (subst (λ r. Tells scopes p (told_request p (r >>= λ k. Ok (read_through k number (type_of k)))) (Some (through_text read_from told)) old) (sym reads)
      (subst (λ t. Tells scopes p (told_request p (Ok (read_through key number t))) (Some (through_text read_from told)) old) is
      (through_told _ scopes p old old (resolution (served p) key for_type) ask read_from told _ refl (read scopes p stands) (λ stays. stands) stands)))

  -- the fault of a name
  pub fault_told : (c : Command) (fault : NameFault) → request_of c ≡ Err fault → Tells scopes p (told_request p (request_of c)) (Some (refused_text (fault_text fault) ++ line_feed)) old
  fault_told c fault is = subst (λ r. Tells scopes p (told_request p r) (Some (refused_text (fault_text fault) ++ line_feed)) old) (sym is) (refl, stands)
