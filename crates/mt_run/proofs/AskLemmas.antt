-- What a line asks for, once it is read, and once its names are.
use Rattle.std.proofs.Common.{◌≡◌, ℕ, false, true, List, [], ◌++◌, Result, Ok, Err, refl, sym, ap, append_assoc, subst, ◌∙◌}
use Rattle.std.specs.Prelude.{unwrap_or}
use Rattle.arrayvec.specs.ArrayVec.{ArrayVec}
use Rattle.mt_model.specs.declared.entries.Scope.{Scope}
use Rattle.mt_names.specs.declared.fault.NameFault.{NameFault}
use Rattle.mt_names.specs.declared.keys.RuleKey.{RuleKey}
use Rattle.mt_names.specs.declared.keys.RuleTarget.{RuleTarget}
use Rattle.mt_names.specs.declared.types.TabletType.{TabletType}
use Rattle.mt_names.specs.declared.types.TypeSet.{TypeSet}
use Rattle.mt_names.specs.Faults.{fault_text}
use Rattle.mt_names.specs.Keys.{read_key}
use Rattle.mt_names.specs.Names.{read_keyspace, read_workflow}
use Rattle.mt_names.specs.Results.{◌>>=◌}
use Rattle.mt_names.specs.Shards.{KeyRange, read_range}
use Rattle.mt_names.specs.Tables.{names_of, read_table_list}
use Rattle.mt_names.specs.Types.{read_type_set}
use Rattle.mt_plain.specs.Events as plain
use Rattle.mt_plain.specs.Output.{line_feed, refused_text, says, told_line}
use Rattle.mt_plain.specs.Plain.{Plain}
use Rattle.mt_plain.specs.Script.{Command, Request, advance_in, change_at, command, create, drive, event, get_at, read_line, request_of, type_of}
use Rattle.mt_script.specs.declared.lines.LineRefusal.{LineRefusal}
use Rattle.mt_script.specs.declared.lines.LineRefusal.TheVariants as refusal
use Rattle.mt_script.specs.declared.lines.RowAsked.{RowAsked}
use Rattle.mt_script.specs.declared.lines.RowAsked.TheVariants as row
use Rattle.mt_script.specs.declared.lines.WorkflowAsked.{WorkflowAsked}
use Rattle.mt_script.specs.declared.lines.WorkflowAsked.TheVariants as of_workflow
use Rattle.mt_script.specs.Lines.{asked_from, line_refusal_text, op_from, refusal_from, row_from, table_read}
use Rattle.mt_stands.specs.Ways.{CoreStands, CoreState}
use Rattle.mt_workflow.specs.Workflows.{stream_name}
use Rattle.mt_run.specs.declared.line_run.Answered.TheVariants as how
use Rattle.mt_run.specs.Runs.{IsNamed, RunsLine}
use Rattle.mt_run.proofs.RunLemmas.{document_tells_made, fault_waits, line_waits, named_waits}

-- ---- names, one after another

pub then_ok : {A B E : Type 0} (f : A → Result B E) (r : Result A E) (a : A) (whole : Result B E) → Ok a ≡ r → f a ≡ whole → (r >>= f) ≡ whole
then_ok f r a whole read next = ap (λ s. s >>= f) (sym read) ∙ next

pub then_err : {A B E : Type 0} (f : A → Result B E) (r : Result A E) (fault : E) → Err fault ≡ r → (r >>= f) ≡ Err fault
then_err f r fault read = ap (λ s. s >>= f) (sym read)

-- ---- a row of a table of a keyspace

-- the event that asks for it
abbrev pub row_event : RowAsked → RuleTarget → TabletType → plain.Event
row_event (row.Write text) target for_type = plain.write target.keyspace target.table (op_from text)
row_event (row.Read number) target for_type = plain.read target.keyspace target.table number for_type

pub row_asked : (name : List ℕ) (asked : RowAsked) (key : Result RuleKey NameFault) (there : RuleTarget × TabletType) → read_key name ≡ key → Ok there ≡ table_read key
    → request_of (row_from change_at get_at name asked) ≡ Ok (event (row_event asked there.0 there.1))
row_asked name (row.Write text) (Ok key) there reads is =
    let same : there ≡ (record { keyspace = unwrap_or key.keyspace []; table = key.table }, type_of key) = cc in
    then_ok (λ (k : RuleKey). Ok (event (plain.write (unwrap_or k.keyspace []) k.table (op_from text)))) (read_key name) key _ (sym reads)
    (ap (λ (t : RuleTarget × TabletType). Ok (event (plain.write t.0.keyspace t.0.table (op_from text)))) (sym same))
row_asked name (row.Read number) (Ok key) there reads is =
    let same : there ≡ (record { keyspace = unwrap_or key.keyspace []; table = key.table }, type_of key) = cc in
    then_ok (λ (k : RuleKey). Ok (event (plain.read (unwrap_or k.keyspace []) k.table number (type_of k)))) (read_key name) key _ (sym reads)
    (ap (λ (t : RuleTarget × TabletType). Ok (event (plain.read t.0.keyspace t.0.table number t.1))) (sym same))
row_asked name (row.Write text) (Err fault) there reads is = absurd cc
row_asked name (row.Read number) (Err fault) there reads is = absurd cc

pub row_refused : (name : List ℕ) (asked : RowAsked) (key : Result RuleKey NameFault) (fault : NameFault) → read_key name ≡ key → Err fault ≡ table_read key
    → request_of (row_from change_at get_at name asked) ≡ Err fault
row_refused name (row.Write text) (Err other) fault reads is =
    let same : fault ≡ other = cc in
    then_err (λ (k : RuleKey). Ok (event (plain.write (unwrap_or k.keyspace []) k.table (op_from text)))) (read_key name) fault (ap Err same ∙ sym reads)
row_refused name (row.Read number) (Err other) fault reads is =
    let same : fault ≡ other = cc in
    then_err (λ (k : RuleKey). Ok (event (plain.read (unwrap_or k.keyspace []) k.table number (type_of k)))) (read_key name) fault (ap Err same ∙ sym reads)
row_refused name (row.Write text) (Ok key) fault reads is = absurd cc
row_refused name (row.Read number) (Ok key) fault reads is = absurd cc

-- ---- lines

-- the refusal of a line
refused_says : (p : Plain) (r : LineRefusal) → told_line p (refusal_from r) ≡ says (refused_text (line_refusal_text r))
refused_says p refusal.BadLine = refl
refused_says p refusal.TooLong = refl

pub refused_waits : (scopes : List Scope) (p : Plain) (line : List ℕ) (core : CoreState) (waiting waiting' : List ℕ) (r : LineRefusal) → refusal_from r ≡ read_line line → CoreStands p scopes core
    → waiting' ≡ waiting ++ refused_text (line_refusal_text r) ++ line_feed → RunsLine scopes p line core waiting waiting' how.Line
refused_waits scopes p line core waiting waiting' r is stands added =
    let text = refused_text (line_refusal_text r) in
    line_waits scopes p line core waiting waiting' (text ++ line_feed, document_tells_made scopes p line core text stands (sym (ap (told_line p) is) ∙ refused_says p r), added ∙ append_assoc waiting text line_feed)

-- a line whose command's names are read is answered, and one with a fault in a name is as soon as the fault is told
abbrev pub IsLineNamed : List Scope → Plain → (line : List ℕ) → CoreState → (waiting waiting' : List ℕ) → Result Unit NameFault → Type 0
IsLineNamed scopes p line core waiting waiting' (Ok done) = RunsLine scopes p line core waiting waiting' how.Line
IsLineNamed scopes p line core waiting waiting' (Err fault) =
    (more : List ℕ) → more ≡ waiting' ++ refused_text (fault_text fault) ++ line_feed → RunsLine scopes p line core waiting more how.Line

pub line_named : (scopes : List Scope) (p : Plain) (line : List ℕ) (old core : CoreState) (waiting waiting' : List ℕ) (c : Command) (named : Result Unit NameFault) → command c ≡ read_line line
    → CoreStands p scopes old → IsNamed scopes old c waiting waiting' named core → IsLineNamed scopes p line core waiting waiting' named
line_named scopes p line old core waiting waiting' c (Ok done) is stands named = named_waits scopes p line core waiting waiting' c (sym is) old named stands
line_named scopes p line old core waiting waiting' c (Err fault) is stands (wrong, same, none) = λ more added.
    fault_waits scopes p line core waiting more c (sym is) fault wrong (subst (CoreStands p scopes) (sym same) stands) (added ∙ ap (λ (w : List ℕ). w ++ refused_text (fault_text fault) ++ line_feed) none)

-- ---- a workflow that is made

-- the tables that a text lists, as the code has them
pub tables_read : (r : Result (ArrayVec (List ℕ)) NameFault) (text : List ℕ) → names_of r ≡ read_table_list text → (tables : ArrayVec (List ℕ)) → r ≡ Ok tables → Ok tables.items ≡ read_table_list text
tables_read r text reads tables is = sym (ap names_of is) ∙ reads

pub tables_refused : (r : Result (ArrayVec (List ℕ)) NameFault) (text : List ℕ) → names_of r ≡ read_table_list text → (fault : NameFault) → r ≡ Err fault → Err fault ≡ read_table_list text
tables_refused r text reads fault is = sym (ap names_of is) ∙ reads

-- what is asked for once the workflow is read, and then the source, and then the target
abbrev then_tables : (workflow source target tables : List ℕ) → Result Request NameFault
then_tables w s g tables = read_table_list tables >>= λ ts. Ok (event (plain.create w s g ts))

abbrev then_target : (workflow source target tables : List ℕ) → Result Request NameFault
then_target w s target tables = read_keyspace target >>= λ g. then_tables w s g tables

abbrev then_source : (workflow source target tables : List ℕ) → Result Request NameFault
then_source w source target tables = read_keyspace source >>= λ s. then_target w s target tables

module _ (workflow source target tables : List ℕ) where
  pub create_workflow_refused : (fault : NameFault) → Err fault ≡ read_workflow workflow → request_of (create workflow source target tables) ≡ Err fault
  create_workflow_refused fault is = then_err (λ w. then_source w source target tables) (read_workflow workflow) fault is

  module _ (w : List ℕ) (w_is : Ok w ≡ read_workflow workflow) where
    then_w : (whole : Result Request NameFault) → then_source w source target tables ≡ whole → request_of (create workflow source target tables) ≡ whole
    then_w whole next = then_ok (λ n. then_source n source target tables) (read_workflow workflow) w whole w_is next

    pub create_source_refused : (fault : NameFault) → Err fault ≡ read_keyspace source → request_of (create workflow source target tables) ≡ Err fault
    create_source_refused fault is = then_w (Err fault) (then_err (λ s. then_target w s target tables) (read_keyspace source) fault is)

    module _ (s : List ℕ) (s_is : Ok s ≡ read_keyspace source) where
      then_s : (whole : Result Request NameFault) → then_target w s target tables ≡ whole → request_of (create workflow source target tables) ≡ whole
      then_s whole next = then_w whole (then_ok (λ n. then_target w n target tables) (read_keyspace source) s whole s_is next)

      pub create_target_refused : (fault : NameFault) → Err fault ≡ read_keyspace target → request_of (create workflow source target tables) ≡ Err fault
      create_target_refused fault is = then_s (Err fault) (then_err (λ g. then_tables w s g tables) (read_keyspace target) fault is)

      module _ (g : List ℕ) (g_is : Ok g ≡ read_keyspace target) where
        then_g : (whole : Result Request NameFault) → then_tables w s g tables ≡ whole → request_of (create workflow source target tables) ≡ whole
        then_g whole next = then_s whole (then_ok (λ n. then_tables w s n tables) (read_keyspace target) g whole g_is next)

        pub create_tables_refused : (fault : NameFault) → Err fault ≡ read_table_list tables → request_of (create workflow source target tables) ≡ Err fault
        create_tables_refused fault is = then_g (Err fault) (then_err (λ ts. Ok (event (plain.create w s g ts))) (read_table_list tables) fault is)

        pub create_read : (ts : List (List ℕ)) → Ok ts ≡ read_table_list tables → request_of (create workflow source target tables) ≡ Ok (event (plain.create w s g ts))
        create_read ts is = then_g (Ok (event (plain.create w s g ts))) (then_ok (λ n. Ok (event (plain.create w s g n))) (read_table_list tables) ts (Ok (event (plain.create w s g ts))) is refl)

-- ---- what is asked for of a workflow

-- what is asked for, once the workflow is read
abbrev pub request_then : WorkflowAsked → (workflow : List ℕ) → Result Request NameFault
request_then (of_workflow.Advance words) w = read_range words.range.now >>= λ r. Ok (advance_in w (stream_name words.stream) r words.at words.max)
request_then (of_workflow.BeginSwitch types) w = read_type_set types.now >>= λ t. Ok (event (plain.begin_switch w t))
request_then (of_workflow.BeginReverse types) w = read_type_set types.now >>= λ t. Ok (event (plain.begin_reverse w t))
request_then (of_workflow.Step at) w = Ok (event (plain.step w at))
request_then (of_workflow.Undo at) w = Ok (event (plain.undo w at))
request_then (of_workflow.Switch types) w = read_type_set types.now >>= λ t. Ok (drive w t false)
request_then (of_workflow.Reverse types) w = read_type_set types.now >>= λ t. Ok (drive w t true)
request_then of_workflow.Cancel w = Ok (event (plain.cancel w))
request_then of_workflow.Complete w = Ok (event (plain.complete w))
request_then of_workflow.Show w = Ok (event (plain.show w))

asked_then : (name : List ℕ) (asked : WorkflowAsked) → request_of (asked_from name asked) ≡ (read_workflow name >>= request_then asked)
asked_then name (of_workflow.Advance words) = refl
asked_then name (of_workflow.BeginSwitch types) = refl
asked_then name (of_workflow.BeginReverse types) = refl
asked_then name (of_workflow.Step at) = refl
asked_then name (of_workflow.Undo at) = refl
asked_then name (of_workflow.Switch types) = refl
asked_then name (of_workflow.Reverse types) = refl
asked_then name of_workflow.Cancel = refl
asked_then name of_workflow.Complete = refl
asked_then name of_workflow.Show = refl

pub workflow_read : (name : List ℕ) (asked said : WorkflowAsked) (workflow : List ℕ) (request : Request) → asked ≡ said → Ok workflow ≡ read_workflow name → request_then said workflow ≡ Ok request
    → request_of (asked_from name asked) ≡ Ok request
workflow_read name asked said workflow request is read next =
    subst (λ a. request_of (asked_from name a) ≡ Ok request) (sym is) (asked_then name said ∙ then_ok (request_then said) (read_workflow name) workflow (Ok request) read next)

-- and its types
pub types_read : (make : TypeSet → Request) (text : List ℕ) (types : TypeSet) → Ok types ≡ read_type_set text → (read_type_set text >>= λ t. Ok (make t)) ≡ Ok (make types)
types_read make text types is = then_ok (λ t. Ok (make t)) (read_type_set text) types (Ok (make types)) is refl

-- or the range of its shard
pub range_read : (make : KeyRange → Request) (text : List ℕ) (range : KeyRange) → Ok range ≡ read_range text → (read_range text >>= λ r. Ok (make r)) ≡ Ok (make range)
range_read make text range is = then_ok (λ r. Ok (make r)) (read_range text) range (Ok (make range)) is refl
