-- The code's words for what lines say, and the definitions' words.
use Rattle.std.specs.Prelude.{ℕ, Bool, true, not, ◌==◌, ◌||◌, if◌then◌else◌, List, [], codes, Option, None, Result, Ok, option_and_then, option_map, unwrap_or}
use Rattle.mt_names.specs.declared.fault.NameFault.{NameFault}
use Rattle.mt_names.specs.declared.keys.RuleKey.{RuleKey}
use Rattle.mt_names.specs.declared.keys.RuleTarget.{RuleTarget}
use Rattle.mt_names.specs.declared.types.TabletType.{TabletType}
use Rattle.mt_names.specs.Keys.{after, at_sign, dot}
use Rattle.mt_names.specs.Names.{same_text}
use Rattle.mt_names.specs.Results.{◌>>=◌}
use Rattle.mt_model.specs.declared.rows.Op.{Op}
use Rattle.mt_model.specs.declared.rows.Op.TheVariants.{Insert, Update, Append, Delete}
use Rattle.mt_model.specs.Rows.{RowValue}
use Rattle.mt_plain.specs.Script.{Command, is_for_reads, one_word, read_number, read_value, two_words, type_of}
use Rattle.mt_plain.specs.Script as plain
use Rattle.mt_workflow.specs.Workflows.{stream_name}
use Rattle.mt_script.specs.declared.lines.Line as code
use Rattle.mt_script.specs.declared.lines.Line.TheVariants as line
use Rattle.mt_script.specs.declared.lines.LineRefusal.{LineRefusal}
use Rattle.mt_script.specs.declared.lines.LineRefusal.TheVariants as refusal
use Rattle.mt_script.specs.declared.ops.OpText.{OpText}
use Rattle.mt_script.specs.declared.ops.OpText.TheVariants as op
use Rattle.mt_script.specs.declared.ops.ValueVerb.{ValueVerb}
use Rattle.mt_script.specs.declared.ops.ValueVerb.TheVariants as with
use Rattle.mt_script.specs.declared.commands.RowVerb.{RowVerb}
use Rattle.mt_script.specs.declared.commands.RowVerb.TheVariants as verb
use Rattle.mt_script.specs.declared.lines.RowAsked.{RowAsked}
use Rattle.mt_script.specs.declared.lines.RowAsked.TheVariants as row
use Rattle.mt_script.specs.declared.lines.WorkflowAsked.{WorkflowAsked}
use Rattle.mt_script.specs.declared.lines.WorkflowAsked.TheVariants as of_workflow

-- ---- what a line says

-- what a verb does with a value
abbrev pub op_of : ValueVerb → ℕ → RowValue → Op
op_of with.Insert = Insert
op_of with.Update = Update
op_of with.Append = Append

-- an operation on a row
abbrev pub op_from : OpText → Op
op_from (op.Change verb key value) = op_of verb key value
op_from (op.Delete key) = Delete key

-- what is asked of a row by a name: how a name is written to, and how it is read
abbrev pub row_from : (List ℕ → Op → Command) → (List ℕ → ℕ → Command) → (name : List ℕ) → RowAsked → Command
row_from write read name (row.Write text) = write name (op_from text)
row_from write read name (row.Read number) = read name number

-- what is asked for of a workflow
abbrev pub asked_from : (workflow : List ℕ) → WorkflowAsked → Command
asked_from workflow (of_workflow.Advance words) = plain.advance workflow (stream_name words.stream) words.range.now words.at words.max
asked_from workflow (of_workflow.BeginSwitch types) = plain.begin_switch workflow types.now
asked_from workflow (of_workflow.BeginReverse types) = plain.begin_reverse workflow types.now
asked_from workflow (of_workflow.Step at) = plain.step workflow at
asked_from workflow (of_workflow.Undo at) = plain.undo workflow at
asked_from workflow (of_workflow.Switch types) = plain.switch workflow types.now
asked_from workflow (of_workflow.Reverse types) = plain.reverse workflow types.now
asked_from workflow of_workflow.Cancel = plain.cancel workflow
asked_from workflow of_workflow.Complete = plain.complete workflow
asked_from workflow of_workflow.Show = plain.show workflow

-- a refusal
abbrev pub refusal_from : LineRefusal → plain.Line
refusal_from refusal.BadLine = plain.bad_line
refusal_from refusal.TooLong = plain.line_too_long

-- a line
abbrev pub line_from : code.Line → plain.Line
line_from line.Silent = plain.silent
line_from (line.Refused r) = refusal_from r
line_from (line.Row name asked) = plain.command (row_from plain.change plain.get name.now asked)
line_from (line.At name asked) = plain.command (row_from plain.change_at plain.get_at name asked)
line_from (line.Workflow workflow asked) = plain.command (asked_from workflow.now asked)
line_from (line.Create words) = plain.command (plain.create words.workflow.now words.source.now words.target.now words.tables.now)
line_from (line.Keyspace keyspace shards) = plain.command (plain.keyspace keyspace.now shards.now)
line_from (line.Table keyspace table) = plain.command (plain.table keyspace.now table.now)
line_from (line.Rule key target) = plain.command (plain.rule key.now target.now)
line_from line.Rules = plain.command plain.rules
line_from line.Dump = plain.command plain.dump

-- the refusal of a line as it is printed
abbrev pub line_refusal_text : LineRefusal → List ℕ
line_refusal_text refusal.BadLine = codes "X1 BadLine"
line_refusal_text refusal.TooLong = codes "X2 LineTooLong"

-- ---- how it is read

-- a number and a value, of two words
abbrev pub read_number_and_value : List (List ℕ) → Option (ℕ × RowValue)
read_number_and_value words =
    option_and_then (λ w. option_and_then (λ number. option_map (λ value. (number, value)) (read_value w.1)) (read_number w.0)) (two_words words)

-- an operation with a value
abbrev pub with_value : ValueVerb → List (List ℕ) → Option RowAsked
with_value verb words = option_map (λ w. row.Write (op.Change verb w.0 w.1)) (read_number_and_value words)

-- the number that is the last word
abbrev pub read_last_number : List (List ℕ) → Option ℕ
read_last_number words = option_and_then read_number (one_word words)

-- the word of a verb
abbrev pub verb_text : RowVerb → List ℕ
verb_text (verb.Change with.Insert) = codes "insert"
verb_text (verb.Change with.Update) = codes "update"
verb_text (verb.Change with.Append) = codes "append"
verb_text verb.Delete = codes "delete"
verb_text verb.Get = codes "get"

-- what is asked of a row, by the verb and the words behind the name
abbrev pub read_asked : (verb : List ℕ) → List (List ℕ) → Option RowAsked
read_asked verb words =
    if same_text verb (codes "insert") then with_value with.Insert words
    else if same_text verb (codes "update") then with_value with.Update words
    else if same_text verb (codes "append") then with_value with.Append words
    else if same_text verb (codes "delete") then option_map (λ n. row.Write (op.Delete n)) (read_last_number words)
    else if same_text verb (codes "get") then option_map row.Read (read_last_number words)
    else None

-- whether this may be asked by a name: one for reads isn't written to
abbrev pub may_ask : (name : List ℕ) → RowAsked → Bool
may_ask name (row.Write text) = not (is_for_reads (after at_sign name))
may_ask name (row.Read number) = true

-- the marks of a name: a dot, behind which its table stands, and an at sign, behind which its type stands
abbrev pub is_mark : ℕ → Bool
is_mark byte = (byte == dot) || (byte == at_sign)

-- the table that a qualified name is of, in its keyspace, and the type that it is for
abbrev pub table_read : Result RuleKey NameFault → Result (RuleTarget × TabletType) NameFault
table_read key = key >>= λ k. Ok (record { keyspace = unwrap_or k.keyspace []; table = k.table }, type_of k)
