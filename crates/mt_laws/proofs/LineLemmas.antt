-- What a line asks for: no text of it has a line feed, and so none that it tells.
use Rattle.std.proofs.Common.{ℕ, ◌+◌, true, false, cond, eqb, List, [], ◌∷◌, ◌++◌, length, Option, None, Some, Result, Ok, Err, unwrap_or, refl}
use Rattle.std.specs.List.{AllByRecursion, ends_with, list_any, slice_split}
use Rattle.std.specs.Prelude.{⊤, nat_eq, nat_lt, not}
use Rattle.mt_names.specs.declared.fault.NameFault.{NameFault}
use Rattle.mt_names.specs.declared.fault.NameFault.TheVariants as name
use Rattle.mt_names.specs.declared.keys.RuleKey.{RuleKey}
use Rattle.mt_names.specs.declared.keys.RuleTarget.{RuleTarget}
use Rattle.mt_names.specs.declared.text.Alphabet.{Alphabet}
use Rattle.mt_names.specs.declared.text.Alphabet.TheVariants.{Plain as PlainBytes, WithDollar}
use Rattle.mt_names.specs.declared.types.TabletType.TheVariants.{Primary}
use Rattle.mt_names.specs.Faults.{fault_text}
use Rattle.mt_names.specs.Keys.{after, at_sign, before, dot, fault_behind, read_dotted, read_key, read_key_type, read_plain_key, read_target, read_target_parts}
use Rattle.mt_names.specs.Names.{bad_place, dash, longest_name, read_keyspace, read_name, read_table, read_workflow, reverse_suffix, same_text, unless_bad, unless_reserved}
use Rattle.mt_names.specs.Results.{◌>>=◌}
use Rattle.mt_names.specs.Shards.{KeyRange, cuts_behind, cuts_of_ranges, is_open, is_range, most_shards, place_of_range, range_from, read_range, read_ranges_after, read_shards, shard_count, with_range}
use Rattle.mt_names.specs.Tables.{most_tables, read_table_list, read_tables_after, with_table, with_word}
use Rattle.mt_names.specs.Types.{comma, read_type, read_type_set}
use Rattle.mt_model.specs.declared.faults.TopologyFault.{TopologyFault}
use Rattle.mt_model.specs.declared.faults.TopologyFault.TheVariants as topology
use Rattle.mt_model.specs.Faults.{topology_fault_text}
use Rattle.mt_model.specs.Topology.{resolution}
use Rattle.mt_plain.specs.Drive.{Driving, begins}
use Rattle.mt_plain.specs.Events.{Event, Refusal, write, read}
use Rattle.mt_plain.specs.Events as core
use Rattle.mt_plain.specs.Output.{Told, nothing, says, asks, drives, asked_in, asked_there, refused_text, told_line, told_request}
use Rattle.mt_plain.specs.Plain.{Live, Plain, live_at}
use Rattle.mt_plain.specs.Refuse.{shard_of_range}
use Rattle.mt_plain.specs.Script.{Command, keyspace, table, rule, change, get, change_at, get_at, create, advance, begin_switch, begin_reverse, step, undo, switch, reverse, cancel, complete, show, rules, dump, Line, silent, command, bad_line, line_too_long, Request, event, write_through, read_through, advance_in, drive, rules_document, dump_document, read_rule_target, request_of, type_of}
use Rattle.mt_plain.specs.Serve.{served}
use Rattle.mt_laws.proofs.CleanLemmas.{CleanEvent, CleanKey, CleanOp, CleanTarget, IsClean, served-clean}
use Rattle.mt_laws.proofs.DocumentLemmas.{dump_text-no_feed, rules_text-no_feed}
use Rattle.mt_laws.proofs.ListLemmas.{OfSome, append-all, cond-either}
use Rattle.mt_laws.proofs.TextLemmas.{NoFeed, no_feed-cons, no_feed-first, no_feed-nil, no_feed-others, no_feed-slice_split}
use Rattle.mt_laws.proofs.WordLemmas.{CleanCommand, Speaks}

-- ---- what is read of a text

-- what holds of the value, unless there is a fault
abbrev pub OfOk : {A : Type 0} → (A → Type 0) → Result A NameFault → Type 0
OfOk P (Ok x) = P x
OfOk P (Err fault) = ⊤

then-of : {A B : Type 0} (P : A → Type 0) (Q : B → Type 0) (r : Result A NameFault) (f : A → Result B NameFault) → OfOk P r → ((x : A) → P x → OfOk Q (f x)) → OfOk Q (r >>= f)
then-of P Q (Ok x) f of each = each x of
then-of P Q (Err fault) f of each = tt

-- whatever is read
then-each : {A B : Type 0} (Q : B → Type 0) (r : Result A NameFault) (f : A → Result B NameFault) → ((x : A) → OfOk Q (f x)) → OfOk Q (r >>= f)
then-each Q (Ok x) f each = each x
then-each Q (Err fault) f each = tt

read_name-of : (alphabet : Alphabet) (bytes : List ℕ) → NoFeed bytes → OfOk NoFeed (read_name alphabet bytes)
read_name-of alphabet bytes none =
    cond-either (OfOk NoFeed) (eqb (length bytes) 0) (Err name.Empty) (cond (nat_lt longest_name (length bytes)) (Err name.TooLong) (unless_bad bytes (bad_place alphabet bytes))) tt
    (cond-either (OfOk NoFeed) (nat_lt longest_name (length bytes)) (Err name.TooLong) (unless_bad bytes (bad_place alphabet bytes)) tt (by (bad_place alphabet bytes)))
  where
    by : (o : Option ℕ) → OfOk NoFeed (unless_bad bytes o)
    by None = none
    by (Some place) = tt

read_workflow-of : (bytes : List ℕ) → NoFeed bytes → OfOk NoFeed (read_workflow bytes)
read_workflow-of bytes none = by (read_name PlainBytes bytes) (read_name-of PlainBytes bytes none)
  where
    by : (r : Result (List ℕ) NameFault) → OfOk NoFeed r → OfOk NoFeed (unless_reserved r)
    by (Ok n) of = cond-either (OfOk NoFeed) (ends_with nat_eq n reverse_suffix) (Err name.ReservedSuffix) (Ok n) tt of
    by (Err fault) of = tt

before-no_feed : (mark : ℕ) (bytes : List ℕ) → NoFeed bytes → NoFeed (before mark bytes)
before-no_feed mark [] none = no_feed-nil
before-no_feed mark (b ∷ bs) none =
    cond-either NoFeed (eqb b mark) [] (b ∷ before mark bs) no_feed-nil
    (no_feed-cons b (before mark bs) (no_feed-first b bs none) (before-no_feed mark bs (no_feed-others b bs none)))

after-no_feed : (mark : ℕ) (bytes : List ℕ) → NoFeed bytes → OfSome NoFeed (after mark bytes)
after-no_feed mark [] none = tt
after-no_feed mark (b ∷ bs) none =
    cond-either (OfSome NoFeed) (eqb b mark) (Some bs) (after mark bs) (no_feed-others b bs none) (after-no_feed mark bs (no_feed-others b bs none))

fault_behind-of : {A : Type 0} (P : A → Type 0) (front : ℕ) (r : Result A NameFault) → OfOk P r → OfOk P (fault_behind front r)
fault_behind-of P front (Ok x) of = of
fault_behind-of P front (Err fault) of = tt

read_target_parts-of : (k t : List ℕ) → NoFeed k → NoFeed t → OfOk CleanTarget (read_target_parts k t)
read_target_parts-of k t first second =
    then-of NoFeed CleanTarget (read_keyspace k) (λ k'. fault_behind (length k + 1) (read_table t) >>= λ t'. Ok (record { keyspace = k'; table = t' })) (read_name-of PlainBytes k first)
    (λ k' is. then-of NoFeed CleanTarget (fault_behind (length k + 1) (read_table t)) (λ t'. Ok (record { keyspace = k'; table = t' }))
    (fault_behind-of NoFeed (length k + 1) (read_table t) (read_name-of WithDollar t second)) (λ t' is'. record { keyspace = is; table = is' }))

read_plain_key-of : (t : List ℕ) (o : Option (List ℕ)) → NoFeed t → OfSome NoFeed o → OfOk CleanKey (read_plain_key t o)
read_plain_key-of t None first second =
    then-of NoFeed CleanKey (read_table t) (λ t'. Ok (record { keyspace = None; table = t'; tablet_type = None })) (read_name-of WithDollar t first) (λ t' is. record { keyspace = tt; table = is })
read_plain_key-of k (Some t) first second =
    then-of CleanTarget CleanKey (read_target_parts k t) (λ target. Ok (record { keyspace = Some target.keyspace; table = target.table; tablet_type = None })) (read_target_parts-of k t first second)
    (λ target is. record { keyspace = is.keyspace; table = is.table })

read_key_type-of : (key : RuleKey) (o : Option (List ℕ)) → CleanKey key → OfOk CleanKey (read_key_type key o)
read_key_type-of key None is = is
read_key_type-of key (Some word) is = then-each CleanKey (read_type word) (λ t. Ok (record key { tablet_type = Some t })) (λ t. record { keyspace = is.keyspace; table = is.table })

read_key-of : (text : List ℕ) → NoFeed text → OfOk CleanKey (read_key text)
read_key-of text none =
    let word = before at_sign text in
    let front = before-no_feed at_sign text none in
    then-of CleanKey CleanKey (read_plain_key (before dot word) (after dot word)) (λ key. read_key_type key (after at_sign text))
    (read_plain_key-of (before dot word) (after dot word) (before-no_feed dot word front) (after-no_feed dot word front))
    (λ key is. read_key_type-of key (after at_sign text) is)

read_target-of : (text : List ℕ) → NoFeed text → OfOk CleanTarget (read_target text)
read_target-of text none =
    cond-either (OfOk CleanTarget) (eqb (length text) 0) (Err name.Empty) (read_dotted (before dot text) (after dot text)) tt
    (by (after dot text) (after-no_feed dot text none))
  where
    by : (o : Option (List ℕ)) → OfSome NoFeed o → OfOk CleanTarget (read_dotted (before dot text) o)
    by None of = tt
    by (Some t) of = read_target_parts-of (before dot text) t (before-no_feed dot text none) of

read_rule_target-of : (text : List ℕ) → NoFeed text → OfOk (OfSome CleanTarget) (read_rule_target text)
read_rule_target-of text none =
    cond-either (OfOk (OfSome CleanTarget)) (same_text text (dash ∷ [])) (Ok None) (read_target text >>= λ target. Ok (Some target)) tt
    (then-of CleanTarget (OfSome CleanTarget) (read_target text) (λ target. Ok (Some target)) (read_target-of text none) (λ target is. is))

with_table-of : (names : List (List ℕ)) (n : List ℕ) → AllByRecursion NoFeed names → NoFeed n → OfOk (AllByRecursion NoFeed) (with_table names n)
with_table-of names n all none =
    cond-either (OfOk (AllByRecursion NoFeed)) (eqb (length names) most_tables) (Err name.TooMany) (cond (list_any (λ other. same_text other n) names) (Err name.Repeated) (Ok (names ++ n ∷ []))) tt
    (cond-either (OfOk (AllByRecursion NoFeed)) (list_any (λ other. same_text other n) names) (Err name.Repeated) (Ok (names ++ n ∷ [])) tt (append-all NoFeed names (n ∷ []) all (none, tt)))

read_tables_after-of : (words names : List (List ℕ)) (front : ℕ) → AllByRecursion NoFeed names → AllByRecursion NoFeed words → OfOk (AllByRecursion NoFeed) (read_tables_after names front words)
read_tables_after-of [] names front all none = all
read_tables_after-of (word ∷ words) names front all none =
    then-of (AllByRecursion NoFeed) (AllByRecursion NoFeed) (with_word names front word) (λ more. read_tables_after more (front + length word + 1) words)
    (then-of NoFeed (AllByRecursion NoFeed) (fault_behind front (read_table word)) (with_table names) (fault_behind-of NoFeed front (read_table word) (read_name-of WithDollar word none.0)) (λ n is. with_table-of names n all is))
    (λ more is. read_tables_after-of words more (front + length word + 1) is none.1)

read_table_list-of : (text : List ℕ) → NoFeed text → OfOk (AllByRecursion NoFeed) (read_table_list text)
read_table_list-of text none =
    cond-either (OfOk (AllByRecursion NoFeed)) (same_text text (dash ∷ [])) (Ok []) (read_tables_after [] 0 (slice_split (λ byte. eqb byte comma) text)) tt
    (read_tables_after-of (slice_split (λ byte. eqb byte comma) text) [] 0 tt (no_feed-slice_split (λ byte. eqb byte comma) text none))

-- ---- shards

pub record CleanRange (range : KeyRange) : Type 0 where
  pub start : NoFeed range.start
  pub end : NoFeed range.end

range_from-of : (start : List ℕ) (o : Option (List ℕ)) → NoFeed start → OfSome NoFeed o → OfOk CleanRange (range_from start o)
range_from-of start None first second = tt
range_from-of start (Some end) first second =
    cond-either (OfOk CleanRange) (is_range (record { start = start; end = end })) (Ok (record { start = start; end = end })) (Err name.BadRange) (record { start = first; end = second }) tt

read_range-of : (text : List ℕ) → NoFeed text → OfOk CleanRange (read_range text)
read_range-of text none = range_from-of (before dash text) (after dash text) (before-no_feed dash text none) (after-no_feed dash text none)

with_range-of : (ranges : List KeyRange) (range : KeyRange) → AllByRecursion CleanRange ranges → CleanRange range → OfOk (AllByRecursion CleanRange) (with_range ranges range)
with_range-of ranges range all is =
    cond-either (OfOk (AllByRecursion CleanRange)) (eqb (length ranges) most_shards) (Err name.TooMany) (Ok (ranges ++ range ∷ [])) tt (append-all CleanRange ranges (range ∷ []) all (is, tt))

read_ranges_after-of : (words : List (List ℕ)) (ranges : List KeyRange) → AllByRecursion CleanRange ranges → AllByRecursion NoFeed words → OfOk (AllByRecursion CleanRange) (read_ranges_after ranges words)
read_ranges_after-of [] ranges all none = all
read_ranges_after-of (word ∷ words) ranges all none =
    then-of CleanRange (AllByRecursion CleanRange) (read_range word) (λ range. with_range ranges range >>= λ more. read_ranges_after more words) (read_range-of word none.0)
    (λ range is. then-of (AllByRecursion CleanRange) (AllByRecursion CleanRange) (with_range ranges range) (λ more. read_ranges_after more words) (with_range-of ranges range all is)
    (λ more are. read_ranges_after-of words more are none.1))

cuts_behind-of : (ranges : List KeyRange) (start : List ℕ) → AllByRecursion CleanRange ranges → OfOk (AllByRecursion NoFeed) (cuts_behind start ranges)
cuts_behind-of [] start all = tt
cuts_behind-of (range ∷ ranges) start all =
    cond-either (OfOk (AllByRecursion NoFeed)) (not (same_text range.start start)) (Err name.NotCovering)
    (cond (is_open range.end) (cond (eqb (length ranges) 0) (Ok []) (Err name.NotCovering)) (cuts_behind range.end ranges >>= λ cuts. Ok (range.end ∷ cuts))) tt
    (cond-either (OfOk (AllByRecursion NoFeed)) (is_open range.end) (cond (eqb (length ranges) 0) (Ok []) (Err name.NotCovering)) (cuts_behind range.end ranges >>= λ cuts. Ok (range.end ∷ cuts))
    (cond-either (OfOk (AllByRecursion NoFeed)) (eqb (length ranges) 0) (Ok []) (Err name.NotCovering) tt tt)
    (then-of (AllByRecursion NoFeed) (AllByRecursion NoFeed) (cuts_behind range.end ranges) (λ cuts. Ok (range.end ∷ cuts)) (cuts_behind-of ranges range.end all.1) (λ cuts are. (all.0.end, are))))

cuts_of_ranges-of : (ranges : List KeyRange) → AllByRecursion CleanRange ranges → OfOk (AllByRecursion NoFeed) (cuts_of_ranges ranges)
cuts_of_ranges-of [] all = tt
cuts_of_ranges-of (range ∷ ranges) all = cuts_behind-of (range ∷ ranges) [] all

read_shards-of : (text : List ℕ) → NoFeed text → OfOk (AllByRecursion NoFeed) (read_shards text)
read_shards-of [] none = tt
read_shards-of (byte ∷ bytes) none =
    then-of (AllByRecursion CleanRange) (AllByRecursion NoFeed) (read_ranges_after [] (slice_split (λ b. eqb b comma) (byte ∷ bytes))) cuts_of_ranges
    (read_ranges_after-of (slice_split (λ b. eqb b comma) (byte ∷ bytes)) [] tt (no_feed-slice_split (λ b. eqb b comma) (byte ∷ bytes) none)) (λ ranges are. cuts_of_ranges-of ranges are)

-- ---- requests

abbrev pub CleanRequest : Request → Type 0
CleanRequest (event e) = CleanEvent e
CleanRequest (write_through key op) = CleanOp op
CleanRequest other = ⊤

request_of-clean : (c : Command) → CleanCommand c → OfOk CleanRequest (request_of c)
request_of-clean (keyspace n shards) is =
    then-of NoFeed CleanRequest (read_keyspace n) (λ k. read_shards shards >>= λ cuts. Ok (event (core.add_keyspace k cuts))) (read_name-of PlainBytes n is.0)
    (λ k none. then-of (AllByRecursion NoFeed) CleanRequest (read_shards shards) (λ cuts. Ok (event (core.add_keyspace k cuts))) (read_shards-of shards is.1) (λ cuts all. (none, all)))
request_of-clean (table n n') is =
    then-each CleanRequest (read_keyspace n) (λ k. read_table n' >>= λ t. Ok (event (core.add_table k t)))
    (λ k. then-of NoFeed CleanRequest (read_table n') (λ t. Ok (event (core.add_table k t))) (read_name-of WithDollar n' is.0) (λ t none. none))
request_of-clean (rule key target) is =
    then-of CleanKey CleanRequest (read_key key) (λ k. read_rule_target target >>= λ t. Ok (event (core.edit_rule k t))) (read_key-of key is.0)
    (λ k first. then-of (OfSome CleanTarget) CleanRequest (read_rule_target target) (λ t. Ok (event (core.edit_rule k t))) (read_rule_target-of target is.1) (λ t second. (first, second)))
request_of-clean (change n op) is = then-each CleanRequest (read_key n) (λ k. Ok (write_through k op)) (λ k. is)
request_of-clean (get n number) is = then-each CleanRequest (read_key n) (λ k. Ok (read_through k number (type_of k))) (λ k. tt)
request_of-clean (change_at n op) is = then-each CleanRequest (read_key n) (λ k. Ok (event (core.write (unwrap_or k.keyspace []) k.table op))) (λ k. is)
request_of-clean (get_at n number) is = then-each CleanRequest (read_key n) (λ k. Ok (event (core.read (unwrap_or k.keyspace []) k.table number (type_of k)))) (λ k. tt)
request_of-clean (create workflow source target tables) is =
    then-of NoFeed CleanRequest (read_workflow workflow) (λ w. read_keyspace source >>= λ s. read_keyspace target >>= λ g. read_table_list tables >>= λ ts. Ok (event (core.create w s g ts))) (read_workflow-of workflow is.0)
    (λ w w_is. then-of NoFeed CleanRequest (read_keyspace source) (λ s. read_keyspace target >>= λ g. read_table_list tables >>= λ ts. Ok (event (core.create w s g ts))) (read_name-of PlainBytes source is.1)
    (λ s s_is. then-of NoFeed CleanRequest (read_keyspace target) (λ g. read_table_list tables >>= λ ts. Ok (event (core.create w s g ts))) (read_name-of PlainBytes target is.2)
    (λ g g_is. then-of (AllByRecursion NoFeed) CleanRequest (read_table_list tables) (λ ts. Ok (event (core.create w s g ts))) (read_table_list-of tables is.3)
    (λ ts ts_are. (w_is, s_is, g_is, ts_are)))))
request_of-clean (advance workflow stream range at at_most) is =
    then-each CleanRequest (read_workflow workflow) (λ w. read_range range >>= λ r. Ok (advance_in w stream r at at_most)) (λ w. then-each CleanRequest (read_range range) (λ r. Ok (advance_in w stream r at at_most)) (λ r. tt))
request_of-clean (begin_switch workflow types) is =
    then-each CleanRequest (read_workflow workflow) (λ w. read_type_set types >>= λ t. Ok (event (core.begin_switch w t))) (λ w. then-each CleanRequest (read_type_set types) (λ t. Ok (event (core.begin_switch w t))) (λ t. tt))
request_of-clean (begin_reverse workflow types) is =
    then-each CleanRequest (read_workflow workflow) (λ w. read_type_set types >>= λ t. Ok (event (core.begin_reverse w t))) (λ w. then-each CleanRequest (read_type_set types) (λ t. Ok (event (core.begin_reverse w t))) (λ t. tt))
request_of-clean (step workflow at) is = then-each CleanRequest (read_workflow workflow) (λ w. Ok (event (core.step w at))) (λ w. tt)
request_of-clean (undo workflow at) is = then-each CleanRequest (read_workflow workflow) (λ w. Ok (event (core.undo w at))) (λ w. tt)
request_of-clean (switch workflow types) is =
    then-each CleanRequest (read_workflow workflow) (λ w. read_type_set types >>= λ t. Ok (drive w t false)) (λ w. then-each CleanRequest (read_type_set types) (λ t. Ok (drive w t false)) (λ t. tt))
request_of-clean (reverse workflow types) is =
    then-each CleanRequest (read_workflow workflow) (λ w. read_type_set types >>= λ t. Ok (drive w t true)) (λ w. then-each CleanRequest (read_type_set types) (λ t. Ok (drive w t true)) (λ t. tt))
request_of-clean (cancel workflow) is = then-each CleanRequest (read_workflow workflow) (λ w. Ok (event (core.cancel w))) (λ w. tt)
request_of-clean (complete workflow) is = then-each CleanRequest (read_workflow workflow) (λ w. Ok (event (core.complete w))) (λ w. tt)
request_of-clean (show workflow) is = then-each CleanRequest (read_workflow workflow) (λ w. Ok (event (core.show w))) (λ w. tt)
request_of-clean rules is = tt
request_of-clean dump is = tt

-- ---- what is told

-- a drive begins with its way
abbrev pub Begins : Driving → Type 0
Begins (begins workflow types backward) = ⊤
Begins other = ⊥

-- one line is told: a text without a line feed, the answer to an event whose texts have none, or the end of a drive
abbrev pub Tells : Told → Type 0
Tells nothing = ⊥
Tells (says text) = NoFeed text
Tells (asks e) = CleanEvent e
Tells (drives driving) = Begins driving

fault-no_feed : (fault : NameFault) → NoFeed (refused_text (fault_text fault))
fault-no_feed name.Empty = record { all = refl }
fault-no_feed name.TooLong = record { all = refl }
fault-no_feed (name.BadByte place) = record { all = refl }
fault-no_feed name.Repeated = record { all = refl }
fault-no_feed name.ReservedSuffix = record { all = refl }
fault-no_feed name.BadType = record { all = refl }
fault-no_feed name.TooMany = record { all = refl }
fault-no_feed name.NoKeyspace = record { all = refl }
fault-no_feed name.BadRange = record { all = refl }
fault-no_feed name.NotCovering = record { all = refl }

topology_fault-no_feed : (fault : TopologyFault) → NoFeed (refused_text (topology_fault_text fault))
topology_fault-no_feed topology.Memory = record { all = refl }
topology_fault-no_feed topology.NoKeyspace = record { all = refl }
topology_fault-no_feed topology.NoTable = record { all = refl }
topology_fault-no_feed topology.Ambiguous = record { all = refl }
topology_fault-no_feed topology.Exists = record { all = refl }
topology_fault-no_feed topology.Full = record { all = refl }
topology_fault-no_feed topology.BadDump = record { all = refl }

asked_there-tells : (r : Result RuleTarget TopologyFault) (ask : (keyspace table : List ℕ) → Event) → ((keyspace table : List ℕ) → CleanEvent (ask keyspace table)) → Tells (asked_there r ask)
asked_there-tells (Ok target) ask each = each target.keyspace target.table
asked_there-tells (Err fault) ask each = topology_fault-no_feed fault

told_request-tells : (p : Plain) (r : Result Request NameFault) → IsClean p → OfOk CleanRequest r → Tells (told_request p r)
told_request-tells p (Err fault) clean of = fault-no_feed fault
told_request-tells p (Ok (event e)) clean of = of
told_request-tells p (Ok (write_through key op)) clean of = asked_there-tells (resolution (served p) key Primary) (λ keyspace table. write keyspace table op) (λ keyspace table. of)
told_request-tells p (Ok (read_through key number tablet_type)) clean of =
    asked_there-tells (resolution (served p) key tablet_type) (λ keyspace table. read keyspace table number tablet_type) (λ keyspace table. tt)
told_request-tells p (Ok (drive workflow types backward)) clean of = tt
told_request-tells p (Ok rules_document) clean of = rules_text-no_feed (served p) (served-clean p clean)
told_request-tells p (Ok (advance_in workflow stream range at at_most)) clean of = by (live_at p workflow)
  where
    of_shard : Result ℕ Refusal → Type 0
    of_shard found = Tells (asked_in found (λ shard. core.advance workflow stream shard at at_most))

    by : (o : Option Live) → of_shard (shard_of_range o range)
    by None = record { all = refl }
    by (Some w) = cond-either of_shard (nat_lt (place_of_range w.cuts range) (shard_count w.cuts)) (Ok (place_of_range w.cuts range)) (Err core.no_shard) tt (record { all = refl })
told_request-tells p (Ok dump_document) clean of = dump_text-no_feed (served p) (served-clean p clean)

pub told_line-tells : (p : Plain) (line : Line) → IsClean p → Speaks line → Tells (told_line p line)
told_line-tells p silent clean speaks = absurd speaks
told_line-tells p bad_line clean speaks = record { all = refl }
told_line-tells p line_too_long clean speaks = record { all = refl }
told_line-tells p (command c) clean speaks = told_request-tells p (request_of c) clean (request_of-clean c speaks)
