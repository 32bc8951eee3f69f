-- One more word read leaves the rest to read.
use Rattle.std.proofs.Common.{◌≡◌, Ok, length, ap, rules, sym, ◌∙◌}
use Rattle.std.specs.Option.{option_copied}
use Rattle.mt_names.proofs.TableLemmas.{read-taken, read-refused, left-fits, left-shorter, names_of-Err, read_table_list-words}
use Rattle.mt_names.specs.Tables.{names_of, read_table_list}
use Rattle.mt_names.proofs.TableListLemmas.{list_accepts, list_is_list}
use Rattle.mt_names.proofs.tables.table_list.Goals as goal

pub loop-rest-preserved : goal.loop-rest-preserved
loop-rest-preserved c =
    let names = c.loop-rest.tables.items in
    let total = length c.args.text.now in
    let left = option_copied c.loop-rest.rest in
    let is = ap option_copied c.in-Some.is in
    let before = c.loop-rest.invariant in
    record {
      whole = read-taken names total _ left c.in-Some.words.now c.cut.result.0.now (option_copied c.cut.result.1) before.within before.whole is c.cut.ensures.front c.cut.ensures.rest c.add_table.new.tables.items c.in_ok-add_table.ensures;
      within = left-fits names total _ left c.in-Some.words.now c.cut.result.0.now (option_copied c.cut.result.1) before.within before.whole is c.cut.ensures.front c.cut.ensures.rest;
    }

pub loop-rest-smaller : goal.loop-rest-smaller
loop-rest-smaller c =
    let before = c.loop-rest.invariant in
    left-shorter c.loop-rest.tables.items (length c.args.text.now) _ (option_copied c.loop-rest.rest) c.in-Some.words.now c.cut.result.0.now (option_copied c.cut.result.1) before.within before.whole (ap option_copied c.in-Some.is) c.cut.ensures.front c.cut.ensures.rest

-- the first fault of a word is that of the text
refused : (c : goal.After-from_residual) → names_of c.from_residual.result ≡ read_table_list c.args.text.now
refused c =
    let before = c.loop-rest.invariant in
    let fault = c.in_err-add_table.field-0.0 in
    names_of-Err c.from_residual.result fault c.from_residual.ensures.1
    ∙ read-refused c.loop-rest.tables.items (length c.args.text.now) _ (option_copied c.loop-rest.rest) c.in-Some.words.now c.cut.result.0.now (option_copied c.cut.result.1) before.within before.whole (ap option_copied c.in-Some.is) c.cut.ensures.front c.cut.ensures.rest fault c.in_err-add_table.ensures
    ∙ read_table_list-words c.args.text.now (sym c.eq.ensures ∙ c.if-eq.false)

pub returns-in_err-add_table : goal.returns-in_err-add_table
returns-in_err-add_table c = record {
  value = refused c;
  grammar = list_accepts c.args.text.now c.from_residual.result (refused c);
  list = list_is_list c.args.text.now c.from_residual.result (refused c);
}

pub returns-clause-grammar : goal.returns-clause-grammar
returns-clause-grammar c = list_accepts c.args.text.now (Ok c.loop-rest.tables) (search rules)

pub returns-clause-list : goal.returns-clause-list
returns-clause-list c = list_is_list c.args.text.now (Ok c.loop-rest.tables) (search rules)
