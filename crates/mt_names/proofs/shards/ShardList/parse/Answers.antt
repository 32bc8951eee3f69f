-- That a text is read exactly where it is that of shards holds of the reading function.
use Rattle.std.proofs.Common.{◌≡◌, Err, length, rules, sym, ◌∙◌}
use Rattle.std.proofs.lemmas.Bool.{eqb-false, eqb-true}
use Rattle.mt_names.specs.declared.fault.NameFault.TheVariants.{Empty}
use Rattle.mt_names.proofs.ShardLemmas.{read_shards-empty, read_shards-fault, read_shards-ranges, shards_accept}
use Rattle.mt_names.proofs.shards.ShardList.parse.Goals as goal

pub returns-then-is_empty-clause-grammar : goal.returns-then-is_empty-clause-grammar
returns-then-is_empty-clause-grammar c =
    shards_accept c.args.text.now (Err Empty) (read_shards-empty c.args.text.now (eqb-true (length c.args.text.now) 0 (sym c.is_empty.ensures ∙ c.if-is_empty.true)))

pub returns-in_err-ranges-clause-grammar : goal.returns-in_err-ranges-clause-grammar
returns-in_err-ranges-clause-grammar c =
    let given : c.from_residual.result ≡ Err c.in_err-ranges.field-0.0 = search rules in
    shards_accept c.args.text.now c.from_residual.result
    (given ∙ read_shards-fault c.args.text.now (eqb-false (length c.args.text.now) 0 (sym c.is_empty.ensures ∙ c.if-is_empty.false)) c.in_err-ranges.field-0.0 c.in_err-ranges.ensures)

pub returns-clause-grammar : goal.returns-clause-grammar
returns-clause-grammar c =
    shards_accept c.args.text.now c.of.result
    (c.of.ensures ∙ read_shards-ranges c.args.text.now (eqb-false (length c.args.text.now) 0 (sym c.is_empty.ensures ∙ c.if-is_empty.false)) c.in_ok-ranges.ranges.items c.in_ok-ranges.ensures)
