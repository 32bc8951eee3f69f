-- A read at the primary of the key's shard, at the place of the keyspace, is one at that of the keyspace.
use Rattle.std.proofs.Common.{◌≡◌, Result, Err, ap, rules, sym, ◌∙◌}
use Rattle.mt_model.specs.declared.faults.PrimaryFault.{PrimaryFault}
use Rattle.mt_model.specs.Rows.{Row}
use Rattle.mt_event.specs.Reasons.{reason_by_primary}
use Rattle.mt_primary.proofs.PlaceLemmas.{at_within}
use Rattle.mt_primary.specs.Primary.{PrimaryState}
use Rattle.mt_primary.specs.Reads.{read_row}
use Rattle.mt_stands.specs.ByHand.{answer_by_read}
use Rattle.mt_site.specs.ByHand.{read_from}
use Rattle.mt_site.proofs.PlacedLemmas.{read_there, refused_there}
use Rattle.mt_site.proofs.rows.read_row.Goals as goal

pub at-primary-requires : goal.at-primary-requires
at-primary-requires c = at_within c.args.primaries.now c.args.keyspace.now c.in-Some.place c.in-Some.ensures.found

pub returns : goal.returns
returns c =
    let k = c.args.keyspace.now in
    let table = c.args.table.now in
    let at = c.in-Some.ensures.found in
    let is = c.read_placed.ensures ∙ ap (λ (p : PrimaryState). read_row p table c.args.key c.args.tablet_type) (c.at-primary.ensures k at) in
    ap (λ (r : Result Row PrimaryFault). answer_by_read r) (sym c.in_ok-read_placed.was) ∙ read_there c.args.primaries.now k table c.args.key c.args.tablet_type c.in-Some.place at c.read_placed.result is

pub returns-in_err-read_placed : goal.returns-in_err-read_placed
returns-in_err-read_placed c =
    let k = c.args.keyspace.now in
    let table = c.args.table.now in
    let at = c.in-Some.ensures.found in
    let is = c.read_placed.ensures ∙ ap (λ (p : PrimaryState). read_row p table c.args.key c.args.tablet_type) (c.at-primary.ensures k at) in
    let f = c.in_err-read_placed.field-0.0 in
    let answered : c.from_residual.result ≡ Err (reason_by_primary f) = search rules in
    ap read_from answered ∙ refused_there f
    ∙ ap (λ (r : Result Row PrimaryFault). answer_by_read r) (sym c.in_err-read_placed.was) ∙ read_there c.args.primaries.now k table c.args.key c.args.tablet_type c.in-Some.place at c.read_placed.result is
