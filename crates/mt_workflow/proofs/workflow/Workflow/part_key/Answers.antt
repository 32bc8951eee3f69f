-- The index is that of a table, and of a key of that table.
use Rattle.std.proofs.Common.{◌≡◌, ◌<◌, ◌*◌, ◌/◌, ◌%◌, Some, ap, sym, subst, length, slice_get, arith, ◌∙◌}
use Rattle.std.proofs.lemmas.Option.{slice_get_read}
use Rattle.mt_workflow.specs.Workflows.{keys_of_part}
use Rattle.mt_workflow.proofs.PartLemmas.{key_of_part, length_part}
use Rattle.mt_workflow.proofs.workflow.Workflow.part_key.Goals as goal

pub offset_bounds-as_slice-index : goal.offset_bounds-as_slice-index
offset_bounds-as_slice-index c =
    let w = c.self.inside in
    let within : c.args.index < length w.tables.keys * 15 =
    subst (λ n. c.args.index < n) (ap (λ v. length (keys_of_part v)) (sym c.self.view_is) ∙ length_part w.source w.target w.tables.keys) c.requires in
    omega (arith, within, c.self.invariant.0.few)

pub bounds-as_slice-index : goal.bounds-as_slice-index
bounds-as_slice-index c =
    let w = c.self.inside in
    let within : c.args.index < length w.tables.keys * 15 =
    subst (λ n. c.args.index < n) (ap (λ v. length (keys_of_part v)) (sym c.self.view_is) ∙ length_part w.source w.target w.tables.keys) c.requires in
    omega (arith, within, ap length c.as_slice.ensures.keys)

pub returns : goal.returns
returns c =
    let w = c.self.inside in
    let within : c.args.index < length w.tables.keys * 15 =
    subst (λ n. c.args.index < n) (ap (λ v. length (keys_of_part v)) (sym c.self.view_is) ∙ length_part w.source w.target w.tables.keys) c.requires in
    let table : slice_get w.tables.keys (c.args.index / 15) ≡ Some c.index-as_slice-index.result =
    ap (λ l. slice_get l (c.args.index / 15)) (sym c.as_slice.ensures.keys)
    ∙ slice_get_read c.as_slice.result.now (length w.tables.keys) (c.args.index / 15) c.index-as_slice-index.result (ap length (sym c.as_slice.ensures.keys)) (omega (arith, within)) c.index-as_slice-index.is in
    c.table_part_key.ensures
    ∙ sym (key_of_part w.source w.target w.tables.keys c.args.index (c.args.index / 15) (c.args.index % 15) c.index-as_slice-index.result (omega arith) (omega arith) table)
    ∙ ap (λ v. slice_get (keys_of_part v) c.args.index) c.self.view_is
