-- The names are read, or the first that isn't is in fault.
use Rattle.std.proofs.Common.{◌≡◌, Ok, refl}
use Rattle.std.proofs.lemmas.Result.{err_from_is_err_and}
use Rattle.mt_names.specs.Names.{read_keyspace, read_table}
use Rattle.mt_names.specs.Results.{◌>>=◌}
use Rattle.mt_plain.specs.Events as plain
use Rattle.mt_plain.specs.Script.{event}
use Rattle.mt_run.proofs.AskLemmas.{then_err, then_ok}
use Rattle.mt_run.proofs.asking.add_table.Goals as goal

pub returns-in_err-keyspace-clause-named : goal.returns-in_err-keyspace-clause-named
returns-in_err-keyspace-clause-named g c =
    let e = err_from_is_err_and c.from_residual.result c.from_residual.ensures.1 in
    let same : e.0 ≡ c.in_err-keyspace.field-0.0 = search (e.2) in
    rw (e.1, same)
    (then_err (λ k. read_table c.args.name.now >>= λ t. Ok (event (plain.add_table k t))) (read_keyspace c.args.keyspace.now) c.in_err-keyspace.field-0.0 c.in_err-keyspace.ensures.value, refl, refl)

pub returns-in_err-table-clause-named : goal.returns-in_err-table-clause-named
returns-in_err-table-clause-named g c =
    let e = err_from_is_err_and c.from_residual-in_err-table.result c.from_residual-in_err-table.ensures.1 in
    let same : e.0 ≡ c.in_err-table.field-0.0 = search (e.2) in
    rw (e.1, same) (
      then_ok (λ k. read_table c.args.name.now >>= λ t. Ok (event (plain.add_table k t))) (read_keyspace c.args.keyspace.now) c.in_ok-keyspace.keyspace _ c.in_ok-keyspace.ensures.value
          (then_err (λ t. Ok (event (plain.add_table c.in_ok-keyspace.keyspace t))) (read_table c.args.name.now) c.in_err-table.field-0.0 c.in_err-table.ensures.value),
      refl,
      refl,
    )

pub returns-clause-named : goal.returns-clause-named
returns-clause-named g c =
    let keyspace = c.in_ok-keyspace.keyspace in (
      event (plain.add_table keyspace c.in_ok-table.table),
      then_ok (λ k. read_table c.args.name.now >>= λ t. Ok (event (plain.add_table k t))) (read_keyspace c.args.keyspace.now) keyspace _ c.in_ok-keyspace.ensures.value
          (then_ok (λ t. Ok (event (plain.add_table keyspace t))) (read_table c.args.name.now) c.in_ok-table.table _ c.in_ok-table.ensures.value refl),
      c.ask.ensures.answered,
    )
