-- The name and the shards are read, or the first that isn't is in fault.
use Rattle.std.proofs.Common.{◌≡◌, Ok, refl}
use Rattle.std.proofs.lemmas.Result.{err_from_is_err_and}
use Rattle.mt_names.specs.Names.{read_keyspace}
use Rattle.mt_names.specs.Results.{◌>>=◌}
use Rattle.mt_names.specs.Shards.{read_shards}
use Rattle.mt_plain.specs.Events as plain
use Rattle.mt_plain.specs.Script.{event}
use Rattle.mt_run.proofs.AskLemmas.{then_err, then_ok}
use Rattle.mt_run.proofs.asking.add_keyspace.Goals as goal

pub returns-in_err-keyspace-clause-named : goal.returns-in_err-keyspace-clause-named
returns-in_err-keyspace-clause-named g c =
    let e = err_from_is_err_and c.from_residual.result c.from_residual.ensures.1 in
    let same : e.0 ≡ c.in_err-keyspace.field-0.0 = search (e.2) in
    rw (e.1, same)
    (then_err (λ k. read_shards c.args.shards.now >>= λ cuts. Ok (event (plain.add_keyspace k cuts))) (read_keyspace c.args.name.now) c.in_err-keyspace.field-0.0 c.in_err-keyspace.ensures.value, refl, refl)

pub returns-in_err-shards-clause-named : goal.returns-in_err-shards-clause-named
returns-in_err-shards-clause-named g c =
    let e = err_from_is_err_and c.from_residual-in_err-shards.result c.from_residual-in_err-shards.ensures.1 in
    let same : e.0 ≡ c.in_err-shards.field-0.0 = search (e.2) in
    rw (e.1, same) (
      then_ok (λ k. read_shards c.args.shards.now >>= λ cuts. Ok (event (plain.add_keyspace k cuts))) (read_keyspace c.args.name.now) c.in_ok-keyspace.keyspace _ c.in_ok-keyspace.ensures.value
          (then_err (λ cuts. Ok (event (plain.add_keyspace c.in_ok-keyspace.keyspace cuts))) (read_shards c.args.shards.now) c.in_err-shards.field-0.0 c.in_err-shards.ensures.value),
      refl,
      refl,
    )

pub returns-clause-named : goal.returns-clause-named
returns-clause-named g c =
    let keyspace = c.in_ok-keyspace.keyspace in (
      event (plain.add_keyspace keyspace c.in_ok-shards.shards),
      then_ok (λ k. read_shards c.args.shards.now >>= λ cuts. Ok (event (plain.add_keyspace k cuts))) (read_keyspace c.args.name.now) keyspace _ c.in_ok-keyspace.ensures.value
          (then_ok (λ cuts. Ok (event (plain.add_keyspace keyspace cuts))) (read_shards c.args.shards.now) c.in_ok-shards.shards _ c.in_ok-shards.ensures.value refl),
      c.ask.ensures.answered,
    )
