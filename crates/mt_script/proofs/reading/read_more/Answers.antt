-- What one read gave.
use Rattle.std.proofs.Common.{[], take, refl, sym, subst, append-nil, rules}
use Rattle.std.specs.Io.KnownBytes.{Consumes}
use Rattle.mt_script.proofs.KnownLemmas.{consumes_kept, kept_consumes}
use Rattle.mt_script.proofs.reading.read_more.Goals as goal

pub returns-in-Err : goal.returns-in-Err
returns-in-Err g c = ([], consumes_kept _ _ c.in-Err.ensures.bytes, search rules, sym (append-nil _))

pub returns-in-Err-2 : goal.returns-in-Err-2
returns-in-Err-2 g c = ([], consumes_kept _ _ c.in-Err-2.ensures.bytes, refl, refl)

pub returns-then-count-eq0 : goal.returns-then-count-eq0
returns-then-count-eq0 g c =
    let none = c.if-count-eq0.true in
    let bytes = c.in-Ok.ensures.bytes in (
      refl,
      kept_consumes _ _ (subst (λ n. Consumes (g.R.Read.remaining c.args.reader.now) (g.R.Read.remaining c.read.new.self) (take n c.read.new.buf)) none bytes.0),
      bytes.1 none (search rules),
    )

pub returns-then-is_err : goal.returns-then-is_err
returns-then-is_err g c = (take c.in-Ok.count c.read.new.buf, c.in-Ok.ensures.bytes.0, search rules, search rules)

pub returns : goal.returns
returns g c = (take c.in-Ok.count c.read.new.buf, c.in-Ok.ensures.bytes.0, search rules, search rules)
