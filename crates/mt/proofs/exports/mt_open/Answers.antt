-- A session that is open stays; one that is opened has the keyspaces watched that were named.
use Rattle.std.proofs.Common.{[], refl}
use Rattle.mt.specs.declared.status.Status.TheVariants as status
use Rattle.mt_plain.specs.Output.{watchers_of}
use Rattle.mt.proofs.ExportLemmas.{code_of, opened_as}
use Rattle.mt.proofs.exports.mt_open.Goals as goal

pub returns-then-session : goal.returns-then-session
returns-then-session c = (status.Open, code_of status.Open c.number.result c.number.ensures, (c.if-session.true, (c.if-session.true, refl, refl, refl)))

pub returns-in-Ok : goal.returns-in-Ok
returns-in-Ok c =
    let begins = c.in-Ok.ensures.opened in (
      status.Done,
      code_of status.Done c.number-in-Ok.result c.number-in-Ok.ensures,
      (c.if-session.false, (begins.0, begins.1, opened_as c.in-Ok.opened.value (watchers_of begins.0) [] [] c.of.result c.of.ensures.opened c.of.ensures.said begins.2)),
    )
