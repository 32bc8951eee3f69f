-- A name is qualified where its first mark is a dot.
use Rattle.mt_script.proofs.RowLemmas.{qualified_by_found}
use Rattle.mt_script.proofs.qualified.is_qualified.Goals as goal

pub returns-in-Some : goal.returns-in-Some
returns-in-Some c = qualified_by_found c.args.name.now _ c.in-Some.ensures

pub returns-in-None : goal.returns-in-None
returns-in-None c = qualified_by_found c.args.name.now _ c.in-None.ensures
