-- What is kept leads there still, with one more name or without.
use Rattle.std.proofs.Common.{sym, subst}
use Rattle.mt_run.specs.Names.{LeadThere}
use Rattle.mt_run.proofs.NameLemmas.{lead_more}
use Rattle.mt_run.proofs.names.Names.keep.Goals as goal

pub returns-in-Ok : goal.returns-in-Ok
returns-in-Ok c = λ t lead leads. lead_more t c.args.self.now.kept.entries c.insert.new.self.entries c.args.name c.args.place c.in-Ok.ensures.updates.0
    (record { is_name = c.as_str.ensures.name; leads = leads }) lead

pub returns-in-Err : goal.returns-in-Err
returns-in-Err c = λ t lead leads. subst (LeadThere t) (sym c.in-Err.ensures.err) lead
