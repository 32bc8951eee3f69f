-- The denial at the target has its place when it is written.
use Rattle.std.proofs.Common.{[], ◌∷◌}
use Rattle.mt_model.specs.declared.entries.EntryKey.TheVariants as about
use Rattle.mt_steps.specs.Plans.{number}
use Rattle.mt_steps.proofs.TableLemmas.{places_of, still_placed}
use Rattle.mt_steps.proofs.entries.exchange_denials.Goals as goal

pub exchange_denial-requires-2 : goal.exchange_denial-requires-2
exchange_denial-requires-2 c =
    let s = c.args.workflow.now.source in
    let g = c.args.workflow.now.target in
    let table = c.args.noted.now.table in
    let places = places_of c.args.topology.now s g table c.requires.places in
    record { apart = c.requires.apart; place = (still_placed c.args.workflow.now c.args.types (number c.args.step) c.args.topology.now c.exchange_denial.new.topology (about.Denied s table ∷ []) (about.Denied g table ∷ []) c.exchange_denial.ensures.written (places.denied_there, tt)).0 }
