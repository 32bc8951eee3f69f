-- The denial at the target has its place when it is written back.
use Rattle.std.proofs.Common.{[], ◌∷◌}
use Rattle.mt_model.specs.declared.entries.Entry.TheVariants as entry
use Rattle.mt_model.specs.declared.entries.EntryKey.TheVariants as about
use Rattle.mt_steps.specs.Plans.{number}
use Rattle.mt_steps.proofs.TableLemmas.{places_of, still_placed_back}
use Rattle.mt_steps.proofs.entries.write_back_denials.Goals as goal

pub write_back_denial-requires-2 : goal.write_back_denial-requires-2
write_back_denial-requires-2 c =
    let s = c.args.source.now in
    let g = c.args.target.now in
    let r = c.args.noted.now in
    let places = places_of c.args.topology.now s g r.table c.requires.places in
    (still_placed_back c.args.workflow.now (number c.args.step) c.args.topology.now c.write_back_denial.new.topology (entry.Denied s r.table r.is_denied_at_source ∷ []) (about.Denied g r.table ∷ []) c.write_back_denial.ensures (places.denied_there, tt)).0
