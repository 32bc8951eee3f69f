-- The keys of each name have their places when they are written.
use Rattle.std.proofs.Common.{None, Some, subst, sym}
use Rattle.mt_steps.specs.Entries.{HavePlaces}
use Rattle.mt_steps.proofs.TableLemmas.{names, places_of, still_placed}
use Rattle.mt_steps.proofs.entries.exchange_reads.Goals as goal

pub exchange_reads_of-requires-2 : goal.exchange_reads_of-requires-2
exchange_reads_of-requires-2 c =
    let s = c.args.workflow.now.source in
    let g = c.args.workflow.now.target in
    let table = c.args.noted.now.table in
    let places = places_of c.args.topology.now s g table c.requires.places in
    subst (λ x. HavePlaces c.exchange_reads_of.new.topology (names (Some x) table)) (sym c.source.ensures)
    (still_placed c.args.workflow.now c.args.types 0 c.args.topology.now c.exchange_reads_of.new.topology (names None table) (names (Some s) table) c.exchange_reads_of.ensures.written places.at_source)

pub exchange_reads_of-requires-3 : goal.exchange_reads_of-requires-3
exchange_reads_of-requires-3 c =
    let s = c.args.workflow.now.source in
    let g = c.args.workflow.now.target in
    let table = c.args.noted.now.table in
    let places = places_of c.args.topology.now s g table c.requires.places in
    subst (λ x. HavePlaces c.exchange_reads_of-2.new.topology (names (Some x) table)) (sym c.target.ensures)
    (still_placed c.args.workflow.now c.args.types 0 c.exchange_reads_of.new.topology c.exchange_reads_of-2.new.topology (names (Some c.source.result.now) table) (names (Some g) table) c.exchange_reads_of-2.ensures.written
    (still_placed c.args.workflow.now c.args.types 0 c.args.topology.now c.exchange_reads_of.new.topology (names None table) (names (Some g) table) c.exchange_reads_of.ensures.written places.at_target))
