-- What is gathered and counted is a race.
use Rattle.std.proofs.Common.{subst, sym}
use Rattle.mt_race.specs.Agreements.{AreAsked, all_reads}
use Rattle.mt_race.proofs.RaceLemmas.{so_raced}
use Rattle.mt_race.proofs.racing.race_at.Goals as goal

pub returns-then-are_in_place-clause-raced : goal.returns-then-are_in_place-clause-raced
returns-then-are_in_place-clause-raced g c =
    let passes = c.in_ok-passes.passes in
    let placed = c.are_in_place.ensures in
    so_raced (λ pass. (pass.client, pass.calls.items)) g.D.DeskName.scopes g.D.DeskName.opening c.args.clients c.args.writes c.raced_with.result
    passes.writers.items passes.stream passes.controller passes.reader
    (placed.writers c.if-are_in_place.true) (placed.stream c.if-are_in_place.true) (placed.controller c.if-are_in_place.true) (placed.reader c.if-are_in_place.true)
    c.in_ok-passes.ensures.writers c.in_ok-passes.ensures.stream c.in_ok-passes.ensures.controller
    (subst (λ reader. AreAsked (all_reads c.args.clients c.args.writes) reader.calls.items) (sym c.in_ok-passes.ensures.reader) c.in_ok-reader.ensures)
    c.raced_with.ensures.one c.raced_with.ensures.acknowledged c.raced_with.ensures.rows
