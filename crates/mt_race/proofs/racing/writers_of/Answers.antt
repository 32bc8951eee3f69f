-- The pass is that of the next worker.
use Rattle.std.proofs.Common.{◌≡◌, ◌++◌, [], ◌∷◌, length, map, subst, sym, arith}
use Rattle.std.proofs.lemmas.Grind.{common_steps}
use Rattle.mt_race.specs.Agreements.{AreWriters}
use Rattle.mt_race.proofs.RaceLemmas.{writers_next}
use Rattle.mt_race.proofs.racing.writers_of.Goals as goal

pub loop-one-preserved : goal.loop-one-preserved
loop-one-preserved g c =
    let pushed : c.push.new.self.items ≡ c.loop-one.writers.items ++ c.in-Some-into_pass.pass ∷ [] = grind (arith, common_steps) in
    let many : length c.loop-one.writers.items ≡ c.len.result = grind (arith, common_steps) in
    subst (λ ps. AreWriters c.args.writes 0 (map (λ pass. (pass.client, pass.calls.items)) ps)) (sym pushed)
    (writers_next _ c.args.writes c.len.result c.loop-one.writers.items c.in-Some-into_pass.pass many
    c.in-Some-into_pass.ensures.client c.in-Some-into_pass.ensures.asked c.loop-one.invariant)
