-- What is gathered is what was handed in.
use Rattle.std.proofs.Common.{◌≡◌, ◌∙◌, ◌++◌, [], ◌∷◌, map, subst, sym}
use Rattle.mt_desk.specs.Passes.{HaveOneHistory}
use Rattle.mt_race.proofs.RaceLemmas.{on_ok, three_more}
use Rattle.mt_race.proofs.racing.gather.Goals as goal

pub returns : goal.returns
returns g c = λ is.
    let passes = c.args.passes in
    let all : c.push_reserved-3.new.self.items ≡ passes.writers.items ++ passes.stream ∷ passes.controller ∷ passes.reader ∷ [] =
    three_more passes.writers.items c.reserve.new.self.items c.push_reserved.new.self.items c.push_reserved-2.new.self.items c.push_reserved-3.new.self.items
    passes.stream passes.controller passes.reader c.reserve.ensures.items c.push_reserved.ensures.items c.push_reserved-2.ensures.items c.push_reserved-3.ensures.items in
    subst (λ ps. HaveOneHistory g.D.DeskName.scopes g.D.DeskName.opening (map (λ pass. (pass.client, pass.calls.items)) ps)) all
    (on_ok c.gather.result (sym c.is_ok.ensures.value ∙ is) c.gather.ensures.one)
