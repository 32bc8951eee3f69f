-- One pass more is noted.
use Rattle.std.proofs.Common.{◌≡◌, ◌<◌, ◌∙◌, ◌+◌, ap, length, rules, set, subst}
use Rattle.mt_desk.proofs.NumberLemmas.{next_noted}
use Rattle.mt_desk.proofs.numbers.number.Goals as goal

pub loop-index-preserved : goal.loop-index-preserved
loop-index-preserved g c =
    let i = c.loop-index.index in
    let numbers = c.loop-index.numbers in
    let pass = c.index-passes-index.result in
    let client : c.from.result ≡ pass.client = c.from.ensures ∙ c.client.ensures in
    let within : c.from.result < length numbers = search rules in
    record {
      long = search rules;
      are = next_noted (λ p. (p.client, p.calls.items)) c.args.passes.now i pass numbers (set numbers c.from.result (i + 1)) c.loop-index-test.true c.index-passes-index.is c.loop-index.invariant.are
          (subst (λ k. k < length numbers) client within) (ap (λ k. set numbers k (i + 1)) client);
    }
