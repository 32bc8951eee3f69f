-- Each log is purged at its place, so all are.
use Rattle.std.proofs.Common.{◌≡◌, ◌+◌, ◌<◌, suc, length, rules, ap, ◌∙◌, arith}
use Rattle.mt_moves.proofs.PurgeLemmas.{as-many, one-more, purged-all, purged_places}
use Rattle.mt_moves.specs.Places.{with_purge_at}
use Rattle.mt_moves.proofs.purging.purge.Goals as goal

pub loop-place-init : goal.loop-place-init
loop-place-init c = search rules

pub purge_at-requires : goal.purge_at-requires
purge_at-requires c =
    let ws = c.args.workflows.now.entries in
    let old = c.args.primaries.now in
    let many : length c.loop-place.primaries ≡ length old = ap length c.loop-place.invariant.primaries ∙ as-many ws old c.loop-place.place in
    let end = c.loop-place.invariant.end in
    let within : c.loop-place.place < c.len-place-end.result = search rules in
    omega (arith, many, end, within)

pub loop-place-preserved : goal.loop-place-preserved
loop-place-preserved c =
    let ws = c.args.workflows.now.entries in
    let old = c.args.primaries.now in
    let next : suc c.loop-place.place ≡ c.loop-place.place + 1 = omega arith in
    record {
      primaries = c.purge_at.ensures ∙ ap (with_purge_at ws c.loop-place.place) c.loop-place.invariant.primaries ∙ one-more ws old c.loop-place.place
          ∙ ap (λ n. purged_places ws n old) next;
      end = c.loop-place.invariant.end;
    }

pub returns : goal.returns
returns c =
    let ws = c.args.workflows.now.entries in
    let old = c.args.primaries.now in
    let at : c.loop-place.place ≡ length old = search rules in
    c.loop-place.invariant.primaries ∙ ap (λ n. purged_places ws n old) at ∙ purged-all ws old
