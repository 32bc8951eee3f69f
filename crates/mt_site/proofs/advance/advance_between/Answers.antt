-- The stream reads a primary of one side and writes one of the other side, which are lent at their places.
use Rattle.std.proofs.Common.{◌≤◌, ap, arith, length, length-set, set, subst, sym, ◌∙◌}
use Rattle.mt_names.proofs.EntryLemmas.{some_from}
use Rattle.mt_moves.proofs.PrimaryLemmas.{sides-written, some-lent, source-lent, targets-lent}
use Rattle.mt_plain.specs.Slots.{read_side, written_side}
use Rattle.mt_primary.specs.Primaries.{has_primaries, primary_of, with_primary}
use Rattle.mt_primary.specs.Primary.{PrimaryState, end_of, has_table}
use Rattle.mt_stands.specs.Workflows.{shard_read, shard_written}
use Rattle.mt_workflow.specs.Workflows.{live_of, slot_of, stream_name}
use Rattle.mt_site.proofs.AdvanceLemmas.{advanced-between, one-of, put-back, put-forward, shard-there, source-there, target-there}
use Rattle.mt_site.specs.Advance.{IsBetween}
use Rattle.mt_site.proofs.advance.advance_between.Goals as goal

pub sides_mut-places-requires-clause-source : goal.sides_mut-places-requires-clause-source
sides_mut-places-requires-clause-source c =
    let ps = c.args.primaries.now in
    let w = c.args.workflow.now in
    let n = c.args.asked.shard in
    let (s, found) = some_from (slot_of w n (stream_name c.args.asked.slot)) c.requires.there in
    ap (has_primaries ps) c.source.ensures ∙ source-there ps w _ n s (c.requires.between s found)

pub sides_mut-places-requires-clause-target : goal.sides_mut-places-requires-clause-target
sides_mut-places-requires-clause-target c =
    let ps = c.args.primaries.now in
    let w = c.args.workflow.now in
    let n = c.args.asked.shard in
    let (s, found) = some_from (slot_of w n (stream_name c.args.asked.slot)) c.requires.there in
    ap (has_primaries ps) c.target.ensures ∙ target-there ps w _ n s (c.requires.between s found) found

pub sides_mut-places-requires-clause-apart : goal.sides_mut-places-requires-clause-apart
sides_mut-places-requires-clause-apart c = λ same.
    let (s, found) = some_from (slot_of c.args.workflow.now c.args.asked.shard (stream_name c.args.asked.slot)) c.requires.there in
    (c.requires.between s found).apart (sym c.source.ensures ∙ same ∙ c.target.ensures)

pub sides_of-one-requires-clause-some : goal.sides_of-one-requires-clause-some
sides_of-one-requires-clause-some c =
    let ps = c.args.primaries.now in
    let w = c.args.workflow.now in
    let n = c.args.asked.shard in
    let (s, found) = some_from (slot_of w n (stream_name c.args.asked.slot)) c.requires.there in
    some-lent ps w c.source.ensures c.target.ensures c.sides_mut-places.ensures.sides (c.requires.between s found).source

-- ---- forward

pub bounds-all-there : goal.bounds-all-there
bounds-all-there c =
    let ps = c.args.primaries.now in
    let w = c.args.workflow.now in
    let n = c.args.asked.shard in
    let (s, found) = some_from (slot_of w n (stream_name c.args.asked.slot)) c.requires.there in
    let targets_are = targets-lent ps w c.source.ensures c.target.ensures c.sides_mut-places.ensures.sides c.sides_of-one.result.1.now c.sides_of-one.ensures.target in
    let below = shard-there ps w _ n s (c.requires.between s found) found in
    let many = ap length targets_are in
    omega (arith, below, many, c.from-there.ensures)

pub advance-requires-clause-kept : goal.advance-requires-clause-kept
advance-requires-clause-kept c = λ s found runs.
    let ps = c.args.primaries.now in
    let w = c.args.workflow.now in
    let n = c.args.asked.shard in
    let source_is = source-lent ps w c.source.ensures c.target.ensures c.sides_mut-places.ensures.sides c.sides_of-one.result.0.now c.sides_of-one.ensures.source in
    let between = subst (λ z. IsBetween ps w (stream_name z) n s) c.in-Forward.is (c.requires.between s found) in
    subst (λ (p : PrimaryState). p.log.purged ≤ s.position) (sym source_is) (between.kept runs)

pub advance-requires-clause-within : goal.advance-requires-clause-within
advance-requires-clause-within c = λ s found.
    let ps = c.args.primaries.now in
    let w = c.args.workflow.now in
    let n = c.args.asked.shard in
    let source_is = source-lent ps w c.source.ensures c.target.ensures c.sides_mut-places.ensures.sides c.sides_of-one.result.0.now c.sides_of-one.ensures.source in
    let between = subst (λ z. IsBetween ps w (stream_name z) n s) c.in-Forward.is (c.requires.between s found) in
    subst (λ p. s.position ≤ end_of p) (sym source_is) between.within

pub advance-requires-clause-there : goal.advance-requires-clause-there
advance-requires-clause-there c = λ s found table named.
    let ps = c.args.primaries.now in
    let w = c.args.workflow.now in
    let n = c.args.asked.shard in
    let targets_are = targets-lent ps w c.source.ensures c.target.ensures c.sides_mut-places.ensures.sides c.sides_of-one.result.1.now c.sides_of-one.ensures.target in
    let here = one-of ps w.target c.sides_of-one.result.1.now n c.from-there.result c.index-all-there.result targets_are c.from-there.ensures (shard-there ps w _ n s (c.requires.between s found) found) in
    let between = subst (λ z. IsBetween ps w (stream_name z) n s) c.in-Forward.is (c.requires.between s found) in
    ap (λ p. has_table p table) here ∙ between.there table named

pub returns-in-Forward : goal.returns-in-Forward
returns-in-Forward c =
    let ps = c.args.primaries.now in
    let w = c.args.workflow.now in
    let n = c.args.asked.shard in
    let (s, found) = some_from (slot_of w n (stream_name c.args.asked.slot)) c.requires.there in
    let source_is = source-lent ps w c.source.ensures c.target.ensures c.sides_mut-places.ensures.sides c.sides_of-one.result.0.now c.sides_of-one.ensures.source in
    let targets_are = targets-lent ps w c.source.ensures c.target.ensures c.sides_mut-places.ensures.sides c.sides_of-one.result.1.now c.sides_of-one.ensures.target in
    let here = one-of ps w.target c.sides_of-one.result.1.now n c.from-there.result c.index-all-there.result targets_are c.from-there.ensures (shard-there ps w _ n s (c.requires.between s found) found) in
    let one = c.sides_of-one.result.0.now in
    let all = c.sides_of-one.result.1.now in
    let there = c.from-there.result in
    let sink = c.advance.new.sink in
    let same = sym c.in-Forward.is in
    let put =
    sides-written ps w c.source.ensures c.target.ensures c.sides_mut-places.ensures.sides one (set all there sink) (length-set all there sink ∙ ap length targets_are)
    ∙ put-forward ps w n there one sink all c.from-there.ensures targets_are source_is in
    advanced-between ps _ w c.advance.new.self (stream_name c.args.asked.slot) n c.args.asked.at c.args.asked.max c.advance.result _ _ sink c.advance.ensures.advances c.advance.ensures.rest
    (source_is ∙ ap (λ z. primary_of ps (read_side (live_of w) (stream_name z)) (shard_read (stream_name z) n)) same)
    (here ∙ ap (λ z. primary_of ps (written_side (live_of w) (stream_name z)) (shard_written (stream_name z) n)) same)
    (put ∙ ap (λ z. with_primary ps (written_side (live_of w) (stream_name z)) (shard_written (stream_name z) n) sink) same)

-- ---- back

pub bounds-all-there-in-Back : goal.bounds-all-there-in-Back
bounds-all-there-in-Back c =
    let ps = c.args.primaries.now in
    let w = c.args.workflow.now in
    let n = c.args.asked.shard in
    let (s, found) = some_from (slot_of w n (stream_name c.args.asked.slot)) c.requires.there in
    let targets_are = targets-lent ps w c.source.ensures c.target.ensures c.sides_mut-places.ensures.sides c.sides_of-one.result.1.now c.sides_of-one.ensures.target in
    let below = shard-there ps w _ n s (c.requires.between s found) found in
    let many = ap length targets_are in
    omega (arith, below, many, c.from-there.ensures)

pub advance-requires-in-Back-clause-kept : goal.advance-requires-in-Back-clause-kept
advance-requires-in-Back-clause-kept c = λ s found runs.
    let ps = c.args.primaries.now in
    let w = c.args.workflow.now in
    let n = c.args.asked.shard in
    let targets_are = targets-lent ps w c.source.ensures c.target.ensures c.sides_mut-places.ensures.sides c.sides_of-one.result.1.now c.sides_of-one.ensures.target in
    let here = one-of ps w.target c.sides_of-one.result.1.now n c.from-there.result c.index-all-there-in-Back.result targets_are c.from-there.ensures (shard-there ps w _ n s (c.requires.between s found) found) in
    let between = subst (λ z. IsBetween ps w (stream_name z) n s) c.in-Back.is (c.requires.between s found) in
    subst (λ (p : PrimaryState). p.log.purged ≤ s.position) (sym here) (between.kept runs)

pub advance-requires-in-Back-clause-within : goal.advance-requires-in-Back-clause-within
advance-requires-in-Back-clause-within c = λ s found.
    let ps = c.args.primaries.now in
    let w = c.args.workflow.now in
    let n = c.args.asked.shard in
    let targets_are = targets-lent ps w c.source.ensures c.target.ensures c.sides_mut-places.ensures.sides c.sides_of-one.result.1.now c.sides_of-one.ensures.target in
    let here = one-of ps w.target c.sides_of-one.result.1.now n c.from-there.result c.index-all-there-in-Back.result targets_are c.from-there.ensures (shard-there ps w _ n s (c.requires.between s found) found) in
    let between = subst (λ z. IsBetween ps w (stream_name z) n s) c.in-Back.is (c.requires.between s found) in
    subst (λ p. s.position ≤ end_of p) (sym here) between.within

pub advance-requires-in-Back-clause-there : goal.advance-requires-in-Back-clause-there
advance-requires-in-Back-clause-there c = λ s found table named.
    let ps = c.args.primaries.now in
    let w = c.args.workflow.now in
    let n = c.args.asked.shard in
    let source_is = source-lent ps w c.source.ensures c.target.ensures c.sides_mut-places.ensures.sides c.sides_of-one.result.0.now c.sides_of-one.ensures.source in
    let between = subst (λ z. IsBetween ps w (stream_name z) n s) c.in-Back.is (c.requires.between s found) in
    ap (λ p. has_table p table) source_is ∙ between.there table named

pub returns-in-Back : goal.returns-in-Back
returns-in-Back c =
    let ps = c.args.primaries.now in
    let w = c.args.workflow.now in
    let n = c.args.asked.shard in
    let (s, found) = some_from (slot_of w n (stream_name c.args.asked.slot)) c.requires.there in
    let source_is = source-lent ps w c.source.ensures c.target.ensures c.sides_mut-places.ensures.sides c.sides_of-one.result.0.now c.sides_of-one.ensures.source in
    let targets_are = targets-lent ps w c.source.ensures c.target.ensures c.sides_mut-places.ensures.sides c.sides_of-one.result.1.now c.sides_of-one.ensures.target in
    let here = one-of ps w.target c.sides_of-one.result.1.now n c.from-there.result c.index-all-there-in-Back.result targets_are c.from-there.ensures (shard-there ps w _ n s (c.requires.between s found) found) in
    let one = c.sides_of-one.result.0.now in
    let all = c.sides_of-one.result.1.now in
    let there = c.from-there.result in
    let sink = c.advance-in-Back.new.sink in
    let same = sym c.in-Back.is in
    let put =
    sides-written ps w c.source.ensures c.target.ensures c.sides_mut-places.ensures.sides sink all (ap length targets_are)
    ∙ put-back ps w n there one sink all c.from-there.ensures targets_are (c.requires.between s found).apart in
    advanced-between ps _ w c.advance-in-Back.new.self (stream_name c.args.asked.slot) n c.args.asked.at c.args.asked.max c.advance-in-Back.result _ _ sink c.advance-in-Back.ensures.advances c.advance-in-Back.ensures.rest
    (here ∙ ap (λ z. primary_of ps (read_side (live_of w) (stream_name z)) (shard_read (stream_name z) n)) same)
    (source_is ∙ ap (λ z. primary_of ps (written_side (live_of w) (stream_name z)) (shard_written (stream_name z) n)) same)
    (put ∙ ap (λ z. with_primary ps (written_side (live_of w) (stream_name z)) (shard_written (stream_name z) n) sink) same)
