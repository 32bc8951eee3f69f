-- A write at the primary of the key's shard, at the place of the keyspace, is one at that of the keyspace, and so is the purge behind it.
use Rattle.std.proofs.Common.{◌≡◌, ◌<◌, ℕ, cond, Result, Ok, Err, refl, ap, rules, subst, sym, ◌∙◌}
use Rattle.mt_event.specs.Reasons.{done_by, reason_by_primary}
use Rattle.mt_model.specs.declared.faults.PrimaryFault.{PrimaryFault}
use Rattle.mt_model.specs.Rows.{op_key}
use Rattle.mt_primary.proofs.PlaceLemmas.{at_within, keyspace_at-is}
use Rattle.mt_primary.specs.Primaries.{count_of, place_of_key, shards_of, with_primary}
use Rattle.mt_stands.specs.Answers.{answer_by}
use Rattle.mt_stands.specs.Purges.{has_whole_segments, without_unneeded}
use Rattle.mt_site.proofs.PlacedLemmas.{core_of, purged_there, refused_there, written_there}
use Rattle.mt_site.specs.Applies.{WritesAndPurges}
use Rattle.mt_site.proofs.rows.write_row.Goals as goal

pub find-shard-requires : goal.find-shard-requires
find-shard-requires c = at_within c.args.primaries.now c.args.keyspace.now c.in-Some.place c.in-Some.ensures.found

pub shard_mut-primary-requires-clause-place : goal.shard_mut-primary-requires-clause-place
shard_mut-primary-requires-clause-place c = at_within c.args.primaries.now c.args.keyspace.now c.in-Some.place c.in-Some.ensures.found

pub returns : goal.returns
returns c = λ t.
    let ws = c.args.workflows.now.entries in
    let ps = c.args.primaries.now in
    let k = c.args.keyspace.now in
    let table = c.args.table.now in
    let op = c.args.op in
    let place = c.in-Some.place in
    let at = c.in-Some.ensures.found in
    let n = c.find-shard.result in
    let name = keyspace_at-is ps k place at in
    let before = c.shard_mut-primary.result.now in
    let after = c.write_placed.new.self in
    let last = c.purge_whole.new.primary in
    let key : n ≡ place_of_key (shards_of ps k) (op_key op) = c.find-shard.ensures.shard k at ∙ ap (place_of_key (shards_of ps k)) c.key.ensures in
    subst (λ j. WritesAndPurges (core_of t ps ws) k table op (done_by (Ok tt)) (core_of t (with_primary ps j n last) ws)) (sym name) (
      core_of t (with_primary ps k n after) ws,
      written_there t ws ps k table op n before after key place at (c.shard_mut-primary.ensures.value k at) c.write_placed.result (done_by (Ok tt)) c.write_placed.ensures
          (ap (λ (r : Result ℕ PrimaryFault). answer_by r) (sym c.in_ok-write_placed.was)),
      purged_there t ws ps k table op n before after key (subst (λ j. n < count_of ps j) name c.find-shard.ensures.below) last (c.purge_whole.ensures ∙ ap (λ m. cond (has_whole_segments after) (without_unneeded ws k m after) after) c.from.ensures),
    )

pub returns-in_err-write_placed : goal.returns-in_err-write_placed
returns-in_err-write_placed c = λ t.
    let ws = c.args.workflows.now.entries in
    let ps = c.args.primaries.now in
    let k = c.args.keyspace.now in
    let table = c.args.table.now in
    let op = c.args.op in
    let place = c.in-Some.place in
    let at = c.in-Some.ensures.found in
    let n = c.find-shard.result in
    let name = keyspace_at-is ps k place at in
    let before = c.shard_mut-primary.result.now in
    let after = c.write_placed.new.self in
    let key : n ≡ place_of_key (shards_of ps k) (op_key op) = c.find-shard.ensures.shard k at ∙ ap (place_of_key (shards_of ps k)) c.key.ensures in
    let f = c.in_err-write_placed.field-0.0 in
    let answered : c.from_residual.result ≡ Err (reason_by_primary f) = search rules in
    let told = done_by (Err (reason_by_primary f)) in
    rw answered (subst (λ j. WritesAndPurges (core_of t ps ws) k table op told (core_of t (with_primary ps j n after) ws)) (sym name) (
      core_of t (with_primary ps k n after) ws,
      written_there t ws ps k table op n before after key place at (c.shard_mut-primary.ensures.value k at) c.write_placed.result told c.write_placed.ensures
          (refused_there f ∙ ap (λ (r : Result ℕ PrimaryFault). answer_by r) (sym c.in_err-write_placed.was)),
      refl,
    ))
