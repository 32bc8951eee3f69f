-- The shard's primary is the one of that number.
use Rattle.std.proofs.Common.{◌≡◌, ◌≤◌, get_or, if◌then◌else◌, ap, sym, subst, ◌∙◌}
use Rattle.std.proofs.lemmas.List.{get_or_default}
use Rattle.mt_plain.specs.Events.{forward, back}
use Rattle.mt_primary.specs.Primary.{PrimaryState, empty_primary}
use Rattle.mt_workflow.specs.Workflows.{slot_of}
use Rattle.mt_steps.specs.Shards.{target_at}
use Rattle.mt_steps.proofs.streams.is_fed_at.Goals as goal

pub is_level-requires : goal.is_level-requires
is_level-requires c = record {
  kept = λ s there.
      let targets = c.args.targets.now in
      let at : (if c.args.way.back then target_at targets c.args.shard else c.args.source.now) ≡ c.index-targets-from.result =
      ap (λ b. if b then target_at targets c.args.shard else c.args.source.now) c.if-way.true
      ∙ get_or_default targets c.args.shard empty_primary c.index-targets-from.result c.requires.there ∙ ap (λ n. get_or targets n c.index-targets-from.result) (sym c.from.ensures) ∙ sym c.index-targets-from.is in
      subst (λ (p : PrimaryState). p.log.purged ≤ s.position) at
      (c.requires.kept c.args.shard s (ap (λ b. slot_of c.args.workflow.now c.args.shard (if b then back else forward)) c.if-way.true ∙ there));
}

pub is_level-requires-2 : goal.is_level-requires-2
is_level-requires-2 c = record {
  kept = λ s there.
      subst (λ (p : PrimaryState). p.log.purged ≤ s.position) (ap (λ b. if b then target_at c.args.targets.now c.args.shard else c.args.source.now) c.if-way.false)
      (c.requires.kept c.args.shard s (ap (λ b. slot_of c.args.workflow.now c.args.shard (if b then back else forward)) c.if-way.false ∙ there));
}
