-- Places stay.
use Rattle.std.proofs.Common.{false, ap, ◌∙◌}
use Rattle.mt_model.specs.declared.entries.Entry.TheVariants as entry
use Rattle.mt_model.specs.Topology.{has_place}
use Rattle.mt_model.proofs.PlaceLemmas.{has_place-written}
use Rattle.mt_moves.proofs.completing.write_absent.Goals as goal

pub returns-clause-places : goal.returns-clause-places
returns-clause-places c = λ k. ap (λ t. has_place t k) c.write.ensures.after ∙ has_place-written c.args.topology.now (entry.Present c.copied.result c.copied-2.result false) k
