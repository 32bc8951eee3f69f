use Rattle.std.proofs.Common.{◌≡◌, true}
use Rattle.mt_model.specs.Topology.{has_place}
use Rattle.mt_stands.proofs.KeyLemmas.{from_listed, listed_part}
use Rattle.mt_stands.proofs.WriteLemmas.{places_written, values_written}
use Rattle.mt_stands.proofs.entries.entries_are_written_each_at_its_key.Goals as goal

pub returns : goal.returns
returns c = record { values = λ t f keys keyed places key. values_written f keyed t keys key (λ k. from_listed (λ j. has_place t j ≡ true) keys k places); places = places_written; part = listed_part }
