use Rattle.mt_stands.proofs.FieldLemmas.{entries_same, part_same}
use Rattle.mt_stands.proofs.ways.entries_follow_from_sides_types_and_way.Goals as goal

pub returns : goal.returns
returns c = record {
  part = λ v w kept types source target tables. part_same v w source target tables kept types;
  step = λ v w kept types n source target tables switched way. entries_same v w source target tables switched way kept types n;
}
