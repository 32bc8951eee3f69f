-- A table made or dropped changes what is found under its own name alone.
use Rattle.std.proofs.Common.{ap}
use Rattle.mt_primary.specs.Primary.{PrimaryState}
use Rattle.mt_stands.proofs.BridgeLemmas.{denied-all_dropped, denied-all_made, empty-made, has-all_dropped, has-all_made, made_and_dropped, made_and_dropped_in_order, stay-dropped, stay-made}
use Rattle.mt_stands.proofs.bridges.tables_made_and_dropped_leave_the_others.Goals as goal

pub returns : goal.returns
returns c = record {
  made = stay-made;
  empty = empty-made;
  there = λ old tables table. has-all_made tables old table;
  allowed = λ old tables table. denied-all_made tables old table;
  dropped = stay-dropped;
  gone = λ old tables is table. has-all_dropped old tables is.distinct table;
  gone_denied = λ old tables is table. denied-all_dropped old tables is.distinct table;
  dropped_at_once = λ old tables distinct absent. made_and_dropped tables old distinct absent;
  dropped_in_order = λ old tables absent. made_and_dropped_in_order tables old absent;
  denials = λ old new told set tables.
      record { log = ap (λ (s : PrimaryState). s.log) set; rows = λ table other key. c.denials_change_nothing_else.ensures.rows old new told set table key };
}
