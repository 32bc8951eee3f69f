-- The owner changes with the journal: after the old one's primary refuses, before the new one's does not.
use Rattle.std.proofs.Common.{refl}
use Rattle.mt_laws.proofs.ReadLemmas.{reads_at_the_owner, writable_is_owner, writes_at_the_owner}
use Rattle.mt_laws.proofs.rows.the_owner_alone_serves_the_primary.Goals as goal

pub returns : goal.returns
returns c = record {
  reads = reads_at_the_owner;
  writes = writes_at_the_owner;
  writable = writable_is_owner;
  refused = λ p keyspace table op refusal k t key. refl;
}
