-- By computing.
use Rattle.std.proofs.Common.{◌≡◌, ℕ, List, codes, Result, Err, IsUtf8, refl}
use Rattle.std.proofs.lemmas.Str.{is_utf8-from_IsUtf8}
use Rattle.std.specs.Option.{option_map_or}
use Rattle.std.specs.Prelude.{option_and_then}
use Rattle.serde_json.specs.Read.{read}
use Rattle.serde_json.proofs.OnLiterals.{serde_json_on_literals}
use Rattle.mt_model.specs.declared.faults.TopologyFault.{TopologyFault}
use Rattle.mt_model.specs.declared.faults.TopologyFault.TheVariants.{BadDump}
use Rattle.mt_model.specs.Topology.{TopologyState}
use Rattle.mt_topology.specs.Dump.{topology_of_text, whole_topology, within_limits}
use Rattle.mt_topology.proofs.examples.dumps_are_read.Goals as goal

by_reading : (text : List ℕ) (answer : Result TopologyState TopologyFault) → IsUtf8 text → option_map_or within_limits (option_and_then whole_topology (read text)) (Err BadDump) ≡ answer
    → topology_of_text text ≡ answer
by_reading text answer valid is = rw (is_utf8-from_IsUtf8 text valid) is

pub returns-clause-read : goal.returns-clause-read
unfolding serde_json_on_literals
returns-clause-read c = by_reading (codes "{\"keyspaces\":[{\"name\":\"b\",\"tables\":[\"t\"]}],\"denied\":[\"b.t\"],\"version\":1}") _ (codes "{\"keyspaces\":[{\"name\":\"b\",\"tables\":[\"t\"]}],\"denied\":[\"b.t\"],\"version\":1}", (refl, refl)) refl

pub returns-clause-sharded : goal.returns-clause-sharded
unfolding serde_json_on_literals
returns-clause-sharded c = by_reading (codes "{\"keyspaces\":[{\"name\":\"b\",\"shards\":[\"-80\",\"80-\"]},{\"name\":\"a\"}],\"version\":2}") _ (codes "{\"keyspaces\":[{\"name\":\"b\",\"shards\":[\"-80\",\"80-\"]},{\"name\":\"a\"}],\"version\":2}", (refl, refl)) refl

pub returns-clause-ignored : goal.returns-clause-ignored
unfolding serde_json_on_literals
returns-clause-ignored c = by_reading (codes "{\"keyspaces\":[{\"name\":\"b\",\"shards\":[\"-80\",\"80-\"]}],\"version\":1}") _ (codes "{\"keyspaces\":[{\"name\":\"b\",\"shards\":[\"-80\",\"80-\"]}],\"version\":1}", (refl, refl)) refl

pub returns-clause-version : goal.returns-clause-version
unfolding serde_json_on_literals
returns-clause-version c = by_reading (codes "{\"version\":3}") _ (codes "{\"version\":3}", (refl, refl)) refl

pub returns-clause-covering : goal.returns-clause-covering
unfolding serde_json_on_literals
returns-clause-covering c = by_reading (codes "{\"keyspaces\":[{\"name\":\"b\",\"shards\":[\"-80\",\"90-\"]}],\"version\":2}") _ (codes "{\"keyspaces\":[{\"name\":\"b\",\"shards\":[\"-80\",\"90-\"]}],\"version\":2}", (refl, refl)) refl

pub returns-clause-none : goal.returns-clause-none
unfolding serde_json_on_literals
returns-clause-none c = by_reading (codes "{\"keyspaces\":[{\"name\":\"b\",\"shards\":[]}],\"version\":2}") _ (codes "{\"keyspaces\":[{\"name\":\"b\",\"shards\":[]}],\"version\":2}", (refl, refl)) refl

pub returns-clause-denied : goal.returns-clause-denied
unfolding serde_json_on_literals
returns-clause-denied c = by_reading (codes "{\"keyspaces\":[{\"name\":\"b\"}],\"denied\":[\"b.t\"],\"version\":1}") _ (codes "{\"keyspaces\":[{\"name\":\"b\"}],\"denied\":[\"b.t\"],\"version\":1}", (refl, refl)) refl
