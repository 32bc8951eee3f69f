-- The parts are the whole.
use Rattle.std.proofs.Common.{◌≡◌, string_bytes, subst}
use Rattle.serde_json.specs.Written.{compact_text}
use Rattle.mt_topology.specs.Dump.{topology_of_text}
use Rattle.mt_topology.specs.Says.{HasDeniedTables, Says}
use Rattle.mt_topology.specs.Values.{dump_value}
use Rattle.mt_topology.specs.Versions.{IsUnsharded, dump_text_one}
use Rattle.mt_topology.proofs.topology.Topology.dump.Goals as goal

pub returns-in-Ok-clause-says : goal.returns-in-Ok-clause-says
returns-in-Ok-clause-says c = subst (λ t. HasDeniedTables t → Says (string_bytes c.in-Ok.text) t) c.self.view_is c.in-Ok.ensures.says

pub returns-in-Ok-clause-value : goal.returns-in-Ok-clause-value
returns-in-Ok-clause-value c = subst (λ t. string_bytes c.in-Ok.text ≡ compact_text (dump_value t)) c.self.view_is c.in-Ok.ensures.value

pub returns-in-Ok-clause-versions : goal.returns-in-Ok-clause-versions
returns-in-Ok-clause-versions c = subst (λ t. IsUnsharded t → topology_of_text (dump_text_one t) ≡ topology_of_text (string_bytes c.in-Ok.text)) c.self.view_is c.in-Ok.ensures.versions
