-- The text of the document, and what it says.
use Rattle.std.proofs.Common.{◌≡◌, map, string_bytes, refl, ap, sym, ◌∙◌}
use Rattle.serde_json.specs.Read.{read}
use Rattle.std.proofs.lemmas.Str.{IsUtf8-string_bytes}
use Rattle.mt_model.specs.Topology.{HasDistinctPlaces, TopologyState}
use Rattle.mt_model.proofs.DistinctLemmas.{distinct-rules}
use Rattle.mt_model.specs.Documents.{array, denied_sorted, dump_text, keyspace_text, keyspaces_in_order, quoted, rules_array}
use Rattle.mt_topology.specs.Dump.{topology_of_text}
use Rattle.mt_topology.specs.Values.{IsNamedTopology, dump_value}
use Rattle.mt_topology.proofs.SaysLemmas.{dump_says}
use Rattle.mt_topology.proofs.TextLemmas.{dump_read, dump_written, is_named, seven_parts}
use Rattle.mt_topology.proofs.VersionLemmas.{texts_alike}
use Rattle.mt_topology.proofs.write.text_of_parts.Goals as goal

pub returns-clause-text : goal.returns-clause-text
returns-clause-text c =
    let t : TopologyState = record { rules = c.args.rules.now; keyspaces = c.args.keyspaces.now } in
    seven_parts (string_bytes c.new-text.result) (string_bytes c.push_str.new.self) (string_bytes c.push_denials.new.text) (string_bytes c.push_str-2.new.self) (string_bytes c.push_list.new.text) (string_bytes c.push_str-3.new.self)
    (string_bytes c.push_list-2.new.text) (string_bytes c.push_str-4.new.self) (array (map quoted (denied_sorted t))) (array (map keyspace_text (keyspaces_in_order t))) (rules_array t.rules) c.new-text.ensures.bytes
    c.in_ok-push_str.ensures.bytes c.in_ok-push_denials.ensures.text c.in_ok-push_str-2.ensures.bytes c.in_ok-push_list.ensures.text c.in_ok-push_str-3.ensures.bytes c.in_ok-push_list-2.ensures.text
    c.in_ok-push_str-4.ensures.bytes

pub returns-clause-value : goal.returns-clause-value
returns-clause-value c =
    let t : TopologyState = record { rules = c.args.rules.now; keyspaces = c.args.keyspaces.now } in
    let distinct : HasDistinctPlaces t = distinct-rules _ c.args.rules.now c.facts.ensures.distinct c.facts-2.ensures.distinct in
    let named : IsNamedTopology t = is_named t c.in_ok-push_denials.ensures.named c.in_ok-push_list.ensures.named c.in_ok-push_list-2.ensures.sorted c.facts.ensures.within in
    returns-clause-text c ∙ sym (dump_written t distinct named)

pub returns-clause-says : goal.returns-clause-says
returns-clause-says c = λ there.
    let t : TopologyState = record { rules = c.args.rules.now; keyspaces = c.args.keyspaces.now } in
    let distinct : HasDistinctPlaces t = distinct-rules _ c.args.rules.now c.facts.ensures.distinct c.facts-2.ensures.distinct in
    let named : IsNamedTopology t = is_named t c.in_ok-push_denials.ensures.named c.in_ok-push_list.ensures.named c.in_ok-push_list-2.ensures.sorted c.facts.ensures.within in
    let text = string_bytes c.push_str-4.new.self in
    let is : text ≡ dump_text t = returns-clause-text c in
    dump_says t (dump_value t) text refl distinct named c.facts-2.ensures.few (IsUtf8-string_bytes c.push_str-4.new.self) (λ shallow. ap read is ∙ dump_read t distinct named) there

pub returns-clause-versions : goal.returns-clause-versions
returns-clause-versions c = λ one.
    let t : TopologyState = record { rules = c.args.rules.now; keyspaces = c.args.keyspaces.now } in
    let distinct : HasDistinctPlaces t = distinct-rules _ c.args.rules.now c.facts.ensures.distinct c.facts-2.ensures.distinct in
    let named : IsNamedTopology t = is_named t c.in_ok-push_denials.ensures.named c.in_ok-push_list.ensures.named c.in_ok-push_list-2.ensures.sorted c.facts.ensures.within in
    texts_alike t one distinct named ∙ ap topology_of_text (sym (returns-clause-text c))
