-- Where each keyspace has one shard, version 1 tells what the dump tells.
use Rattle.std.proofs.Common.{◌≡◌, ℕ, List, [], ◌∷◌, codes, map, Option, None, Some, option_map, option_and_then, Err, IsUtf8, refl, sym, ap, subst, ◌∙◌}
use Rattle.std.proofs.lemmas.List.Elements.{recursion_from_All}
use Rattle.std.specs.List.{AllByRecursion}
use Rattle.std.specs.Option.{option_map_or}
use Rattle.serde_json.specs.Data.{Data, string}
use Rattle.serde_json.specs.Find.{get}
use Rattle.serde_json.specs.Read.{read}
use Rattle.serde_json.specs.View.{items_of}
use Rattle.mt_names.specs.Shards.{range_text, ranges_of}
use Rattle.mt_model.specs.declared.faults.TopologyFault.TheVariants.{BadDump}
use Rattle.mt_model.specs.Documents.{denied_sorted, dump_text, keyspaces_in_order, tables_in_order}
use Rattle.mt_model.specs.Topology.{HasDistinctPlaces, KeyspaceState, Keyspaces, TopologyState}
use Rattle.mt_rules.specs.Member.{rules_in}
use Rattle.mt_rules.proofs.ReadLemmas.{value_of_text-some}
use Rattle.mt_keyspace.specs.declared.load.DumpVersion.TheVariants.{One, Two}
use Rattle.mt_keyspace.specs.Load.{cuts_in, denials_of, keyspaces_of, name_of, state_of, tables_of, with_keyspace_of, with_new_keyspace}
use Rattle.mt_keyspace.specs.Values.{IsDenialText, keyspace_value}
use Rattle.mt_keyspace.specs.Written.{denied_in_order}
use Rattle.mt_topology.specs.Dump.{topology_of_text, whole_topology, within_limits}
use Rattle.mt_topology.specs.Values.{IsNamedTopology, dump_value}
use Rattle.mt_topology.specs.Versions.{IsUnsharded, dump_text_one, dump_value_one, keyspace_value_one}
use Rattle.mt_topology.proofs.AsciiLemmas.{dump_utf8, dump_utf8_one}
use Rattle.mt_topology.proofs.OnceLemmas.{denied_once}
use Rattle.mt_topology.proofs.OrderLemmas.{all-ordered}
use Rattle.mt_topology.proofs.TextLemmas.{dump_read, dump_read_one}

-- ---- one keyspace

-- with one shard
state_alike : (k : List ℕ × KeyspaceState) → k.1.cuts ≡ [] → state_of One (keyspace_value_one k) ≡ state_of Two (keyspace_value k)
state_alike k one =
    let tables = option_and_then (tables_of []) (Some (items_of (map string (tables_in_order k.1)))) in
    sym (ap (λ cuts. option_and_then (λ c. option_map (λ ts. record { cuts = c; tables = ts; denied = [] }) tables) (cuts_in (items_of (map string (map range_text (ranges_of cuts)))))) one)

keyspace_alike : (before : Keyspaces) (k : List ℕ × KeyspaceState) → k.1.cuts ≡ [] → with_keyspace_of One before (keyspace_value_one k) ≡ with_keyspace_of Two before (keyspace_value k)
keyspace_alike before k one = ap (λ s. option_and_then (λ name. option_and_then (with_new_keyspace before name) s) (name_of (keyspace_value k))) (state_alike k one)

-- ---- all of them

keyspaces_alike : (before ks : Keyspaces) → AllByRecursion (λ k. k.1.cuts ≡ []) ks → keyspaces_of One before (items_of (map keyspace_value_one ks)) ≡ keyspaces_of Two before (items_of (map keyspace_value ks))
keyspaces_alike before [] all = refl
keyspaces_alike before (k ∷ ks) all =
    ap (λ o. option_and_then (λ more. keyspaces_of One more (items_of (map keyspace_value_one ks))) o) (keyspace_alike before k all.0) ∙ by (λ more. keyspaces_alike more ks all.1) (with_keyspace_of Two before (keyspace_value k))
  where
    by : ((more : Keyspaces) → keyspaces_of One more (items_of (map keyspace_value_one ks)) ≡ keyspaces_of Two more (items_of (map keyspace_value ks))) → (o : Option Keyspaces)
        → option_and_then (λ more. keyspaces_of One more (items_of (map keyspace_value_one ks))) o ≡ option_and_then (λ more. keyspaces_of Two more (items_of (map keyspace_value ks))) o
    by again None = refl
    by again (Some more) = again more

-- ---- the whole

pub values_alike : (t : TopologyState) → IsUnsharded t → whole_topology (dump_value_one t) ≡ whole_topology (dump_value t)
values_alike t one =
    let rules = rules_in (get (codes "rules") (dump_value t)) in
    let denied = items_of (map string (denied_in_order t)) in
    ap (λ ks. option_and_then (λ rs. option_map (λ keyspaces. record { rules = rs; keyspaces = keyspaces }) (option_and_then (λ keyspaces. denials_of keyspaces denied) ks)) rules)
    (keyspaces_alike [] (keyspaces_in_order t) (all-ordered (λ k. k.1.cuts ≡ []) t (recursion_from_All (λ k. k.1.cuts ≡ []) t.keyspaces one)))

read_as : (text : List ℕ) (d : Data) → IsUtf8 text → read text ≡ Some d → topology_of_text text ≡ option_map_or within_limits (whole_topology d) (Err BadDump)
read_as text d valid is = ap (λ v. option_map_or within_limits (option_and_then whole_topology v) (Err BadDump)) (value_of_text-some text d valid is)

pub texts_alike : (t : TopologyState) → IsUnsharded t → HasDistinctPlaces t → IsNamedTopology t → topology_of_text (dump_text_one t) ≡ topology_of_text (dump_text t)
texts_alike t one distinct named =
    let denials : AllByRecursion IsDenialText (denied_sorted t) = subst (AllByRecursion IsDenialText) (denied_once t distinct named) named.denied in
    read_as (dump_text_one t) (dump_value_one t) (dump_utf8_one t named denials) (dump_read_one t distinct named)
    ∙ ap (λ o. option_map_or within_limits o (Err BadDump)) (values_alike t one)
    ∙ sym (read_as (dump_text t) (dump_value t) (dump_utf8 t named denials) (dump_read t distinct named))
