-- Reading a dump: the limits are looked at last.
use Rattle.std.proofs.Common.{◌≡◌, inl, inr, ◌||◌, nat_lt, Bool, true, false, if◌then◌else◌, length, codes, Option, None, Some, option_map, option_and_then, Result, Ok, Err, refl, sym, ap, ◌∙◌}
use Rattle.std.specs.List.{list_any}
use Rattle.std.specs.Option.{option_map_or}
use Rattle.serde_json.specs.Data.{Data}
use Rattle.serde_json.specs.Find.{as_number, get}
use Rattle.mt_model.specs.declared.faults.TopologyFault.{TopologyFault}
use Rattle.mt_model.specs.declared.faults.TopologyFault.TheVariants.{Full, BadDump}
use Rattle.mt_model.specs.Limits.{most_keyspaces, most_rules}
use Rattle.mt_model.specs.Topology.{Keyspaces, Rules}
use Rattle.mt_rules.specs.Member.{rules_in}
use Rattle.mt_keyspace.specs.declared.load.DumpVersion.{DumpVersion}
use Rattle.mt_keyspace.specs.Load.{IsUnlessMemory, has_too_many_tables, keyspaces_in, or_bad_dump}
use Rattle.mt_topology.specs.Dump.{is_too_large, unless_many, version_from, whole_topology, within_limits}

-- what a document of this version tells, whose parts were read
pub whole : (d : Data) (version : DumpVersion) (rules : Rules) (keyspaces : Keyspaces) → version_from (option_and_then as_number (get (codes "version") d)) ≡ Some version → rules_in (get (codes "rules") d) ≡ Some rules
    → keyspaces_in version d ≡ Some keyspaces → whole_topology d ≡ Some (record { rules = rules; keyspaces = keyspaces })
whole d version rules keyspaces one some_rules some_keyspaces = rw (one, some_rules, some_keyspaces) refl

-- the rules that were read, and whether they are too many
read_within : (o : Option Rules) (rules : Rules) → Ok (Some rules) ≡ or_bad_dump (option_map unless_many o) → (o ≡ Some rules) × (nat_lt most_rules (length rules) ≡ false)
read_within None rules e = absurd cc
read_within (Some found) rules e = by (nat_lt most_rules (length found)) refl
  where
    by : (t : Bool) → nat_lt most_rules (length found) ≡ t → (Some found ≡ Some rules) × (nat_lt most_rules (length rules) ≡ false)
    by true t = absurd (let h = rw t at e in cc)
    by false t = let h : Ok (Some rules) ≡ Ok (Some found) = rw t at e in let same : found ≡ rules = cc in (ap Some same, ap (λ r. nat_lt most_rules (length r)) (sym same) ∙ t)

read_keyspaces : (o : Option Keyspaces) (keyspaces : Keyspaces) → Ok keyspaces ≡ or_bad_dump o → o ≡ Some keyspaces
read_keyspaces None keyspaces e = absurd cc
read_keyspaces (Some found) keyspaces e = let same : found ≡ keyspaces = cc in ap Some same

not_memory : {A : Type 0} (x : A) (due : Result A TopologyFault) → IsUnlessMemory (Ok x) due → Ok x ≡ due
not_memory x due (inl e) = absurd cc
not_memory x due (inr e) = e

pub limits_looked_at : (d : Data) (version : DumpVersion) (rules : Rules) (keyspaces : Keyspaces) → version_from (option_and_then as_number (get (codes "version") d)) ≡ Some version
    → IsUnlessMemory (Ok (Some rules)) (or_bad_dump (option_map unless_many (rules_in (get (codes "rules") d)))) → IsUnlessMemory (Ok keyspaces) (or_bad_dump (keyspaces_in version d))
    → (t : Bool) → (nat_lt most_keyspaces (length keyspaces) || list_any has_too_many_tables keyspaces) ≡ t
    → (if t then Err Full else Ok (record { rules = rules; keyspaces = keyspaces })) ≡ option_map_or within_limits (whole_topology d) (Err BadDump)
limits_looked_at d version rules keyspaces one some_rules some_keyspaces t is =
    let within = read_within (rules_in (get (codes "rules") d)) rules (not_memory _ _ some_rules) in
    let all = whole d version rules keyspaces one within.0 (read_keyspaces (keyspaces_in version d) keyspaces (not_memory _ _ some_keyspaces)) in
    sym (ap (λ o. option_map_or within_limits o (Err BadDump)) all ∙ (let large : is_too_large (record { rules = rules; keyspaces = keyspaces }) ≡ t = rw within.1 is in rw large refl))
