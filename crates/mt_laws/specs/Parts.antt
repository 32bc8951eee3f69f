-- Where live workflows lie over a topology without meeting.
use Rattle.std.specs.Prelude.{◌≡◌, ◌≢◌, true, false, List, [], ◌∷◌, is_some, ⊤}
use Rattle.std.specs.List.{AllByRecursion}
use Rattle.mt_model.specs.declared.entries.EntryKey.{EntryKey}
use Rattle.mt_model.specs.Topology.{TopologyState, keyspace_at}
use Rattle.mt_plain.specs.Plain.{Live, has_part}

-- both sides of a workflow are keyspaces, and not the same one
pub record HasSides (u : TopologyState) (w : Live) : Type 0 where
  pub source : is_some (keyspace_at u.keyspaces w.source) ≡ true
  pub target : is_some (keyspace_at u.keyspaces w.target) ≡ true
  pub apart : w.source ≢ w.target

-- no entry lies in the parts of two workflows
abbrev pub AreApart : List Live → Type 0
AreApart [] = ⊤
AreApart (w ∷ ws) = AllByRecursion (λ v. (key : EntryKey) → has_part w key ≡ true → has_part v key ≡ false) ws × AreApart ws
