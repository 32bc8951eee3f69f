-- A place that is reserved, as an edit of its keyspace.
use Rattle.std.proofs.Common.{◌≡◌, inl, inr, Result, ℕ, Bool, true, false, ◌&&◌, ◌==◌, if◌then◌else◌, not, List, length, None, Some, Ok, Err, refl, ap, arith}
use Rattle.std.proofs.lemmas.Bool.{ne_eqb}
use Rattle.mt_model.specs.declared.faults.TopologyFault.TheVariants.{Full}
use Rattle.mt_model.specs.Limits.{most_tables_in_keyspace}
use Rattle.mt_model.specs.Topology.{KeyspaceState, Marks, with_mark_place}
use Rattle.mt_denied.specs.declared.fault.DeniedFault.{DeniedFault}
use Rattle.mt_denied.specs.declared.fault.DeniedFault.TheVariants as denied
use Rattle.mt_denied.specs.Denied.{Reserves}
use Rattle.mt_keyspace.specs.Edits.{Edits, answer_of}
use Rattle.mt_keyspace.specs.Room.{lacks_mark_place, mark_place_refusal}

pub reserved : (whole : Marks → KeyspaceState) (marks : Marks) (name : List ℕ) (r : Result Unit DeniedFault) (new : Marks) → Reserves marks name r new
    → Edits (whole marks) (mark_place_refusal marks name) (lacks_mark_place marks name) (whole (with_mark_place marks name)) (answer_of r) (whole new)
reserved whole marks name (Ok done) new (inl there, is) = (rw there refl, ap whole is)
reserved whole marks name (Ok done) new (inr room, is) = (by (lacks_mark_place marks name), ap whole is)
  where
    by : (b : Bool) → (if b && (length marks == most_tables_in_keyspace) then Some Full else None) ≡ None
    by true = rw (ne_eqb (length marks) most_tables_in_keyspace (λ e. absurd (omega (arith, room, e)))) refl
    by false = refl
reserved whole marks name (Err denied.Full) new (lacks, full, is) = (rw (lacks, full) refl, ap whole is)
reserved whole marks name (Err denied.Memory) new (lacks, room, is) =
    (rw (lacks, ne_eqb (length marks) most_tables_in_keyspace (λ e. absurd (omega (arith, room, e)))) refl, ap not lacks, ap whole is)
