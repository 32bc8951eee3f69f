-- What the pointer of a handle owns: nothing, or a value of a type of which something holds, in a block that some heap frees.
use Rattle.std.specs.Prelude.{Bool, true, false}
use base.Fml.{Fml, fex, ftrue}
use mir.Syntax.{Ty}
use denote.RattleType.{RattleType}
use denote.RawPtr.{Ptr}
use Rattle.std.specs.Box.Ownership.{box_owns}

abbrev pub held : {Heap : Type 0} → (Heap → Ty → Ptr → Fml) → (R : RattleType) → (R.Denot → Type 0) → Ptr → Bool → Fml
held frees R Is p false = ftrue
held {Heap} frees R Is p true = fex Heap (λ heap. fex ((x : R.Denot) × Is x) (λ it. box_owns (frees heap) R p it.0))
