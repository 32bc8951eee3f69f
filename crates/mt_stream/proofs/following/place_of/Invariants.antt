use Rattle.std.proofs.Common.{◌≡◌, ℕ, ◌<◌, false, get_or, []}
use Rattle.mt_names.specs.Names.{same_text}
use Rattle.mt_stream.proofs.following.place_of.Given as goal

abbrev pub invariant-loop-place : goal.invariant-loop-place
invariant-loop-place l = (k : ℕ) → k < l.place → same_text (get_or l.tables k []) l.table ≡ false
