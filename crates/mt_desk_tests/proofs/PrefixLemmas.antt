-- Beginnings of a list.
use Rattle.std.proofs.Common.{◌∙◌, List, ◌++◌, ap, append_assoc, sym}
use mathlib.Core.List.{IsPrefix}

-- the beginning of a beginning is one
pub prefix_more : {A : Type 0} (xs ys zs : List A) → IsPrefix xs ys → IsPrefix ys zs → IsPrefix xs zs
prefix_more xs ys zs p q = (p.0 ++ q.0, sym (append_assoc xs p.0 q.0) ∙ ap (λ w. w ++ q.0) p.1 ∙ q.1)
