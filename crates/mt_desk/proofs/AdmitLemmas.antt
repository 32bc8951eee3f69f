-- A client that is in the set is one of those that are listed, and the list stays.
use Rattle.std.proofs.Common.{◌≡◌, ◌∙◌, ℕ, Bool, true, false, not, List, ◌∷◌, [], ◌++◌, Contains, nat_eq, sym, ap, refl, arith, if◌then◌else◌}
use Rattle.std.proofs.lemmas.Bool.{true≢false}
use Rattle.std.proofs.lemmas.Bool.Decides.{nat_tests}
use Rattle.std.proofs.lemmas.Map.Views.{Contains-from_any}
use Rattle.std.specs.List.{list_any}
use Rattle.indexmap.specs.IndexSet.{insert_key}

same : (x y : ℕ) → nat_eq x y ≡ true → x ≡ y
same x y is = grind (is, arith, nat_tests)

found : (b : Bool) → false ≡ not b → b ≡ true
found true is = refl
found false is = absurd (true≢false (sym is))

pub is_taken : (clients new : List ℕ) (client : ℕ) → false ≡ not (list_any (nat_eq client) clients) → new ≡ insert_key nat_eq clients client → Contains clients client × (new ≡ clients)
is_taken clients new client is kept =
    let there = found (list_any (nat_eq client) clients) is in
    (Contains-from_any same client clients there, kept ∙ ap (λ b. if b then clients else clients ++ client ∷ []) there)
