-- The names that are marked differ, and are found by their marks.
use Rattle.std.proofs.Common.{◌≡◌, ℕ, Bool, true, false, List, [], ◌∷◌, map, refl, sym, ap, subst, ◌∙◌}
use Rattle.std.proofs.lemmas.Map.Made.{IsDistinct-keys_filter}
use Rattle.std.specs.List.{IsDistinct, list_any}
use Rattle.std.specs.Map.{keys_of}
use Rattle.mt_names.specs.Names.{same_text}
use Rattle.mt_denied.proofs.DeniedLemmas.{members, members-found}
use Rattle.mt_model.specs.Documents.{marked}
use Rattle.mt_model.specs.Topology.{Marks, is_marked}
use Rattle.mt_keyspace.specs.Values.{by_themselves}

-- the names that are marked are the keys of what a filter leaves
pub marked-members : (marks : Marks) → marked marks ≡ members marks
marked-members [] = refl
marked-members (m ∷ ms) = by (marked-members ms) m.1 refl
  where
    by : marked ms ≡ members ms → (b : Bool) → m.1 ≡ b → marked (m ∷ ms) ≡ members (m ∷ ms)
    by again true b = rw b (ap (λ l. m.0 ∷ l) again)
    by again false b = rw b again

pub themselves : (texts : List (List ℕ)) → map (λ x. x.1) (by_themselves texts) ≡ texts
themselves [] = refl
themselves (t ∷ ts) = ap (λ l. t ∷ l) (themselves ts)

firsts-themselves : (texts : List (List ℕ)) → map (λ x. x.0) (by_themselves texts) ≡ texts
firsts-themselves [] = refl
firsts-themselves (t ∷ ts) = ap (λ l. t ∷ l) (firsts-themselves ts)

pub marked_differ : (marks : Marks) → IsDistinct same_text (keys_of marks) → IsDistinct same_text (map (λ x. x.0) (by_themselves (marked marks)))
marked_differ marks distinct = subst (IsDistinct same_text) (sym (firsts-themselves (marked marks) ∙ marked-members marks)) (IsDistinct-keys_filter same_text (λ m. m.1) marks distinct)

pub marked-found : (marks : Marks) (name : List ℕ) → IsDistinct same_text (keys_of marks) → list_any (same_text name) (marked marks) ≡ is_marked marks name
marked-found marks name distinct = ap (list_any (same_text name)) (marked-members marks) ∙ members-found marks name distinct
