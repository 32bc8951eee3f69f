-- What is kept leads there still, with one more name; what is kept is read as a name, and bytes that are no text aren't.
use Rattle.std.proofs.Common.{◌≡◌, ℕ, ◌<◌, Bool, true, false, List, Some, Result, Ok, Err, get_or, is_ok, arith, sym, ap, subst, ◌∙◌, refl}
use Rattle.std.proofs.lemmas.Grind.{common_steps}
use Rattle.std.proofs.lemmas.Str.{IsUtf8-from_ascii}
use Rattle.std.proofs.lemmas.Str.Ascii.{IsAscii-from_all}
use Rattle.std.specs.Str.{IsUtf8}
use Rattle.std.specs.Prelude.{cond}
use Rattle.std.specs.Map.{lookup}
use Rattle.std.specs.Cmp.Lexicographic.{bytes_decides}
use Rattle.mt_names.proofs.NameLemmas.{name_from_read, read_name-name}
use Rattle.mt_names.specs.declared.fault.NameFault.{NameFault}
use Rattle.mt_names.specs.declared.text.Alphabet.TheVariants.{WithDollar}
use Rattle.mt_names.specs.Names.{IsTableName, allows, read_table, same_text}
use Rattle.mt_model.specs.Topology.{TopologyState}
use Rattle.mt_site.specs.declared.controller.placed.Place.{Place}
use Rattle.mt_run.specs.Names.{LeadThere, LeadsTo}

pub lead_more : (t : TopologyState) (old new : List (List ℕ × Place)) (name : List ℕ) (place : Place)
    → ((q : List ℕ) → lookup (same_text q) new ≡ cond (same_text name q) (Some place) (lookup (same_text q) old))
    → LeadsTo t name place → LeadThere t old → LeadThere t new
lead_more t old new name place updates leads lead = record { each = λ q p is. by q p is (same_text name q) refl }
  where
    by : (q : List ℕ) (p : Place) → lookup (same_text q) new ≡ Some p → (b : Bool) → same_text name q ≡ b → LeadsTo t q p
    by q p is true same =
        let found : Some p ≡ Some place = sym is ∙ updates q ∙ ap (λ b. cond b (Some place) (lookup (same_text q) old)) same in
        let there : p ≡ place = cc in
        let names : name ≡ q = (bytes_decides name q).0 same in
        subst (λ x. LeadsTo t q x) (sym there) (subst (λ n. LeadsTo t n place) names leads)
    by q p is false other = lead.each q p (sym (updates q ∙ ap (λ b. cond b (Some place) (lookup (same_text q) old)) other) ∙ is)

-- a name is ASCII, and so a text
name_ascii : (byte : ℕ) → allows WithDollar byte ≡ true → byte < 128
name_ascii byte is = grind (arith, common_steps)

IsUtf8-name : (name : List ℕ) → IsTableName name → IsUtf8 name
IsUtf8-name name named = IsUtf8-from_ascii name (IsAscii-from_all name (λ k d h. name_ascii (get_or name k d) (named.each k d h)))

pub not_read : (name : List ℕ) → (IsUtf8 name → ⊥) → false ≡ is_ok (read_table name)
not_read name not_text = by (read_table name) refl
  where
    by : (r : Result (List ℕ) NameFault) → read_table name ≡ r → false ≡ is_ok (read_table name)
    by (Ok read) e = absurd (not_text (IsUtf8-name name (name_from_read WithDollar name read e).0))
    by (Err fault) e = sym (ap is_ok e)

-- what is kept is read as a name
pub is_read : (name : List ℕ) → IsTableName name → true ≡ is_ok (read_table name)
is_read name named = sym (ap is_ok (read_name-name WithDollar name named))
