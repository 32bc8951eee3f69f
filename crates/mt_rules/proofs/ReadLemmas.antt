-- Lists of values, and the value of a text.
use Rattle.std.proofs.Common.{◌≡◌, inl, inr, ◌<◌, ◌+◌, ℕ, Bool, true, false, List, [], ◌∷◌, length, get_or, drop, Some, None, Result, Ok, Err, IsUtf8, refl, sym, ap, ◌∙◌}
use Rattle.std.proofs.lemmas.Str.{IsUtf8-from_is_utf8, is_utf8-from_IsUtf8}
use Rattle.std.specs.Str.{is_utf8}
use Rattle.serde_json.specs.Data.{Data}
use Rattle.serde_json.specs.Read.{read}
use Rattle.mt_names.specs.Results.{◌>>=◌}
use Rattle.serde_json.specs.View.{items_view, view}
use Rattle.serde_json.specs.declared.value.Value.{Value}
use Rattle.mt_rules.specs.declared.fault.RulesFault.TheVariants.{NotOneTarget}
use Rattle.std.proofs.lemmas.List.{drop_more}
use Rattle.mt_model.specs.Topology.{Rules}
use Rattle.mt_rules.specs.declared.fault.RulesFault.{RulesFault}
use Rattle.mt_rules.specs.Read.{IsUnlessMemory, rule_of, sole_text, value_of_text, with_one_more, with_rules}

pub sole_text-other : (vs : List Value) → (length vs ≡ 1 → ⊥) → Err NotOneTarget ≡ sole_text (items_view vs)
sole_text-other [] other = refl
sole_text-other (v ∷ []) other = absurd (other refl)
sole_text-other (v ∷ w ∷ vs) other = refl

pub value_of_text-some : (text : List ℕ) (d : Data) → IsUtf8 text → read text ≡ Some d → value_of_text text ≡ Some d
value_of_text-some text d valid is = rw (is_utf8-from_IsUtf8 text valid) is

pub value_of_text-none : (text : List ℕ) → (IsUtf8 text → read text ≡ None) → value_of_text text ≡ None
value_of_text-none text none = by (is_utf8 text) refl
  where
    by : (t : Bool) → is_utf8 text ≡ t → value_of_text text ≡ None
    by true e = rw e (none (IsUtf8-from_is_utf8 text e))
    by false e = rw e refl

-- ---- the rules of a list, one after the other

-- what the rest of a list adds, from a value on
pub next_rules : (rules : Rules) (list : List Value) (i : ℕ) (other : Value) → i < length list
    → with_rules rules (items_view (drop i list)) ≡ ((rule_of (view (get_or list i other)) >>= with_one_more rules) >>= λ more. with_rules more (items_view (drop (i + 1) list)))
next_rules rules list i other within = ap (λ l. with_rules rules (items_view l)) (drop_more list i other within)

pub answered : (rules : Rules) (due : Result Rules RulesFault) → IsUnlessMemory (Ok rules) due → due ≡ Ok rules
answered rules due (inl is) = search is
answered rules due (inr is) = sym is

pub refused : (fault : RulesFault) (due whole : Result Rules RulesFault) (then : Rules → Result Rules RulesFault) → whole ≡ (due >>= then) → IsUnlessMemory {A = Rules} (Err fault) due → IsUnlessMemory {A = Rules} (Err fault) whole
refused fault due whole then is (inl memory) = inl memory
refused fault due whole then is (inr same) = inr (sym (is ∙ ap (λ r. r >>= then) (sym same)))
