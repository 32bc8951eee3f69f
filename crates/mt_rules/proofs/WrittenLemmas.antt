-- The texts of the rules, sorted and written, are the document of the rules, which says them.
use Rattle.std.proofs.Common.{◌≡◌, ◌≤◌, ℕ, max, Bool, true, false, List, [], ◌∷◌, ◌++◌, map, fold, flat_map, codes, length, Option, None, Some, option_map, option_and_then, Result, Ok, Err, IsUtf8, append_assoc, append-nil, refl, sym, ap, ◌∙◌, arith}
use Rattle.std.proofs.lemmas.Bool.{true≢false}
use Rattle.std.proofs.Math.Nat.{max-le}
use Rattle.std.specs.List.{AllByRecursion, IsDistinct, join_with_byte}
use Rattle.std.specs.List.Sorted.{IsPermutation}
use Rattle.std.specs.Map.{keys_of}
use Rattle.json.specs.Json as json
use Rattle.json.specs.Lex.{tokens}
use Rattle.json.specs.Print.{print}
use Rattle.json.specs.Tree as tree
use Rattle.json.proofs.Printed.Tokens.{tokens-print}
use Rattle.json.proofs.Printed.Trees.{ArePrintable-json_tokens, value-json_tokens}
use Rattle.serde_json.specs.Data.{Members, no_members, member, item, array, object, put}
use Rattle.serde_json.specs.Read.{max_depth, of_items, of_json, read}
use Rattle.serde_json.specs.View.{items_of}
use Rattle.serde_json.specs.Written.{items_outline, outline}
use Rattle.serde_json.proofs.Texts.{print-outline}
use Rattle.mt_names.specs.declared.fault.NameFault.{NameFault}
use Rattle.mt_names.specs.declared.keys.RuleKey.{RuleKey}
use Rattle.mt_names.specs.declared.keys.RuleTarget.{RuleTarget}
use Rattle.mt_names.specs.Keys.{key_text, read_key}
use Rattle.mt_names.specs.Names.{same_text}
use Rattle.mt_names.specs.Same.{same_key}
use Rattle.mt_names.specs.Types.{comma}
use Rattle.mt_names.proofs.SameLemmas.{same_key_decides, same_text_decides}
use Rattle.mt_model.specs.Documents.{entries_of, put_by_text, quoted, rule_text, rules_text, sorted_rules}
use Rattle.mt_model.specs.Limits.{most_rules}
use Rattle.mt_model.specs.Topology.{Rules}
use Rattle.mt_rules.specs.Values.{IsNamed, IsWellSorted, Says, by_text, document_value, rule_value, rules_value}
use Rattle.mt_rules.specs.Written.{named_text, rest_text, text_of_texts, texts_of, written_document}
use Rattle.mt_rules.proofs.AscendLemmas.{Rises, sorted_is_put, seconds, sort-map, under}
use Rattle.mt_rules.proofs.BackLemmas.{document_says}
use Rattle.mt_rules.proofs.SortLemmas.{Completes, Completes-all, Completes-none, Completes-put, Completes-skip}
use Rattle.mt_rules.proofs.TextLemmas.{compact_text-document}

-- ---- rules that are names stand well in their order

each_in_turn : (ms : Members) (left rules : Rules) → AllByRecursion IsNamed (flat_map entries_of left) → Completes ms left rules → IsWellSorted rules
each_in_turn ms [] rules named c = (Completes-all ms rules c).sorted
each_in_turn ms ((key, None) ∷ left) rules named c = each_in_turn ms left rules named (Completes-skip ms key left rules c)
each_in_turn ms ((key, Some target) ∷ left) rules named c =
    each_in_turn (put (key_text key) (rule_value (key, target)) ms) left rules named.1 (Completes-put ms key target left rules named.0 c)

pub well_sorted : (rules : Rules) → IsDistinct same_key (keys_of rules) → AllByRecursion IsNamed (flat_map entries_of rules) → IsWellSorted rules
well_sorted rules distinct named = each_in_turn no_members rules rules named (Completes-none rules distinct)

-- ---- no two have one text

key_in : RuleKey → Result RuleKey NameFault → RuleKey
key_in other (Ok key) = key
key_in other (Err fault) = other

other_text : (key other : RuleKey) → read_key (key_text key) ≡ Ok key → read_key (key_text other) ≡ Ok other → same_key key other ≡ false → same_text (key_text key) (key_text other) ≡ false
unfolding key_in
other_text key other back other_back differs = by (same_text (key_text key) (key_text other)) refl
  where
    by : (t : Bool) → same_text (key_text key) (key_text other) ≡ t → same_text (key_text key) (key_text other) ≡ false
    by true is =
        let read_same : Ok key ≡ Ok other = sym back ∙ ap read_key ((same_text_decides (key_text key) (key_text other)).0 is) ∙ other_back in
        absurd (true≢false (sym ((same_key_decides key other).1 (ap (key_in key) read_same)) ∙ differs))
    by false is = is

other_texts : (key : RuleKey) (rules : Rules) → read_key (key_text key) ≡ Ok key → AllByRecursion (λ k. same_key key k ≡ false) (keys_of rules) → AllByRecursion IsNamed (flat_map entries_of rules)
    → AllByRecursion (λ t. same_text (key_text key) t ≡ false) (map (λ x. x.0) (texts_of rules))
other_texts key [] back other named = tt
other_texts key ((k, None) ∷ rules) back other named = other_texts key rules back other.1 named
other_texts key ((k, Some target) ∷ rules) back other named = (other_text key k back named.0.key_back other.0, other_texts key rules back other.1 named.1)

pub distinct_texts : (rules : Rules) → IsDistinct same_key (keys_of rules) → AllByRecursion IsNamed (flat_map entries_of rules) → IsDistinct same_text (map (λ x. x.0) (texts_of rules))
unfolding IsDistinct
distinct_texts [] distinct named = tt
distinct_texts ((key, None) ∷ rules) distinct named = distinct_texts rules distinct.1 named
distinct_texts ((key, Some target) ∷ rules) distinct named = (other_texts key rules named.0.key_back distinct.0 named.1, distinct_texts rules distinct.1 named.1)

-- ---- they are sorted as the rules are

pub texts_in_order : (rules : Rules) (sorted : List (List ℕ × List ℕ)) → IsDistinct same_key (keys_of rules) → AllByRecursion IsNamed (flat_map entries_of rules) → IsPermutation (texts_of rules) sorted → Rises sorted
    → sorted ≡ fold put_by_text [] (texts_of rules)
texts_in_order rules sorted distinct named same rises = sorted_is_put (texts_of rules) sorted same rises (distinct_texts rules distinct named)

named_texts : (rs : List (RuleKey × RuleTarget)) → map (under rule_text) (map (λ r. (key_text r.0, r)) rs) ≡ map named_text rs
named_texts [] = refl
named_texts (r ∷ rs) = ap (λ l. named_text r ∷ l) (named_texts rs)

pub texts_sorted : (rules : Rules) → map (λ x. x.1) (fold put_by_text [] (texts_of rules)) ≡ map rule_text (sorted_rules rules)
texts_sorted rules =
    let pairs = map (λ r. (key_text r.0, r)) (flat_map entries_of rules) in
    ap (λ l. map (λ x. x.1) (fold put_by_text [] l)) (sym (named_texts (flat_map entries_of rules))) ∙ ap (map (λ x. x.1)) (sym (sort-map rule_text [] pairs)) ∙ seconds rule_text (by_text rules)

pub written_is : (rules : Rules) (texts : List (List ℕ × List ℕ)) → texts ≡ fold put_by_text [] (texts_of rules) → written_document texts ≡ rules_text rules
written_is rules texts is = ap written_document is ∙ ap (λ l. 123 ∷ (34 ∷ codes "rules" ++ 34 ∷ []) ++ codes ":" ++ (91 ∷ join_with_byte comma l ++ 93 ∷ []) ++ 125 ∷ []) (texts_sorted rules)

-- ---- texts behind commas

pub rest_is_joined : (texts : List (List ℕ)) → rest_text [] texts ≡ join_with_byte comma texts
rest_is_joined [] = refl
rest_is_joined (text ∷ texts) = later text texts
  where
    later : (text : List ℕ) (texts : List (List ℕ)) → text ++ rest_text (comma ∷ []) texts ≡ join_with_byte comma (text ∷ texts)
    later text [] = append-nil text
    later text (next ∷ texts) = ap (λ l. text ++ comma ∷ l) (later next texts)

-- ---- the document is read back

pub numbers : (rs : List (RuleKey × RuleTarget)) → tree.ItemsHaveNumbers (items_outline (items_of (map rule_value rs)))
numbers [] = tt
numbers (r ∷ rs) = ((tt, ((tt, tt), tt)), numbers rs)

not_deep : (rs : List (RuleKey × RuleTarget)) → tree.items_depth (items_outline (items_of (map rule_value rs))) ≤ 2
not_deep [] = omega arith
not_deep (r ∷ rs) = max-le {a = tree.depth (outline (rule_value r))} (omega arith) (not_deep rs)

pub items_back : (rs : List (RuleKey × RuleTarget)) → of_items (items_outline (items_of (map rule_value rs))) ≡ Some (items_of (map rule_value rs))
items_back [] = refl
items_back (r ∷ rs) = ap (option_map (item (rule_value r))) (items_back rs)

document_back : (rules : Rules) → of_json (outline (document_value rules)) ≡ Some (document_value rules)
document_back rules = ap (λ o. option_map object (option_and_then (λ d. Some (member (codes "rules") d no_members)) (option_map array o))) (items_back (sorted_rules rules))

document_not_deep : (rules : Rules) → tree.depth (outline (document_value rules)) ≤ max_depth
document_not_deep rules =
    let few = not_deep (sorted_rules rules) in
    let list = tree.depth (outline (rules_value rules)) in
    let inside : max list 0 ≤ 3 = max-le {a = list} {b = 0} {k = 3} (omega (arith, few)) (omega arith) in omega (arith, inside)

printed_back : (rules : Rules) → read (print (tree.json_tokens (outline (document_value rules)))) ≡ Some (document_value rules)
printed_back rules =
    let j = outline (document_value rules) in
    let same : tokens (print (tree.json_tokens j)) ≡ tree.json_tokens j = tokens-print (tree.json_tokens j) (ArePrintable-json_tokens j (numbers (sorted_rules rules), tt)) in
    let value : json.value max_depth (tokens (print (tree.json_tokens j))) ≡ Some (j, []) =
    ap (json.value max_depth) (same ∙ sym (append-nil (tree.json_tokens j))) ∙ value-json_tokens j max_depth [] (document_not_deep rules) in
    ap (λ o. option_and_then of_json (option_and_then (λ p. json.if_last p.0 p.1) o)) value ∙ document_back rules

pub text_back : (rules : Rules) → AllByRecursion IsNamed (sorted_rules rules) → read (rules_text rules) ≡ Some (document_value rules)
text_back rules named = ap read (sym (compact_text-document rules named) ∙ sym (print-outline (document_value rules))) ∙ printed_back rules

pub text_says : (rules : Rules) (text : List ℕ) → text ≡ rules_text rules → IsWellSorted rules → length rules ≤ most_rules → IsUtf8 text → Says text rules
text_says rules text is sorted few valid = document_says rules (document_value rules) text refl sorted few valid (λ shallow. ap read is ∙ text_back rules sorted.named)

-- ---- one rule after another

-- what the rules that are left complete to the whole
pub record Writes (found : List (List ℕ × List ℕ)) (left rules : Rules) : Type 0 where
  pub texts : found ++ texts_of left ≡ texts_of rules
  pub named : AllByRecursion IsNamed (flat_map entries_of left) → AllByRecursion IsNamed (flat_map entries_of rules)

pub Writes-none : (rules : Rules) → Writes [] rules rules
Writes-none rules = record { texts = refl; named = λ named. named }

pub Writes-skip : (texts : List (List ℕ × List ℕ)) (key : RuleKey) (left rules : Rules) → Writes texts ((key, None) ∷ left) rules → Writes texts left rules
Writes-skip texts key left rules w = record { texts = w.texts; named = w.named }

pub Writes-put : (texts : List (List ℕ × List ℕ)) (key : RuleKey) (target : RuleTarget) (left rules : Rules) → IsNamed (key, target) → Writes texts ((key, Some target) ∷ left) rules
    → Writes (texts ++ named_text (key, target) ∷ []) left rules
Writes-put texts key target left rules named w = record { texts = append_assoc texts (named_text (key, target) ∷ []) (texts_of left) ∙ w.texts; named = λ later. w.named (named, later) }

-- what is no rule is none
pub no_rule : (rule : Option RuleTarget) → ((to : RuleTarget) → rule ≡ Some to → ⊥) → rule ≡ None
no_rule None not = refl
no_rule (Some to) not = absurd (not to refl)

pub Writes-all : (texts : List (List ℕ × List ℕ)) (rules : Rules) → Writes texts [] rules → texts ≡ texts_of rules
Writes-all texts rules w = sym (append-nil texts) ∙ w.texts

-- ---- what was appended in turn

pub five_parts : (start first second third fourth all from to : List ℕ) → first ≡ start ++ codes "{\"from_table\":\"" → second ≡ first ++ from → third ≡ second ++ codes "\",\"to_tables\":[\"" → fourth ≡ third ++ to
    → all ≡ fourth ++ codes "\"]}" → all ≡ start ++ text_of_texts from to
five_parts start first second third fourth all from to one two three four five =
    let front : second ≡ (start ++ codes "{\"from_table\":\"") ++ from = two ∙ ap (λ t. t ++ from) one in
    five ∙ ap (λ t. t ++ codes "\"]}") (four ∙ ap (λ t. t ++ to) (three ∙ ap (λ t. t ++ codes "\",\"to_tables\":[\"") front))
    ∙ in_turn start (codes "{\"from_table\":\"") from (codes "\",\"to_tables\":[\"") to (codes "\"]}") ∙ ap (λ t. start ++ t) (parts (quoted (codes "from_table")) from (quoted (codes "to_tables")) to)
  where
    in_turn : (s a b c d e : List ℕ) → ((((s ++ a) ++ b) ++ c) ++ d) ++ e ≡ s ++ (a ++ (b ++ (c ++ (d ++ e))))
    in_turn s a b c d e = simp append_assoc

    parts : (p from s to : List ℕ) → 123 ∷ (p ++ 58 ∷ 34 ∷ (from ++ 34 ∷ 44 ∷ (s ++ 58 ∷ 91 ∷ 34 ∷ (to ++ 34 ∷ 93 ∷ 125 ∷ []))))
        ≡ 123 ∷ (((p ++ 58 ∷ 34 ∷ (from ++ 34 ∷ [])) ++ 44 ∷ (s ++ 58 ∷ 91 ∷ ((34 ∷ (to ++ 34 ∷ [])) ++ 93 ∷ []))) ++ 125 ∷ [])
    parts p from s to = simp append_assoc

pub three_parts : (start first second all a b c : List ℕ) → first ≡ start ++ a → second ≡ first ++ b → all ≡ second ++ c → all ≡ start ++ (a ++ (b ++ c))
three_parts start first second all a b c one two three = three ∙ ap (λ t. t ++ c) (two ∙ ap (λ t. t ++ b) one) ∙ simp append_assoc

-- a text more, behind what stands before it
pub one_more : (start first second before text rest whole : List ℕ) → first ≡ start ++ before → second ≡ first ++ text → start ++ (before ++ (text ++ rest)) ≡ whole → second ++ rest ≡ whole
one_more start first second before text rest whole one two is = ap (λ t. t ++ rest) (two ∙ ap (λ t. t ++ text) one) ∙ regroup ∙ is
  where
    regroup : ((start ++ before) ++ text) ++ rest ≡ start ++ (before ++ (text ++ rest))
    regroup = simp append_assoc
