-- What stands where an event is not refused.
use Rattle.std.proofs.Common.{◌≡◌, inl, inr, Bool, true, false, List, [], ◌∷◌, map, fold, Option, None, Some, is_some, refl, sym, ap, ◌∙◌, not, leb}
use Rattle.std.proofs.lemmas.Bool.{not-false}
use Rattle.std.specs.Option.{option_map_or}
use Rattle.mt_names.specs.declared.types.TypeSet.{TypeSet}
use Rattle.mt_names.proofs.EntryLemmas.{none_from}
use Rattle.mt_plain.specs.Events.{Refusal, nothing_under_way, under_way, Way, copying, full, nothing_to_reverse, nothing_to_switch}
use Rattle.mt_plain.specs.Plain.{Live, Plain}
use Rattle.mt_plain.specs.Refuse.{at_rest, in_workflow, or_else, refuse_if, begin_reverse_refusal, begin_switch_refusal, has_more, copies_still, most_ways, share_type}
use Rattle.mt_laws.proofs.LiveLemmas.{IsIn}

pub or_else-none : (o next : Option Refusal) → or_else o next ≡ None → (o ≡ None) × (next ≡ None)
or_else-none None next e = (refl, e)
or_else-none (Some refusal) next e = absurd cc

pub refuse_if-none : (test : Bool) (refusal : Refusal) → refuse_if test refusal ≡ None → test ≡ false
refuse_if-none true refusal e = absurd cc
refuse_if-none false refusal e = refl

pub in_workflow-none : (o : Option Live) (refusal : Live → Option Refusal) → in_workflow o refusal ≡ None → (w : Live) × (o ≡ Some w) × (refusal w ≡ None)
in_workflow-none None refusal e = absurd cc
in_workflow-none (Some w) refusal e = (w, refl, e)

pub on_way-none : (o : Option Way) (refusal : Way → Option Refusal) → option_map_or refusal o (Some nothing_under_way) ≡ None → (way : Way) × (o ≡ Some way) × (refusal way ≡ None)
on_way-none None refusal e = absurd cc
on_way-none (Some way) refusal e = (way, refl, e)

pub at_rest-none : (w : Live) (o : Option Refusal) → at_rest w o ≡ None → (w.way ≡ None) × (o ≡ None)
at_rest-none w o e =
    let r = or_else-none (refuse_if (is_some w.way) under_way) o e in
    (none_from w.way (refuse_if-none (is_some w.way) under_way r.0), r.1)

-- a begin is taken of a workflow at rest, which has types to switch or to reverse
pub switch-none : (p : Plain) (types : TypeSet) (w : Live) → begin_switch_refusal p types w ≡ None → (w.way ≡ None) × (has_more types w.switched ≡ true) × (copies_still w ≡ false)
switch-none p types w none =
    let full_at = refuse_if (leb most_ways p.ways) full in
    let copies = or_else (refuse_if (copies_still w) copying) full_at in
    let r = at_rest-none w (or_else (refuse_if (not (has_more types w.switched)) nothing_to_switch) copies) none in
    let s = or_else-none (refuse_if (not (has_more types w.switched)) nothing_to_switch) copies r.1 in (
      r.0,
      not-false (has_more types w.switched) (refuse_if-none (not (has_more types w.switched)) nothing_to_switch s.0),
      refuse_if-none (copies_still w) copying (or_else-none (refuse_if (copies_still w) copying) full_at s.1).0,
    )

pub reverse-none : (p : Plain) (types : TypeSet) (w : Live) → begin_reverse_refusal p types w ≡ None → (w.way ≡ None) × (share_type types w.switched ≡ true)
reverse-none p types w none =
    let full_at = refuse_if (leb most_ways p.ways) full in
    let r = at_rest-none w (or_else (refuse_if (not (share_type types w.switched)) nothing_to_reverse) full_at) none in (
      r.0,
      not-false (share_type types w.switched) (refuse_if-none (not (share_type types w.switched)) nothing_to_reverse (or_else-none (refuse_if (not (share_type types w.switched)) nothing_to_reverse) full_at r.1).0),
    )

-- each of some refusals is none
pub fold_or_else-none : {X : Type 0} (refusal : X → Option Refusal) (xs : List X) (o : Option Refusal) → fold or_else o (map refusal xs) ≡ None → (o ≡ None) × ((x : X) → IsIn x xs → refusal x ≡ None)
fold_or_else-none refusal [] o e = (e, λ x is. absurd is)
fold_or_else-none {X} refusal (y ∷ ys) o e =
    let r = fold_or_else-none refusal ys (or_else o (refusal y)) e in
    let s = or_else-none o (refusal y) r.0 in
    (s.0, λ x is. by r.1 s.1 x is)
  where
    by : ((x : X) → IsIn x ys → refusal x ≡ None) → refusal y ≡ None → (x : X) → IsIn x (y ∷ ys) → refusal x ≡ None
    by others first x (inl same) = ap refusal (sym same) ∙ first
    by others first x (inr is) = others x is
