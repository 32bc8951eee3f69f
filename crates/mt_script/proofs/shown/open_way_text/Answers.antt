-- The words, one behind the other.
use Rattle.std.proofs.Common.{◌++◌, ap, ◌∙◌}
use Rattle.mt_names.specs.Types.{type_set_text}
use Rattle.mt_plain.specs.Numbers.{number_text}
use Rattle.mt_plain.specs.Output.{spaced}
use Rattle.mt_script.proofs.shown.open_way_text.Goals as goal

pub returns : goal.returns
returns c =
    let types = c.as_bytes.ensures.value ∙ c.as_str.ensures.value ∙ c.text-types.ensures.bytes ∙ ap type_set_text c.changed_types.ensures in
    let done = c.deref.ensures.0 ∙ c.number.ensures ∙ ap number_text c.from.ensures in
    let steps = c.deref-2.ensures.0 ∙ c.spaced-done.ensures ∙ (λ i. spaced (types i) (done i)) in
    let way = c.deref-3.ensures.0 ∙ c.spaced-open.ensures ∙ (λ i. spaced (c.direction.ensures.text i) (steps i)) in
    c.joined.ensures ∙ (λ i. way i ++ c.undo_text.ensures.text i)
