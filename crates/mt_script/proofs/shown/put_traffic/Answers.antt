-- The words, one behind the other.
use Rattle.std.proofs.Common.{refl, ◌∙◌}
use Rattle.mt_script.proofs.TextLemmas.{spaced-behind}
use Rattle.mt_script.proofs.shown.put_traffic.Goals as goal

pub returns-clause-text : goal.returns-clause-text
returns-clause-text c =
    let types = c.as_bytes.ensures.value ∙ c.as_str.ensures.value ∙ c.text-types.ensures.bytes in
    let way = c.deref.ensures.0 ∙ c.way_text.ensures in
    let from-way = spaced-behind _ _ _ _ _ _ c.put_streams.ensures.text c.put_word-4.ensures.text way in
    let from-word = spaced-behind _ _ _ _ _ _ from-way c.put_word-3.ensures.text refl in
    let from-types = spaced-behind _ _ _ _ _ _ from-word c.put_word-2.ensures.text types in
    spaced-behind _ _ _ _ _ _ from-types c.put_word.ensures.text refl
