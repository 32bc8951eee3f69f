-- The words, one behind the other.
use Rattle.std.proofs.Common.{ap, ◌∙◌, ◌++◌, ◌∷◌, []}
use Rattle.mt_names.specs.Tables.{table_list_text}
use Rattle.mt_plain.specs.Output.{line_feed}
use Rattle.mt_script.proofs.TextLemmas.{spaced-behind}
use Rattle.mt_script.proofs.shown.shown_line.Goals as goal

pub returns : goal.returns
returns c =
    let workflow = c.as_bytes.ensures.value ∙ c.as_str.ensures.value in
    let source = c.as_bytes-2.ensures.value ∙ c.as_str-2.ensures.value in
    let target = c.as_bytes-3.ensures.value ∙ c.as_str-3.ensures.value in
    let tables = c.put.ensures.text ∙ ap (λ t. t ++ 32 ∷ []) c.put_tables.ensures.text in
    let from-tables = spaced-behind _ _ _ _ _ _ c.put_traffic.ensures.text tables (ap table_list_text c.as_slice.ensures.tables) in
    let from-target = spaced-behind _ _ _ _ _ _ from-tables c.put_word-3.ensures.text target in
    let from-source = spaced-behind _ _ _ _ _ _ from-target c.put_word-2.ensures.text source in
    let all = spaced-behind _ _ [] _ _ _ from-source (c.put_word.ensures.text ∙ ap (λ t. t ++ c.as_bytes.result.now ++ 32 ∷ []) c.new-text.ensures) workflow in
    c.push.ensures.items ∙ ap (λ t. t ++ line_feed) all
