-- The words and the streams, one behind the other.
use Rattle.std.proofs.Common.{◌++◌, ◌∷◌, ap, ◌∙◌}
use Rattle.mt_plain.specs.Output.{backs_text, forwards_text}
use Rattle.mt_event.specs.Events.{lanes_from}
use Rattle.mt_script.proofs.LaneLemmas.{streams-behind}
use Rattle.mt_script.proofs.shown.put_streams.Goals as goal

pub returns-clause-text : goal.returns-clause-text
returns-clause-text c =
    let lanes = c.as_slice-lanes.ensures.value in
    let forwards = c.put_forwards.ensures.text ∙ ap (λ l. c.put.new.text.items ++ 32 ∷ forwards_text (lanes_from l)) lanes in
    let backs = c.put_backs.ensures.text ∙ ap (λ l. c.put-2.new.text.items ++ 32 ∷ backs_text (lanes_from l)) lanes in
    streams-behind c.args.text.now.items _ _ _ _ _ _ c.put.ensures.text forwards c.put-2.ensures.text backs
