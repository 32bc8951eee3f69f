-- Those of several shards.
use Rattle.std.proofs.Common.{◌++◌, ◌∷◌, ap, ◌∙◌}
use Rattle.mt_script.proofs.LaneLemmas.{several-backs}
use Rattle.mt_script.proofs.shown.put_backs.Goals as goal

pub returns-in_default-clause-text : goal.returns-in_default-clause-text
returns-in_default-clause-text c =
    c.put_each_back.ensures.text ∙ ap (λ t. c.args.text.now.items ++ 32 ∷ t) (several-backs c.args.lanes.now c.in_default.len_at_least)
