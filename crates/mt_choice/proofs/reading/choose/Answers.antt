use Rattle.std.proofs.Common.{map}
use Rattle.clap.specs.Words.{app_of}
use Rattle.mt_choice.proofs.ChoiceLemmas.{chooses-matched, chooses-unmatched}
use Rattle.mt_choice.proofs.reading.choose.Goals as goal

pub returns-in-Ok-try_get_matches_from : goal.returns-in-Ok-try_get_matches_from
returns-in-Ok-try_get_matches_from g c =
    chooses-matched (map g.S.AsStr.text c.args.words.now) (app_of c.in-Ok.command) c.in-Ok-try_get_matches_from.matches c.chosen.result c.in-Ok.ensures
    c.in-Ok-try_get_matches_from.ensures.kinds c.in-Ok-try_get_matches_from.ensures.matches c.chosen.ensures

pub returns-in-Err : goal.returns-in-Err
returns-in-Err g c =
    chooses-unmatched (map g.S.AsStr.text c.args.words.now) (app_of c.in-Ok.command) c.in-Err.error c.unmatched.result c.in-Ok.ensures
    c.in-Err.ensures.kinds c.unmatched.ensures
