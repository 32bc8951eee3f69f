-- `split_once` cuts at the first mark.
use Rattle.std.proofs.Common.{None, Some, sym, ◌∙◌, ap}
use Rattle.std.proofs.lemmas.Str.Pattern.{split_parts}
use Rattle.mt_names.specs.Keys.{before, after}
use Rattle.mt_names.proofs.CutLemmas.{before-lacks, after-lacks, before-append, after-append}
use Rattle.mt_names.proofs.keys.cut.Goals as goal

pub returns-in-Some-clause-front : goal.returns-in-Some-clause-front
returns-in-Some-clause-front c =
    let parts = split_parts c.args.mark c.args.text.now (Some (c.in-Some.front, c.in-Some.rest)) c.in-Some.ensures.cases c.requires in
    sym (ap (before c.args.mark) parts.0 ∙ before-append c.args.mark c.in-Some.front.now c.in-Some.rest.now parts.1)

pub returns-in-Some-clause-rest : goal.returns-in-Some-clause-rest
returns-in-Some-clause-rest c =
    let parts = split_parts c.args.mark c.args.text.now (Some (c.in-Some.front, c.in-Some.rest)) c.in-Some.ensures.cases c.requires in
    sym (ap (after c.args.mark) parts.0 ∙ after-append c.args.mark c.in-Some.front.now c.in-Some.rest.now parts.1)

pub returns-in-None-clause-front : goal.returns-in-None-clause-front
returns-in-None-clause-front c =
    sym (before-lacks c.args.mark c.args.text.now (split_parts c.args.mark c.args.text.now None c.in-None.ensures.cases c.requires))

pub returns-in-None-clause-rest : goal.returns-in-None-clause-rest
returns-in-None-clause-rest c =
    sym (after-lacks c.args.mark c.args.text.now (split_parts c.args.mark c.args.text.now None c.in-None.ensures.cases c.requires))
