-- `split_once` cuts at the first mark.
use Rattle.std.proofs.Common.{None, Some, sym, ap, ◌∙◌, arith}
use Rattle.std.specs.Prelude.{unwrap_or}
use Rattle.std.proofs.lemmas.Str.Pattern.{split_parts}
use Rattle.mt_names.specs.Keys.{after, before}
use Rattle.mt_names.proofs.CutLemmas.{after-append, after-lacks, before-append, before-lacks}
use Rattle.mt_plain.specs.Script.{one_shard, slash}
use Rattle.mt_script.proofs.workflows.cut_range.Goals as goal

pub returns-in-Some-clause-stream : goal.returns-in-Some-clause-stream
returns-in-Some-clause-stream c =
    let parts = split_parts slash c.args.word.now (Some (c.in-Some.stream, c.in-Some.range)) c.in-Some.ensures.cases (omega arith) in
    sym (ap (before slash) parts.0 ∙ before-append slash c.in-Some.stream.now c.in-Some.range.now parts.1)

pub returns-in-Some-clause-range : goal.returns-in-Some-clause-range
returns-in-Some-clause-range c =
    let parts = split_parts slash c.args.word.now (Some (c.in-Some.stream, c.in-Some.range)) c.in-Some.ensures.cases (omega arith) in
    sym (ap (λ o. unwrap_or o one_shard) (ap (after slash) parts.0 ∙ after-append slash c.in-Some.stream.now c.in-Some.range.now parts.1))

pub returns-in-None-clause-stream : goal.returns-in-None-clause-stream
returns-in-None-clause-stream c = sym (before-lacks slash c.args.word.now (split_parts slash c.args.word.now None c.in-None.ensures.cases (omega arith)))

pub returns-in-None-clause-range : goal.returns-in-None-clause-range
returns-in-None-clause-range c =
    sym (ap (λ o. unwrap_or o one_shard) (after-lacks slash c.args.word.now (split_parts slash c.args.word.now None c.in-None.ensures.cases (omega arith))))
