-- `split_once` cuts at the first mark.
use Rattle.std.proofs.Common.{◌≡◌, None, Some, ◌∙◌, ap, lit<, rules}
use Rattle.std.proofs.lemmas.Str.Pattern.{split_parts}
use Rattle.mt_names.specs.Keys.{after, at_sign}
use Rattle.mt_names.proofs.CutLemmas.{after-lacks, after-append}
use Rattle.mt_script.proofs.commands.has_type_for_reads.Goals as goal

pub returns-then-eq : goal.returns-then-eq
returns-then-eq c =
    let parts = split_parts at_sign c.args.name.now (Some (c.in-Some._name, c.in-Some.word)) c.in-Some.ensures.cases (lit< tt) in
    let word : after at_sign c.args.name.now ≡ Some c.in-Some.word.now = ap (after at_sign) parts.0 ∙ after-append at_sign c.in-Some._name.now c.in-Some.word.now parts.1 in
    search (rules, word)

pub returns-else-eq : goal.returns-else-eq
returns-else-eq c =
    let parts = split_parts at_sign c.args.name.now (Some (c.in-Some._name, c.in-Some.word)) c.in-Some.ensures.cases (lit< tt) in
    let word : after at_sign c.args.name.now ≡ Some c.in-Some.word.now = ap (after at_sign) parts.0 ∙ after-append at_sign c.in-Some._name.now c.in-Some.word.now parts.1 in
    search (rules, word)

pub returns-in-None : goal.returns-in-None
returns-in-None c =
    let none : after at_sign c.args.name.now ≡ None = after-lacks at_sign c.args.name.now (split_parts at_sign c.args.name.now None c.in-None.ensures.cases (lit< tt)) in
    search (rules, none)
