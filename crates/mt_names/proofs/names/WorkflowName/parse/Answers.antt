-- A name that does not end in the suffix is read as itself.
use Rattle.std.proofs.Common.{◌≡◌, false, eqb, sym}
use Rattle.std.proofs.lemmas.Str.Pattern.{ends_text}
use Rattle.std.specs.List.{ends_with}
use Rattle.mt_names.specs.Names.{reverse_suffix}
use Rattle.mt_names.proofs.names.WorkflowName.parse.Goals as goal

pub returns-clause-value : goal.returns-clause-value
returns-clause-value c =
    let of_text : ends_with eqb c.as_str.result.now reverse_suffix ≡ false =
    sym (ends_text false reverse_suffix c.as_str.result.now c.if-ends_with.ensures.cases) in
    let free : ends_with eqb c.in_ok-text.text reverse_suffix ≡ false = rw c.as_str.ensures at of_text in
    rw (← c.in_ok-text.ensures.value, free)
