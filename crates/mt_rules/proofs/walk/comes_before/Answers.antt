-- The test of the order that was told.
use Rattle.std.proofs.Common.{ℕ, List, Option, sym, ap, ap₂, ◌∙◌}
use Rattle.std.specs.Cmp.Lexicographic.{slice_cmp}
use Rattle.std.specs.Ordering.{is_lt, nat_cmp}
use Rattle.mt_names.specs.declared.keys.RuleKey.{RuleKey}
use Rattle.mt_model.specs.Order.{key_code}
use Rattle.mt_model.proofs.OrderLemmas.{comes_before-is}
use Rattle.mt_rules.proofs.walk.comes_before.Goals as goal

-- with the parts of both
parts : Option (List ℕ) → RuleKey → RuleKey
parts keyspace key = record key { keyspace = keyspace }

pub returns : goal.returns
unfolding parts
returns c =
    let key = c.args.key.now in
    let other = c.args.other.now in
    c.is_lt.ensures ∙ ap is_lt c.compare.ensures
    ∙ ap₂ (λ k l. is_lt (slice_cmp nat_cmp (key_code (parts k key)) (key_code (parts l other)))) c.as_ref.ensures.value c.as_ref-2.ensures.value
    ∙ sym (comes_before-is (key_code key) (key_code other))
