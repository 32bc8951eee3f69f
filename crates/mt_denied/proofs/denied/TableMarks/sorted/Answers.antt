-- The members, sorted.
use Rattle.std.proofs.Common.{◌≡◌, rules, subst}
use Rattle.std.specs.List.{IsDistinct}
use Rattle.std.specs.Map.{keys_of}
use Rattle.mt_names.specs.Names.{same_text}
use Rattle.mt_denied.proofs.DeniedLemmas.{members, sorted_members}
use Rattle.mt_denied.proofs.denied.TableMarks.sorted.Goals as goal

pub returns-clause-members : goal.returns-clause-members
returns-clause-members c =
    let distinct = subst (λ marks. IsDistinct same_text (keys_of marks)) c.self.view_is c.self.invariant.0 in
    let all : c.loop-name.names.items ≡ members c.args.self.now = search rules in
    sorted_members c.args.self.now c.loop-name.names.items c.sort_unstable.new.self.items distinct all c.sort_unstable.ensures.permutation c.sort_unstable.ensures.sorted
