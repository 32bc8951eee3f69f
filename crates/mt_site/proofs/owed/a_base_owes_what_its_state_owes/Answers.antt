-- The workflows are those that are live, one for one.
use Rattle.std.proofs.Common.{◌≤◌, subst, sym}
use Rattle.std.proofs.Math.Logic.{∥∥₁_elim}
use denote.Struct.Props.{props}
use Rattle.mt_plain.specs.Refuse.{most_workflows}
use Rattle.mt_refinement.proofs.NamedLemmas.{same_count}
use Rattle.mt_site.proofs.OwedLemmas.{owed_same}
use Rattle.mt_site.proofs.owed.a_base_owes_what_its_state_owes.Goals as goal

pub returns : goal.returns
returns c = record {
  few = λ core is. ∥∥₁_elim is (search props)
      (λ h. subst (λ n. n ≤ most_workflows) (sym (same_count h.state core.workflows h.stands.workflows)) (c.no_limit_is_passed.ensures h.state h.reached).workflows);
  same = λ scopes p core stands. owed_same p core.workflows (c.parts_are_apart.ensures.names p stands.reached) stands.workflows;
}
