use Rattle.std.proofs.Common.{◌≡◌, None, sym, ap, ◌∙◌, ⊎_elim}
use Rattle.std.proofs.Math.Logic.{∥∥₁_elim}
use Rattle.std.proofs.Props.{props}
use Rattle.std.proofs.lemmas.Bool.{cases_lt}
use Rattle.mt_plain.specs.Events.{create}
use Rattle.mt_plain.specs.Plain.{each_once}
use Rattle.mt_plain.specs.Refuse.{refusal_of}
use Rattle.mt_primary.specs.Primaries.{count_of}
use Rattle.mt_primary.proofs.PrimariesLemmas.{primary_past}
use Rattle.mt_primary.specs.Primary.{has_table}
use Rattle.mt_stands.specs.Workflows.{create_refusal}
use Rattle.mt_refinement.proofs.ListLemmas.{at_named}
use Rattle.mt_refinement.proofs.RefusedLemmas.{passes}
use Rattle.mt_refinement.proofs.RoomLemmas.{CanMove}
use Rattle.mt_refinement.proofs.SetLemmas.{topology_set}
use Rattle.mt_refinement.proofs.CreateStayLemmas.{still_taken}
use Rattle.mt_refinement.proofs.staying.a_create_can_be_taken_back.Goals as goal

pub returns : goal.returns
returns g c = λ base workflow source target tables is none. ∥∥₁_elim is (hlevel (topology_set, props)) (λ h.
    let scopes = g.W.Asks.scopes c.args.watchers.now in
    let (wide, are) = c.a_base_stays_one.ensures.wider base scopes h in
    let p = wide.state in
    let free : refusal_of p (create workflow source target tables) ≡ None =
    sym (c.a_create_is_refused_as_the_definitions_refuse_it.ensures p p.scopes base wide.stands workflow source target tables)
    ∙ ap (λ these. create_refusal base these workflow source target (each_once tables)) are
    ∙ still_taken base h.state.scopes scopes workflow source target (each_once tables) none in (
      c.a_create_taken_back_leaves_the_topology.ensures p base.topology workflow source target tables wide.reached free wide.stands.topology,
      λ shard table m. ⊎_elim
          (λ within. wide.stands.primaries.tables target shard within table ∙ (at_named (CanMove p source target) (each_once tables) (passes p workflow source target (each_once tables) free).can table m).there)
          (λ past. ap (λ s. has_table s table) (primary_past base.primaries target shard past)) (cases_lt shard (count_of base.primaries target)),
    ))
