-- What a base reads its state may answer, and of the states the law holds.
use Rattle.std.proofs.Common.{ℕ, List}
use Rattle.mt_model.specs.declared.entries.Scope.{Scope}
use Rattle.mt_model.specs.Rows.{Row}
use Rattle.mt_names.specs.declared.types.TabletType.TheVariants.{Primary}
use Rattle.mt_plain.specs.Answers.{Answers, after}
use Rattle.mt_plain.specs.Events.{read, row}
use Rattle.mt_plain.specs.Plain.{Plain, opening}
use Rattle.mt_stands.specs.ByHand.{ReadsRow}
use Rattle.mt_stands.specs.Base.{BaseState}
use Rattle.mt_stands.specs.Stands.{StandsWith}
use Rattle.mt_refinement.proofs.headline.reads_of_a_base_answer_the_acknowledged_writes.Goals as goal

pub returns : goal.returns
returns c =
    let answered : (scopes : List Scope) (p : Plain) (base : BaseState) → StandsWith p scopes base → (keyspace table : List ℕ) (key : ℕ) (r : Row)
    → ReadsRow base keyspace table key Primary (row r) base → Answers p (read keyspace table key Primary) (row r)
    = λ scopes p base stands keyspace table key r reads. (c.a_read_steps.ensures scopes base base keyspace table key Primary (row r) reads p stands).0 in
    record {
      each_once = λ scopes events answers base run stands keyspace table key r reads.
          c.each_primary_read_answers_from_the_acknowledged_writes.ensures.each_once scopes events answers run keyspace table key r
          (answered scopes (after (opening scopes) events answers) base stands keyspace table key r reads);
      as_it_is = λ scopes p base stands keyspace table key r reads.
          c.each_primary_read_answers_from_the_acknowledged_writes.ensures.as_it_is p stands.reached keyspace table key r
          (answered scopes p base stands keyspace table key r reads);
    }
