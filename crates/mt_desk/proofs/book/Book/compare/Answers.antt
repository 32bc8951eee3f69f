-- What was compared is the history that the type keeps.
use Rattle.std.proofs.Common.{All, map, subst}
use Rattle.mt_desk.specs.Passes.{Differs, HasPass, IsOf}
use Rattle.mt_desk.proofs.NumberLemmas.{all_have}
use Rattle.mt_desk.proofs.PassLemmas.{cause_kept, one_history}
use Rattle.mt_desk.proofs.ReadingLemmas.{none_found}
use Rattle.mt_desk.proofs.book.Book.compare.Goals as goal

pub returns-in-Some-first_cause-clause-compares : goal.returns-in-Some-first_cause-clause-compares
returns-in-Some-first_cause-clause-compares g c =
    let passes = map (λ p. (p.client, p.calls.items)) c.args.passes.now in
    let none = none_found c.first_without.result c.in_default.not-Some in (
      subst (All (HasPass passes)) c.as_slice.ensures.keys (all_have passes c.note.new.self.passes.items c.as_slice.result.now c.note.ensures (c.first_without.ensures.all none)),
      subst (λ lines. Differs passes lines c.in-Some-first_cause.client) c.as_slice-2.ensures.value c.in-Some-first_cause.ensures.differs,
    )

pub returns-in-Some-first_cause-clause-caused : goal.returns-in-Some-first_cause-clause-caused
returns-in-Some-first_cause-clause-caused g c =
    let passes = map (λ p. (p.client, p.calls.items)) c.args.passes.now in
    cause_kept g.D.DeskName.scopes g.D.DeskName.opening c.args.self.now.core passes c.args.self.now.history.items c.in-Some-first_cause.client c.args.self.now.legal
    (subst (λ lines. Differs passes lines c.in-Some-first_cause.client) c.as_slice-2.ensures.value c.in-Some-first_cause.ensures.differs)

pub returns-in-None-clause-compares : goal.returns-in-None-clause-compares
returns-in-None-clause-compares g c =
    let passes = map (λ p. (p.client, p.calls.items)) c.args.passes.now in
    let none = none_found c.first_without.result c.in_default.not-Some in (
      subst (All (HasPass passes)) c.as_slice.ensures.keys (all_have passes c.note.new.self.passes.items c.as_slice.result.now c.note.ensures (c.first_without.ensures.all none)),
      subst (IsOf passes) c.as_slice-2.ensures.value (c.first_cause.ensures.none c.in-None.is),
    )

pub returns-in-None-clause-one : goal.returns-in-None-clause-one
returns-in-None-clause-one g c =
    let passes = map (λ p. (p.client, p.calls.items)) c.args.passes.now in
    one_history g.D.DeskName.scopes g.D.DeskName.opening c.args.self.now.core passes c.args.self.now.history.items c.args.self.now.legal
    (subst (IsOf passes) c.as_slice-2.ensures.value (c.first_cause.ensures.none c.in-None.is))
