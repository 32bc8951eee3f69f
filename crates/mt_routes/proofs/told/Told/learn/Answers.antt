-- Of two beginnings of one list the shorter begins the longer.
use Rattle.std.proofs.Common.{◌≤◌, ap, subst, arith, length, List}
use mathlib.Core.List.{IsPrefix}
use Rattle.mt_routes.specs.declared.publication.Publication.{Publication}
use Rattle.mt_routes.specs.Publications.{last_front}
use Rattle.mt_routes.proofs.Lists.{fronts_never_fall, prefix_shorter}
use Rattle.mt_routes.proofs.told.Told.learn.Goals as goal

pub returns-then-self-told-clause-grows : goal.returns-then-self-told-clause-grows
returns-then-self-told-clause-grows g c =
    let both = c.learn.new.self.log in
    let this : IsPrefix c.self.inside.seen.log both = subst (λ (l : List Publication). IsPrefix l both) (ap (λ s. s.log) c.again-both.ensures) c.learn.ensures.2 in
    let less : length c.self.inside.seen.log ≤ length c.told.inside.seen.log = omega (arith, c.self.invariant.0, c.told.invariant.0, c.if-self-told.true) in
    subst (λ l. IsPrefix l c.told.inside.seen.log) c.self.view_is (prefix_shorter c.self.inside.seen.log c.told.inside.seen.log both this c.learn.ensures.3 less)

pub returns-then-self-told-clause-fronts : goal.returns-then-self-told-clause-fronts
returns-then-self-told-clause-fronts g c =
    let both = c.learn.new.self.log in
    let this : IsPrefix c.self.inside.seen.log both = subst (λ (l : List Publication). IsPrefix l both) (ap (λ s. s.log) c.again-both.ensures) c.learn.ensures.2 in
    let less : length c.self.inside.seen.log ≤ length c.told.inside.seen.log = omega (arith, c.self.invariant.0, c.told.invariant.0, c.if-self-told.true) in
    let begins : IsPrefix c.self.inside.seen.log c.told.inside.seen.log = prefix_shorter c.self.inside.seen.log c.told.inside.seen.log both this c.learn.ensures.3 less in
    subst (λ l. last_front l ≤ last_front c.told.inside.seen.log) c.self.view_is (fronts_never_fall c.self.inside.seen.log c.told.inside.seen.log begins c.told.invariant.3)

pub returns-else-self-told-clause-told : goal.returns-else-self-told-clause-told
returns-else-self-told-clause-told g c =
    let both = c.learn.new.self.log in
    let this : IsPrefix c.self.inside.seen.log both = subst (λ (l : List Publication). IsPrefix l both) (ap (λ s. s.log) c.again-both.ensures) c.learn.ensures.2 in
    let less : length c.told.inside.seen.log ≤ length c.self.inside.seen.log = omega (arith, c.self.invariant.0, c.told.invariant.0, c.if-self-told.false) in
    subst (λ (l : List Publication). IsPrefix c.args.told l) c.self.view_is
    (subst (λ (l : List Publication). IsPrefix l c.self.inside.seen.log) c.told.view_is (prefix_shorter c.told.inside.seen.log c.self.inside.seen.log both c.learn.ensures.3 this less))
