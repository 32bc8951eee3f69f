-- What an advance did, by the other clause, keeps the copied range as the source has it: the law of advances on values.
use Rattle.std.proofs.Common.{◌≢◌, AllPairs, arith, rules, subst}
use Rattle.std.proofs.lemmas.Grind.{common_steps}
use Rattle.mt_stream.proofs.FollowLemmas.{follows-advanced}
use Rattle.mt_stream.proofs.stream.Stream.advance.Goals as goal

pub returns-clause-advances : goal.returns-clause-advances
returns-clause-advances c = grind (arith, common_steps)

pub returns-clause-follows : goal.returns-clause-follows
returns-clause-follows c =
    let distinct = subst (λ s. AllPairs (λ a b. a ≢ b) s.tables) c.self.view_is c.self.invariant.distinct in
    follows-advanced c.args.self.now _ c.args.source.now c.args.sink.now c.copy_rows.new.sink c.args.max _ c.facts.ensures (c.requires.kept (search rules)) distinct (returns-clause-advances c).1

pub returns-then-self-position-clause-advances : goal.returns-then-self-position-clause-advances
returns-then-self-position-clause-advances c = grind (arith, common_steps)

pub returns-then-self-position-clause-follows : goal.returns-then-self-position-clause-follows
returns-then-self-position-clause-follows c =
    let distinct = subst (λ s. AllPairs (λ a b. a ≢ b) s.tables) c.self.view_is c.self.invariant.distinct in
    follows-advanced c.args.self.now _ c.args.source.now c.args.sink.now c.read_entries.new.sink c.args.max _ c.facts.ensures (c.requires.kept (search rules)) distinct (returns-then-self-position-clause-advances c).1
