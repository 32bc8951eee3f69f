-- A whole last segment goes among the others.
use Rattle.std.proofs.Common.{rules, ◌≡◌, ◌++◌, ◌∷◌, sym, subst, [], length, nat_lt, true}
use Rattle.std.specs.Vec.{vec_capacity, vec_len}
use Rattle.mt_store.specs.Log.{has_room}
use Rattle.mt_store.specs.Segments.{log_of}
use Rattle.mt_store.proofs.SegmentLemmas.{closed_are, closed_log}
use Rattle.mt_store.proofs.log.Log.make_room.Goals as goal

pub returns-clause-entries : goal.returns-clause-entries
returns-clause-entries c =
    let pushed : c.push_back_reserved.new.self.items ≡ c.self.inside.segments.items ++ c.self.inside.last.items ∷ [] = search rules in
    let next : c.replace-whole.new.dest.items ≡ [] = search rules in
    rw (pushed, next, ← c.self.view_is) (closed_log c.self.inside.purged c.self.inside.segments.items c.self.inside.last.items)

pub invariant_of-self-2 : goal.invariant_of-self-2
invariant_of-self-2 c =
    let pushed : c.push_back_reserved.new.self.items ≡ c.self.inside.segments.items ++ c.self.inside.last.items ∷ [] = search rules in
    let next : c.replace-whole.new.dest.items ≡ [] = search rules in
    let full : length c.self.inside.last.items ≡ 256 = search rules in
    rw (pushed, next) (closed_are c.self.inside.purged c.self.inside.segments.items c.self.inside.last.items full c.self.invariant)

pub returns-clause-room : goal.returns-clause-room
returns-clause-room c =
    let pushed : c.push_back_reserved.new.self.items ≡ c.self.inside.segments.items ++ c.self.inside.last.items ∷ [] = search rules in
    let next : c.replace-whole.new.dest.items ≡ [] = search rules in
    let spare : nat_lt (vec_len c.replace-whole.new.dest) (vec_capacity c.replace-whole.new.dest) ≡ true = search rules in
    let short : nat_lt (vec_len c.replace-whole.new.dest) 256 ≡ true = search rules in
    let room : has_room (log_of c.self.inside.purged c.self.inside.segments.items c.self.inside.last.items) ≡ true = search rules in
    rw (spare, short, pushed, next) (subst (λ l. has_room l ≡ true) (sym (closed_log c.self.inside.purged c.self.inside.segments.items c.self.inside.last.items)) room)
