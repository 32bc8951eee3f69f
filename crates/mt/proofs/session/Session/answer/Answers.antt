-- A line whose answer is put is kept; one whose answer isn't leaves the session as it was.
use Rattle.std.proofs.Common.{◌≡◌, ◌≤◌, ℕ, List, [], arith, length, ap, refl, subst}
use Rattle.mt_model.specs.declared.entries.Scope.{Scope}
use Rattle.mt.proofs.SessionLemmas.{line_kept, line_left, not_put, tells_not}
use Rattle.mt.specs.Places.{PutsAnswer}
use Rattle.mt.specs.Sessions.{longest_answer, scopes_of}
use Rattle.mt.proofs.session.Session.answer.Goals as goal

pub invariant_of-self : goal.invariant_of-self
invariant_of-self c =
    let old = c.args.self.now in
    let new = c.answer-answered.new.self in
    record {
      so_far = line_kept (scopes_of old) new.cached.site.watchers.scopes.items old.said.lines c.then-self.result.lines old.said.out c.then-self.result.out c.args.line.now old.run.cached.site.core new.cached.site.core
          c.clear.new.self.items c.answer-answered.new.waiting.items c.args.place.now c.put_answer-status.new.place c.put_answer-status.result.1 (ap (λ w. w.scopes.items) c.answer-answered.ensures.watchers)
          c.answer-answered.result c.put_answer-status.result.0 c.clear.ensures c.answer-answered.ensures.adds
          (subst (λ (w : List ℕ). PutsAnswer c.answer-answered.result w c.args.place.now c.put_answer-status.new.place c.put_answer-status.result) c.deref.ensures.0 c.put_answer-status.ensures) c.in-Done.is c.then-self.ensures old.so_far;
    }

pub invariant_of-self-in_default : goal.invariant_of-self-in_default
invariant_of-self-in_default c =
    let old = c.args.self.now in
    let new = c.answer-answered.new.self in
    let short : length c.answer-answered.new.waiting.items ≤ longest_answer = subst (λ (l : List ℕ). length l ≤ longest_answer) c.deref.ensures.0 c.deref.ensures.1 in
    let room : longest_answer ≤ length c.args.place.now = omega (arith, c.if-place-lt-LONGEST_LINE.false) in
    let same = not_put c.answer-answered.new.waiting.items c.args.place.now c.put_answer-status.new.place c.answer-answered.result c.put_answer-status.result.0 c.put_answer-status.result.1 short room
    (subst (λ (w : List ℕ). PutsAnswer c.answer-answered.result w c.args.place.now c.put_answer-status.new.place c.put_answer-status.result) c.deref.ensures.0 c.put_answer-status.ensures) c.in_default.not-Done c.answer-answered.ensures.unchanged in
    record {
      so_far = line_left (scopes_of old) new.cached.site.watchers.scopes.items old.said.lines old.said.lines old.said.out old.said.out c.args.line.now old.run.cached.site.core new.cached.site.core
          [] [] [] [] 0 (ap (λ w. w.scopes.items) c.answer-answered.ensures.watchers) (ap (λ r. r.cached.site.core) same) old.so_far;
    }

pub returns-in_default : goal.returns-in_default
returns-in_default c =
    let short : length c.answer-answered.new.waiting.items ≤ longest_answer = subst (λ (l : List ℕ). length l ≤ longest_answer) c.deref.ensures.0 c.deref.ensures.1 in
    let room : longest_answer ≤ length c.args.place.now = omega (arith, c.if-place-lt-LONGEST_LINE.false) in
    let Says : List Scope → List (List ℕ) → List ℕ → Type 0 = λ scopes lines out.
    (c.answer-answered.new.self.cached.site.watchers.scopes.items ≡ scopes) × (c.args.self.now.said.lines ≡ lines) × (c.args.self.now.said.out ≡ out) in
    tells_not Says c.args.self.now c.args.line.now c.answer-answered.new.waiting.items c.args.place.now c.put_answer-status.new.place c.put_answer-status.result.1 c.answer-answered.result c.put_answer-status.result.0
    short room (subst (λ (w : List ℕ). PutsAnswer c.answer-answered.result w c.args.place.now c.put_answer-status.new.place c.put_answer-status.result) c.deref.ensures.0 c.put_answer-status.ensures) c.in_default.not-Done c.answer-answered.ensures.document (ap (λ w. w.scopes.items) c.answer-answered.ensures.watchers, refl, refl)
