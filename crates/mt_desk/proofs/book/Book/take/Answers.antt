-- The event is one more of a history that leads to what the core stands for, and there is a place for each event that is owed.
use Rattle.std.proofs.Common.{◌≡◌, ◌∙◌, ◌+◌, ◌≤◌, ◌++◌, ◌∷◌, [], true, false, ap, subst, sym}
use Rattle.std.proofs.lemmas.Bool.{true≢false}
use Rattle.std.specs.Vec.{vec_capacity, vec_len}
use Rattle.mt_event.specs.Asks.{event_of_ask, owned}
use Rattle.mt_event.specs.Events.{answer_from}
use Rattle.mt_site.specs.Owed.{owed_to}
use Rattle.mt_site.specs.Stood.{IsCoreWith}
use Rattle.mt_stands.specs.Ways.{CoreSteps}
use Rattle.mt_desk.specs.Fronts.{AreFronts}
use Rattle.mt_desk.specs.Histories.{Leads, StaysPurged, line}
use Rattle.mt_desk.specs.Room.{HasRoom, gives_up}
use Rattle.mt_desk.proofs.AnswerLemmas.{at_err}
use Rattle.mt_desk.proofs.FrontLemmas.{fronts_kept}
use Rattle.mt_desk.proofs.LeadsLemmas.{kept_more, purged_more, stands_now}
use Rattle.mt_desk.proofs.RoomLemmas.{Owing, finds_place, found_to, room_taken, with_more_places}
use Rattle.mt_desk.proofs.book.Book.take.Goals as goal

pub invariant_of-self : goal.invariant_of-self
invariant_of-self g c =
    let scopes = g.D.DeskName.scopes in
    let opening = g.D.DeskName.opening in
    let now = c.args.self.now.core in
    let more = vec_capacity c.make_room.new.history in
    record {
      legal = subst (λ lines. ∥ Leads scopes opening lines now ∥₁) (sym c.make_room.ensures.items) c.args.self.now.legal;
      purged = c.args.self.now.purged;
      room = subst (λ n. HasRoom n now more) (sym c.make_room.ensures.len)
          (with_more_places now (vec_len c.args.self.now.history) (vec_capacity c.args.self.now.history) more c.make_room.ensures.kept c.args.self.now.room);
      fronts = subst (λ lines. ∥ AreFronts scopes opening lines c.args.self.now.told ∥₁) (sym c.make_room.ensures.items) c.args.self.now.fronts;
      shown = c.args.self.now.shown;
    }

pub invariant_of-self-in_default : goal.invariant_of-self-in_default
invariant_of-self-in_default g c =
    let scopes = g.D.DeskName.scopes in
    let opening = g.D.DeskName.opening in
    let now = c.args.self.now.core in
    let more = vec_capacity c.make_room.new.history in
    let same : c.answered.new.core ≡ now = at_err c.answered.result c.in_default.not-Ok c.answered.ensures.none in
    record {
      legal = subst (λ s. ∥ Leads scopes opening c.make_room.new.history.items s ∥₁) (sym same) (subst (λ lines. ∥ Leads scopes opening lines now ∥₁) (sym c.make_room.ensures.items) c.args.self.now.legal);
      purged = subst (λ s. ∥ StaysPurged opening s ∥₁) (sym same) c.args.self.now.purged;
      room = subst (λ s. HasRoom (vec_len c.make_room.new.history) s more) (sym same) (subst (λ n. HasRoom n now more) (sym c.make_room.ensures.len)
          (with_more_places now (vec_len c.args.self.now.history) (vec_capacity c.args.self.now.history) more c.make_room.ensures.kept c.args.self.now.room));
      fronts = subst (λ lines. ∥ AreFronts scopes opening lines c.args.self.now.told ∥₁) (sym c.make_room.ensures.items) c.args.self.now.fronts;
      shown = c.args.self.now.shown;
    }

pub returns-then-not-make_room-clause-given_up : goal.returns-then-not-make_room-clause-given_up
returns-then-not-make_room-clause-given_up g c = λ can.
    let now = c.args.self.now.core in
    let event = event_of_ask c.args.ask in
    let place = finds_place now (vec_len c.args.self.now.history) (vec_capacity c.args.self.now.history) c.args.self.now.room event can in
    let is : c.make_room.result ≡ true = c.make_room.ensures.found (found_to now event can) place in
    let isnt : c.make_room.result ≡ false = search (c.if-not-make_room.true) in
    absurd (true≢false (sym is ∙ isnt))

pub invariant_of-self-2 : goal.invariant_of-self-2
invariant_of-self-2 g c =
    let scopes = g.D.DeskName.scopes in
    let opening = g.D.DeskName.opening in
    let now = c.args.self.now.core in
    let later = c.answered.new.core in
    let event = event_of_ask c.args.ask in
    let answer = answer_from c.in-Ok.answer in
    let n = vec_len c.args.self.now.history in
    let more = vec_capacity c.make_room.new.history in
    let is : c.make_room.result ≡ true = search (c.if-not-make_room.false) in
    let before : ∥ Leads scopes opening c.make_room.new.history.items now ∥₁
    = subst (λ lines. ∥ Leads scopes opening lines now ∥₁) (sym c.make_room.ensures.items) c.args.self.now.legal in
    let step : CoreSteps scopes now event answer later = subst (λ s. CoreSteps s now event answer later) c.requires.scopes c.in-Ok.ensures.applied.steps in
    let laws : Owing = record {
      undone = c.each_event_owes_one_at_most.ensures.undo;
      cancelled = c.each_event_owes_one_at_most.ensures.cancel;
      any = c.each_event_owes_one_at_most.ensures.others;
      same = c.a_base_owes_what_its_state_owes.ensures.same;
    } in
    let others : gives_up now event ≡ false → n + owed_to now.base.workflows + 2 ≤ more = λ isnt. c.make_room.ensures.others isnt is in
    let stood : IsCoreWith scopes now = stands_now scopes opening now c.make_room.new.history.items before in
    let room : HasRoom (n + 1) later more
    = room_taken laws scopes now later stood event answer step c.in-Ok.ensures.applied.given_up n (vec_capacity c.args.self.now.history) more c.args.self.now.room
    c.make_room.ensures.kept others in
    let client = c.args.client in
    let before_it = c.make_room.new.history.items in
    let items : c.push_reserved.new.self.items ≡ before_it ++ line client (owned c.args.ask) c.in-Ok.answer ∷ []
    = c.push_reserved.ensures.items
    ∙ ap (λ e. before_it ++ line client e c.in-Ok.answer ∷ []) c.requires.kept in
    record {
      legal = subst (λ lines. ∥ Leads scopes opening lines later ∥₁) (sym items)
          (kept_more scopes opening now later c.make_room.new.history.items c.args.client (owned c.args.ask) c.in-Ok.answer before step);
      purged = purged_more opening now later c.args.self.now.purged c.in-Ok.ensures.purged;
      room = subst (λ m. HasRoom m later (vec_capacity c.push_reserved.new.self)) (sym (c.push_reserved.ensures.len ∙ ap (λ m. m + 1) c.make_room.ensures.len))
          (subst (λ m. HasRoom (n + 1) later m) (sym c.push_reserved.ensures.capacity) room);
      fronts = subst (λ lines. ∥ AreFronts scopes opening lines c.args.self.now.told ∥₁) (sym items)
          (fronts_kept scopes opening c.make_room.new.history.items (line c.args.client (owned c.args.ask) c.in-Ok.answer) c.args.self.now.told
          (subst (λ lines. ∥ AreFronts scopes opening lines c.args.self.now.told ∥₁) (sym c.make_room.ensures.items) c.args.self.now.fronts));
      shown = c.args.self.now.shown;
    }

pub answered-requires : goal.answered-requires
answered-requires g c =
    let now = c.args.self.now.core in
    record {
      stood = subst (λ scopes. IsCoreWith scopes now) (sym c.requires.scopes)
          (stands_now g.D.DeskName.scopes g.D.DeskName.opening now c.args.self.now.history.items c.args.self.now.legal);
    }
