-- One advance more of a stream.
use Rattle.std.proofs.Common.{◌≡◌, ◌+◌, ◌%◌, ◌≤◌, ℕ, List, [], ◌∷◌, ◌++◌, length, append_assoc, length-append, Ok, Err, refl, sym, ap, ◌∙◌, arith}
use Rattle.std.proofs.lemmas.List.{append-nil}
use Rattle.std.specs.Prelude.{slice_index, slice_set}
use Rattle.mt_desk.specs.declared.history.Call.{Call}
use Rattle.mt_event.specs.declared.event.Event.TheVariants as event
use Rattle.mt_event.specs.declared.reply.Reply.TheVariants as reply
use Rattle.mt_workflow.specs.declared.way.Slot.{Slot}
use Rattle.mt_workers.specs.Advances.{Answer, AreAdvances, IsAdvancing, answered, first_positions, next_position, one_if_taken, times_taken}

-- where the streams are expected after some calls
abbrev pub positions_after : (shards : ℕ) → (positions : List ℕ) → (turn : ℕ) → List Call → List ℕ
positions_after shards positions turn [] = positions
positions_after shards positions turn (call ∷ calls) = positions_after shards (answered positions (turn % shards) call.answer) (turn + 1) calls

next_turn : (turn : ℕ) (calls : List Call) (call : Call) → (turn + 1) + length calls ≡ turn + length (call ∷ calls)
next_turn turn calls call = omega arith

position-push : (shards : ℕ) (positions : List ℕ) (turn : ℕ) (calls : List Call) (call : Call)
    → positions_after shards positions turn (calls ++ call ∷ []) ≡ answered (positions_after shards positions turn calls) ((turn + length calls) % shards) call.answer
position-push shards positions turn [] call = ap (λ n. answered positions (n % shards) call.answer) (let e : turn ≡ turn + 0 = omega arith in e)
position-push shards positions turn (c ∷ calls) call =
    position-push shards (answered positions (turn % shards) c.answer) (turn + 1) calls call
    ∙ ap (λ n. answered (positions_after shards (answered positions (turn % shards) c.answer) (turn + 1) calls) (n % shards) call.answer) (next_turn turn calls c)

taken-push : (calls : List Call) (call : Call) → times_taken (calls ++ call ∷ []) ≡ times_taken calls + one_if_taken call.answer
taken-push [] call = omega arith
taken-push (c ∷ calls) call = omega (arith, taken-push calls call)

advances-push : (workflow : List ℕ) (stream : Slot) (shards max : ℕ) (positions : List ℕ) (turn : ℕ) (calls : List Call) (call : Call) → AreAdvances workflow stream shards max positions turn calls
    → (let shard = (turn + length calls) % shards in call.event ≡ event.Advance workflow stream shard (slice_index (positions_after shards positions turn calls) shard) max)
    → AreAdvances workflow stream shards max positions turn (calls ++ call ∷ [])
advances-push workflow stream shards max positions turn [] call are is =
    (is ∙ ap (λ n. event.Advance workflow stream (n % shards) (slice_index positions (n % shards)) max) (let e : turn + 0 ≡ turn = omega arith in e), tt)
advances-push workflow stream shards max positions turn (c ∷ calls) call are is =
    let after = positions_after shards (answered positions (turn % shards) c.answer) (turn + 1) calls in (
      are.0,
      advances-push workflow stream shards max (answered positions (turn % shards) c.answer) (turn + 1) calls call are.1
          (is ∙ ap (λ n. event.Advance workflow stream (n % shards) (slice_index after (n % shards)) max) (sym (next_turn turn calls c))),
    )

-- the advance that is due in a turn, of equal parts
pub due_in : (workflow name : List ℕ) (stream : Slot) (max : ℕ) (positions : List ℕ) (turn shards count place : ℕ) → name ≡ workflow → count ≡ shards → place ≡ turn % count
    → event.Advance name stream (turn % count) (slice_index positions place) max ≡ event.Advance workflow stream (turn % shards) (slice_index positions (turn % shards)) max
due_in workflow name stream max positions turn shards count place n c p = cc

-- the position of its shard is the next one
pub answered_in : (positions : List ℕ) (answer : Answer) (shard place position : ℕ) → place ≡ shard → position ≡ next_position (slice_index positions place) answer
    → answered positions shard answer ≡ slice_set positions place position
answered_in positions answer shard place position p n = cc

-- a worker on its way: the calls so far, and what it knows
pub record IsUnderWay (workflow : List ℕ) (stream : Slot) (shards max line : ℕ) (old now : List Call) (positions : List ℕ) (taken : ℕ) : Type 0 where
  pub calls : List Call
  pub adds : now ≡ old ++ calls
  pub made : length calls ≡ line
  pub advances : IsAdvancing workflow stream shards max line calls taken
  pub known : positions ≡ positions_after shards first_positions 0 calls
  pub few : taken ≤ line

pub not_begun : (workflow : List ℕ) (stream : Slot) (shards max : ℕ) (old : List Call) → IsUnderWay workflow stream shards max 0 old old first_positions 0
not_begun workflow stream shards max old = record {
  calls = [];
  adds = sym (append-nil old);
  made = refl;
  advances = record { few = omega arith; each = tt; counted = refl };
  known = refl;
  few = omega arith;
}

pub one_more : (workflow : List ℕ) (stream : Slot) (shards max line : ℕ) (old now new : List Call) (positions : List ℕ) (taken : ℕ) (call : Call)
    → IsUnderWay workflow stream shards max line old now positions taken → call.event ≡ event.Advance workflow stream (line % shards) (slice_index positions (line % shards)) max
    → new ≡ now ++ call ∷ [] → IsUnderWay workflow stream shards max (line + 1) old new (answered positions (line % shards) call.answer) (taken + one_if_taken call.answer)
one_more workflow stream shards max line old now new positions taken call way is adds =
    let calls = way.calls in
    let long : length (calls ++ call ∷ []) ≡ length calls + 1 = length-append calls (call ∷ []) ∙ omega arith in
    let made = way.made in
    let at : line ≡ 0 + length calls = omega (arith, made) in
    let due : event.Advance workflow stream (line % shards) (slice_index positions (line % shards)) max
    ≡ event.Advance workflow stream ((0 + length calls) % shards) (slice_index (positions_after shards first_positions 0 calls) ((0 + length calls) % shards)) max
    = ap (λ ps. event.Advance workflow stream (line % shards) (slice_index ps (line % shards)) max) way.known
    ∙ ap (λ n. event.Advance workflow stream (n % shards) (slice_index (positions_after shards first_positions 0 calls) (n % shards)) max) at in
    let few = way.few in
    let one = one_at_most call.answer in
    record {
      calls = calls ++ call ∷ [];
      adds = adds ∙ ap (λ l. l ++ call ∷ []) way.adds ∙ append_assoc old calls (call ∷ []);
      made = omega (arith, long, made);
      advances = record {
        few = omega (arith, long, made);
        each = advances-push workflow stream shards max first_positions 0 calls call way.advances.each (is ∙ due);
        counted = ap (λ n. n + one_if_taken call.answer) way.advances.counted ∙ sym (taken-push calls call);
      };
      known = ap (λ ps. answered ps (line % shards) call.answer) way.known ∙ ap (λ n. answered (positions_after shards first_positions 0 calls) (n % shards) call.answer) at
          ∙ sym (position-push shards first_positions 0 calls call);
      few = omega (arith, few, one);
    }
  where
    one_at_most : (answer : Answer) → one_if_taken answer ≤ 1
    one_at_most (Ok reply.Done) = omega arith
    one_at_most (Ok (reply.Row row)) = omega arith
    one_at_most (Ok (reply.Advanced counts)) = omega arith
    one_at_most (Ok (reply.Shown shown)) = omega arith
    one_at_most (Err why) = omega arith

-- it ends, with as many turns as it may take
pub ended : (workflow : List ℕ) (stream : Slot) (shards max line turns : ℕ) (old now new : List Call) (positions : List ℕ) (taken : ℕ) → IsUnderWay workflow stream shards max line old now positions taken
    → line ≤ turns → new ≡ now → (calls : List Call) × (new ≡ old ++ calls) × IsAdvancing workflow stream shards max turns calls taken
ended workflow stream shards max line turns old now new positions taken way within same =
    (way.calls, same ∙ way.adds, record { few = omega (arith, way.advances.few, within); each = way.advances.each; counted = way.advances.counted })
