-- An advance, by its answer.
use Rattle.std.proofs.Common.{◌≤◌}
use Rattle.std.proofs.Common.{◌≡◌, ◌≢◌, ℕ, true, List, Option, None, Some, Result, Ok, Err, sym, subst}
use Rattle.std.proofs.lemmas.Map.Made.{AllPairs-from_IsDistinct}
use Rattle.std.specs.List.{AllPairs}
use Rattle.mt_names.proofs.SameLemmas.{same_text_decides}
use Rattle.mt_primary.specs.Primary.{IsPrimary, PrimaryState, has_table}
use Rattle.mt_plain.specs.Answers.{Answers}
use Rattle.mt_plain.specs.Events.{Event, StreamName, running, Slot, advance, Answer, advanced}
use Rattle.mt_plain.specs.Next.{next, with_advance}
use Rattle.mt_plain.specs.Answers.{range_at}
use Rattle.mt_plain.specs.Plain.{Lane, Live, Plain, lane_at, live_at, moves}
use Rattle.mt_plain.specs.Slots.{read_shard, read_side, slot_of, uncopied, written_shard, written_side}
use Rattle.mt_stream.specs.Advance.{Advances, IsAdvanced, places, refusal_of, rows_left}
use Rattle.mt_stream.specs.declared.fault.StreamFault.{StreamFault}
use Rattle.mt_stream.specs.declared.fault.StreamFault.TheVariants as fault
use Rattle.mt_stream.specs.declared.stream.Advanced.{Advanced}
use Rattle.mt_stream.specs.Follows.{FollowsSource}
use Rattle.mt_stream.specs.Streams.{StreamValue}
use Rattle.mt_laws.specs.Advances.{IsAfterAdvance}
use Rattle.mt_stands.specs.Answers.{answer_by_stream}
use Rattle.mt_stands.specs.Rows.{HoldsItsKeys, IsStreamOf, OthersStay, Primaries, RowsStand, stream_of}
use Rattle.mt_stands.proofs.AdvanceLemmas.{KnownStreams, advanced_keeps}
use Rattle.mt_stands.proofs.KnownLemmas.{Known, same_at_all, same_primaries}
use Rattle.mt_stands.proofs.StreamLemmas.{answered, ran}
use Rattle.mt_stands.proofs.UnreadLemmas.{EventsGoOn, StreamsGoOn}

module _ (p : Plain) (known : Known p) (streams : KnownStreams p) (old new : Primaries) (stands : RowsStand p old) (name : List ℕ) (w : Live) (live : live_at p name ≡ Some w)
    (shard : ℕ) (lane : Lane) (laned : lane_at w shard ≡ Some lane) (split : HoldsItsKeys w lane)
    (stream : StreamName) (slot : Slot) (there : slot_of w lane stream ≡ Some slot) (is : IsPrimary (old (read_side w stream) (read_shard lane stream)))
    (held : (old (read_side w stream) (read_shard lane stream)).log.purged ≤ slot.position)
    (has : (t : List ℕ) → moves w t ≡ true → has_table (old (read_side w stream) (read_shard lane stream)) t ≡ true)
    (others : OthersStay (written_side w stream) (written_shard lane stream) old new)
    (left_law : slot.state ≡ running → places (rows_left (old (read_side w stream) (read_shard lane stream)) (range_at w.cuts lane.shard) w.tables lane.copied) ≡ uncopied p w lane)
    (next_streams : (event : Event) (answer : Answer) → Answers p event answer → KnownStreams (next p event answer))
    (after_law : (at at_most events rows : ℕ) → IsAfterAdvance p (next p (advance name stream shard at at_most) (advanced events rows)) name w lane stream shard at at_most events rows)
    (follow_law : (old_value new_value : StreamValue) (source sink new_sink : PrimaryState) (at_most : ℕ) (answer : Advanced) → IsPrimary source → source.log.purged ≤ old_value.position → AllPairs ◌≢◌ old_value.tables
    → IsAdvanced old_value source sink at_most answer new_value new_sink → FollowsSource old_value source sink → FollowsSource new_value source new_sink)
    (goes_on : EventsGoOn p) (position at_most : ℕ) (after_value : StreamValue) where
  abbrev source : PrimaryState
  source = old (read_side w stream) (read_shard lane stream)

  abbrev sink : PrimaryState
  sink = old (written_side w stream) (written_shard lane stream)

  abbrev new_sink : PrimaryState
  new_sink = new (written_side w stream) (written_shard lane stream)

  abbrev value : StreamValue
  value = stream_of w lane slot

  abbrev pub Kept : Plain → Type 0
  Kept q = RowsStand q new × IsStreamOf q name shard stream after_value

  done : (counts : Advanced) → refusal_of value source sink position at_most ≡ None → IsAdvanced value source sink at_most counts after_value new_sink
      → Kept (next p (advance name stream shard position at_most) (advanced counts.events counts.rows))
  done counts none did = subst (λ n. Kept (to_state n (live_at p name))) (sym at) (subst (λ o. Kept (to_state slot.position o)) (sym live) here)
    where
      to_state : ℕ → Option Live → Plain
      to_state n o = with_advance p stream shard n at_most counts.events counts.rows o

      runs : slot.state ≡ running
      runs = (ran p known streams.reads old stands name w live shard lane laned split stream slot there is held left_law position at_most none).0

      at : position ≡ slot.position
      at = (ran p known streams.reads old stands name w live shard lane laned split stream slot there is held left_law position at_most none).1

      given : Answers p (advance name stream shard position at_most) (advanced counts.events counts.rows)
      given = answered p known streams.reads old stands name w live shard lane laned split stream slot there is held left_law position at_most counts.events counts.rows none did.counts

      after_q : KnownStreams (to_state slot.position (Some w))
      after_q = subst (λ o. KnownStreams (to_state slot.position o)) live
          (subst (λ n. KnownStreams (to_state n (live_at p name))) at (next_streams (advance name stream shard position at_most) (advanced counts.events counts.rows) given))

      goes : StreamsGoOn p (to_state slot.position (Some w))
      goes = subst (λ o. StreamsGoOn p (to_state slot.position o)) live
          (subst (λ n. StreamsGoOn p (to_state n (live_at p name))) at (goes_on (advance name stream shard position at_most) (advanced counts.events counts.rows) given))

      follows : FollowsSource value source sink → FollowsSource after_value source new_sink
      follows = follow_law value after_value source sink new_sink at_most counts is held (AllPairs-from_IsDistinct same_text_decides w.tables (known.placed name w live).tables) did

      here : Kept (to_state slot.position (Some w))
      here = subst (λ v. RowsStand (to_state slot.position (Some w)) new × IsStreamOf (to_state slot.position (Some w)) name shard stream v) (sym did.stream)
          (advanced_keeps p known streams old new stands name w live shard lane laned split stream slot there is held runs others at_most counts.events counts.rows (left_law runs)
          (subst (λ o. IsAfterAdvance p (to_state slot.position o) name w lane stream shard slot.position at_most counts.events counts.rows) live (after_law slot.position at_most counts.events counts.rows))
          did.puts has after_q (λ f. subst (λ v. FollowsSource v source new_sink) did.stream (follows f)) goes)

  unchanged : (f : StreamFault) → Advances value source sink position at_most (Err f) after_value new_sink → (after_value ≡ value) × (new_sink ≡ sink)
  unchanged fault.Memory did = (did.2, did.3)
  unchanged (fault.Stale n) did = (did.1, did.2)
  unchanged fault.Stopped did = (did.1, did.2)
  unchanged fault.Frozen did = (did.1, did.2)
  unchanged fault.LogFull did = (did.1, did.2)

  pub advance_keeps : (result : Result Advanced StreamFault) → Advances value source sink position at_most result after_value new_sink → Kept (next p (advance name stream shard position at_most) (answer_by_stream result))
  advance_keeps (Ok counts) did = done counts did.0 did.1
  advance_keeps (Err f) did =
      let r = unchanged f did in (
        same_primaries p old new stands (same_at_all (λ s. s) old new (written_side w stream) (written_shard lane stream) others r.1),
        record { live = w; lane = lane; slot = slot; found = live; laned = laned; there = there; is = r.0 },
      )
