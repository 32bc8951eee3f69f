-- What streams have still to read, and a purge leaves.
use Rattle.std.proofs.Common.{◌≡◌, ◌≢◌, ℕ, ◌≤◌, List, Some, refl, sym, ap, subst, ◌∙◌, arith, length}
use Rattle.std.proofs.lemmas.List.Sums.{length-filter}
use Rattle.mt_laws.specs.InUse.{StreamGoesOn, from_before, from_the_end}
use Rattle.mt_plain.specs.Events.{StreamName, forward, back, Slot, frozen}
use Rattle.mt_plain.specs.Plain.{Lane, Live, Plain, lane_at, live_at, owner}
use Rattle.mt_plain.specs.Slots.{is_entry_at, log_length, log_of, read_shard, read_side, slot_of}
use Rattle.mt_plain.specs.Answers.{Answers}
use Rattle.mt_plain.specs.Events.{Event, Answer}
use Rattle.mt_plain.specs.Next.{next}
use Rattle.mt_stands.specs.RowPurges.{IsRead}
use Rattle.mt_stands.specs.Rows.{KeepsUnread, Primaries, RowsStand}
use Rattle.mt_stands.proofs.KnownLemmas.{numbered}

-- ---- the stream that reads the owner

module _ (w : Live) (lane : Lane) (apart : w.source ≢ w.target) (read : IsRead w lane) where
  same_stream : (stream other : StreamName) → read_side w stream ≡ owner w → read_side w other ≡ owner w → stream ≡ other
  same_stream forward forward a b = refl
  same_stream back back a b = refl
  same_stream forward back a b = absurd (apart (a ∙ sym b))
  same_stream back forward a b = absurd (apart (b ∙ sym a))

  pub reads_in_use : (stream : StreamName) (slot : Slot) → slot_of w lane stream ≡ Some slot → read_side w stream ≡ owner w → slot.state ≢ frozen
  reads_in_use stream slot there reads =
      let same : Some read.slot ≡ Some slot = sym read.there ∙ ap (slot_of w lane) (same_stream read.stream stream read.reads reads) ∙ there in
      let one : read.slot ≡ slot = cc in
      subst (λ (s : Slot). s.state ≢ frozen) one read.moves_on

-- ---- an event

-- each stream in use of a next state stood before where it stands or further up, or it begins at the end of its log
abbrev pub StreamsGoOn : Plain → Plain → Type 0
StreamsGoOn p q = (name : List ℕ) (v : Live) → live_at q name ≡ Some v → (shard : ℕ) (lane : Lane) → lane_at v shard ≡ Some lane
    → (stream : StreamName) (b : Slot) → slot_of v lane stream ≡ Some b → b.state ≢ frozen → StreamGoesOn p name shard v lane stream b

-- so behind each event
abbrev pub EventsGoOn : Plain → Type 0
EventsGoOn p = (event : Event) (answer : Answer) → Answers p event answer → StreamsGoOn p (next p event answer)

-- lanes of one number read the same shard
read_alike : (one other : Lane) → one.shard ≡ other.shard → (stream : StreamName) → read_shard one stream ≡ read_shard other stream
read_alike one other same forward = refl
read_alike one other same back = same

module _ (p q : Plain) (old new : Primaries) (stands : RowsStand p old) (same : (keyspace : List ℕ) (n : ℕ) → (new keyspace n).log.purged ≡ (old keyspace n).log.purged)
    (goes : StreamsGoOn p q) where
  pub unread_next : KeepsUnread q new
  unread_next keyspace n name v live shard lane laned stream slot there moves reads place = by (goes name v live shard lane laned stream slot there moves)
    where
      is : (new keyspace n).log.purged ≡ (old keyspace n).log.purged
      is = same keyspace n

      by : StreamGoesOn p name shard v lane stream slot → (new keyspace n).log.purged ≤ slot.position
      by (from_before w one a was one_laned at used side low) =
          let same_place : read_shard one stream ≡ n = read_alike one lane (numbered w shard one one_laned ∙ sym (numbered v shard lane laned)) stream ∙ place in
          let held : (old keyspace n).log.purged ≤ a.position = stands.unread keyspace n name w was shard one one_laned stream a at used (side ∙ reads) same_place in
          omega (arith, is, held, low)
      by (from_the_end ends) =
          let kept : (old keyspace n).log.purged ≤ length (log_of p keyspace n) = (stands.log keyspace n).kept in
          let long : length (log_of p keyspace n) ≡ log_length p keyspace n = length-filter (is_entry_at keyspace n) p.log in
          let end : log_length p keyspace n ≤ slot.position = subst (λ m. log_length p keyspace m ≤ slot.position) place (subst (λ k. log_length p k (read_shard lane stream) ≤ slot.position) reads ends) in
          omega (arith, is, kept, long, end)
