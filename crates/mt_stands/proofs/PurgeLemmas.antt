-- Logs that are purged below what is still to be read.
use Rattle.std.proofs.Common.{◌≡◌, ◌≢◌, ℕ, ◌+◌, ◌-◌, ◌≤◌, List, ◌++◌, length, take, drop, filter, Some, sym, ap, subst, ◌∙◌, arith}
use Rattle.std.proofs.lemmas.List.{drop-drop, take-append-drop}
use Rattle.std.proofs.lemmas.List.Elements.{filter-append}
use Rattle.mt_plain.specs.Events.{StreamName, Slot}
use Rattle.mt_plain.specs.Plain.{Lane, Live, Plain, lane_at, live_at, owner, shard_at}
use Rattle.mt_plain.specs.Slots.{log_of, read_shard, read_side, slot_of}
use Rattle.mt_plain.specs.Writes.{lane_writes}
use Rattle.mt_laws.specs.Pending.{pending}
use Rattle.mt_store.specs.Log.{LogState, purged_by, without_below}
use Rattle.mt_primary.specs.Primary.{PrimaryState, row_at}
use Rattle.mt_stands.specs.RowPurges.{ArePurged, IsPurgedTo, IsRead}
use Rattle.mt_stands.specs.Rows.{KeepsEndOf, KeepsUnread, IsPending, Primaries, RowsStand, is_moved, owner_shard}
use Rattle.mt_stands.proofs.KnownLemmas.{shard_owned}
use Rattle.mt_stands.proofs.LogLemmas.{log-purged}
use Rattle.mt_stands.proofs.UnfedLemmas.{left_is}

-- purged below a position, it is purged below it at most, if it wasn't further before
below-position : (log : LogState) (n position : ℕ) → log.purged ≤ position → n ≤ position → log.purged + purged_by log n ≤ position
below-position log n position kept low = omega (arith, kept, low)

unread-kept : (p : Plain) (old new : Primaries) → KeepsUnread p old → ArePurged p old new → KeepsUnread p new
unread-kept p old new keeps purged keyspace shard name w live n lane laned stream slot there runs reads place =
    let is : IsPurgedTo p keyspace shard (old keyspace shard) (new keyspace shard) = purged keyspace shard in
    let same : (new keyspace shard).log.purged ≡ (old keyspace shard).log.purged + purged_by (old keyspace shard).log is.position = ap (λ (s : PrimaryState). s.log.purged) is.is in
    rw same (below-position (old keyspace shard).log is.position slot.position (keeps keyspace shard name w live n lane laned stream slot there runs reads place) (is.above name w live n lane laned stream slot there runs reads place))

module _ (p : Plain) (old new : Primaries) (stands : RowsStand p old) (purged : ArePurged p old new)
    (counted : (name : List ℕ) (w : Live) → live_at p name ≡ Some w → (shard : ℕ) (lane : Lane) → lane_at w shard ≡ Some lane
    → (stream : StreamName) (s : Slot) → slot_of w lane stream ≡ Some s → read_side w stream ≡ owner w
    → lane.fed + length (pending p w lane stream s.position) ≡ length (lane_writes p w lane))
    (read : (name : List ℕ) (w : Live) → live_at p name ≡ Some w → (shard : ℕ) (lane : Lane) → lane_at w shard ≡ Some lane → IsRead w lane)
    (apart : (name : List ℕ) (w : Live) → live_at p name ≡ Some w → w.source ≢ w.target) where
  module _ (name : List ℕ) (w : Live) (live : live_at p name ≡ Some w) (n : ℕ) (lane : Lane) (laned : lane_at w n ≡ Some lane) where
    abbrev by : IsRead w lane
    by = read name w live n lane laned

    abbrev place : ℕ
    place = owner_shard w lane

    abbrev log : LogState
    log = (old (owner w) place).log

    at_place : read_shard lane by.stream ≡ place
    at_place = shard_owned w lane by.stream (apart name w live) by.reads

    held : log.purged ≤ by.slot.position
    held = stands.unread (owner w) place name w live n lane laned by.stream by.slot by.there by.moves_on by.reads at_place

    abbrev ahead : ℕ
    ahead = by.slot.position - log.purged

    abbrev was : IsPending p w lane log.entries
    was = stands.pending name w live n lane laned

    -- what was not fed stands past the position
    still : was.left ≡ filter (is_moved w lane) (drop ahead log.entries)
    still =
        left_is p old stands name w live n lane laned by.stream by.reads at_place by.slot.position held
        (counted name w live n lane laned by.stream by.slot by.there by.reads)

    pending_kept : IsPending p w lane (new (owner w) place).log.entries
    pending_kept =
        let is : IsPurgedTo p (owner w) place (old (owner w) place) (new (owner w) place) = purged (owner w) place in
        subst (λ (s : PrimaryState). IsPending p w lane s.log.entries) (sym is.is) (at is.position (is.above name w live n lane laned by.stream by.slot by.there by.moves_on by.reads at_place))
      where
        at : (m : ℕ) → m ≤ by.slot.position → IsPending p w lane (without_below log m).entries
        at m low =
            let less : ℕ = purged_by log m in
            let rest : less + (ahead - less) ≡ ahead = omega (arith, low, held) in
            let cut = sym (take-append-drop (ahead - less) (drop less log.entries)) ∙ ap (λ xs. take (ahead - less) (drop less log.entries) ++ xs) (drop-drop (ahead - less) less log.entries ∙ ap (λ m. drop m log.entries) rest) in
            record {
              before = filter (is_moved w lane) (take (ahead - less) (drop less log.entries));
              left = was.left;
              entries = ap (filter (is_moved w lane)) cut ∙ filter-append (is_moved w lane) (take (ahead - less) (drop less log.entries)) (drop ahead log.entries) ∙ ap (λ l. filter (is_moved w lane) (take (ahead - less) (drop less log.entries)) ++ l) (sym still);
              writes = was.writes;
              rows = was.rows;
            }

  pub purge-stands : RowsStand p new
  purge-stands = record {
    log = λ k n. let is : IsPurgedTo p k n (old k n) (new k n) = purged k n in subst (λ (s : PrimaryState). KeepsEndOf (log_of p k n) k n s.log) (sym is.is) (log-purged (log_of p k n) k n (old k n).log (stands.log k n) is.position is.within);
    rows = λ k table has key. let n : ℕ = shard_at p k key in let is : IsPurgedTo p k n (old k n) (new k n) = purged k n in ap (λ s. row_at s table key) is.is ∙ stands.rows k table has key;
    apart = λ k table has key n other. let is : IsPurgedTo p k n (old k n) (new k n) = purged k n in ap (λ s. row_at s table key) is.is ∙ stands.apart k table has key n other;
    pending = pending_kept;
    unread = unread-kept p old new stands.unread purged;
  }
