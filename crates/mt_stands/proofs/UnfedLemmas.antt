-- What a stream that reads the owner has still to read is what was not fed, by the count.
use Rattle.std.proofs.Common.{◌≡◌, ℕ, ◌+◌, ◌-◌, ◌≤◌, List, length, map, take, drop, filter, Some, sym, ap, ◌∙◌, arith}
use Rattle.std.proofs.lemmas.List.{length-drop, length-map, take-append-drop}
use Rattle.std.proofs.lemmas.List.Elements.{filter-append}
use Rattle.mt_model.specs.declared.rows.RowChange.{RowChange}
use Rattle.mt_plain.specs.Events.{StreamName}
use Rattle.mt_plain.specs.Plain.{Lane, Live, Plain, lane_at, live_at, owner}
use Rattle.mt_plain.specs.Slots.{is_for, log_of, past, read_shard, read_side}
use Rattle.mt_plain.specs.Writes.{lane_writes}
use Rattle.mt_laws.specs.Pending.{pending}
use Rattle.mt_store.specs.Log.{LogState, entries_past}
use Rattle.mt_stands.specs.RowPurges.{AreUnfed}
use Rattle.mt_stands.specs.Rows.{IsPending, Primaries, RowsStand, entry_at, is_moved, owner_shard, write_of}
use Rattle.mt_stands.proofs.FeedLemmas.{moved_entries, same_end}
use Rattle.mt_stands.proofs.LogLemmas.{log-past}

module _ (p : Plain) (at : Primaries) (stands : RowsStand p at) (name : List ℕ) (w : Live) (live : live_at p name ≡ Some w) (n : ℕ) (lane : Lane) (laned : lane_at w n ≡ Some lane)
    (stream : StreamName) (reads : read_side w stream ≡ owner w) (placed : read_shard lane stream ≡ owner_shard w lane)
    (position : ℕ) (held : (at (owner w) (owner_shard w lane)).log.purged ≤ position)
    (counted : lane.fed + length (pending p w lane stream position) ≡ length (lane_writes p w lane)) where
  abbrev place : ℕ
  place = owner_shard w lane

  abbrev log : LogState
  log = (at (owner w) place).log

  abbrev unread : List RowChange
  unread = entries_past log position

  abbrev was : IsPending p w lane log.entries
  was = stands.pending name w live n lane laned

  past_is : map (entry_at (owner w) place) unread ≡ past p w lane stream position
  past_is =
      log-past (log_of p (owner w) place) (owner w) place log (stands.log (owner w) place) position held
      ∙ ap (λ k. drop position (log_of p k place)) (sym reads) ∙ ap (λ m. drop position (log_of p (read_side w stream) m)) (sym placed)

  -- what was not fed stands past the position
  pub left_is : was.left ≡ filter (is_moved w lane) unread
  left_is = same_end was.before was.left (filter (is_moved w lane) (take (position - log.purged) log.entries)) (filter (is_moved w lane) unread)
      (sym was.entries ∙ ap (filter (is_moved w lane)) (sym (take-append-drop (position - log.purged) log.entries)) ∙ filter-append (is_moved w lane) (take (position - log.purged) log.entries) unread)
      (let a = length-map was.left (write_of p w) in
      let b = ap length was.writes in
      let c = length-drop lane.fed (lane_writes p w lane) in
      let d = sym (length-map (filter (is_moved w lane) unread) (entry_at (owner w) place)) ∙ ap length (sym (moved_entries w lane (owner w) place unread)) ∙ ap (λ es. length (filter (is_for w lane) es)) past_is in
      omega (arith, a, b, c, d, counted))

  pub unfed : AreUnfed p w lane position log
  unfed = record {
    writes = ap (map (write_of p w)) (sym left_is) ∙ was.writes;
    rows = ap (map (λ (c : RowChange). c.before)) (sym left_is) ∙ was.rows;
  }
