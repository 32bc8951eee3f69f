-- A log whose first entries may be purged, and the list that it is the end of.
use Rattle.std.proofs.Common.{◌≡◌, ℕ, ◌+◌, ◌-◌, ◌≤◌, List, ◌++◌, length, map, drop, sym, ap, ◌∙◌, arith, length-append}
use Rattle.std.proofs.lemmas.List.{drop-append-le, drop-drop, drop-map, length-drop, length-map, map-append}
use Rattle.mt_model.specs.declared.rows.RowChange.{RowChange}
use Rattle.mt_plain.specs.Plain.{LogEntry}
use Rattle.mt_store.specs.Log.{LogState, entries_past, log_end, purged_by, without_below}
use Rattle.mt_stands.specs.Rows.{KeepsEndOf, entry_at}
use Rattle.mt_stream.specs.Puts.{with_entries}

module _ (entries : List LogEntry) (k : List ℕ) (s : ℕ) (log : LogState) (is : KeepsEndOf entries k s log) where
  -- it ends where the list does
  pub log-length : length entries ≡ log_end log
  log-length =
      let a = ap length is.last in
      let b = length-map log.entries (entry_at k s) in
      let c = length-drop log.purged entries in
      let d = is.kept in
      omega (arith, a, b, c, d)

  -- what stands past a position that is kept
  pub log-past : (n : ℕ) → log.purged ≤ n → map (entry_at k s) (entries_past log n) ≡ drop n entries
  log-past n kept =
      let sum : log.purged + (n - log.purged) ≡ n = omega (arith, kept) in
      sym (drop-map (entry_at k s) (n - log.purged) log.entries) ∙ ap (drop (n - log.purged)) is.last ∙ drop-drop (n - log.purged) log.purged entries ∙ ap (λ m. drop m entries) sum

  -- with entries more
  pub log-grown : (changes : List RowChange) → KeepsEndOf (entries ++ map (entry_at k s) changes) k s (with_entries log changes)
  log-grown changes = record {
    kept = let a = length-append entries (map (entry_at k s) changes) in let b = is.kept in omega (arith, a, b);
    last = map-append (entry_at k s) log.entries changes ∙ ap (λ l. l ++ map (entry_at k s) changes) is.last ∙ sym (drop-append-le log.purged entries (map (entry_at k s) changes) is.kept);
  }

  -- with whole segments purged
  pub log-purged : (position : ℕ) → position ≤ log_end log → KeepsEndOf entries k s (without_below log position)
  log-purged position within = record {
    kept = let n = log-length in let b = is.kept in omega (arith, n, b, within);
    last = sym (drop-map (entry_at k s) (purged_by log position) log.entries) ∙ ap (drop (purged_by log position)) is.last ∙ drop-drop (purged_by log position) log.purged entries;
  }
