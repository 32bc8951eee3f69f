-- The writes that were not fed, over what those that were fed leave.
use Rattle.std.proofs.Common.{◌≡◌, ℕ, true, cond, List, drop, take, None, Some, sym, ap, ◌∙◌}
use Rattle.std.proofs.lemmas.List.{take-append-drop}
use Rattle.std.proofs.lemmas.List.Sums.{fold-append}
use Rattle.std.specs.List.{fold}
use Rattle.std.specs.Option.{option_map_or}
use Rattle.mt_names.specs.Names.{same_text}
use Rattle.mt_plain.specs.Plain.{Lane, Live, Plain, in_lane, lane_of, live_at, moves, number_of, owner}
use Rattle.mt_plain.specs.Writes.{client_row, in_range, is_write_to, lane_row, lane_writes, other_row, row_after_write, row_after_writes, writes_to}
use Rattle.mt_laws.specs.WayBack.{IsReached}
use Rattle.mt_laws.proofs.AllWritesLemmas.{found}
use Rattle.mt_laws.proofs.CopyLemmas.{client_number-side, fold_filter, other_lane, other_write}
use Rattle.mt_laws.proofs.LaneLemmas.{in_its_lane}
use Rattle.mt_laws.proofs.LiveLemmas.{find_some}
use Rattle.mt_laws.proofs.WritableLemmas.{side_by-is_side}

pub catches_up : (p : Plain) → IsReached p → (name : List ℕ) (w : Live) → live_at p name ≡ Some w → (table : List ℕ) → moves w table ≡ true → (key : ℕ) (lane : Lane) → lane_of w key ≡ Some lane → in_range w.tables lane.copied table key ≡ true
    → fold (row_after_write (number_of p w.source table) key) (other_row p w table key) (drop lane.fed (lane_writes p w lane)) ≡ client_row p (owner w) table key
catches_up p reached name w live table moved key lane here copied =
    let number = number_of p w.source table in
    let writes = lane_writes p w lane in
    let in_it = (find_some (λ v. same_text v.name name) p.lives w live).0 in
    ap (λ o. fold (row_after_write number key) (option_map_or (λ x. lane_row p w x table key) o None) (drop lane.fed writes)) here
    ∙ ap (λ t. fold (row_after_write number key) (cond t (row_after_writes (take lane.fed writes) number key) None) (drop lane.fed writes)) copied
    ∙ sym (fold-append (row_after_write number key) None (take lane.fed writes) (drop lane.fed writes))
    ∙ ap (λ ws. row_after_writes ws number key) (take-append-drop lane.fed writes)
    ∙ fold_filter (row_after_write number key) (λ write. in_lane w lane write.key) (writes_to p w) None (other_lane p w table moved key lane (in_its_lane w key lane here))
    ∙ fold_filter (row_after_write number key) (is_write_to p w) p.writes None (λ write before other. other_write p w table moved key write before other)
    ∙ ap (λ n. row_after_writes p.writes n key) (sym (client_number-side p w table moved key (found p reached w in_it table moved) (owner w) (side_by-is_side w w.switched.primary)))
