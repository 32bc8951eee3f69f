-- The rows that stood before writes.
use Rattle.std.proofs.Common.{◌≡◌, ℕ, suc, true, List, [], ◌∷◌, ◌++◌, length, None, refl, sym, ap, ◌∙◌, append-nil}
use Rattle.std.proofs.lemmas.List.{append_assoc}
use Rattle.mt_plain.specs.Plain.{Lane, Live, Plain, Write, in_lane, moves, number_of}
use Rattle.mt_plain.specs.Writes.{is_write_to, lane_writes, row_after_write, row_after_writes, writes_to}
use Rattle.mt_laws.proofs.CopyLemmas.{fold_filter, other_lane, other_write}
use Rattle.mt_stands.specs.Rows.{rows_before}

-- as many as the writes
pub rows_before-length : (earlier writes : List Write) → length (rows_before earlier writes) ≡ length writes
rows_before-length earlier [] = refl
rows_before-length earlier (w ∷ writes) = ap suc (rows_before-length (earlier ++ w ∷ []) writes)

-- one write more
pub rows_before-append : (earlier writes : List Write) (write : Write)
    → rows_before earlier (writes ++ write ∷ []) ≡ rows_before earlier writes ++ row_after_writes (earlier ++ writes) write.table write.key ∷ []
rows_before-append earlier [] write = ap (λ ws. row_after_writes ws write.table write.key ∷ []) (sym (append-nil earlier))
rows_before-append earlier (w ∷ writes) write =
    ap (λ rs. row_after_writes earlier w.table w.key ∷ rs) (rows_before-append (earlier ++ w ∷ []) writes write)
    ∙ ap (λ ws. row_after_writes earlier w.table w.key ∷ (rows_before (earlier ++ w ∷ []) writes ++ row_after_writes ws write.table write.key ∷ [])) (append_assoc earlier (w ∷ []) writes)

-- a row of a workflow's table is made by the writes of its key's lane alone
pub row_by_own : (p : Plain) (w : Live) (lane : Lane) (table : List ℕ) → moves w table ≡ true → (key : ℕ) → in_lane w lane key ≡ true
    → row_after_writes (lane_writes p w lane) (number_of p w.source table) key ≡ row_after_writes p.writes (number_of p w.source table) key
row_by_own p w lane table moved key inside =
    fold_filter (row_after_write (number_of p w.source table) key) (λ write. in_lane w lane write.key) (writes_to p w) None (other_lane p w table moved key lane inside)
    ∙ fold_filter (row_after_write (number_of p w.source table) key) (is_write_to p w) p.writes None (λ write before other. other_write p w table moved key write before other)
