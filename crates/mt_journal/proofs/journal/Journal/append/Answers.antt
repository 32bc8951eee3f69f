-- An entry with a new number goes last.
use Rattle.std.proofs.Common.{◌≡◌, ◌<◌, ◌≤◌, ◌++◌, ◌==◌, ◌∷◌, ℕ, List, [], None, is_some, length, ap, refl, subst, sym, ◌∙◌, arith}
use Rattle.std.specs.Map.{lookup}
use Rattle.indexmap.proofs.CallerLemmas.{insert_entry-new}
use Rattle.mt_names.proofs.EntryLemmas.{none_from}
use Rattle.mt_plain.specs.Refuse.{most_journal_entries}
use Rattle.mt_journal.specs.declared.entry.JournalEntry.{JournalEntry}
use Rattle.mt_journal.specs.Journal.{Appends, IsKept, entries_in, entry_of}
use Rattle.mt_journal.proofs.JournalLemmas.{entries-with_place, found, kept, with_place}
use Rattle.mt_journal.proofs.journal.Journal.append.Goals as goal
use Rattle.mt_journal.proofs.journal.Journal.append.Goals.{in-Ok, in-Err}

-- there is room, as the map isn't full
room_in : (places : List (ℕ × JournalEntry)) → {n : ℕ} → length (entries_in places) ≤ most_journal_entries → n ≡ length (entries_in places) → (n ≡ 4096 → ⊥) → length (entries_in places) < most_journal_entries
room_in places few is other = omega (arith, few, is, other)

pub returns-then-contains_key : goal.returns-then-contains_key
returns-then-contains_key c =
    let same = found c.self.inside.places.entries c.args.entry.id c.self.invariant.numbered ∙ ap (λ es. entry_of es c.args.entry.id) c.self.view_is in
    (ap is_some (sym same) ∙ sym c.contains_key.ensures ∙ c.if-contains_key.true, refl)

pub returns-then-len-eq-MAX_ENTRIES : goal.returns-then-len-eq-MAX_ENTRIES
returns-then-len-eq-MAX_ENTRIES c =
    let places = c.self.inside.places.entries in
    let id = c.args.entry.id in
    let lacks : lookup (λ k. id == k) places ≡ None = none_from (lookup (λ k. id == k) places) (sym c.contains_key.ensures ∙ c.if-contains_key.false) in (
      sym (found places id c.self.invariant.numbered ∙ ap (λ es. entry_of es id) c.self.view_is) ∙ lacks,
      sym c.len.ensures ∙ c.if-len-eq-MAX_ENTRIES.true,
      refl,
    )

pub invariant_of-self : goal.invariant_of-self
invariant_of-self c =
    let places = c.self.inside.places.entries in
    let id = c.args.entry.id in
    let lacks : lookup (λ k. id == k) places ≡ None = none_from (lookup (λ k. id == k) places) (sym c.contains_key.ensures ∙ c.if-contains_key.false) in
    elim c.match-insert.branch as (λ b. IsKept c.insert.new.self.entries) [
      | in-Ok w ↦
          let is : c.insert.new.self.entries ≡ with_place places c.args.entry = w.in-Ok.ensures.entries ∙ insert_entry-new (λ a b. a == b) c.self.inside.places id c.args.entry lacks in
          kept places c.insert.new.self.entries c.args.entry is c.self.invariant w.in-Ok.ensures.unique (room_in places c.self.invariant.journal.few (c.len.ensures ∙ ap length (sym c.self.view_is)) c.if-len-eq-MAX_ENTRIES.false)
      | in-Err w ↦ subst IsKept (sym w.in-Err.ensures.err) c.self.invariant
    ]

pub returns : goal.returns
returns c =
    let places = c.self.inside.places.entries in
    let id = c.args.entry.id in
    let lacks : lookup (λ k. id == k) places ≡ None = none_from (lookup (λ k. id == k) places) (sym c.contains_key.ensures ∙ c.if-contains_key.false) in
    let absent : entry_of c.args.self.now id ≡ None = sym (found places id c.self.invariant.numbered ∙ ap (λ es. entry_of es id) c.self.view_is) ∙ lacks in
    let room : length c.args.self.now < most_journal_entries = subst (λ es. length es < most_journal_entries) c.self.view_is (room_in places c.self.invariant.journal.few (c.len.ensures ∙ ap length (sym c.self.view_is)) c.if-len-eq-MAX_ENTRIES.false) in
    elim c.match-insert.branch as (λ b. Appends c.args.self.now c.args.entry c.match-insert.result (entries_in c.insert.new.self.entries)) [
      | in-Ok w ↦ subst (λ r. Appends c.args.self.now c.args.entry r (entries_in c.insert.new.self.entries)) (sym w.result-is)
          (absent, room, ap entries_in (w.in-Ok.ensures.entries ∙ insert_entry-new (λ a b. a == b) c.self.inside.places id c.args.entry lacks) ∙ entries-with_place places c.args.entry ∙ ap (λ es. es ++ c.args.entry ∷ []) c.self.view_is)
      | in-Err w ↦ subst (λ r. Appends c.args.self.now c.args.entry r (entries_in c.insert.new.self.entries)) (sym w.result-is) (absent, room, ap entries_in w.in-Err.ensures.err ∙ c.self.view_is)
    ]
