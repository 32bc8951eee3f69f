-- Words read one after another.
use Rattle.std.proofs.Common.{◌≡◌, ℕ, zero, suc, ◌+◌, ◌-◌, ◌<◌, ◌≤◌, List, [], ◌∷◌, ◌++◌, length, map, drop, drop-cons, get_or, Bor, Result, Ok, Err, refl, sym, ap, ◌∙◌, arith}
use Rattle.mt_names.specs.declared.fault.NameFault.{NameFault}
use Rattle.mt_names.specs.declared.fault.NameFault.TheVariants.{TooMany}
use Rattle.mt_names.specs.Names.{read_keyspace}
use Rattle.mt_choice.specs.Keyspaces.{most_keyspaces, read_keyspaces, read_within}
use Rattle.std.proofs.lemmas.List.{append_assoc, append-nil, drop_all}

abbrev pub texts : List (Bor (List ℕ)) → List (List ℕ)
texts = map (λ word. word.now)

-- the names so far, and those that are still read
abbrev pub completed : List (List ℕ) → Result (List (List ℕ)) NameFault → Result (List (List ℕ)) NameFault
completed names (Ok more) = Ok (names ++ more)
completed names (Err fault) = Err fault

-- a word that is a name, where there is room
pub completed-taken : (names words : List (List ℕ)) (word name : List ℕ) (room : ℕ) → read_keyspace word ≡ Ok name
    → completed names (read_within (suc room) (word ∷ words)) ≡ completed (names ++ name ∷ []) (read_within room words)
completed-taken names words word name room is = by (read_within room words) refl
  where
    by : (r : Result (List (List ℕ)) NameFault) → read_within room words ≡ r
        → completed names (read_within (suc room) (word ∷ words)) ≡ completed (names ++ name ∷ []) (read_within room words)
    by (Ok more) e = rw (is, e) (ap Ok (sym (append_assoc names (name ∷ []) more)))
    by (Err fault) e = rw (is, e) refl

pub completed-refused : (names words : List (List ℕ)) (word : List ℕ) (fault : NameFault) (room : ℕ) → read_keyspace word ≡ Err fault
    → completed names (read_within room (word ∷ words)) ≡ Err fault
completed-refused names words word fault zero is = rw is refl
completed-refused names words word fault (suc room) is = rw is refl

pub completed-full : (names words : List (List ℕ)) (word name : List ℕ) (room : ℕ) → room ≡ 0 → read_keyspace word ≡ Ok name
    → completed names (read_within room (word ∷ words)) ≡ Err TooMany
completed-full names words word name zero none is = rw is refl
completed-full names words word name (suc room) none is = absurd (omega (arith, none))

module _ (words : List (Bor (List ℕ))) (names : List (List ℕ)) (i : ℕ) (blank : Bor (List ℕ)) (before : completed names (read_within (most_keyspaces - length names) (texts (drop i words))) ≡ read_keyspaces (texts words)) where
  abbrev word : List ℕ
  word = (get_or words i blank).now

  -- the word at hand, and those behind it
  at_hand : i < length words → completed names (read_within (most_keyspaces - length names) (word ∷ texts (drop (i + 1) words))) ≡ read_keyspaces (texts words)
  at_hand lt =
      let next : suc i ≡ i + 1 = omega arith in
      ap (λ ws. completed names (read_within (most_keyspaces - length names) (texts ws))) (sym (drop-cons words i blank lt ∙ ap (λ k. get_or words i blank ∷ drop k words) next)) ∙ before

  pub completes-taken : i < length words → length names < most_keyspaces → (name : List ℕ) (more : List (List ℕ)) → more ≡ names ++ name ∷ [] → length more ≡ length names + 1 → read_keyspace word ≡ Ok name
      → completed more (read_within (most_keyspaces - length more) (texts (drop (i + 1) words))) ≡ read_keyspaces (texts words)
  completes-taken lt room name more is longer read =
      let left : suc (most_keyspaces - length more) ≡ most_keyspaces - length names = omega (arith, room, longer) in
      ap (λ ns. completed ns (read_within (most_keyspaces - length more) (texts (drop (i + 1) words)))) is
      ∙ sym (completed-taken names (texts (drop (i + 1) words)) word name (most_keyspaces - length more) read)
      ∙ ap (λ r. completed names (read_within r (word ∷ texts (drop (i + 1) words)))) left ∙ at_hand lt

  pub completes-refused : i < length words → (fault : NameFault) → read_keyspace word ≡ Err fault → Err fault ≡ read_keyspaces (texts words)
  completes-refused lt fault read = sym (completed-refused names (texts (drop (i + 1) words)) word fault (most_keyspaces - length names) read) ∙ at_hand lt

  pub completes-full : i < length words → length names ≡ most_keyspaces → (name : List ℕ) → read_keyspace word ≡ Ok name → Err TooMany ≡ read_keyspaces (texts words)
  completes-full lt full name read =
      let none : most_keyspaces - length names ≡ 0 = omega (arith, full) in
      sym (completed-full names (texts (drop (i + 1) words)) word name (most_keyspaces - length names) none read) ∙ at_hand lt

  pub completes-all : length words ≤ i → Ok names ≡ read_keyspaces (texts words)
  completes-all end =
      ap Ok (sym (append-nil names)) ∙ ap (λ ws. completed names (read_within (most_keyspaces - length names) (texts ws))) (sym (drop_all i words end)) ∙ before
