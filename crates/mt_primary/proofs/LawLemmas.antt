-- What follows from how denials are set, refreshed and given back.
use Rattle.std.proofs.Common.{◌≡◌, ℕ, ◌||◌, Bool, true, false, List, [], ◌∷◌, map, fold, Option, Some, None, is_some, unwrap_or, if◌then◌else◌, refl, sym, ap, ◌∙◌}
use Rattle.std.specs.Option.{option_map, option_map_or, option_or}
use Rattle.mt_names.proofs.SameLemmas.{same_text_decides}
use Rattle.mt_names.specs.Names.{same_text}
use Rattle.mt_model.specs.declared.entries.Entry.{Entry}
use Rattle.mt_model.specs.declared.entries.Entry.TheVariants as entry
use Rattle.mt_model.specs.declared.entries.Scope.TheVariants as scope
use Rattle.mt_watch.specs.Notices.{notice_of}
use Rattle.mt_primary.specs.Denials.{AreDenialsSet, is_named, marks_of, told_by_entry, told_by_mark, told_by_marks, told_by_notice, told_by_refresh, with_denials, with_told}
use Rattle.mt_primary.specs.Primary.{IsPrimary, PrimaryState, TableState, has_table, is_denied_at, made_at, row_at, row_in, table_at}
use Rattle.mt_primary.proofs.DenialLemmas.{denials-kept, denials-table, denials-then, told_none}

-- ---- what is set

module _ (old new : PrimaryState) (told : List ℕ → Option Bool) (set : AreDenialsSet old told new) (name : List ℕ) where
  by_name : table_at new name ≡ option_map (with_told (told name)) (table_at old name)
  by_name = denials-table old new told set name

  pub set-tables : has_table new name ≡ has_table old name
  set-tables = ap is_some (by_name) ∙ by (table_at old name)
    where
      by : (o : Option TableState) → is_some (option_map (with_told (told name)) o) ≡ is_some o
      by None = refl
      by (Some table) = refl

  pub set-made : made_at new name ≡ made_at old name
  set-made = ap (option_map (λ (t : TableState). t.made)) (by_name) ∙ by (table_at old name)
    where
      by : (o : Option TableState) → option_map (λ (t : TableState). t.made) (option_map (with_told (told name)) o) ≡ option_map (λ t. t.made) o
      by None = refl
      by (Some table) = refl

  pub set-rows : (key : ℕ) → row_at new name key ≡ row_at old name key
  set-rows key = ap (λ (o : Option TableState). option_map_or (λ t. row_in t key) o None) (by_name) ∙ by (table_at old name)
    where
      by : (o : Option TableState) → option_map_or (λ t. row_in t key) (option_map (with_told (told name)) o) None ≡ option_map_or (λ t. row_in t key) o None
      by None = refl
      by (Some table) = refl

  pub set-denied : has_table old name ≡ true → is_denied_at new name ≡ unwrap_or (told name) (is_denied_at old name)
  set-denied there = ap (λ (o : Option TableState). option_map_or (λ t. t.denied) o false) (by_name) ∙ by (table_at old name) there
    where
      by : (o : Option TableState) → is_some o ≡ true → option_map_or (λ (t : TableState). t.denied) (option_map (with_told (told name)) o) false ≡ unwrap_or (told name) (option_map_or (λ t. t.denied) o false)
      by None there = absurd cc
      by (Some table) there = refl

  pub set-none : told name ≡ None → table_at new name ≡ table_at old name
  set-none none = by_name ∙ ap (λ t. option_map (with_told t) (table_at old name)) none ∙ told_none (table_at old name)

-- ---- a refresh

module _ (old new : PrimaryState) (keyspace : List ℕ) (notice : List Entry) (tables : List (List ℕ)) (set : AreDenialsSet old (told_by_refresh keyspace notice tables) new) (name : List ℕ) where
  pub refresh-named : is_named tables name ≡ true → has_table old name ≡ true → is_denied_at new name ≡ unwrap_or (told_by_notice keyspace notice name) (is_denied_at old name)
  refresh-named named there =
      let told : told_by_refresh keyspace notice tables name ≡ told_by_notice keyspace notice name = rw named refl in
      set-denied old new (told_by_refresh keyspace notice tables) set name there ∙ ap (λ t. unwrap_or t (is_denied_at old name)) told

  pub refresh-others : is_named tables name ≡ false → table_at new name ≡ table_at old name
  refresh-others unnamed = set-none old new (told_by_refresh keyspace notice tables) set name (rw unnamed refl)

-- ---- what marks tell

-- marks tell of the tables that they are of, whatever was told before
told-marks : (p : PrimaryState) (tables : List (List ℕ)) (name : List ℕ) (told : Option Bool)
    → fold (told_by_mark name) told (marks_of p tables) ≡ (if is_named tables name then Some (is_denied_at p name) else told)
told-marks p [] name told = refl
told-marks p (table ∷ tables) name told = told-marks p tables name (told_by_mark name told (table, is_denied_at p table)) ∙ by (same_text table name) refl (is_named tables name)
  where
    by : (b : Bool) → same_text table name ≡ b → (d : Bool) → (if d then Some (is_denied_at p name) else told_by_mark name told (table, is_denied_at p table)) ≡ (if (same_text table name || d) then Some (is_denied_at p name) else told)
    by true same true = rw same refl
    by true same false = rw same (ap (λ t. Some (is_denied_at p t)) ((same_text_decides table name).0 same))
    by false same true = rw same refl
    by false same false = rw same refl

pub marks-named : (p : PrimaryState) (tables : List (List ℕ)) (name : List ℕ) → is_named tables name ≡ true → told_by_marks (marks_of p tables) name ≡ Some (is_denied_at p name)
marks-named p tables name named = told-marks p tables name None ∙ rw named refl

pub marks-others : (p : PrimaryState) (tables : List (List ℕ)) (name : List ℕ) → is_named tables name ≡ false → told_by_marks (marks_of p tables) name ≡ None
marks-others p tables name unnamed = told-marks p tables name None ∙ rw unnamed refl

module _ (before now back : PrimaryState) (tables : List (List ℕ)) (set : AreDenialsSet now (told_by_marks (marks_of before tables)) back) (name : List ℕ) where
  pub back-named : is_named tables name ≡ true → has_table now name ≡ true → is_denied_at back name ≡ is_denied_at before name
  back-named named there = set-denied now back (told_by_marks (marks_of before tables)) set name there ∙ ap (λ t. unwrap_or t (is_denied_at now name)) (marks-named before tables name named)

  pub back-others : is_named tables name ≡ false → table_at back name ≡ table_at now name
  back-others unnamed = set-none now back (told_by_marks (marks_of before tables)) set name (marks-others before tables name unnamed)

-- what is given back at once to a primary leaves it as it was
pub back-at_once : (p : PrimaryState) (keyspace : List ℕ) (notice : List Entry) (tables : List (List ℕ)) → IsPrimary p
    → with_denials (told_by_marks (marks_of p tables)) (with_denials (told_by_refresh keyspace notice tables) p) ≡ p
back-at_once p keyspace notice tables is =
    denials-then p now (with_denials back now) refreshed back both refl refl (λ name. refl) ∙ denials-kept p both is (λ name table found. by name table found (is_named tables name) refl)
  where
    refreshed : List ℕ → Option Bool
    refreshed = told_by_refresh keyspace notice tables

    back : List ℕ → Option Bool
    back = told_by_marks (marks_of p tables)

    both : List ℕ → Option Bool
    both name = option_or (back name) (refreshed name)

    now : PrimaryState
    now = with_denials refreshed p

    by : (name : List ℕ) (table : TableState) → table_at p name ≡ Some table → (b : Bool) → is_named tables name ≡ b → with_told (both name) table ≡ table
    by name table found true named = rw (marks-named p tables name named, found) refl
    by name table found false unnamed = rw (marks-others p tables name unnamed, unnamed) refl

-- ---- what a notice tells

-- the notice leaves out what tells nothing
told-notice : (keyspace : List ℕ) (change : List Entry) (name : List ℕ) (told : Option Bool)
    → fold (told_by_entry keyspace name) told (notice_of (scope.Primary keyspace) change) ≡ fold (told_by_entry keyspace name) told change
told-notice keyspace [] name told = refl
told-notice keyspace (entry.Rule key target ∷ change) name told = told-notice keyspace change name told
told-notice keyspace (entry.Present at table mark ∷ change) name told = told-notice keyspace change name told
told-notice keyspace (entry.Denied at table mark ∷ change) name told = by (told-notice keyspace change name) (same_text keyspace at) refl
  where
    rest : List Entry
    rest = notice_of (scope.Primary keyspace) change

    cut : {b : Bool} → same_text keyspace at ≡ b
        → fold (told_by_entry keyspace name) told (notice_of (scope.Primary keyspace) (entry.Denied at table mark ∷ change)) ≡ fold (told_by_entry keyspace name) told (if b then entry.Denied at table mark ∷ rest else rest)
    cut same = ap (λ t. fold (told_by_entry keyspace name) told (if t then entry.Denied at table mark ∷ rest else rest)) same

    by : ((t : Option Bool) → fold (told_by_entry keyspace name) t (notice_of (scope.Primary keyspace) change) ≡ fold (told_by_entry keyspace name) t change) → (b : Bool) → same_text keyspace at ≡ b
        → fold (told_by_entry keyspace name) told (notice_of (scope.Primary keyspace) (entry.Denied at table mark ∷ change)) ≡ fold (told_by_entry keyspace name) told (entry.Denied at table mark ∷ change)
    by again true same = cut same ∙ again (told_by_entry keyspace name told (entry.Denied at table mark))
    by again false same =
        let nothing : told_by_entry keyspace name told (entry.Denied at table mark) ≡ told = rw same refl in
        cut same ∙ again told ∙ ap (λ t. fold (told_by_entry keyspace name) t change) (sym nothing)

pub notice-tells : (keyspace : List ℕ) (change : List Entry) (name : List ℕ) → told_by_notice keyspace (notice_of (scope.Primary keyspace) change) name ≡ told_by_notice keyspace change name
notice-tells keyspace change name = told-notice keyspace change name None

-- a change that has a denial of each of the tables
told-change : (keyspace : List ℕ) (tables : List (List ℕ)) (mark : List ℕ → Bool) (name : List ℕ) (told : Option Bool)
    → fold (told_by_entry keyspace name) told (map (λ table. entry.Denied keyspace table (mark table)) tables) ≡ (if is_named tables name then Some (mark name) else told)
told-change keyspace [] mark name told = refl
told-change keyspace (table ∷ tables) mark name told =
    told-change keyspace tables mark name (told_by_entry keyspace name told (entry.Denied keyspace table (mark table))) ∙ by (same_text table name) refl (is_named tables name)
  where
    by : (b : Bool) → same_text table name ≡ b → (d : Bool)
        → (if d then Some (mark name) else told_by_entry keyspace name told (entry.Denied keyspace table (mark table))) ≡ (if (same_text table name || d) then Some (mark name) else told)
    by true same true = rw same refl
    by true same false = rw (same, (same_text_decides keyspace keyspace).1 refl) (ap (λ t. Some (mark t)) ((same_text_decides table name).0 same))
    by false same true = rw same refl
    by false same false = rw (same, (same_text_decides keyspace keyspace).1 refl) refl

pub change-tells : (keyspace : List ℕ) (tables : List (List ℕ)) (mark : List ℕ → Bool) (name : List ℕ)
    → told_by_notice keyspace (map (λ table. entry.Denied keyspace table (mark table)) tables) name ≡ (if is_named tables name then Some (mark name) else None)
change-tells keyspace tables mark name = told-change keyspace tables mark name None
