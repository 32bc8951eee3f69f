-- What a refresh makes of an own list, and what the undo of one gives back.
use Rattle.std.proofs.Common.{◌≡◌, ℕ, Bool, true, false, cond, ◌&&◌, List, map, Option, None, Some, refl, sym, ap, ◌∙◌}
use Rattle.std.proofs.lemmas.Bool.{and_from}
use Rattle.std.specs.Option.{option_map_or}
use Rattle.std.specs.Prelude.{unwrap_or}
use Rattle.mt_model.specs.declared.entries.Entry.{Entry}
use Rattle.mt_model.specs.declared.entries.Entry.TheVariants as entry
use Rattle.mt_model.specs.declared.entries.EntryKey.{EntryKey}
use Rattle.mt_model.specs.declared.entries.EntryKey.TheVariants as about
use Rattle.mt_model.specs.declared.entries.Scope.TheVariants as scope
use Rattle.mt_model.specs.Topology.{TopologyState, is_denied, value_of}
use Rattle.mt_watch.specs.Notices.{notice_of}
use Rattle.mt_primary.specs.Denials.{AreDenialsSet, is_named, marks_of, told_by_marks, told_by_notice, told_by_refresh}
use Rattle.mt_primary.specs.Primary.{PrimaryState, TableState, empty_primary, has_table, is_denied_at, row_at, table_at}
use Rattle.mt_plain.specs.Events.{Way}
use Rattle.mt_plain.specs.Plain.{Live, Plain, allow_target, among, deny_source, has_part, is_side, moves, part_owner, stands_done}
use Rattle.mt_plain.specs.Serve.{Serves, is_listed_at, mark_in, owned_before, served_by}
use Rattle.mt_plain.specs.Serve as plain
use Rattle.mt_steps.specs.Refreshes.{denials_at, notice_at}
use Rattle.mt_refinement.proofs.WaysListLemmas.{IsListed}

-- what the laws on denials say
pub record Known : Type 0 where
  pub tables : (old new : PrimaryState) (told : List ℕ → Option Bool) → AreDenialsSet old told new → (name : List ℕ) → has_table new name ≡ has_table old name
  pub rows : (old new : PrimaryState) (told : List ℕ → Option Bool) → AreDenialsSet old told new → (name : List ℕ) (key : ℕ) → row_at new name key ≡ row_at old name key
  pub named : (old new : PrimaryState) (keyspace : List ℕ) (notice : List Entry) (tables : List (List ℕ)) → AreDenialsSet old (told_by_refresh keyspace notice tables) new
      → (name : List ℕ) → is_named tables name ≡ true → has_table old name ≡ true → is_denied_at new name ≡ unwrap_or (told_by_notice keyspace notice name) (is_denied_at old name)
  pub others : (old new : PrimaryState) (keyspace : List ℕ) (notice : List Entry) (tables : List (List ℕ)) → AreDenialsSet old (told_by_refresh keyspace notice tables) new
      → (name : List ℕ) → is_named tables name ≡ false → table_at new name ≡ table_at old name
  pub given : (before now back : PrimaryState) (tables : List (List ℕ)) → AreDenialsSet now (told_by_marks (marks_of before tables)) back
      → (name : List ℕ) → is_named tables name ≡ true → has_table now name ≡ true → is_denied_at back name ≡ is_denied_at before name
  pub given_others : (before now back : PrimaryState) (tables : List (List ℕ)) → AreDenialsSet now (told_by_marks (marks_of before tables)) back
      → (name : List ℕ) → is_named tables name ≡ false → table_at back name ≡ table_at now name
  pub notice : (keyspace : List ℕ) (change : List Entry) (name : List ℕ) → told_by_notice keyspace (notice_of (scope.Primary keyspace) change) name ≡ told_by_notice keyspace change name
  pub change : (keyspace : List ℕ) (tables : List (List ℕ)) (mark : List ℕ → Bool) (name : List ℕ)
      → told_by_notice keyspace (map (λ table. entry.Denied keyspace table (mark table)) tables) name ≡ cond (is_named tables name) (Some (mark name)) None

abbrev denied_in : Option TableState → Bool
denied_in o = option_map_or (λ table. table.denied) o false

module _ (known : Known) (w : Live) (tables : List (List ℕ)) (same : w.tables ≡ tables) (old new : PrimaryState) (there : (table : List ℕ) → moves w table ≡ true → has_table old table ≡ true) where
  named_too : (table : List ℕ) (b : Bool) → moves w table ≡ b → is_named tables table ≡ b
  named_too table b is = ap (λ names. among names table) (sym same) ∙ is

  -- a refresh at a side takes over what the topology says there of the tables
  pub refreshed : (t : TopologyState) (side : List ℕ) (listed : Bool) → ((table : List ℕ) → moves w table ≡ true → is_denied t.keyspaces side table ≡ listed)
      → AreDenialsSet old (told_by_refresh side (notice_at t side tables) tables) new → IsListed w listed old new
  refreshed t side listed marks set = record {
    tables = known.tables old new (told_by_refresh side (notice_at t side tables) tables) set;
    denied = λ table. by table (moves w table) refl;
    log = ap (λ s. s.log) set;
    rows = known.rows old new (told_by_refresh side (notice_at t side tables) tables) set;
  }
    where
      by : (table : List ℕ) (b : Bool) → moves w table ≡ b → is_denied_at new table ≡ cond b listed (is_denied_at old table)
      by table true is =
          known.named old new side (notice_at t side tables) tables set table (named_too table true is) (there table is)
          ∙ ap (λ o. unwrap_or o (is_denied_at old table))
          (known.notice side (denials_at t side tables) table ∙ known.change side tables (is_denied t.keyspaces side) table
          ∙ ap (λ b. cond b (Some (is_denied t.keyspaces side table)) None) (named_too table true is))
          ∙ marks table is
      by table false is = ap denied_in (known.others old new side (notice_at t side tables) tables set table (named_too table false is))

  -- a list without the tables is given back
  pub given_back : AreDenialsSet old (told_by_marks (map (λ table. (table, false)) tables)) new → IsListed w false old new
  given_back set = record {
    tables = known.tables old new (told_by_marks (map (λ table. (table, false)) tables)) set;
    denied = λ table. by table (moves w table) refl;
    log = ap (λ s. s.log) set;
    rows = known.rows old new (told_by_marks (map (λ table. (table, false)) tables)) set;
  }
    where
      by : (table : List ℕ) (b : Bool) → moves w table ≡ b → is_denied_at new table ≡ cond b false (is_denied_at old table)
      by table true is = known.given empty_primary old new tables set table (named_too table true is) (there table is)
      by table false is = ap denied_in (known.given_others empty_primary old new tables set table (named_too table false is))

-- ---- what the topology says of the tables at a side

module _ (p : Plain) (t : TopologyState) (serves : Serves p t) (w : Live) (way : Way) (opens : w.way ≡ Some way)
    (owned : (key : EntryKey) → has_part w key ≡ true → part_owner p key ≡ Some w) where
  -- it is read with the types after the way once its step stands done
  pub denied_after : (side : List ℕ) → is_side w side ≡ true → stands_done way (cond {A = ℕ} (owned_before w side) deny_source allow_target) ≡ true
      → (table : List ℕ) → moves w table ≡ true → is_denied t.keyspaces side table ≡ is_listed_at w way.after side
  denied_after side is_at finished table moved =
      ap mark_in (serves (about.Denied side table))
      ∙ ap (λ (o : Option Live). mark_in (option_map_or (λ v. served_by p.topology v (about.Denied side table)) o (value_of p.topology (about.Denied side table))))
      (owned (about.Denied side table) (and_from (moves w table) (is_side w side) moved is_at))
      ∙ ap (λ types. plain.is_denied_at w types side)
      (ap (λ (o : Option Way). option_map_or (λ x. cond (stands_done x (cond {A = ℕ} (owned_before w side) deny_source allow_target)) x.after x.before) o w.switched) opens
      ∙ ap (λ b. cond b way.after way.before) finished)
      ∙ sym (ap (λ b. b && plain.is_denied_at w way.after side) is_at)
