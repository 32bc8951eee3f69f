-- The primaries behind a Create.
use Rattle.std.proofs.Common.{◌≡◌, ◌≢◌, ⊎_elim, ℕ, ◌<◌, Bool, true, false, cond, ◌&&◌, ◌||◌, List, [], ◌∷◌, Option, None, Some, refl, sym, ap, subst, ◌∙◌}
use Rattle.std.proofs.Math.Bool.{and-false, and-true}
use Rattle.std.proofs.lemmas.List.Folds.{find-append, list_any-append}
use Rattle.std.specs.List.{AllByRecursion, list_any}
use Rattle.std.specs.Option.{option_map_or, option_or}
use Rattle.mt_names.specs.Names.{same_text}
use Rattle.mt_names.proofs.EntryLemmas.{apart, same_or_other}
use Rattle.mt_names.proofs.SameLemmas.{same_text_decides}
use Rattle.mt_model.specs.Topology.{is_present}
use Rattle.mt_primary.specs.Primary.{PrimaryState}
use Rattle.mt_primary.specs.Primary as primary
use Rattle.mt_plain.specs.Plain.{Live, Plain, among, mover, moves}
use Rattle.mt_plain.specs.Serve.{has_table, refuses, refuses_by}
use Rattle.mt_plain.specs.Next.{with_created}
use Rattle.mt_stands.specs.Keys.{created_live}
use Rattle.mt_stands.specs.Rows.{OtherKeyspacesStay, OtherTablesStay}
use Rattle.mt_primary.specs.Primaries.{Primaries, count_of, primary_of}
use Rattle.mt_stands.specs.Stands.{ArePrimaries}
use Rattle.mt_refinement.specs.Made.{AreMadeDenied}
use Rattle.mt_refinement.proofs.ListLemmas.{at_named}
use Rattle.mt_refinement.proofs.PrimaryLemmas.{KeepShards, primaries_kept}
use Rattle.mt_refinement.proofs.RoomLemmas.{CanMove}

-- what a first change and a second one leave
pub stay_both : (tables : List (List ℕ)) (a b d : PrimaryState) → OtherTablesStay tables a b → OtherTablesStay tables b d → OtherTablesStay tables a d
stay_both tables a b d one two = record { log = two.log ∙ one.log; rows = λ table other key. two.rows table other key ∙ one.rows table other key }

-- ---- what the definitions make of it

module _ (p : Plain) (workflow source target : List ℕ) (tables : List (List ℕ)) where
  abbrev v : Live
  v = created_live p workflow source target tables

  abbrev q : Plain
  q = with_created p workflow source target tables

  has_now : (keyspace table : List ℕ) → has_table q keyspace table ≡ ((among tables table && same_text target keyspace) || has_table p keyspace table)
  has_now keyspace table =
      ap (λ b. cond b true (is_present p.topology.keyspaces keyspace table)) (list_any-append moved p.lives (v ∷ []))
      ∙ by (list_any moved p.lives) (among tables table && same_text target keyspace)
    where
      moved : Live → Bool
      moved w = moves w table && same_text w.target keyspace

      by : (a b : Bool) → cond (a || (b || false)) true (is_present p.topology.keyspaces keyspace table) ≡ (b || cond a true (is_present p.topology.keyspaces keyspace table))
      by true true = refl
      by true false = refl
      by false true = refl
      by false false = refl

  mover_now : (table : List ℕ) → mover q table ≡ option_or (mover p table) (cond (among tables table) (Some v) None)
  mover_now table = find-append (λ (w : Live). moves w table) p.lives (v ∷ [])

  refuses_free : (keyspace : List ℕ) (n : ℕ) (table : List ℕ) → among tables table ≡ false → refuses q keyspace n table ≡ refuses p keyspace n table
  refuses_free keyspace n table other =
      ap (λ (o : Option Live). option_map_or (λ w. refuses_by w keyspace n) o false)
      (mover_now table ∙ ap (λ b. option_or (mover p table) (cond b (Some v) None)) other ∙ by (mover p table))
    where
      by : (o : Option Live) → option_or o None ≡ o
      by None = refl
      by (Some w) = refl

  module _ (sides : source ≢ target) where
    refused_at : (keyspace : List ℕ) (n : ℕ) → refuses_by v keyspace n ≡ same_text target keyspace
    refused_at keyspace n = by (same_text source keyspace) refl (same_text target keyspace) refl
      where
        by : (a : Bool) → same_text source keyspace ≡ a → (b : Bool) → same_text target keyspace ≡ b → refuses_by v keyspace n ≡ same_text target keyspace
        by true a true b = absurd (sides ((same_text_decides source keyspace).0 a ∙ sym ((same_text_decides target keyspace).0 b)))
        by true a false b = rw (a, b) refl
        by false a true b = rw (a, b) refl
        by false a false b = rw (a, b) refl

    refuses_moved : (keyspace : List ℕ) (n : ℕ) (table : List ℕ) → among tables table ≡ true → mover p table ≡ None → refuses q keyspace n table ≡ same_text target keyspace
    refuses_moved keyspace n table m free =
        ap (λ (o : Option Live). option_map_or (λ w. refuses_by w keyspace n) o false)
        (mover_now table ∙ ap (λ b. option_or (mover p table) (cond b (Some v) None)) m ∙ ap (λ o. option_or o (Some v)) free)
        ∙ refused_at keyspace n

    -- ---- and what the primaries have and deny then

    module _ (old new : Primaries) (are : ArePrimaries p old) (can : AllByRecursion (CanMove p source target) tables) (keep : KeepShards old new) (others : OtherKeyspacesStay target (primary_of old) (primary_of new))
        (made : (n : ℕ) → n < count_of old target → AreMadeDenied tables (primary_of old target n) (primary_of new target n)) where
      can_move : (table : List ℕ) → among tables table ≡ true → CanMove p source target table
      can_move table m = at_named (CanMove p source target) tables can table m

      tables_now : (keyspace : List ℕ) (n : ℕ) → n < count_of old keyspace → (table : List ℕ) → primary.has_table (primary_of new keyspace n) table ≡ has_table q keyspace table
      tables_now keyspace n in_range table = ⊎_elim at_target elsewhere (same_or_other same_text same_text_decides target keyspace)
        where
          here : n < count_of old target → primary.has_table (primary_of new target n) table ≡ has_table q target table
          here within =
              (made n within).has table ∙ ap (λ b. among tables table || b) (are.tables target n within table)
              ∙ ap (λ b. b || has_table p target table) (sym (and-true (among tables table)) ∙ ap (λ b. among tables table && b) (sym ((same_text_decides target target).1 refl)))
              ∙ sym (has_now target table)

          at_target : target ≡ keyspace → primary.has_table (primary_of new keyspace n) table ≡ has_table q keyspace table
          at_target e = subst (λ k. n < count_of old k → primary.has_table (primary_of new k n) table ≡ has_table q k table) e here in_range

          elsewhere : target ≢ keyspace → primary.has_table (primary_of new keyspace n) table ≡ has_table q keyspace table
          elsewhere e =
              ap (λ s. primary.has_table s table) (others keyspace e n) ∙ are.tables keyspace n in_range table
              ∙ sym (ap (λ b. b || has_table p keyspace table) (ap (λ b. among tables table && b) (apart same_text same_text_decides target keyspace e) ∙ and-false (among tables table)))
              ∙ sym (has_now keyspace table)

      denials_now : (keyspace : List ℕ) (n : ℕ) → n < count_of old keyspace → (table : List ℕ) → primary.is_denied_at (primary_of new keyspace n) table ≡ refuses q keyspace n table
      denials_now keyspace n in_range table = ⊎_elim at_target elsewhere (same_or_other same_text same_text_decides target keyspace)
        where
          free : (keyspace : List ℕ) → mover p table ≡ None → refuses p keyspace n table ≡ false
          free keyspace none = ap (λ (o : Option Live). option_map_or (λ w. refuses_by w keyspace n) o false) none

          here : (b : Bool) → among tables table ≡ b → n < count_of old target → primary.is_denied_at (primary_of new target n) table ≡ refuses q target n table
          here true m within = (made n within).denied table m ∙ sym ((same_text_decides target target).1 refl) ∙ sym (refuses_moved target n table m (can_move table m).free)
          here false m within = (made n within).before table m ∙ are.denials target n within table ∙ sym (refuses_free target n table m)

          at_target : target ≡ keyspace → primary.is_denied_at (primary_of new keyspace n) table ≡ refuses q keyspace n table
          at_target e = subst (λ k. n < count_of old k → primary.is_denied_at (primary_of new k n) table ≡ refuses q k n table) e (here (among tables table) refl) in_range

          at_other : target ≢ keyspace → (b : Bool) → among tables table ≡ b → refuses p keyspace n table ≡ refuses q keyspace n table
          at_other e true m = free keyspace (can_move table m).free ∙ sym (apart same_text same_text_decides target keyspace e) ∙ sym (refuses_moved keyspace n table m (can_move table m).free)
          at_other e false m = sym (refuses_free keyspace n table m)

          elsewhere : target ≢ keyspace → primary.is_denied_at (primary_of new keyspace n) table ≡ refuses q keyspace n table
          elsewhere e = ap (λ s. primary.is_denied_at s table) (others keyspace e n) ∙ are.denials keyspace n in_range table ∙ at_other e (among tables table) refl

      pub primaries_now : ArePrimaries q new
      primaries_now = primaries_kept p q refl old new keep are tables_now denials_now
