-- The entries of a table, name by name.
use Rattle.std.proofs.Common.{◌≡◌, ℕ, ◌==◌, Bool, true, false, if◌then◌else◌, List, [], ◌∷◌, ◌++◌, map, fold, Option, None, Some, refl, sym, ap, ◌∙◌}
use Rattle.mt_names.specs.declared.types.TypeSet.{TypeSet}
use Rattle.mt_model.specs.declared.entries.Entry.{Entry}
use Rattle.mt_model.specs.declared.entries.Entry.TheVariants as entry
use Rattle.mt_model.specs.declared.entries.EntryKey.{EntryKey}
use Rattle.mt_model.specs.declared.entries.EntryKey.TheVariants as about
use Rattle.mt_model.specs.Part.{keys_of_name, table_part_keys}
use Rattle.mt_model.specs.Topology.{TopologyState, has_place, with_entry}
use Rattle.mt_model.proofs.PlaceLemmas.{has_place-written}
use Rattle.mt_plain.specs.Plain.{allow_target, deny_source}
use Rattle.mt_plain.specs.Serve.{owned_before}
use Rattle.mt_workflow.specs.Workflows.{WorkflowState, live_of}
use Rattle.std.proofs.lemmas.List.Sums.{fold-append}
use Rattle.mt_names.specs.Types.{no_types}
use Rattle.mt_steps.specs.Entries.{HavePlaces, is_of_step, with_recorded, with_wanted}
use Rattle.mt_steps.proofs.SweepLemmas.{places_back, places_over, same_places}

-- ---- places

pub placed_still : (t u : TopologyState) (e : Entry) (k : EntryKey) → u ≡ with_entry t e → has_place t k ≡ true → has_place u k ≡ true
placed_still t u e k written place = (same_places t u (k ∷ []) (λ x. ap (λ v. has_place v x) written ∙ has_place-written t e x) (place, tt)).0

abbrev pub names : Option (List ℕ) → List ℕ → List EntryKey
names keyspace table = map about.Rule (keys_of_name keyspace table)

-- the places of a table's keys: those of its three names, and those behind them
pub record PlacesOf (t : TopologyState) (source target table : List ℕ) : Type 0 where
  pub alone : HavePlaces t (names None table)
  pub at_source : HavePlaces t (names (Some source) table)
  pub at_target : HavePlaces t (names (Some target) table)
  pub denied : has_place t (about.Denied source table) ≡ true
  pub denied_there : has_place t (about.Denied target table) ≡ true
  pub present : has_place t (about.Present target table) ≡ true

pub places_of : (t : TopologyState) (source target table : List ℕ) → HavePlaces t (table_part_keys source target table) → PlacesOf t source target table
places_of t source target table p = record {
  alone = (p.0, (p.1.0, (p.1.1.0, (p.1.1.1.0, tt))));
  at_source = (p.1.1.1.1.0, (p.1.1.1.1.1.0, (p.1.1.1.1.1.1.0, (p.1.1.1.1.1.1.1.0, tt))));
  at_target = (p.1.1.1.1.1.1.1.1.0, (p.1.1.1.1.1.1.1.1.1.0, (p.1.1.1.1.1.1.1.1.1.1.0, (p.1.1.1.1.1.1.1.1.1.1.1.0, tt))));
  denied = p.1.1.1.1.1.1.1.1.1.1.1.1.0;
  denied_there = p.1.1.1.1.1.1.1.1.1.1.1.1.1.0;
  present = p.1.1.1.1.1.1.1.1.1.1.1.1.1.1.0;
}

pub still_placed : (w : WorkflowState) (types : TypeSet) (n : ℕ) (t u : TopologyState) (ks keys : List EntryKey) → u ≡ fold (with_wanted w types n) t ks → HavePlaces t keys → HavePlaces u keys
still_placed w types n t u ks keys written places = same_places t u keys (λ k. ap (λ v. has_place v k) written ∙ places_over w types n t ks k) places

pub still_placed_back : (w : WorkflowState) (n : ℕ) (t u : TopologyState) (es : List Entry) (keys : List EntryKey) → u ≡ fold (with_recorded w n) t es → HavePlaces t keys → HavePlaces u keys
still_placed_back w n t u es keys written places = same_places t u keys (λ k. ap (λ v. has_place v k) written ∙ places_back w n t es k) places

-- ---- denials

-- with step 0, and with step 9, no denial changes
no_denial_read : (w : WorkflowState) (side table : List ℕ) → is_of_step w 0 (about.Denied side table) ≡ false
no_denial_read w side table = by (owned_before (live_of w) side)
  where
    by : (b : Bool) → ((if b then deny_source else allow_target) == 0) ≡ false
    by true = refl
    by false = refl

no_denial_written : (w : WorkflowState) (side table : List ℕ) → is_of_step w 9 (about.Denied side table) ≡ false
no_denial_written w side table = by (owned_before (live_of w) side)
  where
    by : (b : Bool) → ((if b then deny_source else allow_target) == 9) ≡ false
    by true = refl
    by false = refl

pub reads_rest : (w : WorkflowState) (t : TopologyState) (source target table : List ℕ) (a b p : Bool)
    → fold (with_recorded w 0) t (entry.Denied source table a ∷ entry.Denied target table b ∷ entry.Present target table p ∷ []) ≡ with_entry t (entry.Present target table p)
reads_rest w t source target table a b p = rw (no_denial_read w source table, no_denial_read w target table) refl

pub writes_rest : (w : WorkflowState) (t : TopologyState) (source target table : List ℕ) (a b p : Bool)
    → fold (with_recorded w 9) t (entry.Denied source table a ∷ entry.Denied target table b ∷ entry.Present target table p ∷ []) ≡ t
writes_rest w t source target table a b p = rw (no_denial_written w source table, no_denial_written w target table) refl

pub four_back : (w : WorkflowState) (n : ℕ) (t a b c u : TopologyState) (k l m rest : List Entry) → a ≡ fold (with_recorded w n) t k → b ≡ fold (with_recorded w n) a l
    → c ≡ fold (with_recorded w n) b m → u ≡ fold (with_recorded w n) c rest → u ≡ fold (with_recorded w n) t (k ++ (l ++ (m ++ rest)))
four_back w n t a b c u k l m rest first second third last =
    let f : TopologyState → Entry → TopologyState = with_recorded w n in
    last ∙ ap (λ v. fold f v rest) third ∙ sym (fold-append f b m rest) ∙ ap (λ v. fold f v (m ++ rest)) second ∙ sym (fold-append f a l (m ++ rest))
    ∙ ap (λ v. fold f v (l ++ (m ++ rest))) first ∙ sym (fold-append f t k (l ++ (m ++ rest)))

-- a workflow, where the step of a key is the same with all
pub any_workflow : WorkflowState
any_workflow = record { name = []; source = []; target = []; tables = []; switched = no_types; way = None; kept = []; lanes = [] }
