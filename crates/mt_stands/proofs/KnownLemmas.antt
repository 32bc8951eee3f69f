-- What is known of a state that a run reaches, and what it says of rows and of writes.
use Rattle.std.proofs.Common.{◌≡◌, ◌≢◌, ℕ, ◌≤◌, ◌⊎◌, Bool, true, false, not, cond, eqb, List, [], ◌∷◌, length, Option, None, Some, refl, sym, ap, ◌∙◌, subst, inl, inr, ⊎_elim, eqb-true}
use Rattle.std.proofs.lemmas.Bool.{true≢false, eq-eqb, eqb-false, and_from, and_parts, or_right}
use Rattle.std.specs.List.{list_any}
use Rattle.std.specs.Option.{option_map_or}
use Rattle.std.specs.Prelude.{◌&&◌, ◌||◌}
use Rattle.mt_names.specs.Names.{same_text}
use Rattle.mt_names.proofs.EntryLemmas.{same_itself, same_or_other, apart}
use Rattle.mt_names.proofs.SameLemmas.{same_text_decides}
use Rattle.mt_model.specs.Topology.{is_present}
use Rattle.mt_primary.specs.Primary.{PrimaryState, row_at}
use Rattle.mt_names.specs.Shards.{shard_of}
use Rattle.mt_plain.specs.Events.{StreamName, forward, back}
use Rattle.mt_plain.specs.Plain.{Lane, Live, Plain, among, in_lane, is_side, lane_at, lane_of, live_at, shard_at, mover, moves, number_of, owner}
use Rattle.mt_plain.specs.Serve.{IsWritable, has_table}
use Rattle.mt_plain.specs.Slots.{log_of, read_shard, read_side, written_side}
use Rattle.mt_plain.specs.Writes.{client_number, client_row, lane_writes, other_row, row_by_mover, row_of}
use Rattle.mt_laws.proofs.LaneLemmas.{lane_found}
use Rattle.mt_laws.specs.Places.{AreSidesOfMove}
use Rattle.mt_laws.specs.Reached.{IsInPlace}
use Rattle.mt_stands.specs.Rows.{KeepsEndOf, IsPending, OthersStay, Primaries, RowsStand, StandAbove, owner_shard}

-- what the laws say of a state that a run reaches
pub record Known (p : Plain) : Type 0 where
  pub found : (name : List ℕ) (w : Live) → live_at p name ≡ Some w → (table : List ℕ) → moves w table ≡ true → mover p table ≡ Some w
  pub moving : (table : List ℕ) (w : Live) → mover p table ≡ Some w → (moves w table ≡ true) × (live_at p w.name ≡ Some w)
  pub placed : (name : List ℕ) (w : Live) → live_at p name ≡ Some w → IsInPlace p.topology w
  pub fed : (name : List ℕ) (w : Live) → live_at p name ≡ Some w → (shard : ℕ) (lane : Lane) → lane_at w shard ≡ Some lane → lane.fed ≤ length (lane_writes p w lane)
  pub source_one : (name : List ℕ) (w : Live) → live_at p name ≡ Some w → (key : ℕ) → shard_at p w.source key ≡ 0
  pub target_by : (name : List ℕ) (w : Live) → live_at p name ≡ Some w → (key : ℕ) → shard_at p w.target key ≡ shard_of w.cuts key
  pub apart : (k t keyspace table : List ℕ) → has_table p k t ≡ true → has_table p keyspace table ≡ true → client_number p k t ≡ client_number p keyspace table → (t ≡ table) × ((k ≡ keyspace) ⊎ AreSidesOfMove p t k keyspace)
  pub writable : (table : List ℕ) (w : Live) → mover p table ≡ Some w → (keyspace : List ℕ) → is_side w keyspace ≡ true → IsWritable p keyspace table → keyspace ≡ owner w

pub itself : (k : List ℕ) → same_text k k ≡ true
itself k = same_itself same_text same_text_decides k

pub differs : (j k : List ℕ) → j ≢ k → same_text j k ≡ false
differs j k other = apart same_text same_text_decides j k other

pub same_or : (j k : List ℕ) → (j ≡ k) ⊎ (j ≢ k)
same_or j k = same_or_other same_text same_text_decides j k

pub some_is : {A : Type 0} (a b : A) → Some a ≡ Some b → a ≡ b
some_is a b e = cc

-- ---- lists

any_some : (test : List ℕ → Bool) (ts : List (List ℕ)) → list_any test ts ≡ true → (t : List ℕ) × ((among ts t ≡ true) × (test t ≡ true))
any_some test [] e = absurd (true≢false (sym e))
any_some test (t ∷ ts) e = by (any_some test ts) (test t) refl
  where
    by : (list_any test ts ≡ true → (u : List ℕ) × ((among ts u ≡ true) × (test u ≡ true))) → (b : Bool) → test t ≡ b → (u : List ℕ) × ((among (t ∷ ts) u ≡ true) × (test u ≡ true))
    by again true is = (t, (ap (λ b. b || among ts t) (itself t), is))
    by again false is = let r = again (sym (ap (λ b. b || list_any test ts) is) ∙ e) in (r.0, (or_right (same_text t r.0) (among ts r.0) r.1.0, r.1.1))

any_of : (test : List ℕ → Bool) (ts : List (List ℕ)) (t : List ℕ) → among ts t ≡ true → test t ≡ true → list_any test ts ≡ true
any_of test [] t e is = absurd (true≢false (sym e))
any_of test (u ∷ ts) t e is = by (λ f. any_of test ts t f is) (same_text u t) refl
  where
    by : (among ts t ≡ true → list_any test ts ≡ true) → (b : Bool) → same_text u t ≡ b → (test u || list_any test ts) ≡ true
    by again true same = ap (λ b. b || list_any test ts) (ap test ((same_text_decides u t).0 same) ∙ is)
    by again false same = or_right (test u) (list_any test ts) (again (sym (ap (λ b. b || among ts t) same) ∙ e))

-- ---- sides

pub owner_is_side : (w : Live) → is_side w (owner w) ≡ true
owner_is_side w = by w.switched.primary
  where
    by : (b : Bool) → is_side w (cond b w.target w.source) ≡ true
    by true = or_right (same_text w.source w.target) (same_text w.target w.target) (itself w.target)
    by false = ap (λ b. b || same_text w.target w.source) (itself w.source)

pub source_is_side : (w : Live) → is_side w w.source ≡ true
source_is_side w = ap (λ b. b || same_text w.target w.source) (itself w.source)

-- the sides of a stream
pub sides_apart : (w : Live) (stream : StreamName) → w.source ≢ w.target → read_side w stream ≢ written_side w stream
sides_apart w forward apart = apart
sides_apart w back apart = λ e. apart (sym e)

pub written_is_side : (w : Live) (stream : StreamName) → is_side w (written_side w stream) ≡ true
written_is_side w forward = or_right (same_text w.source w.target) (same_text w.target w.target) (itself w.target)
written_is_side w back = ap (λ b. b || same_text w.target w.source) (itself w.source)

pub side_either : (w : Live) (stream : StreamName) (k : List ℕ) → is_side w k ≡ true → k ≢ written_side w stream → k ≡ read_side w stream
side_either w stream k side other = by stream other (same_or k w.source) (same_or k w.target)
  where
    by : (n : StreamName) → k ≢ written_side w n → (k ≡ w.source) ⊎ (k ≢ w.source) → (k ≡ w.target) ⊎ (k ≢ w.target) → k ≡ read_side w n
    by forward other (inl e) t = e
    by forward other (inr e) (inl t) = absurd (other t)
    by back other s (inl t) = t
    by back other (inl e) (inr t) = absurd (other e)
    by n other (inr e) (inr t) =
        absurd (true≢false (sym side ∙ ap (λ b. b || same_text w.target k) (differs w.source k (λ h. e (sym h))) ∙ differs w.target k (λ h. t (sym h))))

pub client_at_side : (p : Plain) (w : Live) (t : List ℕ) → mover p t ≡ Some w → (k : List ℕ) → is_side w k ≡ true → client_number p k t ≡ number_of p w.source t
client_at_side p w t found k side =
    ap (λ o. number_of p (option_map_or (λ (u : Live). cond (is_side u k) u.source k) o k) t) found ∙ ap (λ b. number_of p (cond b w.source k) t) side

-- ---- lanes

-- a lane that is found by a number has it
pub numbered : (w : Live) (n : ℕ) (lane : Lane) → lane_at w n ≡ Some lane → lane.shard ≡ n
numbered w n lane e = (lane_found w n lane e).1

-- a key stands in the lane of its shard, and in no other
pub in_lane_is : (w : Live) (n : ℕ) (lane : Lane) → lane_at w n ≡ Some lane → (key : ℕ) → in_lane w lane key ≡ eqb (shard_of w.cuts key) n
in_lane_is w n lane e key = ap (eqb (shard_of w.cuts key)) (numbered w n lane e)

pub lane_here : (w : Live) (n : ℕ) (lane : Lane) → lane_at w n ≡ Some lane → (key : ℕ) → in_lane w lane key ≡ true → lane_of w key ≡ Some lane
lane_here w n lane e key is = ap (lane_at w) (eqb-true (shard_of w.cuts key) n (sym (in_lane_is w n lane e key) ∙ is)) ∙ e

-- ---- the row of a table at a keyspace

module _ (p : Plain) (k t : List ℕ) (w : Live) (found : mover p t ≡ Some w) (key : ℕ) where
  by_w : row_of p k t key ≡ cond (is_side w k && not (same_text (owner w) k)) (other_row p w t key) (client_row p k t key)
  by_w = ap (λ o. row_by_mover p o k t key) found

  pub row_at_owner : k ≡ owner w → row_of p k t key ≡ client_row p k t key
  row_at_owner at = by_w ∙ ap (λ b. cond (is_side w k && not b) (other_row p w t key) (client_row p k t key)) (ap (same_text (owner w)) at ∙ itself (owner w)) ∙ by (is_side w k)
    where
      by : (b : Bool) → cond (b && false) (other_row p w t key) (client_row p k t key) ≡ client_row p k t key
      by true = refl
      by false = refl

  pub row_at_other : is_side w k ≡ true → k ≢ owner w → row_of p k t key ≡ other_row p w t key
  row_at_other side other =
      by_w ∙ ap (λ b. cond (b && not (same_text (owner w) k)) (other_row p w t key) (client_row p k t key)) side
      ∙ ap (λ b. cond (not b) (other_row p w t key) (client_row p k t key)) (differs (owner w) k (λ e. other (sym e)))

  pub row_elsewhere : is_side w k ≡ false → row_of p k t key ≡ client_row p k t key
  row_elsewhere none = by_w ∙ ap (λ b. cond (b && not (same_text (owner w) k)) (other_row p w t key) (client_row p k t key)) none

pub row_free : (p : Plain) (k t : List ℕ) → mover p t ≡ None → (key : ℕ) → row_of p k t key ≡ client_row p k t key
row_free p k t none key = ap (λ o. row_by_mover p o k t key) none

-- ---- what is known

module _ (p : Plain) (known : Known p) where
  -- where a table is writable its clients' row stands
  pub row_writable : (k t : List ℕ) → IsWritable p k t → (key : ℕ) → row_of p k t key ≡ client_row p k t key
  row_writable k t writable key = by (mover p t) refl
    where
      by_side : (w : Live) → mover p t ≡ Some w → (b : Bool) → is_side w k ≡ b → row_of p k t key ≡ client_row p k t key
      by_side w found true side = row_at_owner p k t w found key (known.writable t w found k side writable)
      by_side w found false none = row_elsewhere p k t w found key none

      by : (o : Option Live) → mover p t ≡ o → row_of p k t key ≡ client_row p k t key
      by None none = row_free p k t none key
      by (Some w) found = by_side w found (is_side w k) refl

  pub has_at_source : (name : List ℕ) (w : Live) → live_at p name ≡ Some w → (t : List ℕ) → moves w t ≡ true → has_table p w.source t ≡ true
  has_at_source name w live t moved = by (list_any (λ v. moves v t && same_text v.target w.source) p.lives)
    where
      by : (b : Bool) → cond b true (is_present p.topology.keyspaces w.source t) ≡ true
      by true = refl
      by false = (known.placed name w live).at_source t moved

  -- a write is one to a workflow's tables if it is of one of them, at one of its sides
  pub is_to : (name : List ℕ) (w : Live) → live_at p name ≡ Some w → (k t : List ℕ) → has_table p k t ≡ true
      → list_any (λ table. eqb (number_of p w.source table) (client_number p k t)) w.tables ≡ (moves w t && is_side w k)
  is_to name w live k t has = by (moves w t && is_side w k) refl
    where
      test : List ℕ → Bool
      test table = eqb (number_of p w.source table) (client_number p k t)

      side_by : (u : List ℕ) → moves w u ≡ true → (w.source ≡ k) ⊎ AreSidesOfMove p u w.source k → is_side w k ≡ true
      side_by u moved (inl at) = subst (λ x. is_side w x ≡ true) at (source_is_side w)
      side_by u moved (inr sides) = subst (λ v. is_side v k ≡ true) (some_is sides.live w (sym sides.moving ∙ known.found name w live u moved)) sides.second

      none : (b : Bool) → list_any test w.tables ≡ b → (moves w t && is_side w k) ≡ false → b ≡ false
      none false e not_so = refl
      none true e not_so =
          let r = any_some test w.tables e in
          let moved : moves w r.0 ≡ true = r.1.0 in
          let number = client_at_side p w r.0 (known.found name w live r.0 moved) w.source (source_is_side w) in
          let same = known.apart w.source r.0 k t (has_at_source name w live r.0 moved) has (number ∙ eqb-true (number_of p w.source r.0) (client_number p k t) r.1.1) in
          absurd (true≢false (sym (and_from (moves w t) (is_side w k) (subst (λ x. moves w x ≡ true) same.0 moved) (side_by r.0 moved same.1)) ∙ not_so))

      by : (b : Bool) → (moves w t && is_side w k) ≡ b → list_any test w.tables ≡ b
      by true e =
          let r = and_parts (moves w t) (is_side w k) e in
          any_of test w.tables t r.0 (eq-eqb (number_of p w.source t) (client_number p k t) (sym (client_at_side p w t (known.found name w live t r.0) k r.1)))
      by false e = none (list_any test w.tables) refl e

-- ---- the same primaries

pub same_primaries : (p : Plain) (old new : Primaries) → RowsStand p old → ((k : List ℕ) (n : ℕ) → new k n ≡ old k n) → RowsStand p new
same_primaries p old new stands same = record {
  log = λ k n. subst (λ (s : PrimaryState). KeepsEndOf (log_of p k n) k n s.log) (sym (same k n)) (stands.log k n);
  rows = λ k t has key. ap (λ s. row_at s t key) (same k (shard_at p k key)) ∙ stands.rows k t has key;
  apart = λ k t has key n other. ap (λ s. row_at s t key) (same k n) ∙ stands.apart k t has key n other;
  pending = λ name w live n lane laned. subst (λ (s : PrimaryState). IsPending p w lane s.log.entries) (sym (same (owner w) (owner_shard w lane))) (stands.pending name w live n lane laned);
  unread = λ k n. subst (λ (s : PrimaryState). StandAbove p k n s.log.purged) (sym (same k n)) (stands.unread k n);
}

-- a key of a lane stands at the owner in the lane's shard there
pub shard_at_owner : (p : Plain) → Known p → (name : List ℕ) (w : Live) → live_at p name ≡ Some w → (lane : Lane) (key : ℕ) → in_lane w lane key ≡ true → shard_at p (owner w) key ≡ owner_shard w lane
shard_at_owner p known name w live lane key here = by w.switched.primary
  where
    by : (b : Bool) → shard_at p (cond b w.target w.source) key ≡ cond b lane.shard 0
    by true = known.target_by name w live key ∙ eqb-true (shard_of w.cuts key) lane.shard here
    by false = known.source_one name w live key

-- the shard of the primary that is read is that of the owner, where the stream reads the owner
pub shard_owned : (w : Live) (lane : Lane) (stream : StreamName) → w.source ≢ w.target → read_side w stream ≡ owner w → read_shard lane stream ≡ owner_shard w lane
shard_owned w lane stream apart owns = by stream w.switched.primary owns
  where
    by : (n : StreamName) (b : Bool) → read_side w n ≡ cond b w.target w.source → read_shard lane n ≡ cond b lane.shard 0
    by forward true e = absurd (apart e)
    by forward false e = refl
    by back true e = refl
    by back false e = absurd (apart (sym e))

-- one primary, or another one
pub same_place : (j : List ℕ) (m : ℕ) (k : List ℕ) (n : ℕ) → ((j ≡ k) × (m ≡ n)) ⊎ (j ≡ k → m ≡ n → ⊥)
same_place j m k n = by (same_or j k) (eqb m n) refl
  where
    by : (j ≡ k) ⊎ (j ≢ k) → (b : Bool) → eqb m n ≡ b → ((j ≡ k) × (m ≡ n)) ⊎ (j ≡ k → m ≡ n → ⊥)
    by (inr other) b e = inr (λ h i. other h)
    by (inl at) true e = inl (at, eqb-true m n e)
    by (inl at) false e = inr (λ h i. eqb-false m n e i)

-- what is the same at the one primary that may change is the same at all
pub same_at_all : {X : Type 0} (f : PrimaryState → X) (old new : Primaries) (k : List ℕ) (n : ℕ) → OthersStay k n old new → f (new k n) ≡ f (old k n)
    → (other : List ℕ) (m : ℕ) → f (new other m) ≡ f (old other m)
same_at_all f old new k n others same other m = ⊎_elim
    (λ (e : (k ≡ other) × (n ≡ m)). subst (λ x. f (new x m) ≡ f (old x m)) e.0 (subst (λ i. f (new k i) ≡ f (old k i)) e.1 same))
    (λ (apart : k ≡ other → n ≡ m → ⊥). ap f (others other m apart)) (same_place k n other m)
