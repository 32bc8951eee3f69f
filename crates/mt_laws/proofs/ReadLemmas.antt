-- What a read of type primary answers, and where writes are acknowledged.
use Rattle.std.proofs.Common.{◌≡◌, ◌⊎◌, inl, inr, ℕ, ◌+◌, ◌-◌, Bool, true, false, not, cond, eqb, leb, ltb, min, List, Option, None, Some, refl, sym, ap, ◌∙◌, subst, eqb-true}
use Rattle.std.proofs.lemmas.Bool.{true≢false, or_cases}
use Rattle.std.specs.Prelude.{◌&&◌, nat_le}
use Rattle.mt_names.specs.declared.types.TabletType.TheVariants.{Primary}
use Rattle.mt_names.specs.Names.{same_text}
use Rattle.mt_names.specs.Shards.{shard_of}
use Rattle.mt_names.proofs.SameLemmas.{same_text_decides}
use Rattle.mt_model.specs.declared.entries.Scope.{Scope}
use Rattle.mt_model.specs.declared.rows.Op.{Op}
use Rattle.mt_model.specs.Limits.{longest_log}
use Rattle.mt_model.specs.Rows.{Row, op_key, op_row}
use Rattle.mt_plain.specs.Answers.{Answers, Run, after}
use Rattle.mt_plain.specs.Events.{Event, write, read, denied, full, Answer, done, row, Way}
use Rattle.mt_plain.specs.Plain.{Lane, Live, Plain, changes_primary, in_lane, is_side, lane_of, mover, moves, next_place, opening, owner, refresh_source, refresh_target, shard_at, stands_done, stands_done_at}
use Rattle.mt_plain.specs.Refuse.{denied_read, or_else, refusal_of, refuse_if, row_refusal, unknown_table}
use Rattle.mt_plain.specs.Serve.{IsWritable, refuses}
use Rattle.mt_plain.specs.Slots.{log_length}
use Rattle.mt_plain.specs.Writes.{client_number, client_row, other_row, row_by_mover, row_of}
use Rattle.mt_laws.specs.Acknowledged.{acknowledged, row_by}
use Rattle.mt_laws.specs.WayBack.{IsReached}
use Rattle.mt_laws.proofs.OwnerLemmas.{allowed_at_the_owner, refused_at_source, refused_at_target}
use Rattle.mt_laws.proofs.CutLemmas.{IsCut, reached_cut, source_shard, target_shard}
use Rattle.mt_laws.proofs.LaneLemmas.{in_its_lane}
use Rattle.mt_laws.proofs.LiveLemmas.{find_some}
use Rattle.mt_laws.proofs.StreamLemmas.{IsTurned, reached_turned}
use Rattle.mt_laws.proofs.ReachLemmas.{reached_has_parts}
use Rattle.mt_laws.proofs.RefusalLemmas.{or_else-none, refuse_if-none}
use Rattle.mt_laws.proofs.RunLemmas.{client_row-run}

-- a read of type primary, and a write, are answered where the primary's own list doesn't refuse
read_allowed : (p : Plain) (keyspace table : List ℕ) (key : ℕ) → refusal_of p (read keyspace table key Primary) ≡ None → refuses p keyspace (shard_at p keyspace key) table ≡ false
read_allowed p keyspace table key none =
    refuse_if-none (refuses p keyspace (shard_at p keyspace key) table) denied (or_else-none (unknown_table p keyspace table) (denied_read p keyspace table key Primary) none).1

pub write_allowed : (p : Plain) (keyspace table : List ℕ) (op : Op) → refusal_of p (write keyspace table op) ≡ None → refuses p keyspace (shard_at p keyspace (op_key op)) table ≡ false
write_allowed p keyspace table op none =
    let shard = shard_at p keyspace (op_key op) in
    let by_row = or_else (row_refusal (op_row op (client_row p keyspace table (op_key op)))) (refuse_if (nat_le longest_log (log_length p keyspace shard)) full) in
    let by_list = refuse_if (refuses p keyspace shard table) denied in
    refuse_if-none (refuses p keyspace shard table) denied (or_else-none by_list by_row (or_else-none (unknown_table p keyspace table) (or_else by_list by_row) none).1).0

module _ (p : Plain) (reached : IsReached p) (table : List ℕ) (w : Live) (found : mover p table ≡ Some w) (keyspace : List ℕ) (side : is_side w keyspace ≡ true) where
  is_owner : (shard : ℕ) → refuses p keyspace shard table ≡ false → keyspace ≡ owner w
  is_owner shard allows = allowed_at_the_owner p reached (reached_has_parts p reached) table w found shard keyspace side allows

  pub reads_at_the_owner : (key : ℕ) (r : Row) → Answers p (read keyspace table key Primary) (row r) → keyspace ≡ owner w
  reads_at_the_owner key r given = is_owner (shard_at p keyspace key) (read_allowed p keyspace table key given.0)

  pub writes_at_the_owner : (op : Op) → Answers p (write keyspace table op) done → keyspace ≡ owner w
  writes_at_the_owner op given = is_owner (shard_at p keyspace (op_key op)) (write_allowed p keyspace table op given.0)

  pub writable_is_owner : IsWritable p keyspace table → keyspace ≡ owner w
  writable_is_owner writable = is_owner writable.1.0 writable.1.2

-- a row, by whether it is at the other side
row_by_test : (t : Bool) (other client : Row) → t ≡ false → cond t other client ≡ client
row_by_test true other client e = absurd (true≢false e)
row_by_test false other client e = refl

pub row_at_allowed : (p : Plain) → IsReached p → (keyspace table : List ℕ) (key : ℕ) → refuses p keyspace (shard_at p keyspace key) table ≡ false → row_of p keyspace table key ≡ client_row p keyspace table key
row_at_allowed p reached keyspace table key allows = by (mover p table) refl
  where
    at_owner : (w : Live) → mover p table ≡ Some w → (t : Bool) → is_side w keyspace ≡ t → (t && not (same_text (owner w) keyspace)) ≡ false
    at_owner w found true side =
        ap not ((same_text_decides (owner w) keyspace).1 (sym (allowed_at_the_owner p reached (reached_has_parts p reached) table w found (shard_at p keyspace key) keyspace side allows)))
    at_owner w found false side = refl

    by : (o : Option Live) → mover p table ≡ o → row_by_mover p o keyspace table key ≡ client_row p keyspace table key
    by None none = refl
    by (Some w) found =
        row_by_test (is_side w keyspace && not (same_text (owner w) keyspace)) (other_row p w table key) (client_row p keyspace table key)
        (at_owner w found (is_side w keyspace) refl)

pub primary_reads : (p : Plain) → IsReached p → (keyspace table : List ℕ) (key : ℕ) (r : Row) → Answers p (read keyspace table key Primary) (row r) → r ≡ client_row p keyspace table key
primary_reads p reached keyspace table key r given =
    let e : row r ≡ row (row_of p keyspace table key) = given.1 in
    let is : r ≡ row_of p keyspace table key = cc in
    is ∙ row_at_allowed p reached keyspace table key (read_allowed p keyspace table key given.0)

pub primary_reads-run : (scopes : List Scope) (events : List Event) (answers : List Answer) → Run (opening scopes) events answers → (keyspace table : List ℕ) (key : ℕ) (r : Row)
    → Answers (after (opening scopes) events answers) (read keyspace table key Primary) (row r)
    → r ≡ row_by (acknowledged (opening scopes) (client_number (after (opening scopes) events answers) keyspace table) key events answers)
primary_reads-run scopes events answers run keyspace table key r given =
    primary_reads (after (opening scopes) events answers) (record { scopes = scopes; events = events; answers = answers; run = run; is = refl }) keyspace table key r given
    ∙ client_row-run scopes events answers run keyspace table key

-- between the refreshes no write with a key of a lane is taken on either side, as long as the new owner isn't refreshed for its shard
module _ (p : Plain) (reached : IsReached p) (table : List ℕ) (w : Live) (way : Way) (found : mover p table ≡ Some w) (opens : w.way ≡ Some way)
    (changes : changes_primary way ≡ true) (refreshed : stands_done way refresh_source ≡ true) (lane : Lane) (waits : stands_done_at way refresh_target lane.shard ≡ false)
    (turned : IsTurned w) (cut : IsCut p w) (key : ℕ) (inside : in_lane w lane key ≡ true) where
  -- the source has one shard, and its refresh behind the journal is one step
  waits_at_source : way.before.primary ≡ true → stands_done_at way refresh_target 0 ≡ false
  waits_at_source e = by way.back (sym (turned way opens changes) ∙ e) waits
    where
      place_by : Bool → ℕ → ℕ
      place_by b shard = cond (leb refresh_target (cond b refresh_source refresh_target)) refresh_target (refresh_target + (way.shards - 1)) + cond (eqb refresh_target (cond b refresh_source refresh_target)) (min shard (way.shards - 1)) 0

      by : (b : Bool) → b ≡ true → ltb (place_by b lane.shard) (next_place way) ≡ false → ltb (place_by b 0) (next_place way) ≡ false
      by true f g = g
      by false f g = absurd (true≢false (sym f))

  refuses_key : (keyspace : List ℕ) → (same_text w.source keyspace ≡ true) ⊎ (same_text w.target keyspace ≡ true) → refuses p keyspace (shard_at p keyspace key) table ≡ true
  refuses_key keyspace (inl e) =
      let is = (same_text_decides w.source keyspace).0 e in
      subst (λ k. refuses p k (shard_at p k key) table ≡ true) is
      (ap (λ h. refuses p w.source h table) (source_shard p w cut key) ∙ refused_at_source p (reached_has_parts p reached) table w way found opens changes refreshed 0 waits_at_source)
  refuses_key keyspace (inr e) =
      let is = (same_text_decides w.target keyspace).0 e in
      let own = target_shard p w cut key ∙ eqb-true (shard_of w.cuts key) lane.shard inside in
      subst (λ k. refuses p k (shard_at p k key) table ≡ true) is
      (ap (λ h. refuses p w.target h table) own ∙ refused_at_target p (reached_has_parts p reached) table w way found opens changes refreshed lane.shard (λ b. waits))

  pub no_write_between : (keyspace : List ℕ) → is_side w keyspace ≡ true → (op : Op) → op_key op ≡ key → Answers p (write keyspace table op) done → ⊥
  no_write_between keyspace side op is given =
      true≢false (sym (refuses_key keyspace (or_cases (same_text w.source keyspace) (same_text w.target keyspace) side)) ∙ ap (λ k. refuses p keyspace (shard_at p keyspace k) table) (sym is) ∙ write_allowed p keyspace table op given.0)

  pub no_read_between : (keyspace : List ℕ) → is_side w keyspace ≡ true → (r : Row) → Answers p (read keyspace table key Primary) (row r) → ⊥
  no_read_between keyspace side r given =
      true≢false (sym (refuses_key keyspace (or_cases (same_text w.source keyspace) (same_text w.target keyspace) side)) ∙ read_allowed p keyspace table key given.0)

-- the same in each state that a run reaches, for the lane of a key
pub writes_between : (p : Plain) → IsReached p → (table : List ℕ) (w : Live) (way : Way) → mover p table ≡ Some w → w.way ≡ Some way → changes_primary way ≡ true → stands_done way refresh_source ≡ true → (op : Op) (lane : Lane)
    → lane_of w (op_key op) ≡ Some lane → stands_done_at way refresh_target lane.shard ≡ false → (keyspace : List ℕ) → is_side w keyspace ≡ true → Answers p (write keyspace table op) done → ⊥
writes_between p reached table w way found opens changes refreshed op lane here waits keyspace side given =
    let in_it = (find_some (λ v. moves v table) p.lives w found).0 in
    no_write_between p reached table w way found opens changes refreshed lane waits (reached_turned p reached w in_it) (reached_cut p reached w in_it) (op_key op) (in_its_lane w (op_key op) lane here) keyspace side op refl given

pub reads_between : (p : Plain) → IsReached p → (table : List ℕ) (w : Live) (way : Way) → mover p table ≡ Some w → w.way ≡ Some way → changes_primary way ≡ true → stands_done way refresh_source ≡ true → (key : ℕ) (lane : Lane)
    → lane_of w key ≡ Some lane → stands_done_at way refresh_target lane.shard ≡ false → (keyspace : List ℕ) → is_side w keyspace ≡ true → (r : Row) → Answers p (read keyspace table key Primary) (row r) → ⊥
reads_between p reached table w way found opens changes refreshed key lane here waits keyspace side r given =
    let in_it = (find_some (λ v. moves v table) p.lives w found).0 in
    no_read_between p reached table w way found opens changes refreshed lane waits (reached_turned p reached w in_it) (reached_cut p reached w in_it) key (in_its_lane w key lane here) keyspace side r given
