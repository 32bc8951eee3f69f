-- The shards of keyspaces stay, and a live workflow knows those of its target; its source has one.
use Rattle.std.proofs.Common.{◌≡◌, ◌⊎◌, inl, inr, ℕ, ◌++◌, ltb, true, false, List, [], ◌∷◌, Option, None, Some, is_some, refl, sym, ap, ◌∙◌, subst, arith}
use Rattle.std.proofs.lemmas.Bool.{ltb-false, true≢false}
use Rattle.std.specs.Option.{option_map_or}
use Rattle.mt_names.specs.Names.{same_text}
use Rattle.mt_names.specs.Shards.{Cuts, shard_count, shard_of}
use Rattle.mt_names.proofs.EntryLemmas.{lookup-push_stood}
use Rattle.mt_model.specs.Topology.{KeyspaceState, Keyspaces, cuts_at, keyspace_at, new_keyspace, with_keyspace_state, with_new_table}
use Rattle.mt_model.proofs.TopologyLemmas.{read_at-unchanged}
use Rattle.mt_plain.specs.Answers.{Answers}
use Rattle.mt_plain.specs.Events.{Event, add_keyspace, add_table, edit_rule, create, advance, complete, Answer, done, row, advanced, shown, refused}
use Rattle.mt_plain.specs.Next.{next, next_taken, with_completed, with_tables, without_tables}
use Rattle.mt_plain.specs.Plain.{Live, Plain, cuts_of, each_once, has_keyspace, live_at, shard_at}
use Rattle.mt_plain.specs.Refuse.{refusal_of}
use Rattle.mt_laws.specs.WayBack.{IsReached}
use Rattle.mt_laws.proofs.ChangeLemmas.{live_next, made_live, sides-next}
use Rattle.mt_laws.proofs.LiveLemmas.{IsIn}
use Rattle.mt_laws.proofs.PartLemmas.{HasParts}
use Rattle.mt_laws.proofs.ReachLemmas.{create-none, each_next, reached_keeps, taken_or_same}
use Rattle.mt_laws.proofs.UntouchedLemmas.{same_topology}

pub cuts_changed : (change : KeyspaceState → KeyspaceState) → ((state : KeyspaceState) → (change state).cuts ≡ state.cuts) → (keyspaces : Keyspaces) (name k : List ℕ) → cuts_at (with_keyspace_state change keyspaces name) k ≡ cuts_at keyspaces k
cuts_changed change kept keyspaces name k = read_at-unchanged (λ (state : KeyspaceState). state.cuts) [] change keyspaces name k (λ state found same. kept state)

with_tables-cuts : (tables : List (List ℕ)) (state : KeyspaceState) → (with_tables tables state).cuts ≡ state.cuts
with_tables-cuts [] state = refl
with_tables-cuts (t ∷ ts) state = with_tables-cuts ts (with_new_table t state)

pushed : (keyspaces : Keyspaces) (name : List ℕ) (cuts : Cuts) (k : List ℕ) (o : Option KeyspaceState) → keyspace_at keyspaces k ≡ o → is_some o ≡ true → cuts_at (keyspaces ++ (name, new_keyspace cuts) ∷ []) k ≡ cuts_at keyspaces k
pushed keyspaces name cuts k None e there = absurd (true≢false (sym there))
pushed keyspaces name cuts k (Some state) e there =
    ap (λ (o : Option KeyspaceState). option_map_or (λ s. s.cuts) o []) (lookup-push_stood same_text keyspaces (name, new_keyspace cuts) k state e)
    ∙ sym (ap (λ (o : Option KeyspaceState). option_map_or (λ s. s.cuts) o []) e)

cuts-taken : (p : Plain) (event : Event) (k : List ℕ) → has_keyspace p k ≡ true → cuts_of (next_taken p event) k ≡ cuts_of p k
cuts-taken p (add_keyspace name cuts) k there = pushed p.topology.keyspaces name cuts k (keyspace_at p.topology.keyspaces k) refl there
cuts-taken p (add_table keyspace table) k there = cuts_changed (with_new_table table) (λ state. refl) p.topology.keyspaces keyspace k
cuts-taken p (edit_rule key target) k there = refl
cuts-taken p (complete workflow) k there = by (live_at p workflow)
  where
    by : (o : Option Live) → cuts_of (with_completed p o) k ≡ cuts_of p k
    by None = refl
    by (Some w) =
        cuts_changed (with_tables w.tables) (with_tables-cuts w.tables) (with_keyspace_state (without_tables w.tables) p.topology.keyspaces w.source) w.target k
        ∙ cuts_changed (without_tables w.tables) (λ state. refl) p.topology.keyspaces w.source k
cuts-taken p event k there = ap (λ u. cuts_at u.keyspaces k) (same_topology p event done (λ h. h))

pub cuts_stay : (p : Plain) (event : Event) (answer : Answer) (k : List ℕ) → has_keyspace p k ≡ true → cuts_of (next p event answer) k ≡ cuts_of p k
cuts_stay p event done k there = cuts-taken p event k there
cuts_stay p event (row r) k there = cuts-taken p event k there
cuts_stay p event (shown s) k there = refl
cuts_stay p event (refused refusal) k there = refl
cuts_stay p (advance workflow name shard at at_most) (advanced events rows) k there =
    ap (λ u. cuts_at u.keyspaces k) (same_topology p (advance workflow name shard at at_most) (advanced events rows) (λ h. h))
cuts_stay p event (advanced events rows) k there = refl

-- ---- what a live workflow knows of them

pub record IsCut (p : Plain) (w : Live) : Type 0 where
  pub target : w.cuts ≡ cuts_of p w.target
  pub source : cuts_of p w.source ≡ []

none_cut : (cuts : Cuts) → ltb 1 (shard_count cuts) ≡ false → cuts ≡ []
none_cut [] e = refl
none_cut (cut ∷ cuts) e = let le = ltb-false 1 (shard_count (cut ∷ cuts)) e in absurd (omega arith)

cut_next : (p : Plain) (event : Event) (answer : Answer) → HasParts p → Answers p event answer → ((w : Live) → IsIn w p.lives → IsCut p w) → (w : Live) → IsIn w (next p event answer).lives → IsCut (next p event answer) w
cut_next p event answer has given all = by (taken_or_same p event answer given)
  where
    q : Plain
    q = next p event answer

    stays : (w : Live) → IsIn w p.lives → IsCut q (live_next p event answer w)
    stays w is =
        let same = sides-next p event answer w in
        let placed = has.placed w is in
        let cut = all w is in
        record {
          target = sym same.cuts ∙ cut.target ∙ sym (cuts_stay p event answer w.target placed.target) ∙ ap (cuts_of q) same.target;
          source = ap (cuts_of q) (sym same.source) ∙ cuts_stay p event answer w.source placed.source ∙ cut.source;
        }

    made_cut : refusal_of p event ≡ None → (name source target : List ℕ) (tables : List (List ℕ)) → event ≡ create name source target tables → IsCut q (made_live p name source target (each_once tables))
    made_cut none name source target tables e =
        let new = create-none p name source target tables (subst (λ x. refusal_of p x ≡ None) e none) in
        record {
          target = sym (cuts_stay p event answer target new.target_there);
          source = cuts_stay p event answer source new.source_there ∙ none_cut (cuts_of p source) new.unsharded;
        }

    by : (refusal_of p event ≡ None) ⊎ (q ≡ p) → (w : Live) → IsIn w q.lives → IsCut q w
    by (inr same) = subst (λ x. (w : Live) → IsIn w x.lives → IsCut x w) (sym same) all
    by (inl none) = each_next (IsCut q) p event answer stays (made_cut none)

pub reached_cut : (p : Plain) → IsReached p → (w : Live) → IsIn w p.lives → IsCut p w
reached_cut = reached_keeps (λ p. (w : Live) → IsIn w p.lives → IsCut p w) (λ scopes w is. absurd is) cut_next

-- so a key stands at the source in its one shard, and at the target in the shard of its lane
pub source_shard : (p : Plain) (w : Live) → IsCut p w → (key : ℕ) → shard_at p w.source key ≡ 0
source_shard p w cut key = ap (λ cuts. shard_of cuts key) cut.source

pub target_shard : (p : Plain) (w : Live) → IsCut p w → (key : ℕ) → shard_at p w.target key ≡ shard_of w.cuts key
target_shard p w cut key = ap (λ cuts. shard_of cuts key) (sym cut.target)
