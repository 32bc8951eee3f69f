-- In each state that a run reaches, a table that is there has a number of its own, and writes have numbers of tables that were made.
use Rattle.std.proofs.Common.{◌≡◌, ◌⊎◌, inl, inr, ℕ, ◌<◌, ◌≤◌, Bool, true, false, cond, List, Option, None, Some, unwrap_or, refl, sym, ap, ◌∙◌, subst, arith}
use Rattle.std.proofs.lemmas.Bool.{and_parts, or_left, or_right, true≢false}
use Rattle.std.specs.List.{list_any}
use Rattle.std.specs.Option.{option_map_or}
use Rattle.std.specs.Prelude.{◌&&◌}
use Rattle.mt_names.specs.declared.keys.RuleTarget.{RuleTarget}
use Rattle.mt_names.specs.Names.{same_text}
use Rattle.mt_names.specs.Same.{same_target}
use Rattle.mt_names.proofs.SameLemmas.{same_text_decides}
use Rattle.mt_model.specs.Topology.{is_present}
use Rattle.mt_plain.specs.Answers.{Answers}
use Rattle.mt_plain.specs.Events.{Event, write, add_table, complete, Answer, done, row, advanced, shown, refused}
use Rattle.mt_plain.specs.Next.{next, with_completed}
use Rattle.mt_plain.specs.Plain.{Live, Plain, in_keyspace, is_side, live_at, mover, moves, number_of}
use Rattle.mt_plain.specs.Serve.{has_table}
use Rattle.mt_plain.specs.Writes.{client_number, row_after_writes}
use Rattle.mt_laws.specs.Numbers.{Below, HasNumbers, number_at}
use Rattle.mt_laws.specs.Places.{AreSidesOfMove}
use Rattle.mt_laws.specs.WayBack.{IsReached}
use Rattle.mt_laws.proofs.AllWritesLemmas.{any_some, one_name, one_table, reached_next, write_there}
use Rattle.mt_laws.proofs.InPlaceLemmas.{opening_reached}
use Rattle.mt_laws.proofs.ListLemmas.{OfSome, lookup-of}
use Rattle.mt_laws.proofs.LiveLemmas.{find_some, unique}
use Rattle.mt_laws.proofs.NumberLemmas.{HasNumbers as HasListed, next-has_numbers, opening_has_numbers}
use Rattle.mt_laws.proofs.NumberedLemmas.{IsNumbered, reached_is_numbered}
use Rattle.mt_laws.proofs.PartLemmas.{HasParts}
use Rattle.mt_laws.proofs.ReachLemmas.{reached_has_parts, reached_holds, there_unmoved}
use Rattle.mt_laws.proofs.TableLemmas.{Below-more, Below-push, unwritten}
use Rattle.mt_laws.proofs.UntouchedLemmas.{same_made, same_writes}

-- ---- each number is below the next one

listed : (p : Plain) → IsReached p → HasListed p
listed = reached_holds HasListed (λ p event answer given has. next-has_numbers p event answer has) opening_has_numbers

below_next : (p : Plain) → HasListed p → (a : RuleTarget) (n : ℕ) → number_at p.numbers a ≡ Some n → n < p.made
below_next p has a n at_a = subst (OfSome (λ m. m < p.made)) at_a (lookup-of (λ e. e.1 < p.made) (same_target a) (λ m. m < p.made) p.numbers (λ e is. is) has.below)

-- ---- the table by whose number a table that is there is told

-- a side of the workflow that moves it, whose source is this one
pub record IsAtSide (p : Plain) (keyspace table source : List ℕ) : Type 0 where
  pub live : Live
  pub moving : mover p table ≡ Some live
  pub side : is_side live keyspace ≡ true
  pub is_source : source ≡ live.source

-- where it stands as if no workflow were live: at the source of its workflow where it lies at a side of that, else at its own keyspace
pub record Home (p : Plain) (keyspace table : List ℕ) : Type 0 where
  pub at : List ℕ
  pub where_it_is : (at ≡ keyspace) ⊎ IsAtSide p keyspace table at
  pub there : is_present p.topology.keyspaces at table ≡ true
  pub told : client_number p keyspace table ≡ number_of p at table

module _ (p : Plain) (has : HasParts p) (keyspace table : List ℕ) (here : has_table p keyspace table ≡ true) where
  abbrev number_by : Option Live → ℕ
  number_by o = number_of p (option_map_or (λ w. cond (is_side w keyspace) w.source keyspace) o keyspace) table

  -- one that its mover doesn't have at a side stands at its own keyspace
  elsewhere : (w : Live) → mover p table ≡ Some w → is_side w keyspace ≡ false → is_present p.topology.keyspaces keyspace table ≡ true
  elsewhere w moving other = by (list_any (λ v. moves v table && same_text v.target keyspace) p.lives) refl
    where
      by : (t : Bool) → list_any (λ v. moves v table && same_text v.target keyspace) p.lives ≡ t → is_present p.topology.keyspaces keyspace table ≡ true
      by false t = sym (ap (λ c. cond c true (is_present p.topology.keyspaces keyspace table)) t) ∙ here
      by true t =
          let r = any_some (λ v. moves v table && same_text v.target keyspace) p.lives t in
          let s = and_parts (moves r.0 table) (same_text r.0.target keyspace) r.2 in
          let m = find_some (λ v. moves v table) p.lives w moving in
          let one = unique p.lives r.0 w has.apart r.1 m.0 (λ apart. apart.tables table s.0 m.1) in
          absurd (true≢false (sym (or_right (same_text w.source keyspace) (same_text w.target keyspace) (ap (λ v. same_text v.target keyspace) (sym one) ∙ s.1)) ∙ other))

  pub home : Home p keyspace table
  home = by (mover p table) refl
    where
      by_side : (w : Live) → mover p table ≡ Some w → (t : Bool) → is_side w keyspace ≡ t → Home p keyspace table
      by_side w moving true t =
          let m = find_some (λ v. moves v table) p.lives w moving in
          record { at = w.source; where_it_is = inr (record { live = w; moving = moving; side = t; is_source = refl }); there = (has.placed w m.0).there table m.1; told = ap number_by moving ∙ ap (λ b. number_of p (cond b w.source keyspace) table) t }
      by_side w moving false t =
          record { at = keyspace; where_it_is = inl refl; there = elsewhere w moving t; told = ap number_by moving ∙ ap (λ b. number_of p (cond b w.source keyspace) table) t }

      by : (o : Option Live) → mover p table ≡ o → Home p keyspace table
      by None unmoved = record { at = keyspace; where_it_is = inl refl; there = there_unmoved p keyspace table unmoved here; told = ap number_by unmoved }
      by (Some w) moving = by_side w moving (is_side w keyspace) refl

client_below : (p : Plain) → HasParts p → HasListed p → IsNumbered p → (keyspace table : List ℕ) → has_table p keyspace table ≡ true → client_number p keyspace table < p.made
client_below p has numbers is keyspace table here =
    let h = home p has keyspace table here in
    let n = is.numbered h.at table h.there in
    subst (λ m. m < p.made) (sym (h.told ∙ ap (λ o. unwrap_or o p.made) n.1)) (below_next p numbers (in_keyspace h.at table) n.0 n.1)

-- ---- writes

abbrev Written : Plain → Type 0
Written p = Below p.made p.writes

completed-written : (p : Plain) (o : Option Live) → Written p → Written (with_completed p o)
completed-written p None written = written
completed-written p (Some w) written = written

written-next : (p : Plain) (event : Event) (answer : Answer) → HasParts p → HasListed p → IsNumbered p → Answers p event answer → Written p → Written (next p event answer)
written-next p (write k t op) done has numbers is given written = Below-push p.made p.writes _ written (client_below p has numbers is k t (write_there p k t op given.0))
written-next p (write k t op) (row r) has numbers is given written = let h : row r ≡ done = given.1 in absurd cc
written-next p (write k t op) (advanced events rows) has numbers is given written = written
written-next p (write k t op) (shown s) has numbers is given written = written
written-next p (write k t op) (refused refusal) has numbers is given written = written
written-next p (add_table k t) done has numbers is given written = Below-more p.made _ p.writes (omega arith) written
written-next p (add_table k t) (row r) has numbers is given written = Below-more p.made _ p.writes (omega arith) written
written-next p (add_table k t) (advanced events rows) has numbers is given written = written
written-next p (add_table k t) (shown s) has numbers is given written = written
written-next p (add_table k t) (refused refusal) has numbers is given written = written
written-next p (complete workflow) done has numbers is given written = completed-written p (live_at p workflow) written
written-next p (complete workflow) (row r) has numbers is given written = completed-written p (live_at p workflow) written
written-next p (complete workflow) (advanced events rows) has numbers is given written = written
written-next p (complete workflow) (shown s) has numbers is given written = written
written-next p (complete workflow) (refused refusal) has numbers is given written = written
written-next p event answer has numbers is given written =
    subst (λ m. Below m (next p event answer).writes) (sym (same_made p event answer (λ h. h))) (subst (Below p.made) (sym (same_writes p event answer (λ h. h))) written)

reached_written : (p : Plain) → IsReached p → Written p
reached_written p reached =
    (reached_holds (λ q. IsReached q × Written q)
    (λ q event answer given both. (reached_next q event answer both.0 given, written-next q event answer (reached_has_parts q both.0) (listed q both.0) (reached_is_numbered q both.0) given both.1))
    (λ scopes. (opening_reached scopes, tt)) p reached).1

pub reached_has_numbers : (p : Plain) → IsReached p → HasNumbers p
reached_has_numbers p reached = record {
  numbered = (reached_is_numbered p reached).numbered;
  distinct = one_name p reached;
  below = below_next p (listed p reached);
  written = reached_written p reached;
}

pub number_is_of_table : (p : Plain) → IsReached p → (keyspace table : List ℕ) (n : ℕ) → number_at p.numbers (in_keyspace keyspace table) ≡ Some n → is_present p.topology.keyspaces keyspace table ≡ true
number_is_of_table p reached = (reached_is_numbered p reached).present

pub next_number_unwritten : (p : Plain) → IsReached p → (number key : ℕ) → p.made ≤ number → row_after_writes p.writes number key ≡ None
next_number_unwritten p reached number key le = unwritten p.writes p.made number key (reached_written p reached) le

pub reached_client_below : (p : Plain) → IsReached p → (keyspace table : List ℕ) → has_table p keyspace table ≡ true → client_number p keyspace table < p.made
reached_client_below p reached = client_below p (reached_has_parts p reached) (listed p reached) (reached_is_numbered p reached)

-- ---- tables of one number

source_side : (w : Live) (keyspace : List ℕ) → w.source ≡ keyspace → is_side w keyspace ≡ true
source_side w keyspace is = or_left (same_text w.source keyspace) (same_text w.target keyspace) ((same_text_decides w.source keyspace).1 is)

one_mover : (p : Plain) (table : List ℕ) (v w : Live) → mover p table ≡ Some v → mover p table ≡ Some w → v ≡ w
one_mover p table v w e f = let g : Some v ≡ Some w = sym e ∙ f in let h : v ≡ w = cc in h

sides_of_move : (p : Plain) (k keyspace table a b : List ℕ) → (a ≡ k) ⊎ IsAtSide p k table a → (b ≡ keyspace) ⊎ IsAtSide p keyspace table b → a ≡ b → (k ≡ keyspace) ⊎ AreSidesOfMove p table k keyspace
sides_of_move p k keyspace table a b (inl e) (inl f) same = inl (sym e ∙ same ∙ f)
sides_of_move p k keyspace table a b (inl e) (inr f) same =
    inr (record { live = f.live; moving = f.moving; first = source_side f.live k (sym f.is_source ∙ sym same ∙ e); second = f.side })
sides_of_move p k keyspace table a b (inr e) (inl f) same =
    inr (record { live = e.live; moving = e.moving; first = e.side; second = source_side e.live keyspace (sym e.is_source ∙ same ∙ f) })
sides_of_move p k keyspace table a b (inr e) (inr f) same =
    inr (record { live = e.live; moving = e.moving; first = e.side; second = ap (λ w. is_side w keyspace) (one_mover p table e.live f.live e.moving f.moving) ∙ f.side })

pub told_apart : (p : Plain) → IsReached p → (k t keyspace table : List ℕ) → has_table p k t ≡ true → has_table p keyspace table ≡ true → client_number p k t ≡ client_number p keyspace table
    → (t ≡ table) × ((k ≡ keyspace) ⊎ AreSidesOfMove p t k keyspace)
told_apart p reached k t keyspace table here there same =
    let has = reached_has_parts p reached in
    let a = home p has k t here in
    let b = home p has keyspace table there in
    let one = one_table p reached a.at t b.at table a.there b.there (sym a.told ∙ same ∙ b.told) in
    (one.1, sides_of_move p k keyspace t a.at b.at a.where_it_is (subst (λ n. (b.at ≡ keyspace) ⊎ IsAtSide p keyspace n b.at) (sym one.1) b.where_it_is) one.0)
