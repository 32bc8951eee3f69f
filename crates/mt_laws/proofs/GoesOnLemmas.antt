-- The number of a moved table goes on: at both sides from Create on, through every event, back with Cancel and over with Complete.
use Rattle.std.proofs.Common.{◌≡◌, ℕ, true, false, not, cond, List, find, Option, None, Some, refl, sym, ap, ◌∙◌, subst, unwrap_or}
use Rattle.std.specs.List.{list_any}
use Rattle.std.specs.Option.{option_map_or}
use Rattle.std.specs.Prelude.{◌||◌}
use Rattle.mt_names.specs.Names.{same_text}
use Rattle.mt_names.proofs.SameLemmas.{same_text_decides}
use Rattle.mt_plain.specs.Answers.{Answers}
use Rattle.mt_plain.specs.Events.{Event, create, cancel, complete, Answer, done}
use Rattle.mt_plain.specs.Next.{next, with_completed, without_live}
use Rattle.mt_plain.specs.Plain.{Live, Plain, each_once, is_side, live_at, mover, moves, number_of}
use Rattle.mt_plain.specs.Writes.{client_number, client_row, row_after_writes}
use Rattle.mt_laws.specs.Changes.{HasSides}
use Rattle.mt_laws.specs.WayBack.{IsReached, ends_workflow}
use Rattle.mt_laws.proofs.AllWritesLemmas.{found, number_stays, reached_next}
use Rattle.mt_laws.proofs.ChangeLemmas.{made_live}
use Rattle.mt_laws.proofs.CopyLemmas.{client_number-side}
use Rattle.mt_laws.proofs.LiveLemmas.{IsIn, find-filter_gone, find-push_none, find_some, unique}
use Rattle.mt_laws.proofs.NumberedLemmas.{number-goes_on, reached_is_numbered}
use Rattle.mt_laws.proofs.ReachLemmas.{IsNew, create-none, named, not_ended, reached_has_parts}
use Rattle.mt_laws.proofs.UntouchedLemmas.{same_sides}
use Rattle.mt_laws.proofs.WritableLemmas.{side_by-is_side}

abbrev home : Option Live → List ℕ → List ℕ
home o keyspace = option_map_or (λ w. cond (is_side w keyspace) w.source keyspace) o keyspace

-- ---- Create

module _ (p : Plain) (reached : IsReached p) (name source target : List ℕ) (tables : List (List ℕ)) (given : Answers p (create name source target tables) done) where
  abbrev made_next : Plain
  made_next = next p (create name source target tables) done

  abbrev made : Live
  made = made_live p name source target (each_once tables)

  new : IsNew p name source target (each_once tables)
  new = create-none p name source target tables given.0

  -- the workflow of the name is the one that Create made
  is_made : (w : Live) → live_at made_next name ≡ Some w → w ≡ made
  is_made w live =
      let e : Some w ≡ Some made = sym live ∙ find-push_none (λ x. same_text x.name name) p.lives made new.unnamed ∙ ap (λ t. cond t (Some made) None) ((same_text_decides name name).1 refl) in
      let one : w ≡ made = cc in
      one

  side_of_made : (table : List ℕ) → moves made table ≡ true → (keyspace : List ℕ) → is_side made keyspace ≡ true → client_number made_next keyspace table ≡ client_number p source table
  side_of_made table listed keyspace side =
      let unmoved = (new.each table (named (each_once tables) table listed)).1 in
      let moved_by : mover made_next table ≡ Some made = find-push_none (λ v. moves v table) p.lives made unmoved ∙ ap (λ t. cond t (Some made) None) listed in
      client_number-side made_next made table listed 0 moved_by keyspace side ∙ sym (ap (λ o. number_of p (home o source) table) unmoved)

  pub created-side : (w : Live) → live_at made_next name ≡ Some w → (table : List ℕ) → moves w table ≡ true → (keyspace : List ℕ) → is_side w keyspace ≡ true → client_number made_next keyspace table ≡ client_number p source table
  created-side w live table moved keyspace side =
      let one = is_made w live in
      side_of_made table (ap (λ x. moves x table) (sym one) ∙ moved) keyspace (ap (λ x. is_side x keyspace) (sym one) ∙ side)

-- ---- while it is live

module _ (p : Plain) (reached : IsReached p) (name : List ℕ) (w : Live) (live : live_at p name ≡ Some w) where
  in_it : IsIn w p.lives
  in_it = (find_some (λ x. same_text x.name name) p.lives w live).0

  is_name : w.name ≡ name
  is_name = (same_text_decides w.name name).0 (find_some (λ x. same_text x.name name) p.lives w live).1

  module _ (event : Event) (answer : Answer) (given : Answers p event answer) (v : Live) (now : live_at (next p event answer) name ≡ Some v) (table : List ℕ) (moved : moves w table ≡ true)
      (keyspace : List ℕ) (side : is_side w keyspace ≡ true) where
    pub kept : client_number (next p event answer) keyspace table ≡ client_number p keyspace table
    kept =
        client_number-side q v table moved_after 0 (found q (reached_next p event answer reached given) v in_q.0 table moved_after) keyspace side_after
        ∙ ap (λ k. number_of q k table) (sym sides.source)
        ∙ number_stays p reached w in_it event answer given lives table moved
        ∙ sym (client_number-side p w table moved 0 (found p reached w in_it table moved) keyspace side)
      where
        q : Plain
        q = next p event answer

        sides : HasSides w v
        sides = same_sides p event answer name w v live now

        in_q : IsIn v (next p event answer).lives × (same_text v.name name ≡ true)
        in_q = find_some (λ x. same_text x.name name) (next p event answer).lives v now

        moved_after : moves v table ≡ true
        moved_after = ap (list_any (λ t. same_text t table)) (sym sides.tables) ∙ moved

        side_after : is_side v keyspace ≡ true
        side_after = ap (λ k. same_text k keyspace || same_text v.target keyspace) (sym sides.source) ∙ ap (λ k. same_text w.source keyspace || same_text k keyspace) (sym sides.target) ∙ side

        lives : ends_workflow w.name event answer ≡ false
        lives = subst (λ n. ends_workflow n event answer ≡ false) (sym sides.name) (not_ended p event answer v in_q.0)

  -- ---- Cancel and Complete

  module _ (table : List ℕ) (moved : moves w table ≡ true) where
    -- without the workflow, none moves the table
    unmoved_after : find (λ x. moves x table) (without_live w.name p.lives) ≡ None
    unmoved_after =
        find-filter_gone (λ x. moves x table) (λ x. not (same_text x.name w.name)) p.lives
        (λ x i e.
        ap not ((same_text_decides x.name w.name).1 (ap (λ y. y.name) (unique p.lives x w (reached_has_parts p reached).apart i in_it (λ apart. apart.tables table e moved)))))

    at_source : client_number p w.source table ≡ number_of p w.source table
    at_source = client_number-side p w table moved 0 (found p reached w in_it table moved) w.source (side_by-is_side w false)

    at_target : client_number p w.target table ≡ number_of p w.source table
    at_target = client_number-side p w table moved 0 (found p reached w in_it table moved) w.target (side_by-is_side w true)

    pub cancelled : client_number (next p (cancel name) done) w.source table ≡ client_number p w.source table
    cancelled =
        ap (λ n. number_of p (home (find (λ x. moves x table) (without_live n p.lives)) w.source) table) (sym is_name)
        ∙ ap (λ o. number_of p (home o w.source) table) unmoved_after ∙ sym at_source

    number-completed : client_number (with_completed p (Some w)) w.target table ≡ client_number p w.target table
    number-completed =
        ap (λ o. number_of q (home o w.target) table) unmoved_after
        ∙ ap (λ o. unwrap_or o p.made) (number-goes_on p w (reached_is_numbered p reached) ((reached_has_parts p reached).placed w in_it) in_it table moved)
        ∙ sym at_target
      where
        q : Plain
        q = with_completed p (Some w)

    pub completed : client_number (next p (complete name) done) w.target table ≡ client_number p w.target table
    completed = ap (λ o. client_number (with_completed p o) w.target table) live ∙ number-completed

    pub completed-row : (key : ℕ) → client_row (next p (complete name) done) w.target table key ≡ client_row p w.target table key
    completed-row key =
        ap (λ o. client_row (with_completed p o) w.target table key) live ∙ ap (λ n. row_after_writes p.writes n key) number-completed

    pub same_at_both : client_number p w.source table ≡ client_number p w.target table
    same_at_both = at_source ∙ sym at_target
