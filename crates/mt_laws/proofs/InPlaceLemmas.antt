-- Where each live workflow stands in each state that a run reaches, and by what it is found.
use Rattle.std.proofs.Common.{◌≡◌, ℕ, true, List, [], Some, refl, subst}
use Rattle.std.proofs.lemmas.List.Elements.{All-from_recursion}
use Rattle.std.specs.List.{IsDistinct}
use Rattle.std.specs.Prelude.{All}
use Rattle.mt_names.specs.Names.{same_text}
use Rattle.mt_names.proofs.SameLemmas.{same_text_decides}
use Rattle.mt_model.specs.declared.entries.EntryKey.{EntryKey}
use Rattle.mt_model.specs.declared.entries.Scope.{Scope}
use Rattle.mt_plain.specs.Answers.{Run, after}
use Rattle.mt_plain.specs.Events.{Event, Answer}
use Rattle.mt_plain.specs.Plain.{Live, Plain, has_part, live_at, mover, moves, opening, part_owner}
use Rattle.mt_laws.specs.Reached.{IsInPlace}
use Rattle.mt_laws.specs.WayBack.{IsReached}
use Rattle.mt_laws.proofs.AllWritesLemmas.{found, reached_next}
use Rattle.mt_laws.proofs.ChangeLemmas.{sides-next}
use Rattle.mt_laws.proofs.LiveLemmas.{IsIn, all_from_in, find_some}
use Rattle.mt_laws.proofs.NumberedLemmas.{reached_is_numbered}
use Rattle.mt_laws.proofs.ReachLemmas.{each_next, live_by_name, reached_has_parts, reached_keeps, run_keeps}
use Rattle.mt_laws.proofs.SetLemmas.{once-distinct}
use Rattle.mt_laws.proofs.WayBackLemmas.{owner_of_part}

-- ---- states that runs reach

pub opening_reached : (scopes : List Scope) → IsReached (opening scopes)
opening_reached scopes = record { scopes = scopes; events = []; answers = []; run = tt; is = refl }

pub run_reached : (p : Plain) → IsReached p → (events : List Event) (answers : List Answer) → Run p events answers → IsReached (after p events answers)
run_reached p reached events answers run = run_keeps IsReached (λ q event answer given is. reached_next q event answer is given) events answers p run reached

-- ---- a live workflow names no table twice

pub tables_once : (p : Plain) → IsReached p → (w : Live) → IsIn w p.lives → IsDistinct same_text w.tables
tables_once =
    reached_keeps (λ p. (w : Live) → IsIn w p.lives → IsDistinct same_text w.tables) (λ scopes w is. absurd is)
    (λ p event answer has given once.
    each_next (λ w. IsDistinct same_text w.tables) p event answer
    (λ w is. subst (IsDistinct same_text) (sides-next p event answer w).tables (once w is))
    (λ name source target tables e. once-distinct tables))

-- ---- the workflow of a name

pub live_in : (p : Plain) (name : List ℕ) (w : Live) → live_at p name ≡ Some w → IsIn w p.lives
live_in p name w live = (find_some (λ v. same_text v.name name) p.lives w live).0

pub live_named : (p : Plain) (name : List ℕ) (w : Live) → live_at p name ≡ Some w → w.name ≡ name
live_named p name w live = (same_text_decides w.name name).0 (find_some (λ v. same_text v.name name) p.lives w live).1

pub listed_live : (p : Plain) → IsReached p → (w : Live) → IsIn w p.lives → live_at p w.name ≡ Some w
listed_live p reached w is = live_by_name p (reached_has_parts p reached).apart w is w.name ((same_text_decides w.name w.name).1 refl)

pub all_listed : (p : Plain) → IsReached p → All (λ w. live_at p w.name ≡ Some w) p.lives
all_listed p reached = All-from_recursion (λ w. live_at p w.name ≡ Some w) p.lives (all_from_in (λ w. live_at p w.name ≡ Some w) p.lives (listed_live p reached))

pub part_found : (p : Plain) → IsReached p → (name : List ℕ) (w : Live) → live_at p name ≡ Some w → (key : EntryKey) → has_part w key ≡ true → part_owner p key ≡ Some w
part_found p reached name w live key in_it = owner_of_part p name w key (reached_has_parts p reached) live in_it

pub table_found : (p : Plain) → IsReached p → (name : List ℕ) (w : Live) → live_at p name ≡ Some w → (table : List ℕ) → moves w table ≡ true → mover p table ≡ Some w
table_found p reached name w live table moved = found p reached w (live_in p name w live) table moved

pub owner_live : (p : Plain) → IsReached p → (key : EntryKey) (w : Live) → part_owner p key ≡ Some w → (has_part w key ≡ true) × (live_at p w.name ≡ Some w)
owner_live p reached key w owns = let r = find_some (λ v. has_part v key) p.lives w owns in (r.1, listed_live p reached w r.0)

pub mover_live : (p : Plain) → IsReached p → (table : List ℕ) (w : Live) → mover p table ≡ Some w → (moves w table ≡ true) × (live_at p w.name ≡ Some w)
mover_live p reached table w moving = let r = find_some (λ v. moves v table) p.lives w moving in (r.1, listed_live p reached w r.0)

-- ---- where it stands

pub in_place : (p : Plain) → IsReached p → (name : List ℕ) (w : Live) → live_at p name ≡ Some w → IsInPlace p.topology w
in_place p reached name w live =
    let is = live_in p name w live in
    let placed = (reached_has_parts p reached).placed w is in
    record {
      sides = record { source = placed.source; target = placed.target; apart = placed.sides };
      tables = tables_once p reached w is;
      at_source = placed.there;
      at_target = (reached_is_numbered p reached).vacant w is;
    }
