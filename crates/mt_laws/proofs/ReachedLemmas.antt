-- In each state that a run reaches the lists of entries say what is served.
use Rattle.std.proofs.Common.{◌≡◌, Bool, true, false, List, [], ◌∷◌, refl}
use Rattle.std.specs.List.{AllByRecursion}
use Rattle.mt_model.specs.declared.entries.EntryKey.{EntryKey}
use Rattle.mt_model.proofs.PartLemmas.{table_of}
use Rattle.mt_plain.specs.Plain.{Live, Plain, has_part}
use Rattle.mt_plain.specs.Serve.{Serves, served}
use Rattle.mt_laws.specs.Parts.{AreApart, HasSides}
use Rattle.mt_laws.specs.WayBack.{IsReached}
use Rattle.mt_laws.proofs.LiveLemmas.{Apart, IsApart, all_from_in, in_all}
use Rattle.mt_laws.proofs.PartLemmas.{HasParts, moved_from_part}
use Rattle.mt_laws.proofs.ReachLemmas.{reached_has_parts}
use Rattle.mt_laws.proofs.ServeLemmas.{value_of-served}

no_part : (w v : Live) (key : EntryKey) → IsApart w v → has_part w key ≡ true → has_part v key ≡ false
no_part w v key apart e = by (has_part v key) refl
  where
    by : (t : Bool) → has_part v key ≡ t → has_part v key ≡ false
    by true t = absurd (apart.tables (table_of key) (moved_from_part w key e) (moved_from_part v key t))
    by false t = t

are_apart : (lives : List Live) → Apart lives → AreApart lives
are_apart [] apart = tt
are_apart (w ∷ ws) apart = (
  all_from_in (λ v. (key : EntryKey) → has_part w key ≡ true → has_part v key ≡ false) ws (λ v is key e. no_part w v key (in_all (IsApart w) ws v apart.0 is) e),
  are_apart ws apart.1,
)

have_sides : (p : Plain) → HasParts p → AllByRecursion (HasSides p.topology) p.lives
have_sides p has = all_from_in (HasSides p.topology) p.lives
    (λ w is. let placed = has.placed w is in record { source = placed.source; target = placed.target; apart = placed.sides })

pub reached-serves : (p : Plain) → IsReached p → Serves p (served p)
reached-serves p reached = let has = reached_has_parts p reached in λ key. value_of-served p.lives p.topology (have_sides p has) (are_apart p.lives has.apart) key
