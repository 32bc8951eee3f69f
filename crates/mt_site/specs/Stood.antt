-- That the controller stands for a state with the watchers that it asks (this profile's own).
use Rattle.std.specs.Prelude.{List}
use Rattle.mt_stands.specs.Purges.{IsPurged}
use Rattle.mt_model.specs.declared.entries.Scope.{Scope}
use Rattle.mt_plain.specs.Plain.{Plain}
use Rattle.mt_stands.specs.Ways.{CoreStands, CoreState}

-- there is a state that it stands for, with watchers of these scopes
abbrev pub IsCoreWith : List Scope → CoreState → Type 0
IsCoreWith scopes s = ∥ ((p : Plain) × CoreStands p scopes s) ∥₁

-- what stood for a state, with these watchers, still does, and what was purged still is
abbrev pub StaysCore : List Scope → (old new : CoreState) → Type 0
StaysCore scopes old new = (IsCoreWith scopes old → IsCoreWith scopes new) × (IsPurged old.base → IsPurged new.base)
