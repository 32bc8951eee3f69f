-- Lists of scopes: those of watchers, in the order in which they were added.
use Rattle.std.specs.Prelude.{Bool, List}
use Rattle.std.specs.List.{list_any}
use Rattle.mt_model.specs.declared.entries.Scope.{Scope}
use Rattle.mt_model.specs.contracts.entries.ScopePartialEq.TheImpl as of_scope

-- the test that `==` computes
abbrev pub same_scope : Scope → Scope → Bool
same_scope = of_scope.ghosts.eq

-- whether a scope is among them
abbrev pub has_scope : List Scope → Scope → Bool
has_scope scopes scope = list_any (λ other. same_scope other scope) scopes
