-- Whom a change of a topology concerns, and what each of them is told of it.
use Rattle.std.specs.Prelude.{Bool, true, false, List, filter}
use Rattle.mt_names.specs.Names.{same_text}
use Rattle.mt_model.specs.declared.entries.Entry.{Entry}
use Rattle.mt_model.specs.declared.entries.Entry.TheVariants as entry
use Rattle.mt_model.specs.declared.entries.Scope.{Scope}
use Rattle.mt_model.specs.declared.entries.Scope.TheVariants as scope

-- rules and tables concern the routers; the denials at a keyspace concern its primary (How traffic is switched: routers and
-- primaries are refreshed)
abbrev pub concerns : Scope → Entry → Bool
concerns scope.Routes (entry.Rule key target) = true
concerns scope.Routes (entry.Denied keyspace table is_denied) = false
concerns scope.Routes (entry.Present keyspace table is_present) = true
concerns (scope.Primary own) (entry.Rule key target) = false
concerns (scope.Primary own) (entry.Denied keyspace table is_denied) = same_text own keyspace
concerns (scope.Primary own) (entry.Present keyspace table is_present) = false

-- the notice of a change for a scope: the entries that concern it, in their order (this profile's own)
abbrev pub notice_of : Scope → List Entry → List Entry
notice_of scope change = filter (concerns scope) change
