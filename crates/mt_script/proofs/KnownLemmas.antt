-- Known bytes that stay as they are: none of them is read or written.
use Rattle.std.proofs.Common.{ℕ, List, [], Option, Some, None, sym}
use Rattle.std.proofs.KnownBytes.{Appends-kept, Appends-nil, Consumes-kept, Consumes-nil}
use Rattle.std.specs.Io.KnownBytes.{Appends, Consumes, Keeps}

pub consumes_kept : (u v : Option (List ℕ)) → Keeps u v → Consumes u v []
consumes_kept u v kept = Consumes-kept u u v [] (Consumes-nil u) kept

pub kept_consumes : (u v : Option (List ℕ)) → Consumes u v [] → Keeps u v
kept_consumes None v x = tt
kept_consumes (Some xs) None x = absurd x
kept_consumes (Some xs) (Some ys) x = sym x

pub kept_appends : (u v : Option (List ℕ)) → Keeps u v → Appends u v []
kept_appends u v kept = Appends-kept u u v [] (Appends-nil u) kept
