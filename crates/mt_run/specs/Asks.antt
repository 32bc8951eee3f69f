-- What a script asks for that changes no topology (this profile's own).
use Rattle.std.specs.Prelude.{Bool, true, false}
use Rattle.mt_event.specs.declared.ask.Ask.{Ask}
use Rattle.mt_event.specs.declared.ask.Ask.TheVariants as ask
use Rattle.mt_event.specs.declared.ask.Verb.TheVariants as verb

-- names lead where they led, whatever is answered: a row, an advance and a Show change no topology
abbrev pub leaves_names : Ask → Bool
leaves_names (ask.Write keyspace table op) = true
leaves_names (ask.Read keyspace table key type_of) = true
leaves_names (ask.On workflow (verb.Advance stream shard at max)) = true
leaves_names (ask.On workflow verb.Show) = true
leaves_names other = false
