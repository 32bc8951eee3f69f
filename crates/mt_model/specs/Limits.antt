-- The limits.
use Rattle.std.specs.Prelude.{ℕ}

-- keyspaces (this profile's own)
abbrev pub most_keyspaces : ℕ
most_keyspaces = 32

-- tables in a keyspace, and denials at it (this profile's own)
abbrev pub most_tables_in_keyspace : ℕ
most_tables_in_keyspace = 256

-- rule entries, places without a rule among them (this profile's own)
abbrev pub most_rules : ℕ
most_rules = 4096

-- entries of a log: positions lie below 2^63 (this profile's own)
abbrev pub longest_log : ℕ
longest_log = 0x7fff_ffff_ffff_ffff

-- bytes of a row's value (this profile's own)
abbrev pub longest_value : ℕ
longest_value = 64
