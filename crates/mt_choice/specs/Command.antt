-- The command `mt`, as clap's definitions see it.
use Rattle.std.specs.Prelude.{ℕ, Some, pos, true, List, [], ◌∷◌, codes}
use Rattle.clap.specs.Words.{App, Rule, new_app, new_rule, with_rule, with_subcommand}
use Rattle.clap.specs.declared.builder.action.ArgAction.TheVariants.{Append}
use Rattle.clap.specs.declared.builder.value_parser.ValueParser.TheVariants.{Signed}

-- any number of keyspaces
abbrev pub keyspace_rule : Rule
keyspace_rule = record (new_rule (codes "KEYSPACE")) { action = Some Append }

-- an option with a number of 16 bits, and the one that it is where none is given
abbrev pub number_rule : List ℕ → List ℕ → Rule
number_rule name default = record (new_rule name) {
  long = Some name;
  value_names = 1;
  parser = Some (Signed (pos 0) (pos 65535));
  defaults = default ∷ [];
}

abbrev pub clients_rule : Rule
clients_rule = number_rule (codes "clients") (codes "2")

abbrev pub writes_rule : Rule
writes_rule = number_rule (codes "writes") (codes "10")

abbrev pub run_app : App
run_app = with_rule (new_app (codes "run")) keyspace_rule

abbrev pub rules_app : App
rules_app = new_app (codes "rules")

abbrev pub topology_app : App
topology_app = new_app (codes "topology")

abbrev pub race_app : App
race_app = with_rule (with_rule (new_app (codes "race")) clients_rule) writes_rule

-- a command that is refused without a subcommand
abbrev pub bare : App
bare = record (new_app (codes "mt")) { top = record ((new_app (codes "mt")).top) { subcommand_required = true } }

abbrev pub mt : App
mt = with_subcommand (with_subcommand (with_subcommand (with_subcommand bare run_app.top) rules_app.top) topology_app.top) race_app.top
