-- What is printed of a command line that is refused.
use Rattle.std.specs.Prelude.{ℕ, List, codes}
use Rattle.mt_names.specs.Faults.{fault_text}
use Rattle.mt_choice.specs.declared.choice.Wrong.{Wrong}
use Rattle.mt_choice.specs.declared.choice.Wrong.TheVariants as wrong

-- the line for words that don't parse, without its line feed
abbrev pub usage_text : List ℕ
usage_text = codes "usage: mt run [KEYSPACE].. | mt rules | mt topology | mt race [--clients N] [--writes N]"

-- the line for each reason
abbrev pub wrong_text : Wrong → List ℕ
wrong_text wrong.Usage = usage_text
wrong_text (wrong.Words fault) = fault_text fault
wrong_text wrong.Memory = codes "fault Memory"
