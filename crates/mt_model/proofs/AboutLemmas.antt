-- The test of two keys of entries that `==` computes decides whether they are one.
use Rattle.std.proofs.Common.{rules, Bool}
use Rattle.mt_names.specs.Same.{DecidesEquality}
use Rattle.mt_model.specs.contracts.entries.EntryKeyPartialEq.TheImpl as of_about
use Rattle.mt_model.specs.declared.entries.EntryKey.{EntryKey}

abbrev pub same_about : EntryKey → EntryKey → Bool
same_about = of_about.ghosts.eq

pub same_about_decides : DecidesEquality same_about
same_about_decides = search rules
