-- What is kept of the ways has numbers that were given, and a way that is begun is kept behind the others.
use Rattle.std.proofs.Common.{suc, None, Some, option_map, ap, ◌∙◌, subst}
use Rattle.std.proofs.lemmas.List.Elements.{All-from_recursion}
use Rattle.std.specs.List.{AllByRecursion}
use Rattle.mt_journal.specs.declared.entry.JournalEntry.{JournalEntry}
use Rattle.mt_names.proofs.EntryLemmas.{lookup-push_here, none_from}
use Rattle.mt_names.proofs.SameLemmas.{same_text_decides}
use Rattle.mt_names.specs.Names.{same_text}
use Rattle.mt_stands.specs.Ways.{IsGiven, open_at}
use Rattle.mt_steps.specs.declared.log.OpenWay.{OpenWay}
use Rattle.mt_steps.specs.Undo.{new_log}
use Rattle.mt_refinement.proofs.WaysLemmas.{is_under_way-found}
use Rattle.mt_refinement.proofs.numbers.numbers_count_the_ways_from_one.Goals as goal

pub returns : goal.returns
returns c = record {
  written = λ p scopes s stands.
      All-from_recursion (λ (entry : JournalEntry). IsGiven p.ways entry.id) s.ways.journal
      (subst (λ n. AllByRecursion (λ (entry : JournalEntry). IsGiven n entry.id) s.ways.journal) stands.ways.begun stands.ways.written);
  opened = λ p scopes s stands name o is_open. subst (λ n. IsGiven n o.number) stands.ways.begun (stands.ways.numbers name o is_open);
  begun = λ p scopes s stands w way found rests.
      let kept : OpenWay = record { number = suc s.ways.begun; log = new_log w } in
      let none = none_from (open_at s.ways.opened w.name) (stands.ways.there w.name ∙ is_under_way-found s.base.workflows w.name w None found rests) in
      ap (option_map (λ (o : OpenWay). o.number)) (lookup-push_here same_text same_text_decides s.ways.opened w.name kept none)
      ∙ ap (λ n. Some (suc n)) stands.ways.begun;
}
