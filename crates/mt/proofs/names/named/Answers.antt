-- One word too many is enough to refuse the list.
use Rattle.std.proofs.Common.{Bor, List, ℕ, map, ap, ◌∙◌}
use Rattle.mt_choice.specs.Keyspaces.{most_keyspaces, read_keyspaces}
use Rattle.mt.specs.Names.{words_in}
use Rattle.mt.proofs.NameLemmas.{read_first}
use Rattle.mt.proofs.names.named.Goals as goal

pub returns : goal.returns
returns c =
    c.keyspaces.ensures ∙ ap (λ (ws : List (Bor (List ℕ))). read_keyspaces (map (λ (word : Bor (List ℕ)). word.now) ws)) c.deref.ensures.0
    ∙ ap read_keyspaces c.words.ensures ∙ read_first most_keyspaces (words_in c.args.text.now)
