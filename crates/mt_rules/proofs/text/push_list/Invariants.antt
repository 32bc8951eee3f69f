-- What is left completes the texts so far.
use Rattle.std.proofs.Common.{◌≡◌, [], ◌++◌, drop, map, string_bytes}
use denote.Shadow.{shadow}
use denote.Text.{Utf8}
use Rattle.mt_rules.specs.Written.{rest_text, written_text}
use Rattle.mt_rules.proofs.text.push_list.Given as goal

abbrev pub invariant-items : goal.invariant-items
invariant-items l =
    (string_bytes l.text ++ rest_text l.before (map (λ x. x.1) (map (λ item. written_text item.now) (drop l.item-index l.items)))
    ≡ string_bytes l.initial.text ++ rest_text [] (map (λ x. x.1) (map (λ item. written_text item.now) l.items)))
    × shadow (Utf8 l.before)
