-- One rule more, if the place has one.
use Rattle.std.proofs.Common.{◌≡◌, ◌+◌, ◌++◌, ◌∷◌, [], ap, arith, drop, map, suc, subst, sym, ◌∙◌}
use Rattle.std.proofs.Math.Seq.{drop-cons}
use Rattle.std.proofs.lemmas.List.{map-append}
use Rattle.mt_rules.specs.Values.{IsNamed}
use Rattle.mt_rules.specs.Places.{key_of}
use Rattle.mt_rules.specs.Walk.{listed_entry}
use Rattle.mt_rules.specs.Written.{named_text, written_text}
use Rattle.mt_rules.proofs.WrittenLemmas.{Writes, Writes-put, Writes-skip, no_rule}
use Rattle.mt_rules.proofs.text.written_rules.Goals as goal
use Rattle.mt_rules.proofs.text.written_rules.Goals.{in-Some+in_ok-push, in_default}

pub loop-place-preserved : goal.loop-place-preserved
loop-place-preserved c =
    let i = c.loop-place.place-index in
    let items = c.deref-place-items.result.now in
    let place = c.place-item.result in
    let rest = map listed_entry (drop (i + 1) items) in
    let found = c.loop-place.rules.items in
    let next : suc i ≡ i + 1 = omega arith in
    let left : map listed_entry (drop i items) ≡ listed_entry place ∷ rest =
    ap (map listed_entry) (drop-cons items i place c.loop-place-test.true ∙ ap (λ n. n ∷ drop (suc i) items) (sym c.place-item.is) ∙ ap (λ n. place ∷ drop n items) next) in
    let before : Writes (map written_text found) (listed_entry place ∷ rest) c.args.places.now = subst (λ l. Writes (map written_text found) l c.args.places.now) left c.loop-place.invariant in
    elim c.match-place.branch [
      | in-Some+in_ok-push w ↦
          let key = key_of place.name.now place.tablet_type in
          let target = w.in-Some.target in
          let written = w.written_rule.ensures.text ∙ ap (λ k. named_text (k, target)) w.key-key.ensures in
          let texts : map written_text w.push.new.self.items ≡ map written_text found ++ named_text (key, target) ∷ [] =
          ap (map written_text) w.in_ok-push.ensures.items ∙ map-append written_text found (w.written_rule.result ∷ []) ∙ ap (λ t. map written_text found ++ t ∷ []) written in
          let named = subst (λ k. IsNamed (k, target)) w.key-key.ensures w.written_rule.ensures.named in
          let ruled = subst (λ o. Writes (map written_text found) ((key, o) ∷ rest) c.args.places.now) w.in-Some.is before in
          subst (λ ts. Writes ts rest c.args.places.now) (sym (ap (λ v. map written_text v.items) w.rules-is ∙ texts)) (Writes-put (map written_text found) key target rest c.args.places.now named ruled)
      | in_default w ↦
          let key = key_of place.name.now place.tablet_type in
          let none = no_rule place.rule.now w.in_default.not-Some in
          let bare = subst (λ o. Writes (map written_text found) ((key, o) ∷ rest) c.args.places.now) none before in
          subst (λ ts. Writes ts rest c.args.places.now) (sym (ap (λ v. map written_text v.items) w.rules-is)) (Writes-skip (map written_text found) key rest c.args.places.now bare)
    ]
