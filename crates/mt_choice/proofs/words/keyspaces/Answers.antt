-- One more word read completes what is left.
use Rattle.std.proofs.Common.{◌≡◌, ℕ, ◌+◌, ◌<◌, List, [], length, Bor, Err, sym, ap, ◌∙◌, arith, rules}
use Rattle.std.proofs.lemmas.Bool.{eqb-false, eqb-true}
use Rattle.mt_choice.specs.Keyspaces.{most_keyspaces, names_of}
use Rattle.mt_choice.proofs.WordLemmas.{completes-taken, completes-refused, completes-full, completes-all}
use Rattle.mt_choice.proofs.words.keyspaces.Goals as goal

abbrev blank : Bor (List ℕ)
blank = record { ref_ptr = (0, 0); now = [] }

pub loop-word-preserved : goal.loop-word-preserved
loop-word-preserved c =
    let longer : length c.push.new.self.items ≡ length c.loop-word.names.items + 1 = c.push.ensures.len in
    let other : length c.loop-word.names.items ≡ most_keyspaces → ⊥ = eqb-false _ _ (sym c.is_full.ensures.value ∙ c.if-is_full.false) in
    let room : length c.loop-word.names.items < most_keyspaces = omega (arith, c.loop-word.invariant.1, other) in (
      completes-taken c.args.words.now c.loop-word.names.items c.loop-word.word-index blank c.loop-word.invariant.0 (omega arith) room c.in_ok-name.name c.push.new.self.items c.push.ensures.items longer (sym c.parse.ensures.value ∙ c.in_ok-name.was),
      omega (arith, longer, room),
    )

pub returns-in_err-name : goal.returns-in_err-name
returns-in_err-name c =
    let given : c.from_residual.result ≡ Err c.in_err-name.field-0.0 = search rules in
    ap names_of given ∙ completes-refused c.args.words.now c.loop-word.names.items c.loop-word.word-index blank c.loop-word.invariant.0 (omega arith) c.in_err-name.field-0.0 (sym c.parse.ensures.value ∙ c.in_err-name.was)

pub returns-then-is_full : goal.returns-then-is_full
returns-then-is_full c =
    completes-full c.args.words.now c.loop-word.names.items c.loop-word.word-index blank c.loop-word.invariant.0 (omega arith) (eqb-true _ _ (sym c.is_full.ensures.value ∙ c.if-is_full.true)) c.in_ok-name.name (sym c.parse.ensures.value ∙ c.in_ok-name.was)

pub returns : goal.returns
returns c = completes-all c.args.words.now c.loop-word.names.items c.loop-word.word-index blank c.loop-word.invariant.0 (omega arith)
