-- Each entry is taken over or passed over.
use Rattle.std.proofs.Common.{◌≡◌, true, false, [], refl, sym, subst, ◌∙◌}
use Rattle.std.proofs.lemmas.List.{take_all}
use Rattle.mt_names.specs.Names.{same_text}
use Rattle.mt_primary.specs.Denials.{AreDenialsSet, told_by_refresh}
use Rattle.mt_primary.proofs.DenialLemmas.{denials-same, told_by_none, passed-other, refresh-passed, refresh-taken}
use Rattle.mt_primary.proofs.primary.Primary.take_denied.Goals.{in-Denied+then-eq+then-contains, in-Denied+else-eq, else-eq-via-then-eq+else-contains, else-eq-via-else-eq, in_default}
use Rattle.mt_primary.proofs.primary.Primary.take_denied.Goals as goal

pub loop-entry-init : goal.loop-entry-init
loop-entry-init c = denials-same c.args.self.now (told_by_refresh c.args.keyspace.now [] c.args.tables.now) (λ name. told_by_none c.args.keyspace.now c.args.tables.now name)

pub returns-clause-taken : goal.returns-clause-taken
returns-clause-taken c =
    subst (λ notice. AreDenialsSet c.args.self.now (told_by_refresh c.args.keyspace.now notice c.args.tables.now) c.loop-entry.self)
    (take_all c.loop-entry.entry-index c.as_slice-entry-items.result.now c.loop-entry-test.false ∙ c.as_slice-entry-items.ensures) c.loop-entry.invariant

pub loop-entry-preserved : goal.loop-entry-preserved
loop-entry-preserved c =
    let old = c.args.self.now in
    let now = c.loop-entry.self in
    let keyspace = c.args.keyspace.now in
    let notice = c.as_slice-entry-items.result.now in
    let tables = c.args.tables.now in
    let n = c.loop-entry.entry-index in
    let passed = refresh-passed old now keyspace notice tables n c.entry-item.result c.loop-entry-test.true c.entry-item.is c.loop-entry.invariant in
    let taken = refresh-taken old now keyspace notice tables n c.entry-item.result c.loop-entry-test.true c.entry-item.is c.loop-entry.invariant in
    elim c.match-entry.branch [
      | in-Denied+then-eq+then-contains w ↦
          let at : same_text keyspace w.in-Denied.at ≡ true = sym w.eq.ensures ∙ w.if-eq.true in
          let named = sym w.contains.ensures.value ∙ w.if-contains.true in
          rw w.self-is (taken w.set_denied.new.self w.in-Denied.at w.in-Denied.table w.in-Denied.denied w.in-Denied.is (rw (w.in-Denied.is, at, named) refl) w.set_denied.ensures)
      | in-Denied+else-eq w ↦
          rw w.self-is (elim w.else-eq.branch [
            | else-eq-via-then-eq+else-contains w' ↦
                let at : same_text keyspace w.in-Denied.at ≡ true = sym w.eq.ensures ∙ w'.if-eq.true in
                let named = sym w'.contains.ensures.value ∙ w'.if-contains.false in
                passed (rw (w.in-Denied.is, at, named) refl)
            | else-eq-via-else-eq w' ↦
                let at : same_text keyspace w.in-Denied.at ≡ false = sym w.eq.ensures ∙ w'.if-eq.false in
                passed (rw (w.in-Denied.is, at) refl)
          ])
      | in_default w ↦ rw w.self-is (passed (passed-other keyspace tables c.entry-item.result w.in_default.not-Denied))
    ]
