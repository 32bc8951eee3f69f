-- Each key has its place when it is written.
use Rattle.std.proofs.Common.{[], ◌∷◌, ap, ◌∙◌}
use Rattle.mt_model.specs.declared.entries.Entry.TheVariants as entry
use Rattle.mt_model.specs.Part.{with_entries}
use Rattle.mt_moves.specs.Parts.{mark_entries, mark_keys}
use Rattle.mt_moves.proofs.WriteLemmas.{marks_by, places-still}
use Rattle.mt_moves.proofs.parts.write_marks.Goals as goal

pub put_denied-requires : goal.put_denied-requires
put_denied-requires c =
    let w = c.args.workflow.now in
    (marks_by c.args.topology.now w.source w.target c.source-source.result.now c.target-target.result.now c.args.table.now c.source-source.ensures c.target-target.ensures c.requires).0

pub put_denied-requires-2 : goal.put_denied-requires-2
put_denied-requires-2 c =
    let w = c.args.workflow.now in
    let s = c.source-source.result.now in
    let g = c.target-target.result.now in
    let n = c.args.table.now in
    let p0 = marks_by c.args.topology.now w.source w.target s g n c.source-source.ensures c.target-target.ensures c.requires in
    (places-still c.args.topology.now c.put_denied.new.self (entry.Denied s n c.args.denied.0 ∷ []) (mark_keys s g n) c.put_denied.ensures p0).1.0

pub put_present-requires : goal.put_present-requires
put_present-requires c =
    let w = c.args.workflow.now in
    let s = c.source-source.result.now in
    let g = c.target-target.result.now in
    let n = c.args.table.now in
    let p0 = marks_by c.args.topology.now w.source w.target s g n c.source-source.ensures c.target-target.ensures c.requires in
    let p1 = places-still c.args.topology.now c.put_denied.new.self (entry.Denied s n c.args.denied.0 ∷ []) (mark_keys s g n) c.put_denied.ensures p0 in
    (places-still c.put_denied.new.self c.put_denied-2.new.self (entry.Denied g n c.args.denied.1 ∷ []) (mark_keys s g n) c.put_denied-2.ensures p1).1.1.0

pub returns : goal.returns
returns c =
    let w = c.args.workflow.now in
    let s = c.source-source.result.now in
    let g = c.target-target.result.now in
    let n = c.args.table.now in
    let t = c.args.topology.now in
    let all = c.put_present.ensures ∙ ap (λ x. with_entries x (entry.Present g n c.args.is_present ∷ [])) (c.put_denied-2.ensures ∙ ap (λ x. with_entries x (entry.Denied g n c.args.denied.1 ∷ [])) c.put_denied.ensures) in
    all ∙ ap (λ k. with_entries t (mark_entries k g n c.args.denied.0 c.args.denied.1 c.args.is_present)) c.source-source.ensures
    ∙ ap (λ k. with_entries t (mark_entries w.source k n c.args.denied.0 c.args.denied.1 c.args.is_present)) c.target-target.ensures
