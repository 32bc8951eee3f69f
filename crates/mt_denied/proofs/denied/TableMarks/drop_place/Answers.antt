-- The last place is dropped without a look-up.
use Rattle.std.proofs.Common.{rules, ◌≡◌, ◌-◌, true, length, take, subst, ◌∙◌}
use Rattle.std.specs.List.{IsDistinct}
use Rattle.std.specs.Map.{keys_of}
use Rattle.mt_names.specs.Names.{same_text}
use Rattle.mt_denied.specs.Denied.{is_last}
use Rattle.mt_denied.proofs.DeniedLemmas.{last_cut}
use Rattle.mt_denied.proofs.denied.TableMarks.drop_place.Goals as goal

pub returns-then-is_last : goal.returns-then-is_last
returns-then-is_last c =
    let distinct = subst (λ marks. IsDistinct same_text (keys_of marks)) c.self.view_is c.self.invariant.0 in
    let cut : c.truncate.new.self.entries ≡ take (length c.args.self.now - 1) c.args.self.now = search rules in
    let last : is_last c.args.self.now c.args.table.now ≡ true = search rules in
    cut ∙ last_cut c.args.self.now c.args.table.now distinct last
