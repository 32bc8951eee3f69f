-- The key's name isn't there.
use Rattle.std.proofs.Common.{rules, ◌≡◌, None, subst}
use Rattle.std.specs.Map.{lookup}
use Rattle.mt_names.specs.Same.{same_key}
use Rattle.mt_rules.specs.Places.{key_of}
use Rattle.mt_rules.proofs.places.Places.get.Goals as goal

pub returns-in_err-name : goal.returns-in_err-name
returns-in_err-name c =
    let key = c.args.key.now in
    let none : None ≡ lookup (same_key key) c.args.self.now =
    subst (λ n. None ≡ lookup (same_key (key_of n key.tablet_type)) c.args.self.now) c.of.ensures (c.in_err-name.ensures key.tablet_type) in
    search (rules, none)
