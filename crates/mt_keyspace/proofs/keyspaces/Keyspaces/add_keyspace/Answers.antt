-- A keyspace more goes last.
use Rattle.std.proofs.Common.{◌≡◌, [], ◌∷◌, ◌++◌, None, false, is_some, sym, ap, subst, ◌∙◌}
use Rattle.std.proofs.lemmas.Bool.{ne_eqb}
use Rattle.indexmap.specs.IndexMap.{insert_entry}
use Rattle.mt_names.specs.Names.{same_text}
use Rattle.mt_model.specs.Topology.{keyspace_at, new_keyspace}
use Rattle.mt_keyspace.specs.Edits.{add_keyspace_refusal}
use Rattle.mt_keyspace.specs.Keyspaces.{AreKeyspaces}
use Rattle.mt_keyspace.proofs.EditLemmas.{keyspace_pushed, keyspace_taken, on_ok}
use Rattle.mt_keyspace.proofs.InvariantLemmas.{one_more}
use Rattle.mt_keyspace.proofs.keyspaces.Keyspaces.add_keyspace.Goals as goal

-- it isn't refused, and goes last
pushed : (c : goal.Else-is_err) → (add_keyspace_refusal c.self.inside.places.entries c.args.name.now ≡ None)
    × (c.insert.new.self.entries ≡ c.self.inside.places.entries ++ (c.args.name.now, new_keyspace c.args.shards) ∷ [])
pushed c =
    let keyspaces = c.self.inside.places in
    let name = c.args.name.now in
    let absent : is_some (keyspace_at keyspaces.entries name) ≡ false = sym c.contains_key.ensures ∙ c.if-contains_key.false in
    let put : c.insert.new.self.entries ≡ insert_entry same_text keyspaces.entries c.copied.result c.new-keyspace.result = on_ok c.insert.result (sym c.is_err.ensures.value ∙ c.if-is_err.false) c.insert.ensures.entries in (
      keyspace_taken keyspaces.entries name absent (ne_eqb _ _ (λ e. c.if-len-eq-MAX_KEYSPACES.false (c.len.ensures.len ∙ e))),
      put ∙ keyspace_pushed keyspaces name c.copied.result c.new-keyspace.result _ c.copied.ensures c.new-keyspace.ensures absent,
    )

pub invariant_of-self-2 : goal.invariant_of-self-2
invariant_of-self-2 c = let p = pushed c in subst AreKeyspaces (sym p.1) (one_more c.self.inside.places.entries c.args.name.now c.args.shards p.0 c.self.invariant)

pub returns : goal.returns
returns c =
    let p = pushed c in
    let is = c.self.view_is in
    (ap (λ ks. add_keyspace_refusal ks c.args.name.now) (sym is) ∙ p.0, p.1 ∙ ap (λ ks. ks ++ (c.args.name.now, new_keyspace c.args.shards) ∷ []) is)
