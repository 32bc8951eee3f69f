-- Places that are made together and noted, and taken back from the last one on.
use Rattle.std.proofs.Common.{◌≡◌, Bool, true, false, not, List, [], ◌∷◌, ◌++◌, map, reverse, Option, None, Some, is_some, Err, refl, sym, ap, ◌∙◌}
use Rattle.std.proofs.lemmas.Bool.{true≢false}
use Rattle.std.proofs.lemmas.Grind.{flat_map-append}
use Rattle.std.proofs.lemmas.List.{append-nil, reverse-append}
use Rattle.std.proofs.lemmas.List.Sums.{fold-append}
use Rattle.std.specs.Option.{option_map_or}
use Rattle.mt_names.specs.declared.keys.RuleKey.{RuleKey}
use Rattle.mt_model.specs.declared.entries.EntryKey.{EntryKey}
use Rattle.mt_model.specs.declared.entries.EntryKey.TheVariants as about
use Rattle.mt_model.specs.Part.{with_place, with_places, without_place, without_places}
use Rattle.mt_model.specs.Topology.{TopologyState, has_place}
use Rattle.mt_model.specs.declared.faults.TopologyFault.{TopologyFault}
use Rattle.mt_model.proofs.PlaceLemmas.{place_back}
use Rattle.mt_denied.specs.declared.fault.DeniedFault.{DeniedFault}
use Rattle.mt_denied.specs.declared.fault.DeniedFault.TheVariants as denied
use Rattle.mt_keyspace.specs.Edits.{Edits, answer_of}
use Rattle.mt_rules.specs.Rules.{four_keys}
use Rattle.mt_topology.specs.Part.{all_made, keys_made}
use Rattle.mt_topology.specs.declared.made.Made.{Made}
use Rattle.mt_topology.proofs.NewLemmas.{Lack, four_apart, with_places_back}

-- what was made last is taken back first
pub last_made : (t : TopologyState) (made : List Made) (last : Made) → without_places t (reverse (all_made (made ++ last ∷ []))) ≡ without_places (without_places t (reverse (keys_made last))) (reverse (all_made made))
last_made t made last =
    ap (λ l. without_places t (reverse l)) (flat_map-append keys_made made (last ∷ []) ∙ ap (λ l. all_made made ++ l) (append-nil (keys_made last)))
    ∙ ap (without_places t) (reverse-append (all_made made) (keys_made last))
    ∙ fold-append without_place t (reverse (keys_made last)) (reverse (all_made made))

-- places that are made and noted, where to drop them gives back what was before
pub noted_back : (t new : TopologyState) (made more : List Made) (last : Made) → without_places new (reverse (keys_made last)) ≡ t → more ≡ made ++ last ∷ [] → without_places new (reverse (all_made more)) ≡ without_places t (reverse (all_made made))
noted_back t new made more last back noted =
    ap (λ l. without_places new (reverse (all_made l))) noted ∙ last_made new made last ∙ ap (λ u. without_places u (reverse (all_made made))) back

-- where a look-up tells whether a place was made, it lacked one or had one
pub lacked : {A : Type 0} (has : A → Bool) (o : Option A) → option_map_or (λ x. not (has x)) o false ≡ true → option_map_or has o false ≡ false
lacked has None made = absurd (true≢false (sym made))
lacked has (Some x) made = by (has x) made
  where
    by : (b : Bool) → not b ≡ true → b ≡ false
    by true e = absurd (true≢false (sym e))
    by false e = refl

pub had_one : {A : Type 0} (has : A → Bool) (o : Option A) → is_some o ≡ true → option_map_or (λ x. not (has x)) o false ≡ false → option_map_or has o false ≡ true
had_one has None there made = absurd (true≢false (sym there))
had_one has (Some x) there made = by (has x) made
  where
    by : (b : Bool) → not b ≡ false → b ≡ true
    by true e = refl
    by false e = absurd (true≢false e)

-- and a refusal left all as it was
pub refused_leaves : {A : Type 0} (old made new : A) (refusal : Option TopologyFault) (grows : Bool) (fault : DeniedFault) → Edits old refusal grows made (answer_of (Err fault)) new → new ≡ old
refused_leaves old made new refusal grows denied.Memory e = e.2
refused_leaves old made new refusal grows denied.Full e = e.1

-- the place of one key
pub place_made : (t new : TopologyState) (key : EntryKey) → has_place t key ≡ false → new ≡ with_place t key → without_place new key ≡ t
place_made t new key lacks is = ap (λ u. without_place u key) is ∙ place_back t key lacks

-- those of a name's four keys
pub name_made : (t new : TopologyState) (name : RuleKey) → Lack t (four_keys name) → new ≡ with_places t (map about.Rule (four_keys name)) → without_places new (reverse (map about.Rule (four_keys name))) ≡ t
name_made t new name lack is = ap (λ u. without_places u (reverse (map about.Rule (four_keys name)))) is ∙ with_places_back t (four_keys name) (four_apart name) lack
