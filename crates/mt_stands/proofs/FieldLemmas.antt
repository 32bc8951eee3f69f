-- What is written of a workflow follows from its sides, tables, switched types and open way.
use Rattle.std.proofs.Common.{◌≡◌, ℕ, Bool, cond, eqb, List, [], ◌∷◌, filter, map, Option, refl, ap, ◌∙◌}
use Rattle.std.specs.Option.{option_map_or}
use Rattle.mt_names.specs.declared.types.TypeSet.{TypeSet}
use Rattle.mt_names.specs.Names.{same_text}
use Rattle.mt_model.specs.declared.entries.EntryKey.{EntryKey}
use Rattle.mt_model.specs.declared.entries.EntryKey.TheVariants as about
use Rattle.mt_model.specs.Part.{part_keys}
use Rattle.mt_model.specs.Topology.{Rules}
use Rattle.mt_plain.specs.Events.{Way}
use Rattle.mt_plain.specs.Plain.{Live, allow_target, deny_source}
use Rattle.mt_plain.specs.Serve.{serve, step_of_entry}
use Rattle.mt_stands.specs.Keys.{keys_of_part, part_entries, rules_only, step_entries}
use Rattle.mt_stands.proofs.BeginLemmas.{serve_turned}

pub filter_same : {A : Type 0} (f g : A → Bool) → ((x : A) → f x ≡ g x) → (xs : List A) → filter f xs ≡ filter g xs
filter_same f g same [] = refl
filter_same f g same (x ∷ xs) = ap (λ b. cond b (x ∷ filter f xs) (filter f xs)) (same x) ∙ ap (λ l. cond (g x) (x ∷ l) l) (filter_same f g same xs)

pub map_same : {A B : Type 0} (f g : A → B) → ((x : A) → f x ≡ g x) → (xs : List A) → map f xs ≡ map g xs
map_same f g same [] = refl
map_same f g same (x ∷ xs) = ap (λ y. y ∷ map f xs) (same x) ∙ ap (λ l. g x ∷ l) (map_same f g same xs)

module _ (v w : Live) (source : v.source ≡ w.source) (target : v.target ≡ w.target) (tables : v.tables ≡ w.tables) where
  keys_same : keys_of_part v ≡ keys_of_part w
  keys_same = ap (λ x. part_keys x v.target v.tables) source ∙ ap (λ x. part_keys w.source x v.tables) target ∙ ap (part_keys w.source w.target) tables

  pub part_same : (kept : Rules) (types : TypeSet) → part_entries kept v types ≡ part_entries kept w types
  part_same kept types =
      map_same (serve (rules_only kept) v types) (serve (rules_only kept) w types) (λ key. serve_turned (rules_only kept) v w types key source target) (keys_of_part v)
      ∙ ap (map (serve (rules_only kept) w types)) keys_same

  module _ (switched : v.switched ≡ w.switched) (way : v.way ≡ w.way) where
    step_same : (key : EntryKey) → step_of_entry v key ≡ step_of_entry w key
    step_same (about.Rule key) = refl
    step_same (about.Denied k n) =
        ap (λ x. cond (same_text (cond (option_map_or (λ (way : Way). way.before) v.way v.switched).primary v.target x) k) deny_source allow_target) source
        ∙ ap (λ x. cond (same_text (cond (option_map_or (λ (way : Way). way.before) v.way v.switched).primary x w.source) k) deny_source allow_target) target
        ∙ ap (λ x. cond (same_text (cond (option_map_or (λ (way : Way). way.before) v.way x).primary w.target w.source) k) deny_source allow_target) switched
        ∙ ap (λ (x : Option Way). cond (same_text (cond (option_map_or (λ (way : Way). way.before) x w.switched).primary w.target w.source) k) deny_source allow_target) way
    step_same (about.Present k n) = refl

    pub entries_same : (kept : Rules) (types : TypeSet) (n : ℕ) → step_entries kept v types n ≡ step_entries kept w types n
    entries_same kept types n =
        map_same (serve (rules_only kept) v types) (serve (rules_only kept) w types) (λ key. serve_turned (rules_only kept) v w types key source target) (filter (λ key. eqb n (step_of_entry v key)) (keys_of_part v))
        ∙ ap (map (serve (rules_only kept) w types))
        (filter_same (λ key. eqb n (step_of_entry v key)) (λ key. eqb n (step_of_entry w key)) (λ key. ap (eqb n) (step_same key)) (keys_of_part v)
        ∙ ap (filter (λ key. eqb n (step_of_entry w key))) keys_same)
