-- Texts of the streams of shards.
use Rattle.std.proofs.Common.{◌≡◌, ℕ, ◌≤◌, List, [], ◌∷◌, ◌++◌, map, length, codes, Option, None, Some, option_map, append-nil, length-append, refl, sym, ap, ◌∙◌, arith}
use Rattle.std.proofs.lemmas.Grind.{flat_map-append}
use Rattle.std.proofs.lemmas.List.{append_assoc}
use Rattle.std.specs.List.{flat_map, join_with_byte}
use Rattle.std.specs.Option.{option_map_or}
use Rattle.mt_names.specs.Shards.{KeyRange, range_text}
use Rattle.mt_plain.specs.Events as plain
use Rattle.mt_plain.specs.Output.{backs_text, forward_text, forwards_text, lane_back_texts, none_or, slot_text, spaced}
use Rattle.mt_event.specs.declared.lanes.ShownLane.{ShownLane}
use Rattle.mt_event.specs.declared.lanes.ShownStream.{ShownStream}
use Rattle.mt_event.specs.Events.{lane_from, lanes_from, shown_stream_from}
use Rattle.mt_script.specs.Texts.{back_behind, forward_behind}

-- each of some texts behind a space
abbrev each_behind : List (List ℕ) → List ℕ
each_behind texts = flat_map (λ text. 32 ∷ text) texts

-- is one space, and behind it all of them with spaces between
some-behind : (first : List ℕ) (others : List (List ℕ)) → each_behind (first ∷ others) ≡ 32 ∷ join_with_byte 32 (first ∷ others)
some-behind first [] = append-nil (32 ∷ first)
some-behind first (next ∷ others) = ap (λ t. 32 ∷ first ++ t) (some-behind next others)

-- ---- forward streams

abbrev range_and_forward : plain.ShownLane → List ℕ
range_and_forward lane = spaced (range_text lane.range) (forward_text lane)

forwards-behind : (lanes : List ShownLane) → flat_map forward_behind lanes ≡ each_behind (map range_and_forward (lanes_from lanes))
forwards-behind [] = refl
forwards-behind (lane ∷ lanes) = ap (λ t. forward_behind lane ++ t) (forwards-behind lanes)

-- those of several shards
pub several-forwards : (lanes : List ShownLane) → 2 ≤ length lanes → flat_map forward_behind lanes ≡ 32 ∷ forwards_text (lanes_from lanes)
several-forwards [] two = absurd (omega (arith, two))
several-forwards (lane ∷ []) two = absurd (omega (arith, two))
several-forwards (lane ∷ next ∷ lanes) two =
    forwards-behind (lane ∷ next ∷ lanes) ∙ some-behind (range_and_forward (lane_from lane)) (map range_and_forward (lanes_from (next ∷ lanes)))

-- ---- back streams

one-back : (range : KeyRange) (back : Option ShownStream)
    → option_map_or (λ stream. 32 ∷ spaced (range_text range) (slot_text (shown_stream_from stream))) back []
    ≡ each_behind (option_map_or (λ slot. spaced (range_text range) (slot_text slot) ∷ []) (option_map shown_stream_from back) [])
one-back range None = refl
one-back range (Some stream) = sym (append-nil (32 ∷ spaced (range_text range) (slot_text (shown_stream_from stream))))

backs-behind : (lanes : List ShownLane) → flat_map back_behind lanes ≡ each_behind (flat_map lane_back_texts (lanes_from lanes))
backs-behind [] = refl
backs-behind (lane ∷ lanes) =
    (λ i. one-back lane.range lane.back i ++ backs-behind lanes i)
    ∙ sym (flat_map-append (λ text. 32 ∷ text) (lane_back_texts (lane_from lane)) (flat_map lane_back_texts (lanes_from lanes)))

no-text : (start text : List ℕ) (texts : List (List ℕ)) → text ≡ start ++ each_behind texts → length text ≡ length start
    → text ++ codes " none" ≡ start ++ 32 ∷ none_or texts
no-text start text [] is same = ap (λ t. t ++ codes " none") (is ∙ append-nil start)
no-text start text (first ∷ texts) is same =
    absurd (omega (arith, sym same ∙ ap length is ∙ length-append start (each_behind (first ∷ texts)), length-append (32 ∷ first) (each_behind texts)))

some-text : (start text : List ℕ) (texts : List (List ℕ)) → text ≡ start ++ each_behind texts → (length text ≡ length start → ⊥)
    → text ≡ start ++ 32 ∷ none_or texts
some-text start text [] is other = absurd (other (ap length (is ∙ append-nil start)))
some-text start text (first ∷ texts) is other = is ∙ ap (λ t. start ++ t) (some-behind first texts)

-- no shard has one
pub no-backs : (start text : List ℕ) (lanes : List ShownLane) → text ≡ start ++ flat_map back_behind lanes → length text ≡ length start
    → text ++ codes " none" ≡ start ++ 32 ∷ none_or (flat_map lane_back_texts (lanes_from lanes))
no-backs start text lanes is same = no-text start text (flat_map lane_back_texts (lanes_from lanes)) (is ∙ ap (λ t. start ++ t) (backs-behind lanes)) same

-- some shard has one
pub some-backs : (start text : List ℕ) (lanes : List ShownLane) → text ≡ start ++ flat_map back_behind lanes → (length text ≡ length start → ⊥)
    → text ≡ start ++ 32 ∷ none_or (flat_map lane_back_texts (lanes_from lanes))
some-backs start text lanes is other = some-text start text (flat_map lane_back_texts (lanes_from lanes)) (is ∙ ap (λ t. start ++ t) (backs-behind lanes)) other

-- those of several shards
pub several-backs : (lanes : List ShownLane) → 2 ≤ length lanes → none_or (flat_map lane_back_texts (lanes_from lanes)) ≡ backs_text (lanes_from lanes)
several-backs [] two = absurd (omega (arith, two))
several-backs (lane ∷ []) two = absurd (omega (arith, two))
several-backs (lane ∷ next ∷ lanes) two = refl

-- ---- both

-- four texts, one behind the other
four-behind : (start first second third fourth : List ℕ) → (((start ++ first) ++ second) ++ third) ++ fourth ≡ start ++ (first ++ (second ++ (third ++ fourth)))
four-behind start first second third fourth =
    append_assoc ((start ++ first) ++ second) third fourth ∙ append_assoc (start ++ first) second (third ++ fourth) ∙ append_assoc start first (second ++ (third ++ fourth))

pub streams-behind : (start forwards backs one two three text : List ℕ)
    → one ≡ start ++ codes "forward" → two ≡ one ++ 32 ∷ forwards → three ≡ two ++ codes " back" → text ≡ three ++ 32 ∷ backs
    → text ≡ start ++ spaced (codes "forward") (spaced forwards (spaced (codes "back") backs))
streams-behind start forwards backs one two three text first second third fourth =
    fourth ∙ ap (λ t. t ++ 32 ∷ backs) (third ∙ ap (λ t. t ++ codes " back") (second ∙ ap (λ t. t ++ 32 ∷ forwards) first))
    ∙ four-behind start (codes "forward") (32 ∷ forwards) (codes " back") (32 ∷ backs)
    ∙ ap (λ t. start ++ (codes "forward " ++ t)) (sym (append_assoc forwards (32 ∷ []) (spaced (codes "back") backs)))
