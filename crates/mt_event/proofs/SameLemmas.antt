-- `==` of events and answers decides equality.
use Rattle.std.proofs.Common.{ℕ, ◌==◌, Bool, ap, rules}
use Rattle.std.specs.contracts.prelude.BoolPartialEq.TheImpl as of_bool
use Rattle.std.specs.Cmp.Lexicographic.{pointwise, pointwise_decides}
use Rattle.std.specs.Option.{option_eq}
use Rattle.std.proofs.lemmas.Bool.Decides.{Decides-eqb}
use Rattle.arrayvec.specs.ArrayVec.{ArrayVec}
use Rattle.mt_names.specs.Names.{same_text}
use Rattle.mt_names.specs.Same.{DecidesEquality, same_key, same_target, same_type, same_types}
use Rattle.mt_names.specs.Shards.{same_range, same_shards}
use Rattle.mt_names.proofs.SameLemmas.{same_key_decides, same_range_decides, same_shards_decides, same_target_decides, same_text_decides, same_type_decides, same_types_decides}
use Rattle.mt_model.specs.declared.rows.Op.{Op}
use Rattle.mt_model.specs.contracts.rows.OpPartialEq.TheImpl as of_op
use Rattle.mt_stream.specs.declared.stream.Advanced.{Advanced}
use Rattle.mt_stream.specs.contracts.stream.AdvancedPartialEq.TheImpl as of_advanced
use Rattle.mt_workflow.specs.declared.way.Slot.{Slot}
use Rattle.mt_workflow.specs.declared.way.Way.{Way}
use Rattle.mt_workflow.specs.contracts.way.SlotPartialEq.TheImpl as of_slot
use Rattle.mt_workflow.specs.contracts.way.Way as way
use Rattle.mt_workflow.specs.contracts.way.WayPartialEq.TheImpl as of_way
use Rattle.mt_event.specs.Same.{same_event, same_refusal, same_reply}
use Rattle.mt_event.specs.declared.reply.Shown.{Shown}
use Rattle.mt_event.specs.declared.lanes.ShownLane.{ShownLane}
use Rattle.mt_event.specs.declared.lanes.ShownStream.{ShownStream}
use Rattle.mt_event.specs.contracts.event.Event as event
use Rattle.mt_event.specs.declared.reason.Reason.{Reason}
use Rattle.mt_event.specs.contracts.reason.Reason as reason
use Rattle.mt_event.specs.contracts.reason.ReasonPartialEq.TheImpl as of_reason
use Rattle.mt_event.specs.contracts.refusal.Refusal as refusal
use Rattle.mt_event.specs.contracts.reply.Reply as reply
use Rattle.mt_event.specs.contracts.reply.Shown as shown
use Rattle.mt_event.specs.contracts.reply.ShownPartialEq.TheImpl as of_shown
use Rattle.mt_event.specs.contracts.lanes.ShownLane as lane
use Rattle.mt_event.specs.contracts.lanes.ShownLanePartialEq.TheImpl as of_lane
use Rattle.mt_event.specs.contracts.lanes.ShownStreamPartialEq.TheImpl as of_stream
use Rattle.mt_event.proofs.DecideLemmas.{choice_decides, last_decides, nothing_decides, option_decides, pair_decides, struct_decides}
use denote.Enum.Declared.{values_one}

-- ---- of what they are made of

abbrev same_number : ℕ → ℕ → Bool
same_number m n = m == n

same_number_decides : DecidesEquality same_number
same_number_decides = Decides-eqb

abbrev same_bool : Bool → Bool → Bool
same_bool = of_bool.ghosts.eq

same_bool_decides : DecidesEquality same_bool
same_bool_decides = search rules

abbrev same_op : Op → Op → Bool
same_op = of_op.ghosts.eq

same_op_decides : DecidesEquality same_op
same_op_decides = search rules

abbrev same_slot : Slot → Slot → Bool
same_slot = of_slot.ghosts.eq

same_slot_decides : DecidesEquality same_slot
same_slot_decides = search rules

abbrev same_advanced : Advanced → Advanced → Bool
same_advanced = of_advanced.ghosts.eq

same_advanced_decides : DecidesEquality same_advanced
same_advanced_decides = search rules

abbrev same_stream : ShownStream → ShownStream → Bool
same_stream = of_stream.ghosts.eq

same_stream_decides : DecidesEquality same_stream
same_stream_decides = search rules

-- a list of fixed room, by its items
abbrev same_items : {A : Type 0} → (A → A → Bool) → ArrayVec A → ArrayVec A → Bool
same_items same v w = pointwise same v.items w.items

items_decide : {A : Type 0} (same : A → A → Bool) → DecidesEquality same → DecidesEquality (same_items same)
items_decide {A} same decides =
    struct_decides (λ (v : ArrayVec A). v.items) (λ v w e. ap (λ items. record { items = items }) e) (pointwise same) (pointwise_decides decides)

abbrev same_way : Way → Way → Bool
same_way = of_way.ghosts.eq

same_way_decides : DecidesEquality same_way
same_way_decides =
    struct_decides way.struct.as_values (λ x y e. ap (λ v. way.struct.make v tt) e) _ (pair_decides same_bool _ same_bool_decides
    (pair_decides same_number _ same_number_decides (pair_decides same_types _ same_types_decides (pair_decides same_types _ same_types_decides
    (pair_decides same_number _ same_number_decides (last_decides same_bool same_bool_decides))))))

abbrev same_lane : ShownLane → ShownLane → Bool
same_lane = of_lane.ghosts.eq

same_lane_decides : DecidesEquality same_lane
same_lane_decides =
    struct_decides lane.struct.as_values (λ x y e. ap (λ v. lane.struct.make v tt) e) _ (pair_decides same_range _ same_range_decides
    (pair_decides same_stream _ same_stream_decides (pair_decides same_bool _ same_bool_decides
    (last_decides (option_eq same_stream) (option_decides same_stream same_stream_decides)))))

abbrev same_shown : Shown → Shown → Bool
same_shown = of_shown.ghosts.eq

same_shown_decides : DecidesEquality same_shown
same_shown_decides =
    struct_decides shown.struct.as_values (λ x y e. ap (λ v. shown.struct.make v tt) e) _ (pair_decides same_text _ same_text_decides
    (pair_decides same_text _ same_text_decides (pair_decides same_text _ same_text_decides
    (pair_decides (same_items same_text) _ (items_decide same_text same_text_decides) (pair_decides same_types _ same_types_decides
    (pair_decides (option_eq same_way) _ (option_decides same_way same_way_decides)
    (last_decides (same_items same_lane) (items_decide same_lane same_lane_decides))))))))

-- ---- of themselves

pub same_event_decides : DecidesEquality same_event
same_event_decides =
    struct_decides event.enum.as_values (values_one event.enum) _ (choice_decides event.enum.parts _ (
      pair_decides same_text _ same_text_decides (pair_decides same_text _ same_text_decides (last_decides same_op same_op_decides)),
      (
        pair_decides same_text _ same_text_decides (pair_decides same_text _ same_text_decides (pair_decides same_number _ same_number_decides (last_decides same_type same_type_decides))),
        (
          pair_decides same_text _ same_text_decides (last_decides same_shards same_shards_decides),
          (
            pair_decides same_text _ same_text_decides (last_decides same_text same_text_decides),
            (
              pair_decides same_key _ same_key_decides (last_decides (option_eq same_target) (option_decides same_target same_target_decides)),
              (
                pair_decides same_text _ same_text_decides (pair_decides same_text _ same_text_decides (pair_decides same_text _ same_text_decides (last_decides (same_items same_text) (items_decide same_text same_text_decides)))),
                (
                  pair_decides same_text _ same_text_decides (pair_decides same_slot _ same_slot_decides (pair_decides same_number _ same_number_decides (pair_decides same_number _ same_number_decides (last_decides same_number same_number_decides)))),
                  (
                    pair_decides same_text _ same_text_decides (last_decides same_types same_types_decides),
                    (
                      pair_decides same_text _ same_text_decides (last_decides same_types same_types_decides),
                      (
                        pair_decides same_text _ same_text_decides (last_decides same_number same_number_decides),
                        (
                          pair_decides same_text _ same_text_decides (last_decides same_number same_number_decides),
                          (
                            last_decides same_text same_text_decides,
                            (last_decides same_text same_text_decides, (last_decides same_text same_text_decides, tt)),
                          ),
                        ),
                      ),
                    ),
                  ),
                ),
              ),
            ),
          ),
        ),
      ),
    ))

pub same_reply_decides : DecidesEquality same_reply
same_reply_decides =
    struct_decides reply.enum.as_values (values_one reply.enum) _ (choice_decides reply.enum.parts _ (
      nothing_decides,
      (
        last_decides (option_eq (same_items same_number)) (option_decides (same_items same_number) (items_decide same_number same_number_decides)),
        (
          last_decides same_advanced same_advanced_decides,
          (last_decides same_shown same_shown_decides, tt),
        ),
      ),
    ))

abbrev same_reason : Reason → Reason → Bool
same_reason = of_reason.ghosts.eq

same_reason_decides : DecidesEquality same_reason
same_reason_decides =
    struct_decides reason.enum.as_values (values_one reason.enum) _ (choice_decides reason.enum.parts _ (nothing_decides, (nothing_decides, (nothing_decides, (nothing_decides, (nothing_decides, (nothing_decides, (nothing_decides, (nothing_decides, (nothing_decides, (nothing_decides, (nothing_decides, (nothing_decides, (nothing_decides, (nothing_decides, (nothing_decides, (nothing_decides, (nothing_decides, (nothing_decides, (nothing_decides, (nothing_decides, (nothing_decides, (last_decides same_number same_number_decides, (nothing_decides, (last_decides same_number same_number_decides, (nothing_decides, (nothing_decides, (nothing_decides, (nothing_decides, (nothing_decides, (nothing_decides, (nothing_decides, tt))))))))))))))))))))))))))))))))

pub same_refusal_decides : DecidesEquality same_refusal
same_refusal_decides =
    struct_decides refusal.enum.as_values (values_one refusal.enum) _ (choice_decides refusal.enum.parts _ (
      last_decides same_key same_key_decides,
      (last_decides same_text same_text_decides, (last_decides same_reason same_reason_decides, tt)),
    ))
