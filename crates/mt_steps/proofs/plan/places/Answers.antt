-- Each place goes behind those before it.
use Rattle.std.proofs.Common.{◌≡◌, ◌≤◌, ◌+◌, ◌-◌, List, [], ◌∷◌, ◌++◌, length, map, sym, ap, ◌∙◌, arith}
use Rattle.std.proofs.lemmas.List.FromFn.{length-map-range_with_len, map-range_with_len_more}
use Rattle.std.specs.List.{range_with_len}
use Rattle.mt_plain.specs.Plain.{step_at_place}
use Rattle.mt_steps.specs.declared.plan.PlannedStep.{PlannedStep}
use Rattle.mt_steps.specs.declared.step.Step.{Step}
use Rattle.mt_steps.specs.Plans.{planned_at, step_at, way_of}
use Rattle.mt_steps.proofs.plan.places.Goals as goal
use Rattle.mt_steps.proofs.plan.places.Goals.{then-types, else-types}

pub loop-place-init : goal.loop-place-init
loop-place-init c =
    let f = planned_at (way_of c.args.back c.args.types c.args.shards) in
    c.new_in-list.ensures ∙ ap (λ n. map f (range_with_len c.from-first.result n)) (let e : 0 ≡ c.from-first.result - c.from-first.result = omega arith in e)

pub push-requires : goal.push-requires
push-requires c =
    let f = planned_at (way_of c.args.back c.args.types c.args.shards) in
    let as_many = ap length c.loop-place.invariant ∙ length-map-range_with_len f c.from-first.result (c.loop-place.place - c.from-first.result) in
    let few : c.if-types.later ≤ 7 = elim c.if-types.branch [ then-types w ↦ omega (arith, w.later-is, c.requires.few) | else-types w ↦ omega (arith, w.later-is) ] in
    (omega arith, omega (arith, as_many, few, c.loop-place-test.true, c.from-behind.ensures, c.behind_last.ensures.within))

pub loop-place-preserved : goal.loop-place-preserved
loop-place-preserved c =
    let way = way_of c.args.back c.args.types c.args.shards in
    let f = planned_at way in
    let first = c.from-first.result in
    let place = c.loop-place.place in
    let done : PlannedStep = record { step = c.of_number.result; shard = c.shard_at_place.result } in
    let is : done ≡ f place =
    ap (λ (s : Step). record { step = s; shard = c.shard_at_place.result }) (c.of_number.ensures ∙ ap step_at c.step_at_place.ensures)
    ∙ ap (λ n. record { step = step_at (step_at_place way place); shard = n }) c.shard_at_place.ensures in
    c.push.ensures.items
    ∙ ap (λ (l : List PlannedStep). l ++ done ∷ []) c.loop-place.invariant
    ∙ ap (λ (p : PlannedStep). map f (range_with_len first (place - first)) ++ p ∷ []) is
    ∙ sym (map-range_with_len_more f first (place - first) place (omega (arith, c.loop-place.auto.place)))
    ∙ ap (λ n. map f (range_with_len first n)) (let e : place - first + 1 ≡ place + 1 - first = omega (arith, c.loop-place.auto.place) in e)
