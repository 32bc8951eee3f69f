-- Both places are lent, then the first primary of the one and all of the other: a walk, since the check doesn't see through so many loans.
use Rattle.std.proofs.Common.{◌≡◌, ◌≢◌, ℕ, ◌<◌, ◌++◌, Some, slice_get, subst, sym, ap, ap₂, ◌∙◌, List, [], ◌∷◌, length, refl, lit<, MutBor, w8, w64}
use Rattle.std.proofs.lemmas.Option.{get_or_from_slice_get}
use Rattle.std.proofs.raw_atomic.Walks.{proved}
use base.Logic.{id⊢, emp}
use base.Fml.{Lft, ftrue, flft}
use mir.Syntax.{named}
use mir.Val.{Val, vint, vptr, vstruct, vcons, vnil, of_list}
use contract.Monad.{fact, fact_i}
use contract.Running.{tables}
use types.Kit.{‵, raw, ◌⊛◌, some, later, ◌$◌, ◌∵◌, !, qed, done, move, drop, use0, use1, use2, use3, split, join, fpick, fpack, fsplit, fjoin, feq_i, feq_l, await, pick, rewrite, suffices, group}
use types.Run.{enter, of_opd, lit, addr, stop, fld, hop, no_more, and_then, returns, from}
use types.ByLocal.{alloc_all, pass_all, free_all, look_at, get, get_in, through, sets, lands_as, look_in_at}
use types.Part.{whole, sub, agg}
use denote.Array.{Array}
use denote.Builtin.{u8, usize}
use denote.Exit.{yes, no}
use denote.Laws.{shows}
use denote.Plain.{uint_vals, uint_Tells, uint_Makes}
use denote.RattleType.{RattleType, Valss}
use denote.Ref.{MutRef, mut_vals}
use denote.Signature.{plain, mut_slice_of}
use denote.Slice.{MutSlice, mut_slice_vals, mut_slice_Tells, slice_val}
use denote.Steps.{nothing, heard, only, owned, peeks}
use denote.Struct.Declared.{shape}
use denote.Struct.Struct.{within}
use denote.Struct.Tuple.{Tuple, tuple_type}
use denote.Triple.Call.{calls_at}
use denote.Triple.Clauses.{lasts}
use denote.Triple.Spec.{triple_of}
use denote.Triple.Table.{framed}
use denote.Triple.Walked.{Stays, stay_dropped, Goes-dropped, Goes-spent_slice, ends_at}
use Rattle.mt_primary.specs.Lends.{LendsEach, LendsOne, LendsSides, LendsTwo}
use Rattle.mt_primary.specs.Places.{shards_in, with_each, with_one, with_two}
use Rattle.mt_primary.specs.Primaries.{ShardsState, no_shards, primary_in}
use Rattle.mt_primary.specs.Primary.{PrimaryState}
use Rattle.mt_primary.specs.contracts.primary.Primary.{the_row as P}
use Rattle.mt_primary.specs.contracts.shards.Shards.{the_row as S}
use Rattle.mt_primary.specs.contracts.shards.Shards.all_mut as k
use Rattle.mt_primary.specs.contracts.shards.Shards.shard_mut as h
use Rattle.mt_primary.specs.contracts.two.sides_of as f
use Rattle.mt_primary.specs.contracts.two.two_of as g
use Rattle.mt_primary.proofs.FollowLemmas.{both_then}
use Rattle.mt_primary.proofs.shards.Shards.all_mut.Met.{met as met_all}
use Rattle.mt_primary.proofs.shards.Shards.shard_mut.Met.{met as met_one}
use Rattle.mt_primary.proofs.two.two_of.Met.{met as met_two}
use Rattle.mt_primary.proofs.two.sides_of.Statement.{statement}
use Rattle.mt_primary.proofs.two.sides_of.Code as code

-- the two places that are lent first, and what is lent of them
abbrev Places : Lft → List RattleType
Places κ = MutRef (named 0) κ S ∷ MutRef (named 0) κ S ∷ []

abbrev Sides : Lft → List RattleType
Sides κ = MutRef (named 0) κ P ∷ MutSlice (named 0) κ P ∷ []

abbrev stayed : Stays f.ended.signature.params f.ended.kept
stayed = (stay_dropped (mut_slice_of (0 ∷ []) tt (plain (λ _. S))) no, (stay_dropped _ yes, (stay_dropped _ yes, tt)))

pub sides_of_spec : {M : Type 1} → statement M
sides_of_spec 𝓤 𝓛 𝓜 𝓡 wired =
    let c = f.clauses 𝓛 𝓜.mem 𝓡.returns in
    let goes = Goes-dropped 𝓛 1 (plain (λ _. usize)) yes (λ κs x w. refl) in
    proved 𝓛 f.ended stayed c 𝓜 𝓡 (Goes-spent_slice 𝓛 1 (0 ∷ []) tt (plain (λ _. S)), (goes, (goes, tt)))
    f.Key.name code.function (code.unfolded 𝓤 𝓛.H 𝓜 𝓡 wired)
    (λ κs. (mut_slice_vals, (uint_vals w64, (uint_vals w64, tt)))) (λ κs. (mut_slice_Tells (named 0) κs.0 S, (uint_Tells w64, (uint_Tells w64, tt)))) (λ κs qs bounds a _ are.
    let κ = κs.0 in let q = qs.0 in let r = a.0 in let i = a.1.0 in let j = a.1.1.0 in
    let all = r.now in
    let Ref = MutRef (named 0) κ S in
    let calls = framed 𝓤 𝓛.H 𝓜 (tables 𝓤 𝓛.H 𝓜 𝓡 𝓡.env) in
    qed 𝓛 (((‵ (flft κ q) ⊛ ‵ ftrue) ⊛ ‵ ((MutSlice (named 0) κ S).own_val r (mut_slice_vals r)) ⊛ ‵ (usize.own_val i (vint w64 i ∷ [])) ⊛ ‵ (usize.own_val j (vint w64 j ∷ [])) ⊛ ‵ ftrue)
    ∷ (raw (fact 𝓤 (i < length all)) ⊛ raw (fact 𝓤 (j < length all)) ⊛ raw (fact 𝓤 (i ≢ j)) ⊛ raw (fact 𝓤 (0 < length (shards_in all i).each))) ∷ []) ∵
    split ! $ move ! (2 ∷ []) $ split ! $ heard ! _ (λ first. split ! $ heard ! _ (λ second. split ! $ heard ! _ (λ apart. heard ! _ (λ has_one.
    move ! (1 ∷ []) $ split ! $ peeks ! (MutSlice (named 0) κ S) _ (shows 𝓛 (MutSlice (named 0) κ S)) r (mut_slice_vals r) (λ is. move ! (2 ∷ []) $
    -- [the token; the slice; the places]
    enter ! _ _ _ _ _ $ alloc_all ! (λ l. pass_all ! refl ((tt, (tt, (record { fits = is.0.1.0 }, tt))), ((tt, record { fits = are.1.0.1 }), ((tt, record { fits = are.1.1.0.1 }), tt))) $
    sets ! (addr ! (from ! (fld ! refl (hop ! (look_in_at ! 1 (sub ! 0 refl (whole !))) (stop !))))) refl (tt, tt) $
    sets ! (agg ! (and_then ! (get ! refl) (and_then ! (get_in ! (fld ! refl (stop !)) (sub ! 1 refl (whole !))) (no_more !)))) refl (tt, (tt, (record { fits = is.0.1.0 }, tt))) $
    let G = triple_of 𝓛 g.signature (g.spec 𝓛 𝓜.mem 𝓡.returns) in
    let z : G.Ghost = ((κs, qs, bounds, (r, (i, (j, tt))), (mut_slice_vals r, (vint w64 i ∷ [], (vint w64 j ∷ [], tt)))), tt) in
    move ! (1 ∷ 2 ∷ []) $ join ! $ move ! (1 ∷ 0 ∷ []) $ join ! $
    use0 𝓛 (raw (fact 𝓤 (i ≢ j))) (fact_i 𝓤 _ (emp 𝓤) apart) $
    use0 𝓛 (raw (fact 𝓤 (j < length all))) (fact_i 𝓤 _ (emp 𝓤) second) $ join ! $
    use0 𝓛 (raw (fact 𝓤 (i < length all))) (fact_i 𝓤 _ (emp 𝓤) first) $ join ! $
    move ! (1 ∷ 0 ∷ []) $ use2 𝓛 (raw (G.pre z)) (id⊢ 𝓤 _) $
    calls_at ! calls G (met_two 𝓤 𝓛 𝓜 𝓡 (code.calls-mt_primary::two::two_of 𝓡.env wired)) z
    (and_then ! (get ! refl) (and_then ! (get ! refl) (and_then ! (get ! refl) (no_more !)))) (λ v.
    use1 𝓛 (later (some (λ (x : MutBor ShardsState × MutBor ShardsState). ((‵ (flft κ q) ⊛ ‵ ftrue) ⊛ ‵ ((Tuple (Places κ)).own_val x (v ∷ []))) ⊛
    some (λ (ws : _). ‵ (lasts g.ended κs (r, (i, (j, tt))) ws) ⊛ ‵ (LendsTwo r i j x) ⊛ raw (fact 𝓤 (slice_get all i ≡ Some x.0.now)) ⊛ raw (fact 𝓤 (slice_get all j ≡ Some x.1.now)))))) (id⊢ 𝓤 _) $
    await ! tt $ pick ! (λ x. split ! $ split ! $ move ! (2 ∷ []) $ pick ! (λ ws. split ! $ drop ! $ split ! $ move ! (1 ∷ []) $ split ! $ heard ! _ (λ one. heard ! _ (λ two.
    -- [what is written back of the places; the token; the pair]
    move ! (2 ∷ []) $ fpick ! (λ us. fsplit ! $
    feq_l ! (λ e. fsplit ! $ peeks ! Ref _ (shows 𝓛 Ref) x.0 us.0 (λ is₁. move ! (1 ∷ []) $ fsplit ! $ peeks ! Ref _ (shows 𝓛 Ref) x.1 us.1.0 (λ is₂.
    let shaped = ap₂ (λ (m n : List Val). vstruct (of_list (m ++ (n ++ [])))) is₁.0 is₂.0 in
    rewrite ! 0 (λ (m : List Val). ‵ (Ref.own_val x.1 m)) is₂.0 refl $ rewrite ! 2 (λ (m : List Val). ‵ (Ref.own_val x.0 m)) is₁.0 refl $
    -- [the second; nothing; the first; what is written back of the places; the token]
    lands_as ! (ap only e ∙ shaped) refl (tt, (tt, (tt, tt))) $
    sets ! (of_opd ! (get_in ! (fld ! refl (stop !)) (sub ! 0 refl (whole !)))) refl (tt, tt) $
    sets ! (of_opd ! (get_in ! (fld ! refl (stop !)) (sub ! 1 refl (whole !)))) refl (tt, tt) $
    sets ! (addr ! (through ! refl (stop !))) refl (tt, tt) $
    move ! (1 ∷ []) $ drop ! $
    -- [the second; the first; what is written back of the places; the token]
    let one_is : shards_in all i ≡ x.0.now = get_or_from_slice_get all i x.0.now no_shards one in
    let two_is : shards_in all j ≡ x.1.now = get_or_from_slice_get all j x.1.now no_shards two in
    let G₁ = triple_of 𝓛 h.signature (h.spec 𝓛 𝓜.mem 𝓡.returns) in
    let z₁ : G₁.Ghost = ((κs, qs, bounds, (x.0, (0, tt)), (mut_vals x.0, (vint w8 0 ∷ [], tt))), tt) in
    nothing ! $ owned ! u8 _ (uint_Makes 𝓛 w8) 0 (vint w8 0 ∷ []) (refl, lit< tt) $ join ! $ move ! (2 ∷ 0 ∷ []) $ join ! $ move ! (3 ∷ 0 ∷ []) $ join ! $
    use0 𝓛 (raw (fact 𝓤 (0 < length x.0.now.each))) (fact_i 𝓤 _ (emp 𝓤) (subst (λ (s : ShardsState). 0 < length s.each) one_is has_one)) $
    move ! (1 ∷ 0 ∷ []) $ use2 𝓛 (raw (G₁.pre z₁)) (id⊢ 𝓤 _) $
    calls_at ! calls G₁ (met_one 𝓤 𝓛 𝓜 𝓡 (code.calls-mt_primary::shards::Shards::shard_mut 𝓡.env wired)) z₁
    (and_then ! (get ! refl) (and_then ! (lit ! tt) (no_more !))) (λ v₁.
    use1 𝓛 (later (some (λ (m : MutBor PrimaryState). ((‵ (flft κ q) ⊛ ‵ ftrue) ⊛ ‵ ((MutRef (named 0) κ P).own_val m (v₁ ∷ []))) ⊛
    some (λ (ws₁ : _). ‵ (lasts h.ended κs (x.0, (0, tt)) ws₁) ⊛ ‵ (LendsOne x.0 0 m) ⊛ raw (fact 𝓤 (m.now ≡ primary_in x.0.now 0)))))) (id⊢ 𝓤 _) $
    await ! tt $ pick ! (λ m. split ! $ split ! $ move ! (2 ∷ []) $ pick ! (λ ws₁. split ! $ drop ! $ split ! $ move ! (1 ∷ []) $ heard ! _ (λ source_is.
    -- [what is written back of the first; the token; its primary; the second; what is written back of the places]
    move ! (2 ∷ []) $ peeks ! (MutRef (named 0) κ P) _ (shows 𝓛 (MutRef (named 0) κ P)) m (v₁ ∷ []) (λ is₃.
    rewrite ! 0 (λ (w : Val). ‵ ((MutRef (named 0) κ P).own_val m (w ∷ []))) (ap only is₃.0) refl $
    lands_as ! (ap only is₃.0) refl (tt, tt) $
    sets ! (addr ! (through ! refl (stop !))) refl (tt, tt) $
    let G₂ = triple_of 𝓛 k.signature (k.spec 𝓛 𝓜.mem 𝓡.returns) in
    let z₂ : G₂.Ghost = ((κs, qs, bounds, (x.1, tt), (mut_vals x.1, tt)), tt) in
    nothing ! $ move ! (4 ∷ 0 ∷ []) $ join ! $ move ! (3 ∷ 0 ∷ []) $ join ! $ nothing ! $ move ! (1 ∷ 0 ∷ []) $ use2 𝓛 (raw (G₂.pre z₂)) (id⊢ 𝓤 _) $
    calls_at ! calls G₂ (met_all 𝓤 𝓛 𝓜 𝓡 (code.calls-mt_primary::shards::Shards::all_mut 𝓡.env wired)) z₂ (and_then ! (get ! refl) (no_more !)) (λ v₂.
    use1 𝓛 (later (some (λ (n : MutBor (List PrimaryState)). ((‵ (flft κ q) ⊛ ‵ ftrue) ⊛ ‵ ((MutSlice (named 0) κ P).own_val n (v₂ ∷ []))) ⊛
    some (λ (ws₂ : _). ‵ (lasts k.ended κs (x.1, tt) ws₂) ⊛ ‵ (LendsEach x.1 n) ⊛ raw (fact 𝓤 (n.now ≡ x.1.now.each)))))) (id⊢ 𝓤 _) $
    await ! tt $ pick ! (λ n. split ! $ split ! $ move ! (2 ∷ []) $ pick ! (λ ws₂. split ! $ drop ! $ split ! $ move ! (1 ∷ []) $ heard ! _ (λ target_is.
    -- [what is written back of the second; the token; its primaries; the first's primary; what is written back of the first; of the places]
    move ! (2 ∷ []) $ peeks ! (MutSlice (named 0) κ P) _ (shows 𝓛 (MutSlice (named 0) κ P)) n (v₂ ∷ []) (λ is₄.
    rewrite ! 0 (λ (w : Val). ‵ ((MutSlice (named 0) κ P).own_val n (w ∷ []))) (ap only is₄.0.0) refl $
    lands_as ! (ap only is₄.0.0) refl (tt, (tt, (record { fits = is₄.0.1.0 }, tt))) $
    sets ! (agg ! (and_then ! (get ! refl) (and_then ! (get ! refl) (no_more !)))) refl (tt, (tt, ((tt, (record { fits = is₄.0.1.0 }, tt)), tt))) $
    let lent : Val = vstruct (vcons (vptr m.ref_ptr.0 m.ref_ptr.1) (vcons (slice_val n.ref_ptr (length n.now)) vnil)) in
    returns ! (look_at ! 0 refl) $ free_all ! refl $
    suffices ! _ (ends_at 𝓛 f.ended stayed c ((κs, qs, bounds, a, (mut_slice_vals r, (vint w64 i ∷ [], (vint w64 j ∷ [], tt)))), tt) lent (m, n) (tt, (tt, (tt, tt))) (tt, (tt, (tt, tt)))) $
    nothing ! $ move ! (1 ∷ 0 ∷ []) $ fjoin ! $ move ! (3 ∷ 0 ∷ []) $ fjoin ! $ feq_i ! (List Val) (lent ∷ []) (lent ∷ []) refl $ fjoin ! $
    fpack ! (Valss (Sides κ)) (within (shape (tuple_type (Sides κ))) (m, (n, tt)) (lent ∷ [])) (vptr m.ref_ptr.0 m.ref_ptr.1 ∷ [], (slice_val n.ref_ptr (length n.now) ∷ [], tt)) $
    -- [the pair; what is written back of the second; the token; what is written back of the first; of the places]
    move ! (3 ∷ 1 ∷ []) $ join ! $ move ! (3 ∷ 0 ∷ []) $
    use2 𝓛 (‵ (LendsSides r i j (m, n))) (both_then 𝓛 (Array S 0) S S P (Array P 0) _ _ _ _
    (λ x' y'. ap₂ (λ (s t : ShardsState). with_two all i j (with_one s 0 x') (with_each t y')) (sym one_is) (sym two_is)) r.ghost_name x.0.ghost_name x.1.ghost_name m.ghost_name n.ghost_name) $
    use0 𝓛 (raw (fact 𝓤 (n.now ≡ (shards_in all j).each))) (fact_i 𝓤 _ (emp 𝓤) (target_is ∙ ap (λ (s : ShardsState). s.each) (sym two_is))) $
    use0 𝓛 (raw (fact 𝓤 (m.now ≡ primary_in (shards_in all i) 0))) (fact_i 𝓤 _ (emp 𝓤) (source_is ∙ ap (λ s. primary_in s 0) (sym one_is))) $
    join ! $ move ! (1 ∷ 0 ∷ []) $ join ! $ move ! (1 ∷ []) $ nothing ! $ nothing ! $ join ! $ nothing ! $ join ! $ nothing ! $ join ! $ move ! (3 ∷ []) $ group ! 3 $ done !))))))))))))))))))))))))))
