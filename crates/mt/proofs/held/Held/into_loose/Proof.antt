-- `into_loose` gives what the pointer owns.
use Rattle.std.proofs.Common.{◌≡◌, List, [], ◌∷◌, ◌++◌, refl, sym, ap, ◌∙◌, subst}
use mir.Raw.{raw as bare}
use mir.Val.{Val, vptr}
use base.Logic.{SProp, ent, emp, id⊢, never, fst∗}
use base.Fml.{ftrue}
use prog.Wp.{WpFn}
use types.Logic.{sem}
use types.Kit.{‵, raw, ◌⊛◌, ◌$◌, ◌∵◌, !, qed, by, move, drop, keep, split, fsplit, fjoin, fpick, suffices, use0, rewrite}
use types.Run.{stop, fld, of_opd, no_more, and_then, returns, enter}
use types.ByLocal.{alloc_all, pass_all, free_all, look_at, get, get_in, sets}
use types.Part.{agg, sub, whole}
use contract.Monad.{fact, fact_i}
use contract.Running.{tables}
use denote.Exit.{yes}
use denote.Memory.{lone}
use denote.RattleType.{RattleType, owns}
use denote.Signature.{types_at, plain}
use denote.RawPtr.{Ptr, block_ptr, null_ptr, in_a_block}
use denote.Steps.{nothing, heard}
use denote.Triple.Walked.{Stays, stay_dropped, walk_of}
use Rattle.core.proofs.alloc.Calls.{Goes-blank, handle_tells}
use Rattle.std_alloc.specs.Box.Ownership.{box_owns}
use Rattle.std.specs.Prelude.{Bool, true}
use Rattle.std.specs.contracts.alloc.Global as heap
use Rattle.std.proofs.alloc.Global.TheLaws as heap_laws
use Rattle.std.specs.contracts.impls.GlobalAllocator.TheImpl.{ghosts}
use Rattle.std.proofs.raw_atomic.Walks.{proved_at, leaves}
use Rattle.mt.specs.Held.{held}
use Rattle.mt.specs.Sessions.{HasSaid}
use Rattle.mt.specs.contracts.session.Session as session
use Rattle.mt.specs.contracts.held.Held as handle
use Rattle.mt.proofs.Values.{both, al, loose_good, loose_in, held_of, held_told}
use Rattle.mt.specs.contracts.held.Held.into_loose.{ended, clauses}
use Rattle.mt.specs.contracts.held.Held.into_loose.Key.{name as #self}
use Rattle.mt.proofs.held.Held.into_loose.Statement.{statement}
use Rattle.mt.proofs.held.Held.into_loose.Code as code

pub into_loose_spec : {M : Type 1} → statement M
into_loose_spec 𝓤 𝓛 𝓜 𝓡 wired =
    let H = 𝓛.H in let 𝓣 = tables 𝓤 H 𝓜 𝓡 𝓡.env in let R : RattleType = session.the_row in let Z : RattleType = heap.the_row in let LZ = heap_laws.the_row_laws in
    let En = ended in let c = clauses 𝓛 𝓜.mem 𝓡.returns in let fn = code.function in
    let hs : Stays En.signature.params En.kept = (stay_dropped (plain (λ _. handle.the_row)) yes, (stay_dropped (plain (λ _. Z)) yes, tt)) in
    proved_at 𝓛 En hs c 𝓜 𝓡 (Goes-blank 𝓛 0 (plain (λ _. handle.the_row)) yes (λ κs x f. tt), (Goes-blank 𝓛 0 (plain (λ _. Z)) yes (λ κs x f. tt), tt)) #self fn (code.unfolded 𝓤 H 𝓜 𝓡 wired) (λ z are.
    let v = z.0.3.0 in let a = z.0.3.1.0 in let Post : Val → SProp 𝓤 = (walk_of 𝓛 En hs c).post z in let Run : List Val → SProp 𝓤 = λ ws. WpFn 𝓤 H 𝓣.C 𝓣.Λ fn ws Post in
    qed 𝓛 ((‵ ftrue ⊛ ‵ (owns (types_at En.signature.params z.0.0) z.0.3 z.0.4)) ∷ raw (fact 𝓤 (v.full ≡ true)) ∷ []) ∵ move ! (1 ∷ []) $ heard ! (v.full ≡ true) (λ is. split ! $ move ! (1 ∷ []) $
    fsplit ! $ fsplit ! $ drop ! $ rewrite ! 0 (λ (y : Bool). ‵ (held ghosts.dealloc_token R (HasSaid v.scopes v.lines v.out) v.at y)) is refl $ fpick ! (λ heap. fpick ! (λ it. let x = it.0 in
    in_a_block ! v.at (λ q. box_owns (ghosts.dealloc_token a) R q x) (fst∗ 𝓤 (never 𝓤) (sem 𝓛 (ghosts.dealloc_token a (bare (lone R.mir)) null_ptr))) (λ b o e. move ! (1 ∷ []) $ fsplit ! $
    handle_tells (al R Z LZ ghosts) ! a z.0.4.1.0 (λ h eh fits.
    let p : Ptr = block_ptr b o in let us : List Val = held_of p ∷ h ∷ [] in let at_p : z.0.4.0 ≡ held_of p ∷ [] = held_told v.at z.0.4.0 are.0.0 ∙ ap (λ (q : Ptr). held_of q ∷ []) e in let Told : Type 0 = HasSaid v.scopes v.lines v.out x in
    suffices ! (Run us) (subst (λ (ws : List Val). ent 𝓤 (Run us) (Run ws)) (sym (λ i. at_p i ++ (eh i ++ []))) (id⊢ 𝓤 (Run us))) $
    enter ! 𝓣.C 𝓣.Λ fn us Post $ alloc_all ! (λ l. pass_all ! refl ((tt, (tt, tt)), (fits, tt)) $
    sets ! (of_opd ! (get_in ! (fld ! refl (stop !)) (sub ! 0 refl (whole !)))) refl (tt, tt) $
    sets ! (of_opd ! (get ! refl)) refl (tt, tt) $
    sets ! (agg ! (and_then ! (get ! refl) (and_then ! (get ! refl) (no_more !)))) refl (loose_good R Z LZ ghosts b o h fits) $
    move ! (2 ∷ 0 ∷ []) $ loose_in R Z LZ ghosts ! b o h a x $
    use0 𝓛 (raw (fact 𝓤 Told)) (fact_i 𝓤 Told (emp 𝓤) it.1) $ nothing ! $ nothing ! $ fjoin ! $ nothing ! $ fjoin ! $
    returns ! (look_at ! 0 refl) $ free_all ! refl $ keep ! (4 ∷ 0 ∷ 2 ∷ 1 ∷ []) $ by ! (leaves 𝓛 En hs c z (both (vptr b o) h) (record { at = p; alloc = a; value = x }) (tt, (tt, tt)) (tt, (tt, tt))))))))))
