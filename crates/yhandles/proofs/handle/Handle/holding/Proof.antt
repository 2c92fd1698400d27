-- `holding` gives a handle the pointer of a box, and what the box owned.
use Rattle.std.proofs.Common.{◌≡◌, List, [], ◌∷◌, ◌++◌, refl, ap}
use mir.Val.{Val}
use base.Fml.{ftrue}
use base.Logic.{SProp, emp, id⊢}
use prog.Wp.{WpFn}
use types.Kit.{‵, raw, ◌⊛◌, some, later, prop, ◌$◌, ◌∵◌, !, qed, by, move, keep, drop, split}
use types.Kit.{join, fsplit, fjoin, pick, feq_l, await, regoal, use0, use1}
use types.Run.{of_opd, no_more, and_then, returns, enter}
use types.ByLocal.{alloc_all, pass_all, free_all, look_at, get, sets, lands_as}
use types.Part.{agg}
use contract.Monad.{fact, fact_i}
use contract.Running.{tables, tables_of}
use denote.Builtin.{RawPtr}
use denote.Exit.{yes}
use denote.Param.NoDrop.{glues}
use denote.RattleType.{owns}
use denote.RawPtr.{Ptr}
use denote.Signature.{types_at, plain}
use denote.Steps.{nothing, only}
use denote.Triple.Call.{calls_at}
use denote.Triple.Clauses.{Lasts, lasts}
use denote.Triple.Spec.{triple_of}
use denote.Triple.Table.{framed}
use denote.Triple.Walked.{Stays, stay_dropped, walk_of, Goes-dropped}
use base.Fraction.{full_share}
use Rattle.std.proofs.raw_atomic.Walks.{proved_at, leaves}
use Rattle.std.specs.declared.option.Option.TheVariants.{Some}
use Rattle.std_alloc.specs.contracts.boxed.Box.into_raw as g
use Rattle.std_alloc.proofs.boxed.Box.into_raw.Met.{met}
use Rattle.std_heap.specs.contracts.GlobalAllocator.TheImpl.{ghosts, dict}
use Rattle.std_heap.proofs.GlobalAllocator.TheImpl.Met.{passed}
use Rattle.yhandles.specs.Handles.{held}
use Rattle.yhandles.proofs.Boxes.{boxes, boxes_laws, session, session_laws, global, global_laws}
use Rattle.yhandles.proofs.Boxes.{session_drop, global_drop, session_ends, tokens, two_begin}
use Rattle.yhandles.proofs.Boxes.{two_outlive}
use Rattle.yhandles.proofs.Destruct++none.drop.Code as none
use Rattle.yhandles.proofs.Handles.{boxed, word, word_good, ptr_good, at_one, handle_in}
use Rattle.yhandles.specs.contracts.handle.Handle as handle
use Rattle.yhandles.specs.contracts.handle.Handle.holding as f
use Rattle.yhandles.proofs.handle.Handle.holding.Statement.{statement}
use Rattle.yhandles.proofs.handle.Handle.holding.Code as code

pub holding_spec : {M : Type 1} → statement M
unfolding tables_of none.code
holding_spec {M} 𝓤 𝓛 𝓜 𝓡 wired =
    let H = 𝓛.H in let 𝓣 = tables 𝓤 H 𝓜 𝓡 𝓡.env in let En = f.ended in
    let c = f.clauses 𝓛 𝓜.mem 𝓡.returns in let fn = code.function in
    let G = triple_of 𝓛 (g.signature session global ghosts dict global_drop session_drop)
    (g.spec session global ghosts dict global_drop session_drop 𝓛 𝓜.mem 𝓡.returns) in
    let Gn = g.ended session global ghosts dict global_drop session_drop in
    let hs : Stays En.signature.params En.kept = (stay_dropped (plain (λ _. boxes)) yes, tt) in
    proved_at 𝓛 En hs c 𝓜 𝓡 (Goes-dropped 𝓛 0 (plain (λ _. boxes)) yes (λ κs x w. refl), tt)
    f.Key.name fn (code.unfolded 𝓤 H 𝓜 𝓡 wired) (λ z are.
    let x = z.0.3.0 in let Post : Val → SProp 𝓤 = (walk_of 𝓛 En hs c).post z in
    qed 𝓛 ((‵ ftrue ⊛ ‵ (owns (types_at En.signature.params z.0.0) z.0.3 z.0.4)) ∷ raw (emp 𝓤) ∷
    []) ∵ split ! $ drop ! $ fsplit ! $
    at_one ! boxes boxes_laws x z.0.4.0 (λ w e fits.
    regoal ! (λ (us : List Val). prop (WpFn 𝓤 H 𝓣.C 𝓣.Λ fn (us ++ []) Post)) e refl $ fjoin ! $
    enter ! 𝓣.C 𝓣.Λ fn (w ∷ []) Post $
    alloc_all ! (λ l. pass_all ! refl (fits, tt) $ sets ! (of_opd ! (get ! refl)) refl fits $
    -- [the box; nothing, which the `requires` ends with]
    two_begin ! tt (λ α β.
    let y : G.Ghost = (
      (
        (α ∷ [], (β ∷ [], tt)),
        (full_share, (full_share, tt)),
        tt,
        (x, tt),
        (
          w ∷
              [],
          tt,
        ),
      ),
      tt,
    ) in
    join ! $ move ! (1 ∷ []) $ two_outlive ! α β $ move ! (1 ∷ 0 ∷ []) $ join ! $
    use1 𝓛 (raw (G.pre y)) (id⊢ 𝓤 _) $
    calls_at ! (framed 𝓤 H 𝓜 𝓣) G
    (met 𝓤 𝓛 𝓜 𝓡 (code.calls-std_alloc::boxed::Box::into_raw 𝓡.env wired) session global
    session_laws global_laws ghosts dict global_drop session_drop
    (passed 𝓡.env (code.calls-std_heap::GlobalAllocator::allocate 𝓡.env wired)
    (code.calls-std_heap::GlobalAllocator::deallocate 𝓡.env wired)
    (code.calls-std_heap::GlobalAllocator::grow 𝓡.env wired)
    (code.calls-std_heap::GlobalAllocator::shrink 𝓡.env wired) M 𝓤 𝓛 𝓜 𝓡)
    (glues "yhandles::Destruct++none::drop" 𝓡.env
    (code.calls-yhandles::Destruct++none::drop 𝓡.env wired) global global_laws M 𝓤 𝓛 𝓜 𝓡)
    (session_ends 𝓤 𝓛 𝓜 𝓡 (code.calls-ysession::session::Session::drop 𝓡.env wired))) y
    (and_then ! (get ! refl) (no_more !)) (λ r.
    use1 𝓛 (later (some (λ (p : Ptr). (tokens 𝓤 α β ⊛ ‵ (RawPtr.own_val p (r ∷ []))) ⊛
    some (λ (ws : Lasts Gn y.0.0 y.0.3). ‵ (lasts Gn y.0.0 y.0.3 ws) ⊛ ‵ (boxed p x.value)))))
    (id⊢ 𝓤 _) $ await ! tt $ pick ! (λ p. split ! $ split ! $ drop ! $
    feq_l ! (λ is_p. pick ! (λ ws. split ! $ drop ! $
    -- [the session at p, and the right to free its block]
    let made : handle.the_row.Denot = record { at = p; session = Some x.value } in
    lands_as ! (ap only is_p) refl (ptr_good p) $
    sets ! (of_opd ! (get ! refl)) refl (ptr_good p) $
    use1 𝓛 (‵ (held p (Some x.value))) (id⊢ 𝓤 _) $ handle_in ! p (Some x.value) $
    sets ! (agg ! (and_then ! (get ! refl) (no_more !))) refl (word_good p) $
    use0 𝓛 (raw (fact 𝓤 (made.session ≡ Some x.value)))
    (fact_i 𝓤 (made.session ≡ Some x.value) (emp 𝓤) refl) $
    nothing ! $ nothing ! $ fjoin ! $ nothing ! $
    returns ! (look_at ! 0 refl) $ free_all ! refl $ keep ! (0 ∷ 1 ∷ 3 ∷ 2 ∷ []) $
    by ! (leaves 𝓛 En hs c z (word p) made (tt, tt) (tt, tt))))))))))
