-- `into_session` makes a box again of a handle's pointer and what it owns, unless that is null.
use Rattle.std.proofs.Common.{◌≡◌, List, [], ◌∷◌, ◌++◌, refl, sym, ap, ◌∙◌, lit<}
use mir.Syntax.{ty_ptr, tcons, tnil}
use mir.Val.{Val, vcons, vnil}
use base.Fml.{ftrue}
use base.Fraction.{full_share}
use base.Logic.{SProp, emp, id⊢}
use prog.Wp.{WpFn}
use types.Kit.{‵, raw, ◌⊛◌, some, later, prop, at_ret, ◌$◌, ◌∵◌, !, qed, by, move, keep, drop}
use types.Kit.{split, join, fsplit, fjoin, feq_i, pick, await, regoal, use0, use1}
use types.Run.{stop, fld, lit, of_opd, bin, no_more, and_then, first, blocks, branches, skips}
use types.Run.{exec, returns, returns_within, enter}
use types.ByLocal.{alloc_all, pass_all, free_all, look_at, get, get_in, sets, lands_last, is, env}
use types.Match.{live}
use types.Part.{agg, sub, whole}
use contract.Monad.{fact, fact_i}
use contract.Running.{tables, tables_of}
use denote.Exit.{yes}
use denote.Param.NoDrop.{glues}
use denote.RattleType.{RattleType, owns}
use denote.RawPtr.{block_ptr, null_ptr, ptr_val, tests_null}
use denote.Signature.{types_at, type_at, plain}
use denote.Steps.{nothing, heard}
use denote.Triple.Call.{calls_at_last}
use denote.Triple.Clauses.{Lasts, lasts}
use denote.Triple.Spec.{triple_of}
use denote.Triple.Table.{framed}
use denote.Triple.Walked.{Stays, stay_dropped, walk_of, Goes-dropped}
use Rattle.core.proofs.option.Made.{Some-of, none_of}
use Rattle.std.proofs.raw_atomic.Walks.{proved_at, leaves}
use Rattle.std.specs.declared.option.Option.TheVariants.{None, Some}
use Rattle.std_alloc.specs.Box.{box_allocator}
use Rattle.std_alloc.specs.contracts.boxed.Box.from_raw as g
use Rattle.std_alloc.proofs.boxed.Box.from_raw.Met.{met}
use Rattle.std_heap.specs.contracts.Global as heap
use Rattle.std_heap.proofs.Global.TheLaws as heap_laws
use Rattle.std_heap.specs.contracts.GlobalAllocator.TheImpl.{ghosts, dict}
use Rattle.std_heap.proofs.GlobalAllocator.TheImpl.Met.{passed}
use Rattle.yhandles.proofs.Boxes.{boxes, boxes_laws, session, session_laws, global, global_laws}
use Rattle.yhandles.proofs.Boxes.{global_drop, tokens, two_begin, two_outlive}
use Rattle.yhandles.proofs.Destruct++none.drop.Code as none
use Rattle.yhandles.proofs.Handles.{word, word_good, ptr_good, one_field, of_type, at_one}
use Rattle.yhandles.proofs.Handles.{handle_out, either_held}
use Rattle.yhandles.specs.contracts.handle.Handle as handle
use Rattle.yhandles.specs.contracts.handle.Handle.into_session as f
use Rattle.yhandles.proofs.handle.Handle.into_session.Statement.{statement}
use Rattle.yhandles.proofs.handle.Handle.into_session.Code as code

pub into_session_spec : {M : Type 1} → statement M
unfolding tables_of none.code
into_session_spec {M} 𝓤 𝓛 𝓜 𝓡 wired =
    let H = 𝓛.H in let 𝓣 = tables 𝓤 H 𝓜 𝓡 𝓡.env in let En = f.ended in
    let c = f.clauses 𝓛 𝓜.mem 𝓡.returns in let fn = code.function in
    let G = triple_of 𝓛 (g.signature session global ghosts dict global_drop)
    (g.spec session global ghosts dict global_drop 𝓛 𝓜.mem 𝓡.returns) in
    let Gn = g.ended session global ghosts dict global_drop in
    let hs : Stays En.signature.params En.kept = (
      stay_dropped (plain (λ _. handle.the_row)) yes,
      (stay_dropped (plain (λ _. heap.the_row)) yes, tt),
    ) in
    proved_at 𝓛 En hs c 𝓜 𝓡 (
      Goes-dropped 𝓛 0 (plain (λ _. handle.the_row)) yes (λ κs x w. refl),
      (Goes-dropped 𝓛 0 (plain (λ _. heap.the_row)) yes (λ κs x w. refl), tt),
    ) f.Key.name fn (code.unfolded 𝓤 H 𝓜 𝓡 wired) (λ z are.
    let d = z.0.3.0 in let a = z.0.3.1.0 in
    let Out : RattleType = type_at En.signature.result z.0.0 in
    let Post : Val → SProp 𝓤 = (walk_of 𝓛 En hs c).post z in
    let Run : List Val → SProp 𝓤 = λ vs. WpFn 𝓤 H 𝓣.C 𝓣.Λ fn vs Post in
    qed 𝓛 ((‵ ftrue ⊛ ‵ (owns (types_at En.signature.params z.0.0) z.0.3 z.0.4)) ∷ raw (emp 𝓤) ∷
    []) ∵ split ! $ drop ! $ fsplit ! $
    handle_out ! d z.0.4.0 (λ at_word. move ! (1 ∷ []) $ fsplit ! $
    at_one ! heap.the_row heap_laws.the_row_laws a z.0.4.1.0 (λ h at_h fits.
    -- [what the handle owns; the allocator; nothing, twice]
    move ! (2 ∷ []) $
    regoal ! (λ (vs : List Val). prop (Run (vs ++ (z.0.4.1.0 ++ [])))) at_word refl $
    regoal ! (λ (vs : List Val). prop (Run (word d.at ∷ (vs ++ [])))) at_h refl $
    enter ! 𝓣.C 𝓣.Λ fn (word d.at ∷ h ∷ []) Post $
    alloc_all ! (λ l. pass_all ! refl (word_good d.at, (fits, tt)) $
    let Ev = env code.Mir.locals l in
    either_held ! a d.at d.session
    -- the pointer is null
    (λ nowhere gone.
    sets ! (is ! (of_opd ! (get_in ! (fld ! refl (stop !)) (sub ! {τs = tcons ty_ptr tnil} 0 refl
    (whole !)))) (ap ptr_val nowhere)) refl (ptr_good null_ptr) $
    sets ! (of_opd ! (get ! refl)) refl (ptr_good null_ptr) $
    sets ! (bin ! (get ! refl) (lit ! tt) tt) refl (tt, tt) $ first ! $ branches ! (get ! refl)
    (λ _. sets ! (agg ! (and_then ! (lit ! tt) (no_more !))) refl (
      tt,
      (record { fits = lit< tt }, tt),
    ) $ use0 𝓛 (‵ (Out.own_val None (live 0 vnil ∷ []))) (none_of 𝓛 boxes) $
    use0 𝓛 (raw (fact 𝓤 (d.session ≡ None))) (fact_i 𝓤 (d.session ≡ None) (emp 𝓤) gone) $
    nothing ! $ nothing ! $ fjoin ! $ nothing ! $ fjoin ! $ nothing ! $
    returns_within ! Post refl (look_at ! 0 refl) $ free_all ! refl $
    keep ! (0 ∷ 1 ∷ 3 ∷ 2 ∷ []) $
    by ! (leaves 𝓛 En hs c z (live 0 vnil) None (tt, (tt, tt)) (tt, (tt, tt))))
    (λ wrong. absurd wrong))
    -- the session x is at the pointer
    (λ b o x there got may. let p = block_ptr b o in
    sets ! (is ! (of_opd ! (get_in ! (fld ! refl (stop !)) (sub ! {τs = tcons ty_ptr tnil} 0 refl
    (whole !)))) (ap ptr_val there)) refl (tt, tt) $
    sets ! (of_opd ! (get ! refl)) refl (tt, tt) $
    sets ! (bin ! (get ! refl) (lit ! tt) (tests_null p may)) refl (tt, tt) $
    first ! $ branches ! (get ! refl) (λ wrong. absurd wrong)
    (λ _. skips ! $ exec ! 𝓣.C 𝓣.Λ Ev code.Mir.t-5 (at_ret Ev Post) $ first ! $ blocks ! $
    sets ! (of_opd ! (get ! refl)) refl fits $ sets ! (of_opd ! (get ! refl)) refl (tt, tt) $
    sets ! (of_opd ! (get ! refl)) refl (tt, tt) $
    two_begin ! tt (λ α β.
    let y : G.Ghost = (
      (
        (α ∷ [], (β ∷ [], tt)),
        (full_share, (full_share, tt)),
        tt,
        (
          a,
          (
            p,
            tt,
          ),
        ),
        (h ∷ [], (ptr_val p ∷ [], tt)),
      ),
      x,
    ) in
    move ! (1 ∷ []) $ two_outlive ! α β $ move ! (2 ∷ []) $ nothing ! $
    feq_i ! (List Val) (ptr_val p ∷ []) (ptr_val p ∷ []) refl $ fjoin ! $
    move ! (1 ∷ 0 ∷ []) $ fjoin ! $ move ! (2 ∷ 0 ∷ 1 ∷ []) $ join ! $ join ! $
    use1 𝓛 (raw (G.pre y)) (id⊢ 𝓤 _) $
    calls_at_last ! (framed 𝓤 H 𝓜 𝓣) G
    (met 𝓤 𝓛 𝓜 𝓡 (code.calls-std_alloc::boxed::Box::from_raw 𝓡.env wired) session global
    session_laws global_laws ghosts dict global_drop
    (passed 𝓡.env (code.calls-std_heap::GlobalAllocator::allocate 𝓡.env wired)
    (code.calls-std_heap::GlobalAllocator::deallocate 𝓡.env wired)
    (code.calls-std_heap::GlobalAllocator::grow 𝓡.env wired)
    (code.calls-std_heap::GlobalAllocator::shrink 𝓡.env wired) M 𝓤 𝓛 𝓜 𝓡)
    (glues "yhandles::Destruct++none::drop" 𝓡.env
    (code.calls-yhandles::Destruct++none::drop 𝓡.env wired) global global_laws M 𝓤 𝓛 𝓜 𝓡)) y
    (and_then ! (get ! refl) (and_then ! (get ! refl) (no_more !))) (λ r.
    use1 𝓛 (later (some (λ (t : boxes.Denot). (tokens 𝓤 α β ⊛ ‵ (boxes.own_val t (r ∷ []))) ⊛
    some (λ (ws : Lasts Gn y.0.0 y.0.3). ‵ (lasts Gn y.0.0 y.0.3 ws) ⊛
    raw (fact 𝓤 (t.value ≡ x)) ⊛ raw (fact 𝓤 (box_allocator t ≡ a)))))) (id⊢ 𝓤 _) $
    await ! tt $ pick ! (λ t. split ! $ split ! $ drop ! $ move ! (1 ∷ []) $ pick ! (λ ws.
    split ! $ drop ! $ split ! $ heard ! (t.value ≡ x) (λ same. drop ! $
    -- [the box t]
    of_type ! boxes boxes_laws t (r ∷ []) (λ typed. lands_last ! refl typed.0 $
    exec ! 𝓣.C 𝓣.Λ Ev code.Mir.t-6 (at_ret Ev Post) $
    sets ! (of_opd ! (get ! refl)) refl typed.0 $
    sets ! (agg ! (and_then ! (lit ! tt) (and_then ! (get ! refl) (no_more !)))) refl (
      one_field _ typed.0.0,
      (record { fits = lit< tt }, (typed.0.1, tt)),
    ) $ use1 𝓛 (‵ (Out.own_val (Some t) (live 1 (vcons r vnil) ∷ []))) (Some-of 𝓛 boxes t r) $
    use0 𝓛 (raw (fact 𝓤 (d.session ≡ Some t.value)))
    (fact_i 𝓤 (d.session ≡ Some t.value) (emp 𝓤) (got ∙ ap Some (sym same))) $
    nothing ! $ nothing ! $ fjoin ! $ nothing ! $ fjoin ! $ nothing ! $
    returns ! (look_at ! 0 refl) $ free_all ! refl $ keep ! (0 ∷ 1 ∷ 3 ∷ 2 ∷ []) $
    by ! (leaves 𝓛 En hs c z (live 1 (vcons r vnil)) (Some t) (tt, (tt, tt)) (
      tt,
      (
        tt,
        tt,
      ),
    ))))))))))))))
