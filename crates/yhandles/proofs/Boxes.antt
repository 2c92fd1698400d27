-- What the functions of a box ask and give, where it holds a session and stands on the C heap.
use Rattle.std.proofs.Common.{ℕ, List, [], ◌∷◌, refl}
use mir.Raw.{raw as bare}
use mir.Syntax.{Dict, impl, method, no_args, tnil, tcons, dnil}
use base.Fml.{ftrue, flft, fsep}
use base.Fraction.{full_share}
use base.Logic.{SProp, ex, sep, emp, emp∗}
use prog.Model.{Model}
use prog.Wired.{Wired}
use seplogic.Ra.Ura.{Ura}
use types.Logic.{Logic, sem}
use types.Kit.{Item, Goal, Soaks, Seq, Step, step, ‵, raw, ◌⊛◌, ◌$◌, ◌∵◌, !, qed, move, drop, join}
use types.Kit.{fjoin, show, frame, done, use0}
use types.Tokens.{lft_new}
use contract.BorrowLft.{◌⊑◌}
use contract.Monad.{fact, fact_i}
use contract.Running.{Running}
use denote.Exit.{no}
use denote.Param.{layout, arg}
use denote.Param.Glue.{Met}
use denote.Param.Laws.{Laws, arg_laws}
use denote.RattleType.{RattleType}
use denote.Steps.{nothing}
use denote.Triple.Carry.{beside, spared}
use denote.Triple.Spec.{Spec, triple_of}
use denote.Triple.Table.{run_framed, widened}
use Rattle.std_alloc.specs.contracts.boxed.Box as box
use Rattle.std_alloc.proofs.boxed.Box.TheLaws as box_laws
use Rattle.std_heap.specs.contracts.Global as heap
use Rattle.std_heap.proofs.Global.TheLaws as heap_laws
use Rattle.std_heap.specs.contracts.GlobalAllocator.TheImpl.{ghosts}
use Rattle.ysession.specs.contracts.session.Session as live
use Rattle.ysession.proofs.session.Session.TheLaws as live_laws
use Rattle.ysession.specs.contracts.session.Session.drop as over
use Rattle.ysession.proofs.session.Session.drop.Symbol as over_code
use Rattle.ysession.proofs.session.Session.drop.Met.{met}

-- a box of a session
abbrev pub boxes : RattleType
boxes = box.the_row live.the_row heap.the_row ghosts

-- what is so of every value of it
abbrev pub boxes_laws : Laws boxes
boxes_laws =
    box_laws.the_row_laws live.the_row heap.the_row ghosts live_laws.the_row_laws
    heap_laws.the_row_laws

-- a session as a call's type argument
abbrev pub session : RattleType
session = arg (bare (layout live.the_row)) no live.the_row

-- its laws are those of a session
abbrev pub session_laws : Laws session
session_laws = arg_laws (bare (layout live.the_row)) no live.the_row live_laws.the_row_laws refl

-- the C heap as a call's type argument
abbrev pub global : RattleType
global = arg (bare (layout heap.the_row)) no heap.the_row

-- its laws are those of the heap
abbrev pub global_laws : Laws global
global_laws = arg_laws (bare (layout heap.the_row)) no heap.the_row heap_laws.the_row_laws refl

-- by what code a session is dropped
abbrev pub session_drop : Dict
session_drop = impl ("ysession::session::Session::drop" ∷ []) tnil dnil

-- the heap has nothing to drop
abbrev pub global_drop : Dict
global_drop = impl ("yhandles::Destruct++none::drop" ∷ []) (tcons (layout global) tnil) dnil

-- dropping a session asks nothing of the caller, and promises nothing
pub session_ends : {M : Type 1} (𝓤 : Ura M) (𝓛 : Logic 𝓤) (𝓜 : Model 𝓤 𝓛.H)
    (𝓡 : Running 𝓤 𝓛.H 𝓜) → Wired 𝓡.env over_code.code → Met 𝓛 𝓜 𝓡 𝓡.env session session_drop
session_ends 𝓤 𝓛 𝓜 𝓡 wired =
    let ended = 𝓡.env (method session_drop 0 no_args) in
    let S = over.signature in let full = over.spec 𝓛 𝓜.mem 𝓡.returns in
    let unsaid : Unit {0} × Unit {0} → SProp 𝓤 = λ _. sep 𝓤 (sem 𝓛 (fsep ftrue ftrue)) (emp 𝓤) in
    let less : Spec 𝓤 S = λ κs a. record {
      ghost = Unit {0};
      requires = λ _. emp 𝓤;
      ensures = λ _ r. ex 𝓤 unsaid;
    } in
    let framed = run_framed 𝓤 𝓛.H 𝓜 𝓡 ended in
    spared 𝓛 S (𝓡.run ended) framed 1 (live.the_row.lives, tt) less
    (beside 𝓛 S (𝓡.run ended) framed full less (λ κs a x. x) (λ κs a x. emp 𝓤)
    (λ κs a x. emp∗ 𝓤 (emp 𝓤))
    (λ κs a x r. qed 𝓛 (raw ((full κs a).ensures x r) ∷ raw (emp 𝓤) ∷ []) ∵ drop ! $
    show ! unsaid (tt, tt) $ nothing ! $ nothing ! $ fjoin ! $ frame ! $ done !)
    (widened 𝓤 𝓛.H (triple_of 𝓛 S full) 𝓜 𝓡 𝓡.env (𝓡.env over_code.name) ended
    (over_code.as_method 𝓡.env wired (method session_drop 0 no_args) refl)
    (met 𝓤 𝓛 𝓜 𝓡 wired)))

-- tokens of the lifetimes of a call's two type arguments
abbrev pub tokens : {M : Type 1} (𝓤 : Ura M) → ℕ → ℕ → Item 𝓤
tokens 𝓤 α β = ‵ (flft (α ∷ []) full_share) ⊛ ‵ (flft (β ∷ []) full_share) ⊛ ‵ ftrue

module _ {M : Type 1} {𝓤 : Ura M} {𝓛 : Logic 𝓤} {K : Type 0} {Γ : List (Item 𝓤)} {G : Goal 𝓤 𝓛.H}
  where
    -- two lifetimes begin
    pub two_begin : K → Soaks G → ((α β : ℕ) → Seq K 𝓛 (tokens 𝓤 α β ∷ Γ) G) → Seq K 𝓛 Γ G
    two_begin t soaks k =
        lft_new t soaks (λ α. lft_new t soaks (λ β. nothing t $ move t (1 ∷ 0 ∷ []) $ join t $
        move t (1 ∷ 0 ∷ []) $ join t $ k α β))

    -- a session and the C heap outlive any lifetime, which a call wants to hear first
    pub two_outlive : K → (α β : ℕ) {i : Item 𝓤}
        → Step K 𝓛 ((raw (fact 𝓤 ((α ∷ []) ⊑ session.lives)) ⊛
        raw (fact 𝓤 ((β ∷ []) ⊑ global.lives)) ⊛ i) ∷ Γ) G (i ∷ Γ) G
    two_outlive t α β = step (λ s.
        use0 𝓛 (raw (fact 𝓤 ((β ∷ []) ⊑ global.lives)))
        (fact_i 𝓤 ((β ∷ []) ⊑ global.lives) (emp 𝓤) (heap_laws.the_within (β ∷ []))) $ join t $
        use0 𝓛 (raw (fact 𝓤 ((α ∷ []) ⊑ session.lives)))
        (fact_i 𝓤 ((α ∷ []) ⊑ session.lives) (emp 𝓤) (live_laws.the_within (α ∷ []))) $ join t $ s)
