-- The machine value of a handle, and what a handle owns.
use Rattle.std.proofs.Common.{◌≡◌, ℕ, List, [], ◌∷◌, ◌++◌, refl, subst, lit<}
use mathlib.Core.Bool.{Bool, ◌&&◌, true, false}
use lib.Dec.{T}
use seplogic.Ra.Ura.{Ura}
use mir.Raw.{raw as bare}
use mir.Syntax.{Ty, ty_ptr}
use mir.Val.{Val, vstruct, vcons, vnil, of_list, has_ty, WT}
use base.Logic.{ent, via, snd∗, fst∗, never, guard, guard_i}
use contract.Monad.{fact_use}
use types.Logic.{Logic, sem}
use types.Kit.{Item, Goal, Seq, Step, step, ‵, given, learn, drop, use1, fsplit, fjoin, fpick}
use types.Kit.{fpack, feq_i, feq_l, rewrite, ◌$◌}
use denote.Laws.{Is, Typed, shows}
use denote.Param.{layout}
use denote.Param.Laws.{Laws}
use denote.RattleType.{RattleType, Valss}
use denote.Builtin.{RawPtr}
use denote.Memory.{lone}
use denote.RawPtr.{Ptr, block_ptr, null_ptr, ptr_val, lies_at, in_a_block, Testable}
use denote.Steps.{nothing, peeks}
use denote.Struct.Struct.{within}
use denote.Struct.Owning.{shape}
use base.Fraction.{full_share}
use Rattle.std.specs.declared.alloc.Global.{Global}
use Rattle.std.specs.declared.option.Option.{Option}
use Rattle.std.specs.declared.option.Option.TheVariants.{None, Some}
use Rattle.std.specs.Box.Ownership.{box_owns}
use Rattle.std.proofs.GlobalToken.{dealloc_token-Testable}
use Rattle.yhandles.specs.Handles.{chunk, held}
use Rattle.yhandles.specs.contracts.handle.Handle as handle
use Rattle.ysession.specs.contracts.session.Session as live

-- a handle with this pointer, as the machine has it
abbrev pub word : Ptr → Val
word p = vstruct (vcons (ptr_val p) vnil)

-- it has the type of a handle
pub word_good : (p : Ptr) → T (has_ty ty_ptr (ptr_val p) && true) × WT (word p)
word_good (block_ptr b o) = (tt, (tt, tt))
word_good null_ptr = (tt, (record { fits = lit< tt }, tt))

-- and the pointer that of a pointer
pub ptr_good : (p : Ptr) → T (has_ty ty_ptr (ptr_val p)) × WT (ptr_val p)
ptr_good (block_ptr b o) = (tt, tt)
ptr_good null_ptr = (tt, record { fits = lit< tt })

-- a list of values of one type is one value of that type
one_typed : (τ : Ty) (vs : List Val) → Typed (τ ∷ []) vs
    → (v : Val) × (vs ≡ v ∷ []) × (T (has_ty τ v) × WT v)
one_typed τ [] t = absurd t
one_typed τ (v ∷ []) t = (v, refl, t.0)
one_typed τ (v ∷ u ∷ us) t = absurd t.1

-- how the check of an enum's one field ends
pub one_field : (b : Bool) → T b → T (b && true)
one_field true t = tt
one_field false t = absurd t

-- what is owned of a box
abbrev pub boxed : Ptr → live.the_row.Denot → base.Fml.Fml
boxed = box_owns chunk live.the_row

-- a box's pointer may be compared with null
module _ {M : Type 1} {𝓤 : Ura M} (𝓛 : Logic 𝓤) (a : Global) (p : Ptr) where
  pub tested : (x : live.the_row.Denot)
      → ent 𝓤 (sem 𝓛 (boxed p x)) (guard 𝓤 (Testable p) (sem 𝓛 (boxed p x)))
  tested x =
      let τ = bare (lone live.the_row.mir) in
      fact_use 𝓤 (Testable p)
      (via 𝓤 _ (snd∗ 𝓤 (sem 𝓛 (lies_at live.the_row full_share p x)) (sem 𝓛 (chunk τ p)))
      (dealloc_token-Testable 𝓛 a τ p)) (guard_i 𝓤 (Testable p) (sem 𝓛 (boxed p x)))

module _ {M : Type 1} {𝓤 : Ura M} {𝓛 : Logic 𝓤} {K : Type 0} {Γ : List (Item 𝓤)} {G : Goal 𝓤 𝓛.H}
  where
    -- what is owned of a value at machine values shows that these are of its type
    pub of_type : K → (R : RattleType) → Laws R → (x : R.Denot) (vs : List Val)
        → (Typed (layout R ∷ []) vs → Seq K 𝓛 (‵ (R.own_val x vs) ∷ Γ) G)
        → Seq K 𝓛 (‵ (R.own_val x vs) ∷ Γ) G
    of_type t R laws x vs k =
        peeks t R (Is R) (shows 𝓛 R) x vs (λ is.
        k (subst (λ (τs : List Ty). Typed τs vs) laws.one ((laws.lawful 𝓛).typed x vs is)))

    -- so it stands at one machine value
    pub at_one : K → (R : RattleType) → Laws R → (x : R.Denot) (vs : List Val)
        → ((v : Val) → vs ≡ v ∷ [] → T (has_ty (layout R) v) × WT v
        → Seq K 𝓛 (‵ (R.own_val x (v ∷ [])) ∷ Γ) G)
        → Seq K 𝓛 (‵ (R.own_val x vs) ∷ Γ) G
    at_one t R laws x vs k =
        of_type t R laws x vs (λ typed. let found = one_typed (layout R) vs typed in
        rewrite t 0 (λ (us : List Val). ‵ (R.own_val x us)) found.1 refl $
        k found.0 found.1 found.2)

    -- what is owned of a handle is at its pointer, which is its one machine value
    pub handle_out : K → (d : handle.the_row.Denot) (vs : List Val)
        → (vs ≡ word d.at ∷ [] → Seq K 𝓛 (‵ (held d.at d.session) ∷ Γ) G)
        → Seq K 𝓛 (‵ (handle.the_row.own_val d vs) ∷ Γ) G
    handle_out t d vs k =
        fsplit t $ fpick t (λ vss. fsplit t $ feq_l t (λ ev. fsplit t $ feq_l t (λ ep. drop t $ k
        (subst (λ (ps : List Val). vs ≡ vstruct (of_list (ps ++ [])) ∷ []) ep ev))))

    -- a pointer and what it owns are a handle
    pub handle_in : K → (p : Ptr) (x : Option live.the_row.Denot)
        → let made : handle.the_row.Denot = record { at = p; session = x } in
        Step K 𝓛 (‵ (handle.the_row.own_val made (word p ∷ [])) ∷ Γ) G (‵ (held p x) ∷ Γ) G
    handle_in t p x = step (λ s.
        nothing t $ feq_i t (List Val) (ptr_val p ∷ []) (ptr_val p ∷ []) refl $ fjoin t $
        feq_i t (List Val) (word p ∷ []) (word p ∷ []) refl $ fjoin t $
        fpack t (Valss (RawPtr ∷ [])) (within (shape handle.the_type) (p, tt) (word p ∷ []))
        (ptr_val p ∷ [], tt) $ fjoin t $ s)

    -- the pointer is null, or a session is at it
    pub either_held : K → Global → (p : Ptr) (x : Option live.the_row.Denot)
        → (p ≡ null_ptr → x ≡ None → Seq K 𝓛 Γ G)
        → ((b o : ℕ) (y : live.the_row.Denot) → p ≡ block_ptr b o → x ≡ Some y
        → Testable (block_ptr b o) → Seq K 𝓛 (‵ (boxed (block_ptr b o) y) ∷ Γ) G)
        → Seq K 𝓛 (‵ (held p x) ∷ Γ) G
    either_held t a p None none one = feq_l t (λ e. none e refl)
    either_held t a p (Some y) none one =
        in_a_block t p (λ q. boxed q y)
        (fst∗ 𝓤 (never 𝓤) (sem 𝓛 (chunk (bare (lone live.the_row.mir)) null_ptr))) (λ b o e.
        use1 𝓛 (given (Testable (block_ptr b o)) (‵ (boxed (block_ptr b o) y)))
        (tested 𝓛 a (block_ptr b o) y) $ learn t (λ may. one b o y e refl may))
