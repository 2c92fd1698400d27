-- Which mistake is the first.
use Rattle.std.proofs.Common.{ℕ, suc, ◌≡◌, ◌++◌, ◌∷◌, [], inl, inr, refl, sym, subst, List, take}
use Rattle.std.proofs.Common.{drop, Result, Err, Ok, IsErrAnd, length, ◌≤◌, ◌<◌}
use Rattle.ygrammar.specs.declared.elaboration.Named.{Named}
use Rattle.ydeclarations.specs.declared.mistake.Mistake.{Mistake}
use Rattle.ydeclarations.specs.declared.mistake.Refused.{Refused}
use Rattle.ydeclarations.specs.declared.mistake.Refused.TheVariants as refused
use Rattle.ydeclarations.specs.declared.mistake.Mistake.TheVariants.{BadStart, Limit, Unproductive}
use Rattle.ydeclarations.specs.Elaboration.{bare_of, symbols, tokens}
use Rattle.ysymbols.specs.Forms.{Productive}
use Rattle.ygrammar.specs.Elaborated.{AreNamed, Decides, IsFirstRefused}
use Rattle.ydeclarations.specs.Mistakes.{HasNone, Holds, IsFirst, order}
use Rattle.ydeclarations.specs.Owned.{Clears, Refuses}
use Rattle.ysyntax.specs.Tree.{Tree}
use Rattle.ygrammar.proofs.MeaningSteps.{none_barren}

-- one more mistake that does not hold
pub more : (t : Tree) (fs : List Mistake) (m : Mistake) → HasNone t fs → (Holds t m → ⊥) →
    HasNone t (fs ++ m ∷ [])
more t [] m n a = (a, tt)
more t (f ∷ fs) m n a = (n.0, more t fs m n.1 a)

first_after : (t : Tree) (fs later : List Mistake) (m : Mistake) → HasNone t fs → Holds t m →
    IsFirst t (fs ++ m ∷ later) m
first_after t [] later m n h = inl (refl, h)
first_after t (f ∷ fs) later m n h =
    inr (λ e. n.0 (subst (λ k. Holds t k) (sym e) h), n.0, first_after t fs later m n.1 h)

first : (t : Tree) (k : ℕ) (m : Mistake) (e : Refused) → take k order ++ m ∷ drop (suc k) order ≡
    order →
    HasNone t (take k order) → Refuses t m e → IsFirstRefused t e
first t k m (refused.Mistake what at) o n (q, h) = subst (λ w. IsFirst t order w) (sym q)
    (subst (λ l. IsFirst t l m) o (first_after t (take k order) (drop (suc k) order) m n h))
first t k m refused.Memory o n r = tt

-- a result that passes on a refusal, where no mistake holds that comes before
pub refuses : {A : Type 0} (P : Result A Refused → Type 0) (t : Tree) (k : ℕ) (m : Mistake)
    (e : Refused) (r : Result A Refused) → ((y : Refused) → IsFirstRefused t y → P (Err y)) →
    take k order ++ m ∷ drop (suc k) order ≡ order → IsErrAnd r (λ y. y ≡ e) →
    HasNone t (take k order) →
    Refuses t m e → P r
refuses P t k m e (Ok v) p o h n f = absurd h
refuses P t k m e (Err y) p o h n f =
    p y (subst (λ (x : Refused). IsFirstRefused t x) (sym h) (first t k m e o n f))

-- a result that passes on what decides
pub passes : {A : Type 0} (t : Tree) (e : Refused) (r : Result A Refused) →
    IsErrAnd r (λ y. y ≡ e) → IsFirstRefused t e → Decides t r
passes t e (Ok v) p f = absurd p
passes t e (Err y) p f = subst (λ (x : Refused). IsFirstRefused t x) (sym p) f

-- where no mistake holds that comes before the last, that decides
pub decides : (t : Tree) (r : Result (Unit {0}) Refused) → HasNone t (take 7 order) →
    ((s : ℕ) → length (tokens t) ≤ s → s < length (symbols t) → Productive (bare_of t) s) →
    Clears t Limit r → Decides t r
decides t (Ok v) n p h = record { none = more t (take 7 order) Limit n h; productive = p }
decides t (Err e) n p h = first t 7 Limit e refl n h

-- none of the first mistakes holds
pub clear_5 : (t : Tree) (n : Named) → AreNamed t n → (Holds t BadStart → ⊥) →
    HasNone t (take 5 order)
clear_5 t n a b =
    (a.no_token_left, (a.all_defined, (a.once, (a.own.sound, (b, tt)))))

pub clear_6 : (t : Tree) → HasNone t (take 5 order) →
    ((s : ℕ) → length (tokens t) ≤ s → s < length (symbols t) → Productive (bare_of t) s) →
    HasNone t (take 6 order)
clear_6 t five p = more t (take 5 order) Unproductive five (none_barren t p)
