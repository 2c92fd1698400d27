-- A chain from a source along a trail.
use Rattle.std.proofs.Common.{ℕ, ◌≡◌, ◌<◌, List, [], ◌∷◌, ◌++◌, length, sym, ap, ◌∙◌, subst}
use Rattle.ylalr.specs.Collection.{Collection}
use Rattle.yprovenance.specs.declared.reason.Cause.{Cause}
use Rattle.yprovenance.specs.declared.reason.Reason.{Reason}
use Rattle.yprovenance.specs.declared.trail.Entry.{Entry}
use Rattle.yprovenance.specs.Reasons.{Has, IsChain, source, further}
use Rattle.yprovenance.specs.Trail.{IsTrail, entry_at}

abbrev pub reason_of : Entry → Cause → Reason
reason_of e c = record { place = e.place; cause = c }

module _ (m : Collection) (a : ℕ) where
  -- the source alone
  pub climb_first : (e f : Entry) (c : Cause) (xs : List Reason) → e ≡ f →
      xs ≡ reason_of e c ∷ [] → Has m a f.place c → IsChain m a f.place xs
  climb_first e f c xs same is h =
      subst (IsChain m a f.place) (sym (is ∙ ap (λ (x : Entry). reason_of x c ∷ []) same))
      (source h)

  -- one entry more
  pub climb_next : (l : List Entry) (k : ℕ) (e f : Entry) (chain xs : List Reason) → 0 < k →
      k < length l → IsTrail m l → e ≡ entry_at l k → f ≡ entry_at l e.gives →
      xs ≡ chain ++ reason_of f e.cause ∷ [] → IsChain m a (entry_at l k).place chain →
      IsChain m a (entry_at l e.gives).place xs
  climb_next l k e f chain xs z h t same to is c = subst P (sym same) whole to is
    where
      P : Entry → Type 0
      P x = f ≡ entry_at l x.gives → xs ≡ chain ++ reason_of f x.cause ∷ [] →
          IsChain m a (entry_at l x.gives).place xs

      whole : P (entry_at l k)
      whole to is = subst (IsChain m a (entry_at l (entry_at l k).gives).place)
          (sym (is ∙ ap (λ (y : Entry). chain ++ reason_of y (entry_at l k).cause ∷ []) to))
          (further c (t.gives k z h).1)
