-- A dot stands before a token, other than the end, exactly where the goto over it leads on.
use Rattle.std.proofs.Common.{ℕ, ◌≡◌, ◌≢◌, ◌<◌, ◌⊎◌, inl, inr, Bool, true, false, nat_eq}
use Rattle.std.proofs.Common.{length, refl, sym, ap, ◌∙◌, arith, Option, Some, None}
use Rattle.std.proofs.Common.{if◌then◌else◌}
use Rattle.std.proofs.lemmas.Bool.Decides.{eqb_tells}
use Rattle.ysymbols.specs.Grammar.{IsToken, end_token}
use Rattle.ysymbols.specs.WellFormed.{WellFormed}
use Rattle.ylalr.specs.Collection.{Collection, HasStates, Guide, bare_of, state_of, goto_in}
use Rattle.ytables.specs.declared.cell.Action.TheVariants.{Shift, Accept}
use Rattle.ytables.specs.Tables.{after_dot, is_before, has_before, shift_of, shift_to}
use Rattle.ytables.proofs.AmongSteps.{among_contains, any_among}
use Rattle.ytables.proofs.AllowedSteps.{begins_is}
use Rattle.ytables.proofs.GotoSteps.{no_goto}
use Rattle.ytables.proofs.HadSteps.{leads_on}
use Rattle.yprovenance.specs.Candidates.{shift_in}

nowhere : Guide
nowhere = record { to = λ q x. None; looks = λ q i t. false }

module _ (m : Collection) (q t : ℕ) where
  by_before : (b : Bool) → has_before (bare_of m) (state_of m q) t ≡ b →
      (if b then Some (shift_of (goto_in m q) t) else None) ≡ shift_in m q t
  by_before b e = ap (λ c. if c then Some (shift_of (goto_in m q) t) else None) (sym e)

  -- the end is accepted
  pub shift_end : (b : Bool) → t ≡ end_token → has_before (bare_of m) (state_of m q) t ≡ b →
      (if b then Some Accept else None) ≡ shift_in m q t
  shift_end b e h = ap (λ a. if b then Some a else None) (sym (ap (shift_of (goto_in m q)) e)) ∙
      by_before b h

  module _ (w : WellFormed (bare_of m)) (s : HasStates m) (h : q < length m.states)
      (l : IsToken (bare_of m) t) (n : t ≢ end_token) where
    other : (o : Option ℕ) → o ≡ goto_in m q t → shift_to o ≡ shift_of (goto_in m q) t
    other o e = go (eqb_tells t end_token)
      where
        go : ((nat_eq t end_token ≡ true) × (t ≡ end_token)) ⊎
            ((nat_eq t end_token ≡ false) × (t ≢ end_token)) → shift_to o ≡ shift_of (goto_in m q) t
        go (inl p) = absurd (n p.1)
        go (inr p) = ap shift_to e ∙ sym
            (ap (λ b. if b then Accept else shift_to (goto_in m q t)) p.0)

    -- where the goto leads on, a dot stands before the token
    pub shift_some : (k : ℕ) → Some k ≡ goto_in m q t → Some (Shift k) ≡ shift_in m q t
    shift_some k e = go (has_before (bare_of m) (state_of m q) t) refl
      where
        go : (b : Bool) → has_before (bare_of m) (state_of m q) t ≡ b →
            Some (Shift k) ≡ shift_in m q t
        go true b = ap Some (other (Some k) e) ∙ by_before true b
        go false b =
            let none : None ≡ goto_in m q t = no_goto m q t s h
            (let z = w.within in omega (arith, l, z)) b in
            let f : None ≡ Some k = none ∙ sym e in cc

    -- where it doesn't, none does
    pub shift_none : None ≡ goto_in m q t → None ≡ shift_in m q t
    shift_none e = go (has_before (bare_of m) (state_of m q) t) refl
      where
        go : (b : Bool) → has_before (bare_of m) (state_of m q) t ≡ b → None ≡ shift_in m q t
        go true b =
            let i = any_among (is_before (bare_of m) t) (state_of m q) b in
            let y = begins_is t (after_dot (bare_of m) i.0) i.1 in
            let on = leads_on m nowhere w s q t h l
            (i.0, among_contains i.0 (state_of m q) i.2, y, n) in
            let f : None ≡ Some on.0 = e ∙ on.1 in cc
        go false b = by_before false b
