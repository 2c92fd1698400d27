-- What any tables promise of a verdict.
use Rattle.std.proofs.Common.{ℕ, ◌≡◌, ◌-◌, List, [], ◌∷◌, length, refl, sym, ◌∙◌, ap}
use Rattle.std.proofs.Common.{subst, arith, take}
use Rattle.ysymbols.specs.Grammar.{ContextFree, start_of}
use Rattle.ysymbols.specs.Derivation.{Derives}
use Rattle.ysymbols.specs.Forms.{IsRule, derives_from_run, run_from_rightmost}
use Rattle.ysymbols.specs.WellFormed.{WellFormed}
use Rattle.ymachine.specs.Machine.{Machine}
use Rattle.ymachine.specs.Past.{position}
use Rattle.ymachine.specs.History.{History, first_configuration}
use Rattle.ymachine.specs.Unwinding.{forms_of, tokens_left}
use Rattle.ymachine.specs.Cells.{IsSound}
use Rattle.ymachine.specs.Rightmost.{AreInput, IsRightmostDerivation}
use Rattle.ymachine.specs.declared.machine.Mode.TheVariants as modes
use Rattle.ymachine.proofs.Unwindings.{left_of_places, unwinds_right, accepted}
use Rattle.ysession.specs.declared.verdict.Verdict.TheVariants.{Accepted, Rejected, Limit}
use Rattle.ysession.specs.Verdict.{IsQuiet, AcceptedAt, RejectedAt}
use Rattle.ysession.specs.Sentences.{IsSentence, BeginsSentence, Derivations, steps_of}
use Rattle.ysession.proofs.Laws.{SoundLaw}
use Rattle.ysession.proofs.Quiet.{no_errors, quiet_plain}
use Rattle.ysession.proofs.Shifted.{accepted_steps, before_place}
use Rattle.ysession.proofs.Beginnings.{taken, taken_begins}

-- a rightmost derivation is a derivation
pub derives_forms : (g : ContextFree) (w : List ℕ) (forms : List (List ℕ))
    → Derivations g w forms → Derives (IsRule g) (start_of g ∷ []) w
derives_forms g w [] d = absurd d
derives_forms g w (form ∷ more) d =
    subst (λ z. Derives (IsRule g) z w) d.0
    (subst (Derives (IsRule g) form) d.2
    (derives_from_run g form more (run_from_rightmost g form more d.1)))

module _ (g : ContextFree) (m : Machine) (w : WellFormed g) (s : IsSound g m) (tokens : List ℕ)
    (a : AreInput g tokens) where
  -- an accepted history without error steps has a derivation as its forms, and its length
  pub accepted_forms : (h : History) → IsQuiet m tokens h → h.now.mode ≡ modes.Accepted
      → Derivations g tokens (forms_of h) × (position h ≡ steps_of tokens (forms_of h))
  accepted_forms h q d =
      let u = unwinds_right g m w s tokens h a q.history (no_errors m tokens h q) d in
      let n = (accepted g m w s tokens h a q.history d).rest in
      let k = accepted_steps m (first_configuration tokens) h.now h.earlier
      (quiet_plain m tokens h q) refl d n in
      let l : length (tokens_left (first_configuration tokens).rest) ≡ length tokens =
      ap length (left_of_places 1 tokens) in (
        subst (IsRightmostDerivation g (start_of g ∷ []) (forms_of h)) (u.1 q.steps) u.0,
        omega (arith, k, l),
      )

  sound_accepted : (p : ℕ) → AcceptedAt m tokens p → IsSentence g tokens
      × ((forms : List (List ℕ)) × Derivations g tokens forms × (p ≡ steps_of tokens forms))
  sound_accepted p v =
      let f = accepted_forms v.h v.run v.accepted in (
        (a.0, derives_forms g tokens (forms_of v.h) f.0),
        (forms_of v.h, f.0, sym v.at ∙ f.1),
      )

  sound_rejected : (place : ℕ) → RejectedAt m tokens place
      → BeginsSentence g (take (place - 1) tokens)
  sound_rejected place v =
      let t = taken g m w s tokens a.0 v.h.now v.h.earlier (quiet_plain m tokens v.h v.run) in
      subst (BeginsSentence g) (sym (before_place t.shifted v.at))
      (taken_begins g m w s tokens a.0 v.h.now t a.1)

pub sound : SoundLaw
sound g m w s tokens a (Accepted p) v = sound_accepted g m w s tokens a p v
sound g m w s tokens a (Rejected place) v = sound_rejected g m w s tokens a place v
sound g m w s tokens a Limit v = tt
