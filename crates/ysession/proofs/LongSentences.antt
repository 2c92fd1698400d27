-- Where no cell has a choice, a sentence is not rejected; one whose parse takes more steps than may
-- stand comes to no verdict within the limit.
use Rattle.std.proofs.Common.{ℕ, ◌≡◌, ◌<◌, List, refl, sym, ◌∙◌, ap, subst, arith}
use Rattle.ysymbols.specs.Grammar.{ContextFree}
use Rattle.ysymbols.specs.WellFormed.{WellFormed}
use Rattle.ymachine.specs.Machine.{Machine}
use Rattle.ymachine.specs.Past.{most_steps}
use Rattle.ymachine.specs.Cells.{IsSound}
use Rattle.ymachine.specs.Complete.{IsComplete}
use Rattle.ymachine.specs.Rightmost.{AreInput}
use Rattle.ysession.specs.declared.verdict.Verdict.{Verdict}
use Rattle.ysession.specs.declared.verdict.Verdict.TheVariants.{Accepted, Rejected, Limit}
use Rattle.ysession.specs.Verdict.{AcceptedAt, RejectedAt, Says}
use Rattle.ysession.specs.Sentences.{IsSentence, Derivations, steps_of}
use Rattle.ysession.proofs.Laws.{AnsweredLaw, LongLaw}
use Rattle.ysession.proofs.Quiet.{quiet_plain}
use Rattle.ysession.proofs.Shifted.{shifted_left}
use Rattle.ysession.proofs.Beginnings.{taken}
use Rattle.ysession.proofs.Sentential.{ahead}
use Rattle.ysession.proofs.Soundness.{sound}
use Rattle.ysession.proofs.Completeness.{sentence}
use Rattle.ysession.proofs.Exactness.{no_sentence}

module _ (g : ContextFree) (m : Machine) (w : WellFormed g) (s : IsSound g m) (f : IsComplete g m)
    (tokens : List ℕ) (a : AreInput g tokens) (h : IsSentence g tokens) where
  pub not_rejected : (place : ℕ) → RejectedAt m tokens place → ⊥
  not_rejected place v =
      let t = taken g m w s tokens a.0 v.h.now v.h.earlier (quiet_plain m tokens v.h v.run) in
      no_sentence g m w s f tokens a place v t.word t.shifted.back t.shifted
      (sym (ap ahead (shifted_left t.shifted))) (subst (IsSentence g) t.shifted.parts h)

  not_accepted : (forms : List (List ℕ)) → Derivations g tokens forms
      → most_steps < steps_of tokens forms → (p : ℕ) → AcceptedAt m tokens p → ⊥
  not_accepted forms d l p v =
      let r = sentence g m w s f tokens a h in
      let q = (sound g m w s tokens a (Accepted p) v).1 in
      let e : steps_of tokens q.0 ≡ steps_of tokens forms =
      ap (steps_of tokens) (r.2 q.0 q.1 ∙ sym (r.2 forms d)) in
      let i = q.2 in
      let k = v.small in
      omega (arith, i, e, k, l)

pub long : LongLaw
long g m w s f tokens a v says h forms d l = by v says
  where
    by : (v : Verdict) → Says m tokens v → v ≡ Limit
    by (Accepted p) q = absurd (not_accepted g m w s f tokens a h forms d l p q)
    by (Rejected place) q = absurd (not_rejected g m w s f tokens a h place q)
    by Limit q = refl

-- and so a sentence has its verdict, whatever its length
pub answered : AnsweredLaw
answered g m w s f tokens a v k h =
    let r = sentence g m w s f tokens a h in (
      r.0,
      r.1,
      r.2,
      (λ l. sym (k.only (Accepted (steps_of tokens r.0)) (r.3 l))),
      long g m w s f tokens a v k.says h r.0 r.1,
    )
