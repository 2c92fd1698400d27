-- The steps of a machine from one first configuration: two runs of them, and the one verdict.
use Rattle.std.proofs.Common.{ℕ, suc, ◌≡◌, ◌<◌, ◌≤◌, ◌+◌, ◌⊎◌, inl, inr, List, [], ◌∷◌, ◌++◌}
use Rattle.std.proofs.Common.{length, refl, sym, ◌∙◌, ap, subst, arith, Some, None}
use Rattle.std.specs.List.{All}
use Rattle.std.proofs.lemmas.List.{length-append}
use Rattle.std.proofs.lemmas.List.Elements.{All-nil, All-cons, All-head, All-tail}
use Rattle.ymachine.specs.declared.machine.Mode.TheVariants as modes
use Rattle.ymachine.specs.declared.machine.StepKind.{StepKind}
use Rattle.ymachine.specs.declared.machine.StepKind.TheVariants as kinds
use Rattle.ymachine.specs.Machine.{Machine, Configuration, next}
use Rattle.ymachine.specs.Past.{position}
use Rattle.ymachine.specs.History.{History, first_configuration}
use Rattle.ymachine.proofs.StepKinds.{some_is, none_some}
use Rattle.ysession.specs.declared.verdict.Verdict.TheVariants.{Accepted, Rejected, Limit}
use Rattle.ysession.specs.Verdict.{is_detect, NoDetect, IsQuiet, place_ahead, AcceptedAt}
use Rattle.ysession.specs.Verdict.{RejectedAt}
use Rattle.ysession.proofs.Laws.{OneHistoryLaw, OneVerdictLaw, VerdictLaw, LimitLaw}
use Rattle.ysession.proofs.Laws.{HaltedLaw}
use Rattle.ysession.proofs.Yields.{all_front}
use Rattle.ysession.proofs.Quiet.{undetected, history, true_false, StepsTo, halted, quiet_steps}

abbrev Steps : Type 0
Steps = List (StepKind × Configuration)

-- two runs of one length are equal
same_length : (m : Machine) (first a b : Configuration) (p q : Steps) → StepsTo m first a p
    → StepsTo m first b q → length p ≡ length q → (a ≡ b) × (p ≡ q)
same_length m first a b [] [] h k e = (h ∙ sym k, refl)
same_length m first a b [] (t ∷ q) h k e = absurd (omega (arith, e))
same_length m first a b (s ∷ p) [] h k e = absurd (omega (arith, e))
same_length m first a b (s ∷ p) (t ∷ q) h k e =
    let r = same_length m first s.1 t.1 p q h.1 k.1 (omega (arith, e)) in
    let i : (s.0, a) ≡ (t.0, b) = some_is (sym h.0 ∙ (ap (next m) r.0 ∙ k.0)) in (
      ap (λ (z : StepKind × Configuration). z.1) i,
      ap (λ (z : Steps). s ∷ z) r.1
          ∙ (ap (λ (z : StepKind). (z, s.1) ∷ q) (ap (λ (z : StepKind × Configuration). z.0) i)
          ∙ ap (λ (z : Configuration). (t.0, z) ∷ q) r.0),
    )

-- What the longer run has beyond the shorter.
record Beyond (m : Machine) (a b : Configuration) (p q : Steps) : Type 0 where
  pub extra : Steps
  pub parts : p ≡ extra ++ q
  pub leads : StepsTo m b a extra

shorter : (x y : ℕ) → y ≤ suc x → (y ≤ x) ⊎ (suc x ≡ y)
shorter x y h = grind arith

either : (x y : ℕ) → (x ≤ y) ⊎ (y < x)
either x y = grind arith

beyond : (m : Machine) (first a b : Configuration) (p q : Steps) → StepsTo m first a p
    → StepsTo m first b q → length q ≤ length p → Beyond m a b p q
beyond m first a b [] [] h k e = record { extra = []; parts = refl; leads = h ∙ sym k }
beyond m first a b [] (t ∷ q) h k e = absurd (omega (arith, e))
beyond m first a b (s ∷ p) q h k e =
    by (shorter (length p) (length q) e) (λ l. beyond m first s.1 b p q h.1 k l)
  where
    by : (length q ≤ length p) ⊎ (suc (length p) ≡ length q)
        → (length q ≤ length p → Beyond m s.1 b p q) → Beyond m a b (s ∷ p) q
    by (inl l) rec = let r = rec l in record {
      extra = s ∷ r.extra;
      parts = ap (λ (z : Steps). s ∷ z) r.parts;
      leads = (h.0, r.leads);
    }
    by (inr l) rec = let r = same_length m first a b (s ∷ p) q h k l in
        record { extra = []; parts = r.1; leads = r.0 }

-- The step after the shorter run's end is one of the longer's.
record Onward (m : Machine) (b : Configuration) (P : StepKind × Configuration → Type 0)
    : Type 0 where
  pub kind : StepKind
  pub after : Configuration
  pub before : Configuration
  pub makes : next m b ≡ Some (kind, after)
  pub has : P (kind, before)

onward : (m : Machine) (b a : Configuration) (P : StepKind × Configuration → Type 0) (extra : Steps)
    → StepsTo m b a extra → All P extra → 0 < length extra → Onward m b P
onward m b a P [] h x l = absurd (omega (arith, l))
onward m b a P (s ∷ []) h x l = record {
  kind = s.0;
  after = a;
  before = s.1;
  makes = ap (next m) (sym h.1) ∙ h.0;
  has = All-head P s [] x;
}
onward m b a P (s ∷ (t ∷ extra)) h x l =
    onward m b s.1 P (t ∷ extra) h.1 (All-tail P s (t ∷ extra) x) (omega arith)

-- a run that detects no error does not go beyond where one is detected
not_beyond : (m : Machine) (first a b after : Configuration) (p q : Steps) → StepsTo m first a p
    → StepsTo m first b q → NoDetect p → next m b ≡ Some (kinds.Detect, after) → length q < length p
    → ⊥
not_beyond m first a b after p q h k x d l = by (beyond m first a b p q h k (omega (arith, l)))
  where
    at : Onward m b undetected → ⊥
    at t =
        let e : (kinds.Detect, after) ≡ (t.kind, t.after) = some_is (sym d ∙ t.makes) in
        true_false (ap (λ (z : StepKind × Configuration). is_detect z.0) e ∙ t.has)

    by : Beyond m a b p q → ⊥
    by z =
        let i : length p ≡ length z.extra + length q =
        ap length z.parts ∙ length-append z.extra q in
        at (onward m b a undetected z.extra z.leads
        (all_front undetected z.extra q (subst NoDetect z.parts x)) (omega (arith, i, l)))

-- nor does any run go beyond where there is no step
no_further : (m : Machine) (first a b : Configuration) (p q : Steps) → StepsTo m first a p
    → StepsTo m first b q → next m b ≡ None → length q ≤ length p → (a ≡ b) × (p ≡ q)
no_further m first a b p q h k d l = by (beyond m first a b p q h k l)
  where
    by : Beyond m a b p q → (a ≡ b) × (p ≡ q)
    by z = at z.extra z.parts z.leads
      where
        at : (extra : Steps) → p ≡ extra ++ q → StepsTo m b a extra → (a ≡ b) × (p ≡ q)
        at [] e s = (s, e)
        at (s ∷ extra) e g =
            let t = onward m b a (λ y. Unit {0}) (s ∷ extra) g (anything (s ∷ extra)) (omega arith)
            in absurd (none_some (sym d ∙ t.makes))
          where
            anything : (xs : Steps) → All (λ y. Unit {0}) xs
            anything [] = All-nil (λ y. Unit {0})
            anything (y ∷ ys) = All-cons (λ y. Unit {0}) y ys tt (anything ys)

same_history : (h other : History) → h.now ≡ other.now → h.earlier ≡ other.earlier → h ≡ other
same_history h other e f =
    ap (λ (c : Configuration). history c h.earlier) e
    ∙ ap (λ (z : Steps). history other.now z) f

-- two histories of one length that detect no error are equal
pub one_history : OneHistoryLaw
one_history m w h other q k e =
    let r = same_length m (first_configuration w) h.now other.now h.earlier other.earlier
    (quiet_steps m w h q) (quiet_steps m w other k) e in
    same_history h other r.0 r.1

module _ (m : Machine) (w : List ℕ) where
  -- a history that detects no error does not go beyond where one is accepted
  pub accepted_last : (h a : History) → IsQuiet m w h → IsQuiet m w a → a.now.mode ≡ modes.Accepted
      → position a ≤ position h → h ≡ a
  accepted_last h a q k d l =
      let e = no_further m (first_configuration w) h.now a.now h.earlier a.earlier
      (quiet_steps m w h q) (quiet_steps m w a k) (halted m a.now d) l in
      same_history h a e.0 e.1

  -- two accepted histories are equal
  pub one_accepted : (h other : History) → IsQuiet m w h → IsQuiet m w other
      → h.now.mode ≡ modes.Accepted → other.now.mode ≡ modes.Accepted → h ≡ other
  one_accepted h other q k d e = by (either (position other) (position h))
    where
      by : (position other ≤ position h) ⊎ (position h < position other) → h ≡ other
      by (inl l) = accepted_last h other q k e l
      by (inr l) = sym (accepted_last other h k q d (omega (arith, l)))

  -- nor does it go beyond where an error is detected
  pub rejected_last : {place : ℕ} (h : History) (r : RejectedAt m w place) → IsQuiet m w h
      → position r.h < position h → ⊥
  rejected_last h r q l =
      not_beyond m (first_configuration w) h.now r.h.now r.after h.earlier r.h.earlier
      (quiet_steps m w h q) (quiet_steps m w r.h r.run) q.quiet r.detects l

  pub one_position : {p q : ℕ} → AcceptedAt m w p → AcceptedAt m w q → p ≡ q
  one_position a b =
      sym a.at ∙ (ap position (one_accepted a.h b.h a.run b.run a.accepted b.accepted) ∙ b.at)

  pub not_both : {p place : ℕ} → AcceptedAt m w p → RejectedAt m w place → ⊥
  not_both a r = by (either (position a.h) (position r.h))
    where
      by : (position a.h ≤ position r.h) ⊎ (position r.h < position a.h) → ⊥
      by (inl l) =
          let e = accepted_last r.h a.h r.run a.run a.accepted l in
          none_some (sym (halted m r.h.now (ap (λ (h : History). h.now.mode) e ∙ a.accepted))
          ∙ r.detects)
      by (inr l) = rejected_last a.h r a.run l

  pub one_place : {p q : ℕ} → RejectedAt m w p → RejectedAt m w q → p ≡ q
  one_place {p = p} {q = q} a b = by (either (position a.h) (position b.h))
    where
      by : (position a.h ≤ position b.h) ⊎ (position b.h < position a.h) → p ≡ q
      by (inr l) = absurd (rejected_last a.h b a.run l)
      by (inl l) = at (either (position b.h) (position a.h))
        where
          at : (position b.h ≤ position a.h) ⊎ (position a.h < position b.h) → p ≡ q
          at (inr k) = absurd (rejected_last b.h a b.run k)
          at (inl k) =
              let e = one_history m w a.h b.h a.run b.run (omega (arith, l, k)) in
              sym a.at ∙ (ap (λ (h : History). place_ahead w h.now.rest) e ∙ b.at)

-- the steps come to one verdict
pub says_only : OneVerdictLaw
says_only m w (Accepted p) (Accepted q) a b = ap Accepted (one_position m w b a)
says_only m w (Accepted p) (Rejected q) a b = absurd (not_both m w a b)
says_only m w (Accepted p) Limit a b = absurd (b.0 p a)
says_only m w (Rejected p) (Accepted q) a b = absurd (not_both m w b a)
says_only m w (Rejected p) (Rejected q) a b = ap Rejected (one_place m w b a)
says_only m w (Rejected p) Limit a b = absurd (b.1 p a)
says_only m w Limit (Accepted q) a b = absurd (a.0 q b)
says_only m w Limit (Rejected q) a b = absurd (a.1 q b)
says_only m w Limit Limit a b = refl

-- what a verdict says of the steps makes it the verdict
pub verdict : VerdictLaw
verdict m w v s = record { says = s; only = λ other t. says_only m w v other s t }

-- at the greatest position with no error detected and nothing accepted
pub limit_says : LimitLaw
limit_says m w h q e n = (λ p a. no_accept a, λ place r. no_reject r)
  where
    no_accept : {p : ℕ} → AcceptedAt m w p → ⊥
    no_accept a =
        let s = a.small in
        let i = a.at in
        n (ap (λ (h : History). h.now.mode)
        (accepted_last m w h a.h q a.run a.accepted (omega (arith, s, i, e))) ∙ a.accepted)

    no_reject : {place : ℕ} → RejectedAt m w place → ⊥
    no_reject r = let s = r.below in rejected_last m w h r q (omega (arith, s, e))

-- where a quiet history ends and nothing is accepted
pub halted_says : HaltedLaw
halted_says m w h q e n = (λ p a. no_accept a, λ place r. no_reject r)
  where
    -- no run goes beyond where there is no step
    ended : (a : History) → IsQuiet m w a → position h ≤ position a → a ≡ h
    ended a k l =
        let r = no_further m (first_configuration w) a.now h.now a.earlier h.earlier
        (quiet_steps m w a k) (quiet_steps m w h q) e l in
        same_history a h r.0 r.1

    no_accept : {p : ℕ} → AcceptedAt m w p → ⊥
    no_accept a = by (either (position h) (position a.h))
      where
        by : (position h ≤ position a.h) ⊎ (position a.h < position h) → ⊥
        by (inl l) = n (sym (ap (λ (h : History). h.now.mode) (ended a.h a.run l)) ∙ a.accepted)
        by (inr l) =
            n (ap (λ (h : History). h.now.mode)
            (accepted_last m w h a.h q a.run a.accepted (omega (arith, l))) ∙ a.accepted)

    no_reject : {place : ℕ} → RejectedAt m w place → ⊥
    no_reject r = by (either (position h) (position r.h))
      where
        by : (position h ≤ position r.h) ⊎ (position r.h < position h) → ⊥
        by (inl l) =
            none_some (sym (ap (λ (h : History). next m h.now) (ended r.h r.run l) ∙ e) ∙ r.detects)
        by (inr l) = rejected_last m w h r q l
