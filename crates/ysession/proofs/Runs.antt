-- A parse by tables that goes on: each action is the machine's step, and the last one the verdict.
use Rattle.std.proofs.Common.{ℕ, suc, ◌≡◌, ◌<◌, ◌≤◌, ◌+◌, ◌==◌, ◌⊎◌, inl, inr, Bool, false}
use Rattle.std.proofs.Common.{if◌then◌else◌, List, [], ◌∷◌, Option, Some}
use Rattle.std.proofs.Common.{length, drop, refl, sym, ◌∙◌, ap, subst, arith}
use Rattle.std.proofs.lemmas.Bool.{cases_lt}
use Rattle.std.proofs.lemmas.List.Elements.{All-nil, All-cons}
use Rattle.ytables.specs.declared.cell.Action.{Action}
use Rattle.ytables.specs.declared.cell.Action.TheVariants as actions
use Rattle.ytables.specs.Tables.{TablesValue as Tables}
use Rattle.ymachine.specs.declared.machine.Mode.TheVariants as modes
use Rattle.ymachine.specs.declared.machine.StepKind.{StepKind}
use Rattle.ymachine.specs.declared.machine.StepKind.TheVariants as kinds
use Rattle.ymachine.specs.Machine.{Machine, Configuration, symbols, lookahead, next, shift_step}
use Rattle.ymachine.specs.Machine.{reduce_step, discard_step, detect_step}
use Rattle.ymachine.specs.MachineOver.{machine_over}
use Rattle.ymachine.specs.Past.{most_steps}
use Rattle.ymachine.specs.History.{History, places_from, first_history}
use Rattle.ymachine.specs.Unwinding.{is_edit}
use Rattle.ymachine.proofs.Rests.{lookahead_at, drop-places_from, drop_end-places_from}
use Rattle.ymachine.proofs.Rests.{left_by_token}
use Rattle.ysession.specs.Verdict.{is_detect, IsQuiet, place_ahead, Says}
use Rattle.ysession.specs.declared.verdict.Verdict.TheVariants as verdicts
use Rattle.ysession.specs.Judge.{Reaches, ahead}
use Rattle.ysession.specs.States.{AreStates, GoesOn, IsStep}
use Rattle.ysession.proofs.RunStates.{no_symbols}
use Rattle.ysession.proofs.OneVerdict.{limit_says}

-- one step more, which is no edit and detects no error
onward : (m : Machine) (w : List ℕ) (h : History) (kind : StepKind) (after : Configuration)
    → IsQuiet m w h → next m h.now ≡ Some (kind, after) → is_edit kind ≡ false
    → is_detect kind ≡ false
    → IsQuiet m w (record { now = after; earlier = (kind, h.now) ∷ h.earlier })
onward m w h kind after q e i d = record {
  history = (inl e, q.history);
  steps = All-cons (λ (step : StepKind × Configuration). is_edit step.0 ≡ false) (kind, h.now)
      h.earlier i q.steps;
  quiet = All-cons (λ (step : StepKind × Configuration). is_detect step.0 ≡ false) (kind, h.now)
      h.earlier d q.quiet;
}

-- before the first step
pub begins : (t : Tables) (tokens : List ℕ) → Reaches t tokens (0 ∷ []) 0 0
begins t tokens = record {
  h = first_history tokens;
  run = record {
    history = refl;
    steps = All-nil (λ (step : StepKind × Configuration). is_edit step.0 ≡ false);
    quiet = All-nil (λ (step : StepKind × Configuration). is_detect step.0 ≡ false);
  };
  at = refl;
  mode = refl;
  counter = refl;
  rest = refl;
  read = omega arith;
  stack = no_symbols t;
}

module _ (t : Tables) (tokens states : List ℕ) (taken steps : ℕ)
    (r : Reaches t tokens states taken steps) where
  abbrev m : Machine
  m = machine_over t

  abbrev c : Configuration
  c = r.h.now

  abbrev token : ℕ
  token = ahead tokens taken

  -- the parse goes on with this token ahead
  pub goes_on : GoesOn t c token states
  goes_on = record {
    mode = r.mode;
    ahead = ap lookahead r.rest ∙ lookahead_at 1 taken tokens;
    stack = r.stack;
  }

  -- what is done is a step from here
  pub step_is : (by : ℕ) (a b : Action) (new : List ℕ) → by ≡ token → a ≡ b
      → ((d : Configuration) → GoesOn t d by states → IsStep t d by a new) → IsStep t c token b new
  step_is by a b new e is acts =
      subst (λ (x : Action). IsStep t c token x new) is
      (subst (λ (n : ℕ). IsStep t c n a new) e
      (acts c (subst (λ (n : ℕ). GoesOn t c n states) (sym e) goes_on)))

  -- where there is an upcoming token
  left : taken < length tokens → c.rest ≡ (token, 1 + taken) ∷ drop (suc taken) (places_from 1 tokens)
  left h = r.rest ∙ drop-places_from 1 taken tokens h

  pub more : (to : ℕ) (new : List ℕ) → IsStep t c token (actions.Shift to) new
      → taken < length tokens
  more to new s = left_by_token taken tokens s.fits

  pub shifted : (to : ℕ) (new : List ℕ) → IsStep t c token (actions.Shift to) new
      → Reaches t tokens new (taken + 1) (steps + 1)
  shifted to new s =
      let h = more to new s in
      let l = left h in
      let rest = drop (suc taken) (places_from 1 tokens) in
      let step : StepKind × Configuration = shift_step c ((token, 1 + taken) ∷ rest) in
      let n : next m c ≡ Some step =
      s.makes ∙ ap (λ (x : List (ℕ × ℕ)). let o : Option (StepKind × Configuration) =
      Some (shift_step c x) in o) l in
      let counter = r.counter in
      record {
        h = record { now = step.1; earlier = (step.0, c) ∷ r.h.earlier };
        run = onward m tokens r.h step.0 step.1 r.run n refl refl;
        at = (let a = r.at in omega (arith, a));
        mode = r.mode;
        counter = omega (arith, counter);
        rest = (let k : suc taken ≡ taken + 1 = omega arith in
            ap (λ (j : ℕ). drop j (places_from 1 tokens)) k);
        read = omega (arith, h);
        stack = subst (λ (x : List (ℕ × ℕ)). AreStates t (symbols (shift_step c x).1.stack) new) l
            s.stack;
      }

  pub replaced : (rule : ℕ) (new : List ℕ) → IsStep t c token (actions.Reduce rule) new
      → Reaches t tokens new taken (steps + 1)
  replaced rule new s =
      let step : StepKind × Configuration = reduce_step m c rule in
      record {
        h = record { now = step.1; earlier = (step.0, c) ∷ r.h.earlier };
        run = onward m tokens r.h step.0 step.1 r.run s.makes refl refl;
        at = (let a = r.at in omega (arith, a));
        mode = r.mode;
        counter = r.counter;
        rest = r.rest;
        read = r.read;
        stack = s.stack;
      }

  pub accepted : (new : List ℕ) → IsStep t c token actions.Accept new → steps < most_steps
      → Says m tokens (verdicts.Accepted (steps + 1))
  accepted new s h =
      let after : Configuration = record c { mode = modes.Accepted } in
      record {
        h = record { now = after; earlier = (kinds.Accept, c) ∷ r.h.earlier };
        run = onward m tokens r.h kinds.Accept after r.run s.makes refl refl;
        accepted = refl;
        at = (let a = r.at in omega (arith, a));
        small = omega (arith, h);
      }

  -- the place of the token ahead, or of the end
  place : place_ahead tokens c.rest ≡ taken + 1
  place = by (cases_lt taken (length tokens))
    where
      by : (taken < length tokens) ⊎ (length tokens ≤ taken)
          → place_ahead tokens c.rest ≡ taken + 1
      by (inl h) = ap (place_ahead tokens) (left h) ∙ omega arith
      by (inr h) =
          let read = r.read in
          ap (place_ahead tokens) (r.rest ∙ drop_end-places_from 1 taken tokens h)
          ∙ omega (arith, h, read)

  pub rejected : (new : List ℕ) → IsStep t c token actions.Error new → steps < most_steps
      → Says m tokens (verdicts.Rejected (taken + 1))
  rejected new s h =
      let found : Bool → Option (StepKind × Configuration) =
      λ x. Some (if x then discard_step c c.rest else detect_step c) in
      record {
        h = r.h;
        run = r.run;
        after = (detect_step c).1;
        detects = s.makes ∙ ap (λ (n : ℕ). found (n == 3)) r.counter;
        below = (let a = r.at in omega (arith, a, h));
        at = place;
      }

  pub limited : steps ≡ most_steps → Says m tokens verdicts.Limit
  limited e =
      limit_says m tokens r.h r.run (r.at ∙ e)
      (λ a. let bad : modes.Running ≡ modes.Accepted = sym r.mode ∙ a in cc)
