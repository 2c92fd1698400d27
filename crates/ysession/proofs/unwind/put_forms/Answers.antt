use Rattle.std.proofs.Common.{ℕ, suc, ◌≡◌, ◌+◌, ◌++◌, ◌∷◌, [], List, true, length, flat_map}
use Rattle.std.proofs.Common.{refl, ap, sym, subst, ◌∙◌, append_assoc, append-nil, arith, Option}
use Rattle.std.specs.Io.KnownBytes.{Appends}
use Rattle.std.proofs.KnownBytes.{Appends-nil}
use Rattle.ylink.specs.Link.{device_of}
use Rattle.ylink.specs.Sends.{Sends}
use Rattle.ylink.proofs.Sent.{Sends-then}
use Rattle.ymachine.specs.Machine.{Machine}
use Rattle.ymachine.specs.Past.{position, back_by}
use Rattle.ymachine.specs.History.{History}
use Rattle.ysession.specs.Session.{Setting, setting_of, machine_of, history_of, later_of}
use Rattle.ymachine.specs.Unwinding.{form_of, forms_from, forms_of, forms_before}
use Rattle.ymachine.specs.Unwinding.{form_line, is_reduction}
use Rattle.ysession.proofs.Unwound.{undone-next, forms-reduction, forms-other, stops}
use Rattle.ysession.proofs.Unwound.{goes_back-none}
use Rattle.ysession.proofs.Unwound.{lines-push, at_form}
use Rattle.ysession.specs.Unwound.{Cuts}
use Rattle.ysession.proofs.unwind.put_forms.Given.{Over}
use Rattle.ysession.proofs.unwind.put_forms.Goals.{In-Ok}
use Rattle.ysession.proofs.unwind.put_forms.Goals as goal

-- ---- what an undo leaves

stays : (g : Over) (c : In-Ok g)
    → setting_of c.step_back.new.self ≡ setting_of c.args.session.now
stays g c = c.in-Ok.ensures.setting ∙ c.loop-kind.invariant.setting

further : (g : Over) (c : In-Ok g)
    → history_of c.step_back.new.self
    ≡ back_by (suc c.loop-kind.invariant.steps) (history_of c.args.session.now)
further g c =
    let h : History = history_of c.args.session.now in
    undone-next c.loop-kind.invariant.steps h.now h.earlier (history_of c.loop-kind.session)
    (history_of c.step_back.new.self) c.in-Ok.kind c.loop-kind.invariant.left
    c.in-Ok.ensures.undoes

fewer : (g : Over) (c : In-Ok g)
    → suc c.loop-kind.invariant.steps + position (history_of c.step_back.new.self)
    ≡ position (history_of c.args.session.now)
fewer g c =
    let one : length (history_of c.loop-kind.session).earlier
    ≡ suc (length (history_of c.step_back.new.self).earlier) = ap length c.in-Ok.ensures.undoes in
    omega (arith, c.loop-kind.invariant.count, one)

-- a reduction that is undone restores a form
restored : (g : Over) (c : In-Ok g) → is_reduction c.in-Ok.kind ≡ true
    → forms_of (history_of c.args.session.now)
    ≡ c.loop-kind.invariant.before
    ++ forms_from (later_of c.step_back.new.self) (history_of c.step_back.new.self)
restored g c one =
    let new : History = history_of c.step_back.new.self in
    let inv = c.loop-kind.invariant in
    inv.forms ∙ ap (λ (l : List (List ℕ)). inv.before ++ l)
    (forms-reduction c.in-Ok.kind (later_of c.loop-kind.session) (history_of c.loop-kind.session)
    new c.in-Ok.ensures.undoes one
    ∙ ap (λ (l : List ℕ). forms_from l new) (sym c.in-Ok.ensures.later))

pub returns-in_err-put_form-clause-forms : goal.returns-in_err-put_form-clause-forms
returns-in_err-put_form-clause-forms g c =
    let w = g.W.Write.contents in
    let m : Machine = machine_of c.args.session.now in
    let h : History = history_of c.args.session.now in
    let a : Option (List ℕ) = w (device_of c.args.link.now) in
    let known : Option (List ℕ) = w (device_of c.put_form.new.link) in
    goes_back-none a known m h h c.from_residual.result c.from_residual.ensures
    (stops a a known m h h 0 [] [] refl refl tt (Appends-nil a)
    (subst (λ (later : List ℕ). Cuts a known (form_line m (form_of h.now later))) c.requires
    (c.in_err-put_form.ensures.cut refl)))

pub loop-kind-init : goal.loop-kind-init
loop-kind-init g c =
    let w = g.W.Write.contents in
    let m : Machine = machine_of c.args.session.now in
    let h : History = history_of c.args.session.now in
    record {
      setting = refl;
      steps = 0;
      left = refl;
      count = omega arith;
      before = form_of h.now [] ∷ [];
      forms = ap (λ (later : List ℕ). form_of h.now [] ∷ forms_before later h.earlier)
          (sym c.requires);
      sent =
          subst (λ (t : List ℕ). Sends w c.args.link.now c.put_form.new.link true t)
          (sym (append-nil (form_line m (form_of h.now []))))
          (subst (λ (later : List ℕ). Sends w c.args.link.now c.put_form.new.link true
          (form_line m (form_of h.now later))) c.requires c.in_ok-put_form.ensures.sends);
    }

pub loop-kind-preserved-in-Continue-branch-2 : goal.loop-kind-preserved-in-Continue-branch-2
loop-kind-preserved-in-Continue-branch-2 g c =
    let w = g.W.Write.contents in
    let m : Machine = machine_of c.args.session.now in
    let new : History = history_of c.step_back.new.self in
    let inv = c.loop-kind.invariant in
    let later : List ℕ = later_of c.step_back.new.self in
    let here = (goal.at.loop-kind-preserved-in-Continue-branch-2 g c).In-Ok in
    let one = sym c.is_reduction.ensures ∙ c.if-is_reduction.true in
    let line = subst (λ (s : Setting). Sends w c.loop-kind.link
    c.put_form-then-is_reduction.new.link true (form_line s.machine (form_of new.now later)))
    (stays g here) c.in_ok-put_form-in-Ok.ensures.sends in
    record {
      setting = stays g here;
      steps = suc inv.steps;
      left = further g here;
      count = fewer g here;
      before = inv.before ++ form_of new.now later ∷ [];
      forms = restored g here one ∙ sym (append_assoc inv.before (form_of new.now later ∷ [])
          (forms_before later new.earlier));
      sent =
          subst (λ (t : List ℕ). Sends w c.args.link.now c.put_form-then-is_reduction.new.link true
          t) (sym (lines-push m inv.before (form_of new.now later)))
          (Sends-then w _ _ _ true (flat_map (form_line m) inv.before)
          (form_line m (form_of new.now later)) inv.sent line);
    }

pub returns-in_err-put_form-in-Ok-clause-forms : goal.returns-in_err-put_form-in-Ok-clause-forms
returns-in_err-put_form-in-Ok-clause-forms g c =
    let w = g.W.Write.contents in
    let m : Machine = machine_of c.args.session.now in
    let h : History = history_of c.args.session.now in
    let new : History = history_of c.step_back.new.self in
    let inv = c.loop-kind.invariant in
    let later : List ℕ = later_of c.step_back.new.self in
    let here = (goal.at.returns-in_err-put_form-in-Ok-clause-forms g c).In-Ok in
    let one = sym c.is_reduction.ensures ∙ c.if-is_reduction.true in
    let a : Option (List ℕ) = w (device_of c.args.link.now) in
    let known : Option (List ℕ) = w (device_of c.put_form-then-is_reduction.new.link) in
    let between : Option (List ℕ) = w (device_of c.loop-kind.link) in
    let cut = subst (λ (s : Setting). Cuts between known
    (form_line s.machine (form_of new.now later)))
    (stays g here) (c.in_err-put_form-in-Ok.ensures.cut refl) in
    let at = at_form h (history_of c.loop-kind.session) new inv.steps c.in-Ok.kind inv.left
    (further g here) c.in-Ok.ensures.undoes one in
    goes_back-none a known m h new c.from_residual-in_err-put_form-in-Ok.result
    c.from_residual-in_err-put_form-in-Ok.ensures
    (stops a between known m h new (suc inv.steps) inv.before later (further g here)
    (restored g here one) at inv.sent.bytes cut)

pub loop-kind-preserved : goal.loop-kind-preserved
loop-kind-preserved g c =
    let new : History = history_of c.step_back.new.self in
    let inv = c.loop-kind.invariant in
    let later : List ℕ = later_of c.step_back.new.self in
    let here = (goal.at.loop-kind-preserved g c).In-Ok in
    let none = sym c.is_reduction.ensures ∙ c.if-is_reduction.false in
    record {
      setting = stays g here;
      steps = suc inv.steps;
      left = further g here;
      count = fewer g here;
      before = inv.before;
      forms = inv.forms ∙ ap (λ (l : List (List ℕ)). inv.before ++ l)
          (forms-other c.in-Ok.kind (later_of c.loop-kind.session) (history_of c.loop-kind.session)
          new c.in-Ok.ensures.undoes none
          ∙ ap (λ (l : List ℕ). forms_before l new.earlier) (sym c.in-Ok.ensures.later));
      sent = inv.sent;
    }

pub returns-in-Err-clause-forms : goal.returns-in-Err-clause-forms
returns-in-Err-clause-forms g c =
    let w = g.W.Write.contents in
    let m : Machine = machine_of c.args.session.now in
    let h : History = history_of c.args.session.now in
    let mid : History = history_of c.loop-kind.session in
    let new : History = history_of c.step_back.new.self in
    let inv = c.loop-kind.invariant in
    let none : mid.earlier ≡ [] = c.in-Err.ensures.undoes.0 in
    let same : new ≡ mid = c.in-Err.ensures.undoes.1 in
    let a : Option (List ℕ) = w (device_of c.args.link.now) in
    let known : Option (List ℕ) = w (device_of c.loop-kind.link) in
    let all : forms_of h ≡ inv.before =
    inv.forms ∙ ap (λ l. inv.before ++ forms_before (later_of c.loop-kind.session) l) none
    ∙ append-nil inv.before in
    let count : inv.steps ≡ position h = let l : length mid.earlier ≡ 0 = ap length none in
    omega (arith, inv.count, l) in (
      subst (λ (t : List ℕ). Appends a known t) (sym (ap (flat_map (form_line m)) all))
          inv.sent.bytes,
      same ∙ inv.left ∙ ap (λ (n : ℕ). back_by n h) count,
      ap (λ (x : History). length x.earlier) same ∙ ap length none,
    )
