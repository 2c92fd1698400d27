use Rattle.std.proofs.Common.{◌≡◌, ◌+◌, ℕ, List, [], ◌∷◌, ◌++◌, sym, ◌∙◌, ap, subst, arith}
use Rattle.ytables.specs.declared.cell.Action.TheVariants as actions
use Rattle.ymachine.specs.MachineOver.{machine_over}
use Rattle.ytokens.specs.Tokens.{symbols_of}
use Rattle.ysession.specs.declared.verdict.Verdict.TheVariants.{Accepted, Rejected, Limit}
use Rattle.ysession.specs.Judge.{Reaches, ahead}
use Rattle.ysession.proofs.OneVerdict.{verdict}
use Rattle.ysession.proofs.Runs.{begins, step_is, shifted, replaced, accepted, rejected, limited}
use Rattle.ysession.proofs.verdict.verdict_on.Goals.{in-Shift, in-Reduce}
use Rattle.ysession.proofs.verdict.verdict_on.Goals as goal

pub loop-steps-init : goal.loop-steps-init
loop-steps-init c =
    subst (λ (l : List ℕ). Reaches c.args.tables.now (symbols_of c.args.tokens.now) l 0 0)
    (sym (c.in_ok-push.ensures.items ∙ ap (λ (l : List ℕ). l ++ 0 ∷ []) c.new-states.ensures.items))
    (begins c.args.tables.now (symbols_of c.args.tokens.now))

pub returns-in-Accept : goal.returns-in-Accept
returns-in-Accept c =
    let t = c.args.tables.now in
    let tokens : List ℕ = symbols_of c.args.tokens.now in
    let l = c.loop-steps in
    let token : c.token_ahead.result ≡ ahead tokens l.taken =
    c.token_ahead.ensures ∙ ap (λ (w : List ℕ). ahead w l.taken) c.deref.ensures.value in
    verdict (machine_over t) tokens (Accepted (l.steps + 1))
    (accepted t tokens l.states.items l.taken l.steps l.invariant c.act.new.states.items
    (step_is t tokens l.states.items l.taken l.steps l.invariant c.token_ahead.result
    c.in_ok-act.field-0 actions.Accept c.act.new.states.items token c.in-Accept.is
    c.in_ok-act.ensures)
    c.loop-steps-test.true)

pub returns-in-Error : goal.returns-in-Error
returns-in-Error c =
    let t = c.args.tables.now in
    let tokens : List ℕ = symbols_of c.args.tokens.now in
    let l = c.loop-steps in
    let token : c.token_ahead.result ≡ ahead tokens l.taken =
    c.token_ahead.ensures ∙ ap (λ (w : List ℕ). ahead w l.taken) c.deref.ensures.value in
    verdict (machine_over t) tokens (Rejected (l.taken + 1))
    (rejected t tokens l.states.items l.taken l.steps l.invariant c.act.new.states.items
    (step_is t tokens l.states.items l.taken l.steps l.invariant c.token_ahead.result
    c.in_ok-act.field-0 actions.Error c.act.new.states.items token c.in-Error.is
    c.in_ok-act.ensures)
    c.loop-steps-test.true)

pub returns : goal.returns
returns c =
    verdict (machine_over c.args.tables.now) (symbols_of c.args.tokens.now) Limit
    (limited c.args.tables.now (symbols_of c.args.tokens.now) c.loop-steps.states.items
    c.loop-steps.taken c.loop-steps.steps c.loop-steps.invariant
    (let h = c.loop-steps-test.false in let i = c.loop-steps.auto.steps-end in omega (arith, h, i)))

pub loop-steps-preserved : goal.loop-steps-preserved
loop-steps-preserved c =
    let t = c.args.tables.now in
    let tokens : List ℕ = symbols_of c.args.tokens.now in
    let l = c.loop-steps in
    let new = c.act.new.states.items in
    let token : c.token_ahead.result ≡ ahead tokens l.taken =
    c.token_ahead.ensures ∙ ap (λ (w : List ℕ). ahead w l.taken) c.deref.ensures.value in
    let Goes : ℕ → Type 0 = λ taken. Reaches t tokens new taken (l.steps + 1) in
    elim c.match-branch-3.branch [
      | in-Shift w ↦
          let to = w.in-Shift.field-0 in
          let made : Goes (l.taken + 1) =
          shifted t tokens l.states.items l.taken l.steps l.invariant to new
          (step_is t tokens l.states.items l.taken l.steps l.invariant c.token_ahead.result
          c.in_ok-act.field-0 (actions.Shift to) new token w.in-Shift.is c.in_ok-act.ensures) in
          subst Goes (sym w.taken-is) made
      | in-Reduce w ↦
          let rule = w.in-Reduce.field-0 in
          let made : Goes l.taken =
          replaced t tokens l.states.items l.taken l.steps l.invariant rule new
          (step_is t tokens l.states.items l.taken l.steps l.invariant c.token_ahead.result
          c.in_ok-act.field-0 (actions.Reduce rule) new token w.in-Reduce.is c.in_ok-act.ensures) in
          subst Goes (sym w.taken-is) made
    ]
