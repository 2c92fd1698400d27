use Rattle.std.proofs.Common.{length, [], arith, ◌≡◌, refl, sym, ◌∙◌, ap, subst}
use Rattle.std.proofs.lemmas.Grind.{common_steps}
use Rattle.std.specs.List.{All}
use Rattle.std.proofs.lemmas.List.Elements.{All-nil}
use Rattle.ymachine.specs.Past.{Past, first_past}
use Rattle.ymachine.specs.declared.machine.StepKind.{StepKind}
use Rattle.ymachine.specs.History.{History}
use Rattle.ymachine.specs.MachineOver.{machine_over}
use Rattle.ymachine.specs.Rightmost.{UnwindsRight}
use Rattle.ytokens.specs.Tokens.{symbols_of}
use Rattle.ymachine.specs.Content.{Place, first_place}
use Rattle.ymachine.specs.Shown.{Counts, KeepsGround}
use Rattle.ysession.proofs.Sessions.{IsShown}
use Rattle.ysession.proofs.session.Session.new.Goals as goal

pub invariant_of-result : goal.invariant_of-result
invariant_of-result c =
    let at = first_place c.args.tables (symbols_of c.args.tokens) in
    let first : Past StepKind Place = first_past at in
    let past : c.new.result ≡ first =
    c.new.ensures ∙ ap (λ (p : Place). let h : Past StepKind Place = first_past p in
    h) c.new-parse.ensures in
    let shown : IsShown first = refl in
    record {
      steps = ∣ subst IsShown (sym past) shown ∣₁;
      room = (let none : length c.new.result.earlier ≡ 0 =
          ap (λ (h : Past StepKind Place). length h.earlier) past in
          grind (arith, common_steps, none, c.new-2.ensures));
      ground = subst (λ (h : Past StepKind Place). All (KeepsGround h.now) h.earlier) (sym past)
          (All-nil (KeepsGround at));
      count = let none : Counts at [] = refl in
          ∣ subst (λ (h : Past StepKind Place). Counts h.now h.earlier) (sym past) none ∣₁;
    }

pub returns-clause-derives : goal.returns-clause-derives
returns-clause-derives c =
    λ (h : History).
    subst
    (λ (p : Place). UnwindsRight p.tables.built.grammar.bare (machine_over p.tables) p.tokens h)
    c.new-parse.ensures (c.unwinds.ensures h)
