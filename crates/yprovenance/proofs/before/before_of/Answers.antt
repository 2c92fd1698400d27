use Rattle.std.proofs.Common.{inl, inr, sym, subst}
use Rattle.yprovenance.specs.Trail.{IsListed}
use Rattle.yprovenance.proofs.BeforeSteps.{last_or_before}
use Rattle.yprovenance.proofs.before.before_of.Goals as goal

pub loop-state-preserved : goal.loop-state-preserved
loop-state-preserved c =
    let e = c.in_ok-list_state.ensures in
    let m = c.args.automaton.now in
    let new = c.list_state.new.before in
    record {
      links = e.links;
      every = λ q h. elim (last_or_before q c.loop-state.state h) as (λ z. IsListed m new q) [
        | inl a ↦ (λ n x i y o d g. e.kept n q (c.loop-state.invariant.every q a n x i y o d g))
        | inr a ↦ subst (IsListed m new) (sym a) e.every
      ];
    }
