use Rattle.std.proofs.Common.{◌<◌, length, subst, sym}
use Rattle.ylalr.specs.Lr0.{collection_of}
use Rattle.ylalr.specs.Collection.{Collection, IsGoto, bare_of}
use Rattle.ylalr.proofs.WholeSteps.{goto_is}
use Rattle.ylalr.proofs.automaton.Automaton.goto.Goals as goal

pub returns-clause-exact : goal.returns-clause-exact
returns-clause-exact c =
    let P = c.self.inside.lr0 in
    let fit = c.self.invariant.fit in
    let h : c.args.q < length P.states.closures =
    subst (λ (m : Collection). c.args.q < length m.states) (sym c.self.view_is)
    c.requires.state in
    let l : c.args.x < P.grammar.bare.symbols =
    subst (λ (m : Collection). c.args.x < (bare_of m).symbols) (sym c.self.view_is)
    c.requires.symbol in
    subst (λ (m : Collection). IsGoto m c.args.q c.args.x c.get.result) c.self.view_is
    (subst (λ o. IsGoto (collection_of P) c.args.q c.args.x o) (sym c.get.ensures)
    (goto_is P.grammar fit.well_formed P.states P.gotos fit.states
    (λ q x h l. fit.gotos.gotos q h x l) c.args.q c.args.x h l))
