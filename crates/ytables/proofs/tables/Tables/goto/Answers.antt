use Rattle.std.proofs.Common.{◌≡◌, sym, ap, subst}
use Rattle.ylalr.specs.Collection.{HasStates, IsGoto, goto_in}
use Rattle.ytables.specs.Tables.{TablesValue}
use Rattle.ytables.proofs.GotoSteps.{packed_goto}
use Rattle.ytables.proofs.tables.Tables.goto.Goals as goal

pub returns-clause-value : goal.returns-clause-value
returns-clause-value c =
    let I = c.self.inside in
    let k = c.args.self.now.built in
    let same : I.automaton ≡ k = ap (λ (v : TablesValue). v.built) c.self.view_is in
    let holds = c.self.invariant in
    packed_goto I.automaton k I.found.gotos I.found.actions.width c.args.q c.args.x c.width.result c.get.result
    same holds.gotos holds.width c.width.ensures c.get.ensures c.requires.state
    c.requires.nonterminal c.requires.symbol

pub returns-clause-exact : goal.returns-clause-exact
returns-clause-exact c =
    let I = c.self.inside in
    let k = c.args.self.now.built in
    let same : I.automaton ≡ k = ap (λ (v : TablesValue). v.built) c.self.view_is in
    let holds = c.self.invariant in
    let value : c.get.result ≡ goto_in k c.args.q c.args.x =
    packed_goto I.automaton k I.found.gotos I.found.actions.width c.args.q c.args.x c.width.result c.get.result
    same holds.gotos holds.width c.width.ensures c.get.ensures c.requires.state
    c.requires.nonterminal c.requires.symbol in
    let states : HasStates k = subst HasStates same c.states-guide.ensures.states in
    subst (IsGoto k c.args.q c.args.x) (sym value) (states.leads c.args.q c.args.x c.requires.state
    c.requires.symbol)
